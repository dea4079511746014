-- The order of what falls due, and of the entries of the queue. Protocol: tables.
use Rattle.std.specs.Prelude.{ℕ, List}
use Rattle.std.specs.Cmp.Lexicographic.{slice_cmp}
use Rattle.std.specs.Ordering.{nat_cmp, ordering_then}
use Rattle.std.specs.declared.cmp.Ordering.{Ordering}
use Rattle.std.specs.declared.cmp.Ordering.TheVariants.{Less, Greater}
use Rattle.dubp_expiry.specs.declared.due.Due.{Due}
use Rattle.dubp_expiry.specs.declared.due.Due.TheVariants.{Membership, Revocation, Certification}
use Rattle.dubp_expiry.specs.contracts.due.DueOrd.TheImpl as derived

-- the order of keys: by their bytes
abbrev pub key_cmp : List ℕ → List ℕ → Ordering
key_cmp = slice_cmp nat_cmp

-- memberships that end, then those that are revoked, then certifications, from whom first; and each by its keys
abbrev pub due_cmp : Due → Due → Ordering
due_cmp (Membership key) (Membership key') = key_cmp key key'
due_cmp (Membership key) (Revocation key') = Less
due_cmp (Membership key) (Certification from' to') = Less
due_cmp (Revocation key) (Membership key') = Greater
due_cmp (Revocation key) (Revocation key') = key_cmp key key'
due_cmp (Revocation key) (Certification from' to') = Less
due_cmp (Certification from to) (Membership key') = Greater
due_cmp (Certification from to) (Revocation key') = Greater
due_cmp (Certification from to) (Certification from' to') = ordering_then (key_cmp from from') (key_cmp to to')

-- entries by time, and then by what falls due
abbrev pub entry_cmp : ℕ × Due → ℕ × Due → Ordering
entry_cmp e f = ordering_then (nat_cmp e.0 f.0) (due_cmp e.1 f.1)

-- the order that the code derives
abbrev pub derived_cmp : Due → Due → Ordering
derived_cmp = (derived.ghosts).cmp
