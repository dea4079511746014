-- What the tables that a block is written into have at each key, in the words of the definitions on chains. `At` says of each chain of
-- states whether an index stands for it. Protocol: tables.
use Rattle.std.specs.Prelude.{◌≡◌, ℕ, Bool, List, Option, option_map}
use Rattle.std.specs.FinMap.{contains_key, get, empty}
use Rattle.dubp_atoms.specs.Same.{Text}
use Rattle.dubp_moving.specs.States.{newest}
use Rattle.dubp_chain.specs.Tables.{MembershipRow, CertificationRow, Due}
use Rattle.dubp_mindex.specs.Members.{Members, member_at}
use Rattle.dubp_cindex.specs.Rows.{Rows}
use Rattle.dubp_expiry.specs.Entries.{Queued, queued}
use Rattle.dubp_expiry.specs.declared.due.Due.{Due as DueValue}
use Rattle.dubp_left.specs.Left.{member_entry, cert_entry, due_of}

-- the row of each key, the row of each pair, and whether an entry is queued
abbrev pub Memberships : Type 0
Memberships = Text → Option MembershipRow

abbrev pub Certifications : Type 0
Certifications = Text → Text → Option CertificationRow

abbrev pub Waiting : Type 0
Waiting = ℕ → Due → Bool

pub record HasMemberships (At : List Members → Type 0) (rows : Memberships) : Type 0 where
  pub state : List Members
  pub at : At state
  pub has : (k : Text) → member_at state k ≡ option_map member_entry (rows k)

pub record HasCertifications (At : List Rows → Type 0) (rows : Certifications) : Type 0 where
  pub state : List Rows
  pub at : At state
  pub has : (x y : Text) → get (newest empty state) (x, y) ≡ option_map cert_entry (rows x y)

pub record HasEntries (At : List Queued → Type 0) (waiting : Waiting) : Type 0 where
  pub state : List Queued
  pub at : At state
  pub has : (time : ℕ) (due : DueValue) → contains_key (queued state) (time, due) ≡ waiting time (due_of due)
