-- The readers of the eight sections read exactly their lines.
use Rattle.std.proofs.Common.{◌≡◌, ◌<◌, ◌≤◌, ℕ, Bool, true, List, [], ◌∷◌, ◌++◌, length, length-append, Option, refl, ap, arith}
use Rattle.std.specs.Prelude.{codes, map, All, not, nat_lt, ◌||◌}
use Rattle.std.specs.List.{list_all}
use Rattle.std.proofs.lemmas.Bool.{leb-true}
use Rattle.dubp_atoms.specs.Letters.{is_key}
use Rattle.dubp_atoms.proofs.Numbers.{both}
use Rattle.dubp_lines.specs.Taking.{line_at, same_line, begins_with, next_passes}
use Rattle.dubp_lines.specs.Readers.{entries}
use Rattle.dubp_lines.proofs.Readers.{Rows, Reads, IsSpelled, line_reads, just_then, then_before, gives_reads, reads_as, spelled_as}
use Rattle.dubp_lines.proofs.Entries.{spell_all, all_rows, all_lines, longer_apart, entries_reads}
use Rattle.dubp_cond.specs.Transactions.{IsTx}
use Rattle.dubp_block.specs.Sections.{section, identity_text, member_text, revoked_text, certification_text, IsIdentity, IsMembership, IsRevocation, IsCertification, compact_lines, transaction_lines}
use Rattle.dubp_block.specs.Reading.{section_at, first_sections_at, last_sections_at, transactions_at, tx_at}
use Rattle.dubp_block.specs.declared.sections.FirstSections.{FirstSections}
use Rattle.dubp_block.specs.declared.sections.LastSections.{LastSections}
use Rattle.dubp_block.proofs.Spelled.{itself, Passes, key_spelled, identity_spelled, member_spelled, revoked_spelled, certification_spelled}
use Rattle.dubp_block.proofs.TxReads.{tx_reads, map_itself}

-- ---- a section of entries of one line

-- this heading stands behind
abbrev pub Heads : List ℕ → Rows → Type 0
Heads heading ls = next_passes (same_line heading) ls ≡ true

module _ {A : Type 0} (heading next : List ℕ) (read : List ℕ → Option A) (spell : A → List ℕ) (Good : A → Type 0) (x : IsSpelled read spell Good)
    (clear : list_all (λ c. nat_lt c 10 || nat_lt 10 c) heading ≡ true) (long : (a : A) → Good a → length next < length (spell a)) where
  abbrev stops : Rows → Bool
  stops ls = next_passes (same_line next) ls

  rows_read : Reads (entries stops (line_at read)) (map spell) (All Good) (Heads next)
  rows_read =
      spelled_as (entries stops (line_at read)) (spell_all (λ a. spell a ∷ [])) (map spell) (All Good) (Heads next) (λ vs h. all_rows spell vs)
      (entries_reads stops (line_at read) (λ a. spell a ∷ []) Good (line_reads read spell Good x) (λ l ks ks'. refl) (λ a ls g. longer_apart next (spell a) (long a g)) (λ a g. omega arith))

  pub section_reads : Reads (section_at heading next read) (λ vs. section heading (map spell vs)) (All Good) (Heads next)
  unfolding section_at
  section_reads = just_then heading (λ line. entries stops (line_at read)) (map spell) (All Good) (Heads next) clear rows_read

-- a key is longer than a heading
key_long : (t : List ℕ) → is_key t ≡ true → 43 ≤ length t
unfolding is_key
key_long t h = leb-true 43 (length t) (both _ _ (both _ _ h).0).0

front_longer : (n : ℕ) → n < 43 → (t rest : List ℕ) → is_key t ≡ true → n < length (t ++ rest)
front_longer n lt t rest h = let long = key_long t h in omega (arith, length-append t rest)

key_longer : (n : ℕ) → n < 43 → (t : List ℕ) → is_key t ≡ true → n < length t
key_longer n lt t h = let long = key_long t h in omega arith

-- ---- the first four

pub record IsFirstSections (x : FirstSections) : Type 0 where
  pub identities : All IsIdentity x.identities
  pub joiners : All IsMembership x.joiners
  pub actives : All IsMembership x.actives
  pub leavers : All IsMembership x.leavers

abbrev pub first_text : FirstSections → Rows
first_text x =
    section (codes "Identities:") (map identity_text x.identities)
    ++ (section (codes "Joiners:") (map member_text x.joiners)
    ++ (section (codes "Actives:") (map member_text x.actives)
    ++ (section (codes "Leavers:") (map member_text x.leavers)
    ++ [])))

abbrev FirstIs : FirstSections → Type 0
FirstIs x = Unit {0} × (All IsIdentity x.identities × (All IsMembership x.joiners × (All IsMembership x.actives × (All IsMembership x.leavers × Unit {0}))))

first_steps : Reads first_sections_at first_text FirstIs (Heads (codes "Revoked:"))
unfolding first_sections_at
first_steps =
    then_before _ _ _ _ _ _ _ (λ x. x.identities) _ _ (section_reads (codes "Identities:") (codes "Joiners:") _ _ _ identity_spelled refl (λ l is. front_longer 8 (omega arith) l.key _ is.key)) (λ identities are_identities.
    then_before _ _ _ _ _ _ _ (λ x. x.joiners) _ _ (section_reads (codes "Joiners:") (codes "Actives:") _ _ _ member_spelled refl (λ l is. front_longer 8 (omega arith) l.key _ is.key)) (λ joiners are_joiners.
    then_before _ _ _ _ _ _ _ (λ x. x.actives) _ _ (section_reads (codes "Actives:") (codes "Leavers:") _ _ _ member_spelled refl (λ l is. front_longer 8 (omega arith) l.key _ is.key)) (λ actives are_actives.
    then_before _ _ _ _ _ _ _ (λ x. x.leavers) _ _ (section_reads (codes "Leavers:") (codes "Revoked:") _ _ _ member_spelled refl (λ l is. front_longer 8 (omega arith) l.key _ is.key)) (λ leavers are_leavers.
    gives_reads _ _ _ ((((tt, refl), refl), refl), refl) (λ x k. λ i. record { identities = k.0.0.0.1 i; joiners = k.0.0.1 i; actives = k.0.1 i; leavers = k.1 i }))
    (λ x ls h stop. stop))
    (λ x ls h stop. refl))
    (λ x ls h stop. refl))
    (λ x ls h stop. refl)

pub first_reads : Reads first_sections_at first_text IsFirstSections (Heads (codes "Revoked:"))
first_reads = reads_as first_sections_at first_text FirstIs IsFirstSections (Heads (codes "Revoked:"))
    (λ x h. record { identities = h.1.0; joiners = h.1.1.0; actives = h.1.1.1.0; leavers = h.1.1.1.1.0 })
    (λ x is. (tt, (is.identities, (is.joiners, (is.actives, (is.leavers, tt))))))
    first_steps

-- ---- transactions

abbrev pub NotTx : Rows → Type 0
NotTx ls = not (next_passes (begins_with (codes "TX:")) ls) ≡ true

pub transactions_read : Reads transactions_at (λ txs. section (codes "Transactions:") (transaction_lines txs)) (All IsTx) NotTx
unfolding transactions_at
transactions_read =
    just_then (codes "Transactions:") (λ line. entries (λ ls. not (next_passes (begins_with (codes "TX:")) ls)) tx_at) transaction_lines (All IsTx) NotTx refl
    (spelled_as (entries (λ ls. not (next_passes (begins_with (codes "TX:")) ls)) tx_at) (spell_all compact_lines) transaction_lines (All IsTx) NotTx (λ txs h. all_lines compact_lines txs)
    (entries_reads (λ ls. not (next_passes (begins_with (codes "TX:")) ls)) tx_at compact_lines IsTx tx_reads (λ l ks ks'. refl) (λ tx ls g. refl) (λ tx g. omega arith)))

-- ---- the last four

pub record IsLastSections (x : LastSections) : Type 0 where
  pub revoked : All IsRevocation x.revoked
  pub excluded : All (λ key. is_key key ≡ true) x.excluded
  pub certifications : All IsCertification x.certifications
  pub transactions : All IsTx x.transactions

abbrev last_spelled : LastSections → Rows
last_spelled x =
    section (codes "Revoked:") (map revoked_text x.revoked)
    ++ (section (codes "Excluded:") (map itself x.excluded)
    ++ (section (codes "Certifications:") (map certification_text x.certifications)
    ++ (section (codes "Transactions:") (transaction_lines x.transactions)
    ++ [])))

abbrev pub last_text : LastSections → Rows
last_text x =
    section (codes "Revoked:") (map revoked_text x.revoked)
    ++ (section (codes "Excluded:") x.excluded
    ++ (section (codes "Certifications:") (map certification_text x.certifications)
    ++ (section (codes "Transactions:") (transaction_lines x.transactions)
    ++ [])))

abbrev LastIs : LastSections → Type 0
LastIs x = Unit {0} × (All IsRevocation x.revoked × (All (Passes is_key) x.excluded × (All IsCertification x.certifications × (All IsTx x.transactions × Unit {0}))))

last_steps : Reads last_sections_at last_spelled LastIs NotTx
unfolding last_sections_at
last_steps =
    then_before _ _ _ _ _ _ _ (λ x. x.revoked) _ _ (section_reads (codes "Revoked:") (codes "Excluded:") _ _ _ revoked_spelled refl (λ l is. front_longer 9 (omega arith) l.key _ is.key)) (λ revoked are_revoked.
    then_before _ _ _ _ _ _ _ (λ x. x.excluded) _ _ (section_reads (codes "Excluded:") (codes "Certifications:") _ _ _ key_spelled refl (λ l is. key_longer 15 (omega arith) l is)) (λ excluded are_excluded.
    then_before _ _ _ _ _ _ _ (λ x. x.certifications) _ _ (section_reads (codes "Certifications:") (codes "Transactions:") _ _ _ certification_spelled refl (λ l is. front_longer 13 (omega arith) l.from _ is.from)) (λ certifications are_certifications.
    then_before _ _ _ _ _ _ _ (λ x. x.transactions) _ _ transactions_read (λ transactions are_transactions.
    gives_reads _ _ _ ((((tt, refl), refl), refl), refl) (λ x k. λ i. record { revoked = k.0.0.0.1 i; excluded = k.0.0.1 i; certifications = k.0.1 i; transactions = k.1 i }))
    (λ x ls h stop. stop))
    (λ x ls h stop. refl))
    (λ x ls h stop. refl))
    (λ x ls h stop. refl)

last_are : (x : LastSections) → last_spelled x ≡ last_text x
last_are x =
    ap (λ (ls : Rows). section (codes "Revoked:") (map revoked_text x.revoked) ++ (section (codes "Excluded:") ls ++ (section (codes "Certifications:") (map certification_text x.certifications) ++ (section (codes "Transactions:") (transaction_lines x.transactions) ++ []))))
    (map_itself x.excluded)

pub last_reads : Reads last_sections_at last_text IsLastSections NotTx
last_reads =
    spelled_as last_sections_at last_spelled last_text IsLastSections NotTx (λ x h. last_are x)
    (reads_as last_sections_at last_spelled LastIs IsLastSections NotTx
    (λ x h. record { revoked = h.1.0; excluded = h.1.1.0; certifications = h.1.1.1.0; transactions = h.1.1.1.1.0 })
    (λ x is. (tt, (is.revoked, (is.excluded, (is.certifications, (is.transactions, tt))))))
    last_steps)
