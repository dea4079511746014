-- How many identities and members there are, where a row is put.
use Rattle.std.proofs.Common.{◌≡◌, ℕ, ◌+◌, ◌-◌, ◌==◌, Bool, true, false, cond, List, [], ◌∷◌, Option, Some, None, length, map, filter, refl, sym, ap, ◌∙◌, arith}
use Rattle.std.specs.Prelude.{count_by, is_some, is_none, unwrap_or}
use Rattle.std.specs.Option.{option_map_or}
use Rattle.std.specs.Cmp.Lexicographic.{nat_list_cmp_total}
use Rattle.std.specs.Cmp.{tied_itself}
use Rattle.std.specs.Ordering.{is_eq}
use Rattle.std.specs.FinMap.{entries, get, insert, len, len-entries, len-insert, empty_of_len, get-empty, get-insert}
use Rattle.std.proofs.Math.ListN.{length-map}
use Rattle.std.proofs.lemmas.List.Sums.{length-filter}
use Rattle.std.proofs.lemmas.Option.{none-some}
use Rattle.std.proofs.lemmas.Bool.Decides.{Decides-eqb}
use Rattle.dubp_atoms.specs.Same.{Text}
use Rattle.dubp_undo.proofs.Counted.{count-insert}
use Rattle.dubp_undo.proofs.Counted as seen
use Rattle.dubp_iindex.specs.declared.row.IdentityRow.{IdentityRow}
use Rattle.dubp_iindex.specs.declared.row.Counts.{Counts}
use Rattle.dubp_iindex.specs.Rows.{Rows, texts, members, counts_of}
use Rattle.dubp_iindex.specs.Writing.{bit, was_member, member_write, counted, no_counts}
use Rattle.dubp_iindex.proofs.Entries.{texts-apart}

is_false : (b : Bool) → (b ≡ true → ⊥) → b ≡ false
is_false true no_way = absurd (no_way refl)
is_false false no_way = refl

nil_of_length : {X : Type 0} (xs : List X) → length xs ≡ 0 → xs ≡ []
nil_of_length [] e = refl
nil_of_length (x ∷ xs) e = absurd (omega (arith, e))

abbrev numbers : Rows → Counts
numbers rows = record { identities = len rows; members = length (members rows) }

-- ---- what the numbers are

pub counted_identities : (rows : Rows) → option_map_or (λ (c : Counts). c.identities) (counts_of rows) 0 ≡ len rows
counted_identities rows =
    elim (len rows == 0) as (λ b. (len rows == 0) ≡ b → option_map_or (λ (c : Counts). c.identities) (cond b None (Some (numbers rows))) 0 ≡ len rows) [
      | true ↦ λ e. sym ((Decides-eqb (len rows) 0).0 e)
      | false ↦ λ _. refl
    ] refl

pub counted_members : (rows : Rows) → option_map_or (λ (c : Counts). c.members) (counts_of rows) 0 ≡ length (members rows)
counted_members rows =
    elim (len rows == 0) as (λ b. (len rows == 0) ≡ b → option_map_or (λ (c : Counts). c.members) (cond b None (Some (numbers rows))) 0 ≡ length (members rows)) [
      | true ↦ λ e.
          let none : entries rows ≡ [] = nil_of_length (entries rows) (sym (len-entries rows) ∙ (Decides-eqb (len rows) 0).0 e) in
          ap (λ (es : List (Text × IdentityRow)). length (map (λ (x : Text × IdentityRow). x.0) (filter (λ (x : Text × IdentityRow). x.1.member) es))) (sym none)
      | false ↦ λ _. refl
    ] refl

identities_of : (o : Option Counts) → (unwrap_or o no_counts).identities ≡ option_map_or (λ (c : Counts). c.identities) o 0
identities_of None = refl
identities_of (Some c) = refl

members_of : (o : Option Counts) → (unwrap_or o no_counts).members ≡ option_map_or (λ (c : Counts). c.members) o 0
members_of None = refl
members_of (Some c) = refl

some_there : (rows : Rows) (key : Text) (row : IdentityRow) → get rows key ≡ Some row → counts_of rows ≡ Some (numbers rows)
some_there rows key row there =
    ap (λ b. cond b None (Some (numbers rows)))
    (is_false (len rows == 0) (λ e. none-some row (sym (get-empty texts key) ∙ ap (λ m. get m key) (sym (empty_of_len rows ((Decides-eqb (len rows) 0).0 e))) ∙ there)))

-- ---- behind an insertion

length-members : (rows : Rows) → length (members rows) ≡ count_by (λ (e : Text × IdentityRow). e.1.member) (entries rows)
length-members rows =
    length-map (filter (λ (e : Text × IdentityRow). e.1.member) (entries rows)) (λ (e : Text × IdentityRow). e.0) ∙ length-filter (λ (e : Text × IdentityRow). e.1.member) (entries rows)

was_bit : (key : Text) (o : Option IdentityRow) → seen.counted (λ (e : Text × IdentityRow). e.1.member) key o ≡ bit (was_member o)
was_bit key None = refl
was_bit key (Some old) = refl

more : (b : Bool) (n : ℕ) → cond b n (n + 1) ≡ n + cond b 0 1
more true n = omega arith
more false n = refl

module _ (rows : Rows) (key : Text) (row : IdentityRow) where
  members-insert : length (members (insert rows key row)) ≡ (length (members rows) + bit row.member) - bit (was_member (get rows key))
  members-insert =
      omega (
        arith,
        length-members (insert rows key row),
        length-members rows,
        was_bit key (get rows key),
        count-insert nat_list_cmp_total texts-apart (λ (e : Text × IdentityRow). e.1.member) rows key row,
      )

  pub counts_after : counts_of (insert rows key row) ≡ Some (counted (unwrap_or (counts_of rows) no_counts) (get rows key) row)
  counts_after =
      some_there (insert rows key row) key row (get-insert nat_list_cmp_total rows key row key ∙ ap (λ r. cond (is_eq r) (Some row) (get rows key)) (tied_itself nat_list_cmp_total key))
      ∙ ap Some (λ i. record { identities = identities i; members = numbered i })
    where
      identities : len (insert rows key row) ≡ (unwrap_or (counts_of rows) no_counts).identities + cond (is_some (get rows key)) 0 1
      identities =
          len-insert nat_list_cmp_total rows key row ∙ more (is_some (get rows key)) (len rows)
          ∙ ap (λ n. n + cond (is_some (get rows key)) 0 1) (sym (identities_of (counts_of rows) ∙ counted_identities rows))

      numbered : length (members (insert rows key row)) ≡ ((unwrap_or (counts_of rows) no_counts).members + bit row.member) - bit (was_member (get rows key))
      numbered = members-insert ∙ ap (λ n. (n + bit row.member) - bit (was_member (get rows key))) (sym (members_of (counts_of rows) ∙ counted_members rows))

-- the numbers stay
back_again : (n : ℕ) (a b : Bool) → is_none (member_write a b) ≡ true → n ≡ (n + bit b) - bit a
back_again n true true e = omega arith
back_again n false false e = omega arith
back_again n true false e = cc
back_again n false true e = cc

pub counts_stay : (rows : Rows) (key : Text) (row old : IdentityRow) → get rows key ≡ Some old → is_none (member_write old.member row.member) ≡ true
    → counts_of rows ≡ Some (counted (unwrap_or (counts_of rows) no_counts) (Some old) row)
counts_stay rows key row old there stays =
    let are = some_there rows key old there in
    are ∙ ap Some (λ i. record { identities = identities i; members = numbered i }) ∙ ap (λ o. Some (counted (unwrap_or o no_counts) (Some old) row)) (sym are)
  where
    identities : len rows ≡ len rows + 0
    identities = omega arith

    numbered : length (members rows) ≡ (length (members rows) + bit row.member) - bit old.member
    numbered = back_again (length (members rows)) old.member row.member stays
