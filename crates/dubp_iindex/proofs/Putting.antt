-- What the tables have where a row is put.
use Rattle.std.proofs.Common.{◌≡◌, Bool, true, false, cond, List, Option, Some, None, refl, sym, ap, ◌∙◌}
use Rattle.std.specs.Prelude.{is_none, unwrap_or, MatchOption}
use Rattle.std.specs.Ordering.{is_eq}
use Rattle.std.specs.declared.cmp.Ordering.{Ordering}
use Rattle.std.specs.declared.cmp.Ordering.TheVariants.{Less, Equal, Greater}
use Rattle.std.specs.Cmp.Lexicographic.{nat_list_cmp_total, texts_ties}
use Rattle.std.specs.FinMap.{IsAntisymmetric, insert, get-insert}
use Rattle.std.specs.FinMap as map
use Rattle.dubp_atoms.specs.Same.{Text}
use Rattle.dubp_undo.specs.MovingTable.{get}
use Rattle.dubp_iindex.specs.declared.row.IdentityRow.{IdentityRow}
use Rattle.dubp_iindex.specs.declared.row.Counts.{Counts}
use Rattle.dubp_iindex.specs.Rows.{Rows, texts, one, key_with, is_member_at, counts_of, FitsRows}
use Rattle.dubp_iindex.specs.Writing.{IsWritten, was_member, uid_write, member_write, counts_write, counted, no_counts}
use Rattle.dubp_iindex.proofs.Numbered.{counts_after, counts_stay}
use Rattle.dubp_iindex.proofs.Entries.{texts-apart}
use Rattle.dubp_iindex.proofs.Uids.{key_after, key_stays}

-- the table has the value at the key, also where that is what it had
module _ {K V : Type 0} (cmp : K → K → Ordering) (apart : IsAntisymmetric cmp) (key : K) (value : Option V) (old new : List (K × V)) (before : K → Option V) where
  written : (write : Option (Option V)) → IsWritten cmp key write old new → ((q : K) → get cmp old q ≡ before q) → MatchOption write (before key ≡ value) (λ x. x ≡ value)
      → (q : K) → get cmp new q ≡ cond (is_eq (cmp q key)) value (before q)
  written None stays at is q =
      ap (λ m. get cmp m q) stays
      ∙ at q
      ∙ elim (cmp q key) as (λ r. cmp q key ≡ r → before q ≡ cond (is_eq r) value (before q)) [
        | Less ↦ λ _. refl
        | Equal ↦ λ e. ap before (apart q key e) ∙ is
        | Greater ↦ λ _. refl
      ] refl
  written (Some x) puts at is q =
      puts q ∙ ap (λ y. cond (is_eq (cmp q key)) x y) (at q) ∙ ap (λ y. cond (is_eq (cmp q key)) y (before q)) is

module _ (rows : Rows) (key : Text) (row : IdentityRow) where
  -- the rows
  pub rows_put : (old new : List (Text × IdentityRow)) → IsWritten texts key (Some (Some row)) old new → ((q : Text) → get texts old q ≡ map.get rows q)
      → (q : Text) → get texts new q ≡ map.get (insert rows key row) q
  rows_put old new is at q =
      written texts texts-apart key (Some row) old new (map.get rows) (Some (Some row)) is at refl q ∙ sym (get-insert nat_list_cmp_total rows key row q)

  -- the keys of the uids
  uid_is : FitsRows rows key row → (o : Option IdentityRow) → map.get rows key ≡ o → MatchOption (uid_write o key) (key_with row.uid rows ≡ Some key) (λ x. x ≡ Some key)
  uid_is fits None e = refl
  uid_is fits (Some old) e = key_stays rows key row fits old e

  pub uids_put : FitsRows rows key row → (old new : List (Text × Text)) → IsWritten texts row.uid (uid_write (map.get rows key) key) old new → ((q : Text) → get texts old q ≡ key_with q rows)
      → (q : Text) → get texts new q ≡ key_with q (insert rows key row)
  uids_put fits old new is at q =
      written texts texts-apart row.uid (Some key) old new (λ u. key_with u rows) (uid_write (map.get rows key) key) is at (uid_is fits (map.get rows key) refl) q
      ∙ ap (λ b. cond b (Some key) (key_with q rows)) (sym (texts_ties q row.uid))
      ∙ sym (key_after rows key row fits q)

  -- the members
  abbrev here : Bool → Option (Unit {0})
  here b = cond b (Some tt) None

  member_is : (a b : Bool) → MatchOption (member_write a b) (here a ≡ here b) (λ x. x ≡ here b)
  member_is true true = refl
  member_is true false = refl
  member_is false true = refl
  member_is false false = refl

  member_after : (q : Text) → cond (is_eq (texts q key)) (here row.member) (here (is_member_at rows q)) ≡ here (is_member_at (insert rows key row) q)
  member_after q =
      elim (is_eq (texts q key)) as (λ b. cond b (here row.member) (here (is_member_at rows q)) ≡ here (was_member (cond b (Some row) (map.get rows q)))) [ true ↦ refl | false ↦ refl ]
      ∙ ap (λ o. here (was_member o)) (sym (get-insert nat_list_cmp_total rows key row q))

  pub members_put : (old new : List (Text × Unit {0})) → IsWritten texts key (member_write (was_member (map.get rows key)) row.member) old new → ((q : Text) → get texts old q ≡ here (is_member_at rows q))
      → (q : Text) → get texts new q ≡ here (is_member_at (insert rows key row) q)
  members_put old new is at q =
      written texts texts-apart key (here row.member) old new (λ k. here (is_member_at rows k)) (member_write (was_member (map.get rows key)) row.member) is at (member_is (was_member (map.get rows key)) row.member) q
      ∙ member_after q

  -- the numbers
  counts_is : (o : Option IdentityRow) → map.get rows key ≡ o → MatchOption (counts_write (counts_of rows) o row) (counts_of rows ≡ counts_of (insert rows key row)) (λ x. x ≡ counts_of (insert rows key row))
  counts_is None e = sym (counts_after rows key row ∙ ap (λ o. Some (counted (unwrap_or (counts_of rows) no_counts) o row)) e)
  counts_is (Some old) e =
      let after : counts_of (insert rows key row) ≡ Some (counted (unwrap_or (counts_of rows) no_counts) (Some old) row) = counts_after rows key row ∙ ap (λ o. Some (counted (unwrap_or (counts_of rows) no_counts) o row)) e in
      elim (is_none (member_write old.member row.member)) as (λ b. is_none (member_write old.member row.member) ≡ b → MatchOption (cond b None (Some (Some (counted (unwrap_or (counts_of rows) no_counts) (Some old) row)))) (counts_of rows ≡ counts_of (insert rows key row)) (λ x. x ≡ counts_of (insert rows key row))) [
        | true ↦ λ stays. counts_stay rows key row old e stays ∙ sym after
        | false ↦ λ _. sym after
      ] refl

  pub counts_put : (old new : List (Unit {0} × Counts)) → IsWritten one tt (counts_write (counts_of rows) (map.get rows key) row) old new → ((q : Unit {0}) → get one old q ≡ counts_of rows)
      → (q : Unit {0}) → get one new q ≡ counts_of (insert rows key row)
  counts_put old new is at q =
      written one (λ x y e. refl) tt (counts_of (insert rows key row)) old new (λ _. counts_of rows) (counts_write (counts_of rows) (map.get rows key) row) is at (counts_is (map.get rows key) refl) q
