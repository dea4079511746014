-- The tables where a row is put: each is that of the rows after.
use Rattle.std.proofs.Common.{◌≡◌, Bool, true, false, cond, List, Option, Some, None, refl, ap, sym, ◌∙◌}
use Rattle.std.specs.Ordering.{is_eq, ordering_then}
use Rattle.std.specs.declared.cmp.Ordering.{Ordering}
use Rattle.std.specs.declared.cmp.Ordering.TheVariants.{Less, Equal, Greater}
use Rattle.std.specs.FinMap.{insert, get-insert}
use Rattle.std.specs.FinMap as map
use Rattle.dubp_atoms.specs.Same.{Text, same_text}
use Rattle.dubp_undo.specs.MovingTable.{get, Puts}
use Rattle.dubp_cindex.specs.declared.row.CertRow.{CertRow}
use Rattle.dubp_cindex.specs.declared.changing.Change.{Change}
use Rattle.dubp_cindex.specs.Orders.{text_cmp, pair_cmp, Place, place_cmp}
use Rattle.dubp_cindex.specs.Rows.{Rows, row_at, lives, one_if, received_by_at}
use Rattle.dubp_cindex.specs.Changes.{changed, Makes}
use Rattle.dubp_cindex.proofs.Texts.{pair_total, text_tied, text_exact, is_equal}

-- a place without a second key is none with one
none_apart : (r : Ordering) → is_eq (ordering_then r Less) ≡ false
none_apart Less = refl
none_apart Equal = refl
none_apart Greater = refl

-- in either order
swapped : (r s : Ordering) → is_eq (ordering_then r s) ≡ is_eq (ordering_then s r)
swapped Less Less = refl
swapped Less Equal = refl
swapped Less Greater = refl
swapped Equal Less = refl
swapped Equal Equal = refl
swapped Equal Greater = refl
swapped Greater Less = refl
swapped Greater Equal = refl
swapped Greater Greater = refl

apart : {A : Type 0} (b : Bool) (x y : A) → b ≡ false → cond b x y ≡ y
apart b x y e = ap (λ c. cond c x y) e

module _ (rows : Rows) (from to : Text) (row : CertRow) where
  rows_second : (m n : List (Place × CertRow)) → ((k : Place) → get place_cmp m k ≡ row_at rows k.0 k.1) → Puts place_cmp m n (from, Some to) (Some row) → (x : Text) (second : Option Text) → get place_cmp n (x, second) ≡ row_at (insert rows (from, to) row) x second
  rows_second m n at put x None = put (x, None) ∙ apart (is_eq (ordering_then (text_cmp x from) Less)) (Some row) (get place_cmp m (x, None)) (none_apart (text_cmp x from)) ∙ at (x, None)
  rows_second m n at put x (Some y) =
      put (x, Some y) ∙ ap (cond (is_eq (pair_cmp (x, y) (from, to))) (Some row)) (at (x, Some y)) ∙ sym (get-insert pair_total rows (from, to) row (x, y))

  pub rows_put : (m n : List (Place × CertRow)) → ((k : Place) → get place_cmp m k ≡ row_at rows k.0 k.1) → Puts place_cmp m n (from, Some to) (Some row) → (k : Place) → get place_cmp n k ≡ row_at (insert rows (from, to) row) k.0 k.1
  rows_put m n at put k = rows_second m n at put k.0 k.1

  -- whether a pair lives behind the change
  lives_put : (x y : Text) → cond (is_eq (pair_cmp (x, y) (from, to))) (one_if row.live) (one_if (lives (map.get rows (x, y)))) ≡ one_if (lives (map.get (insert rows (from, to) row) (x, y)))
  lives_put x y =
      elim (is_eq (pair_cmp (x, y) (from, to))) as (λ b. cond b (one_if row.live) (one_if (lives (map.get rows (x, y)))) ≡ one_if (lives (cond b (Some row) (map.get rows (x, y))))) [ true ↦ refl | false ↦ refl ]
      ∙ ap (λ r. one_if (lives r)) (sym (get-insert pair_total rows (from, to) row (x, y)))

  module _ (pair : Change (Unit {0})) (is : changed pair (one_if (lives (map.get rows (from, to)))) ≡ one_if row.live) where
    received_second : (m n : List (Place × Unit {0})) → ((k : Place) → get place_cmp m k ≡ received_by_at rows k.0 k.1) → Makes place_cmp m n (to, Some from) pair → (x : Text) (second : Option Text) → get place_cmp n (x, second) ≡ received_by_at (insert rows (from, to) row) x second
    received_second m n at makes x None = makes (x, None) ∙ apart (is_eq (ordering_then (text_cmp x to) Less)) (changed pair (get place_cmp m (to, Some from))) (get place_cmp m (x, None)) (none_apart (text_cmp x to)) ∙ at (x, None)
    received_second m n at makes x (Some y) =
        makes (x, Some y)
        ∙ (λ i. cond (swapped (text_cmp x to) (text_cmp y from) i) ((ap (changed pair) (at (to, Some from)) ∙ is) i) (at (x, Some y) i))
        ∙ lives_put y x

    pub received_by_put : (m n : List (Place × Unit {0})) → ((k : Place) → get place_cmp m k ≡ received_by_at rows k.0 k.1) → Makes place_cmp m n (to, Some from) pair → (k : Place) → get place_cmp n k ≡ received_by_at (insert rows (from, to) row) k.0 k.1
    received_by_put m n at makes k = received_second m n at makes k.0 k.1

-- a table under keys, of which the value at one has changed
pub keyed_put : {V : Type 0} (before after : Text → Option V) (key : Text) (change : Change V) (m n : List (Text × V)) → ((k : Text) → get text_cmp m k ≡ before k) → Makes text_cmp m n key change
    → changed change (before key) ≡ after key → ((k : Text) → same_text k key ≡ false → after k ≡ before k) → (k : Text) → get text_cmp n k ≡ after k
keyed_put before after key change m n at makes is others k =
    makes k
    ∙ elim (is_eq (text_cmp k key)) as (λ b. is_eq (text_cmp k key) ≡ b → cond b (changed change (get text_cmp m key)) (get text_cmp m k) ≡ after k) [
      | true ↦ λ t. ap (changed change) (at key) ∙ is ∙ ap after (sym (text_exact k key (is_equal _ t)))
      | false ↦ λ t. at k ∙ sym (others k (sym (text_tied k key) ∙ t))
    ] refl
