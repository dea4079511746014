-- What a list of records makes of a row: lists one behind the other, records that a change leaves out, the last of some records that
-- each make the row anew, and records of which it matters alone whether they name the row.
use Rattle.std.proofs.Common.{◌≡◌, Bool, true, false, cond, ◌||◌, List, [], ◌∷◌, ◌++◌, Option, Some, None, option_map, map, fold, refl, ap, sym, ◌∙◌}
use Rattle.std.specs.List.{flat_map, list_any}
use Rattle.std.specs.Option.{option_or, option_map_or}
use Rattle.std.proofs.lemmas.List.Sums.{fold-append}
use Rattle.dubp_chain.specs.Words.{last_of}

-- changed by each of the records in turn, every row becomes what `whole` says
pub record Gives {Row X : Type 0} (change : Row → X → Row) (records : List X) (whole : Row → Row) : Type 0 where
  pub at : (row : Row) → fold change row records ≡ whole row

one_each : {X Y : Type 0} (of : Y → X) (ys : List Y) → flat_map (λ y. of y ∷ []) ys ≡ map of ys
one_each of [] = refl
one_each of (y ∷ ys) = ap (λ l. of y ∷ l) (one_each of ys)

module _ {Row X : Type 0} (change : Row → X → Row) where
  -- two lists of records, one behind the other
  pub gives_both : {xs ys : List X} {f g : Row → Row} → Gives change xs f → Gives change ys g → Gives change (xs ++ ys) (λ row. g (f row))
  gives_both {xs} {ys} {f} {g} p q = record { at = λ row. fold-append change row xs ys ∙ ap (λ r. fold change r ys) (p.at row) ∙ q.at (f row) }

  -- records that the change leaves out
  abbrev pub IsLeftOut : X → Type 0
  IsLeftOut x = (row : Row) → change row x ≡ row

  left_out_at : {Y : Type 0} (of : Y → X) → ((y : Y) → IsLeftOut (of y)) → (ys : List Y) (row : Row) → fold change row (map of ys) ≡ row
  left_out_at of out [] row = refl
  left_out_at of out (y ∷ ys) row = left_out_at of out ys (change row (of y)) ∙ out y row

  pub left_out : {Y : Type 0} (of : Y → X) → ((y : Y) → IsLeftOut (of y)) → (ys : List Y) → Gives change (map of ys) (λ row. row)
  left_out of out ys = record { at = left_out_at of out ys }

  each_left_out_at : {Y : Type 0} (of : Y → List X) → ((y : Y) → Gives change (of y) (λ row. row)) → (ys : List Y) (row : Row) → fold change row (flat_map of ys) ≡ row
  each_left_out_at of out [] row = refl
  each_left_out_at of out (y ∷ ys) row = fold-append change row (of y) (flat_map of ys) ∙ ap (λ r. fold change r (flat_map of ys)) ((out y).at row) ∙ each_left_out_at of out ys row

  pub each_left_out : {Y : Type 0} (of : Y → List X) → ((y : Y) → Gives change (of y) (λ row. row)) → (ys : List Y) → Gives change (flat_map of ys) (λ row. row)
  each_left_out of out ys = record { at = each_left_out_at of out ys }

  -- ---- records of which it matters alone whether one names the row

  module _ (f : Row → Row) (again : (row : Row) → f (f row) ≡ f row) where
    twice : (a b : Bool) (row : Row) → cond b (f (cond a (f row) row)) (cond a (f row) row) ≡ cond (a || b) (f row) row
    twice true true row = again row
    twice true false row = refl
    twice false b row = refl

    each_changed_at : {Y : Type 0} (of : Y → List X) (test : Y → Bool) → ((y : Y) (row : Row) → fold change row (of y) ≡ cond (test y) (f row) row)
        → (ys : List Y) (row : Row) → fold change row (flat_map of ys) ≡ cond (list_any test ys) (f row) row
    each_changed_at of test each [] row = refl
    each_changed_at of test each (y ∷ ys) row =
        fold-append change row (of y) (flat_map of ys)
        ∙ each_changed_at of test each ys (fold change row (of y))
        ∙ ap (λ r. cond (list_any test ys) (f r) r) (each y row)
        ∙ twice (test y) (list_any test ys) row

    pub each_changed : {Y : Type 0} (of : Y → List X) (test : Y → Bool) → ((y : Y) (row : Row) → fold change row (of y) ≡ cond (test y) (f row) row)
        → (ys : List Y) → Gives change (flat_map of ys) (λ row. cond (list_any test ys) (f row) row)
    each_changed of test each ys = record { at = each_changed_at of test each ys }

    pub changed : {Y : Type 0} (of : Y → X) (test : Y → Bool) → ((y : Y) (row : Row) → change row (of y) ≡ cond (test y) (f row) row)
        → (ys : List Y) → Gives change (map of ys) (λ row. cond (list_any test ys) (f row) row)
    changed of test each ys = record { at = λ row. ap (fold change row) (sym (one_each of ys)) ∙ each_changed_at (λ y. of y ∷ []) test each ys row }

  -- ---- records of which the last that names the row counts, whatever stood there

  module _ {Y : Type 0} (f : Y → Row → Row) (again : (y z : Y) (row : Row) → f z (f y row) ≡ f z row) where
    abbrev by_last : Option Y → Row → Row
    by_last last row = option_map_or (λ y. f y row) last row

    later : (b : Bool) (y : Y) (last : Option Y) (row : Row) → by_last last (cond b (f y row) row) ≡ by_last (option_or last (cond b (Some y) None)) row
    later true y None row = refl
    later false y None row = refl
    later true y (Some z) row = again y z row
    later false y (Some z) row = refl

    each_changed_by_last_at : (of : Y → List X) (test : Y → Bool) → ((y : Y) (row : Row) → fold change row (of y) ≡ cond (test y) (f y row) row)
        → (ys : List Y) (row : Row) → fold change row (flat_map of ys) ≡ by_last (last_of test ys) row
    each_changed_by_last_at of test each [] row = refl
    each_changed_by_last_at of test each (y ∷ ys) row =
        fold-append change row (of y) (flat_map of ys)
        ∙ each_changed_by_last_at of test each ys (fold change row (of y))
        ∙ ap (by_last (last_of test ys)) (each y row)
        ∙ later (test y) y (last_of test ys) row

    pub each_changed_by_last : (of : Y → List X) (test : Y → Bool) → ((y : Y) (row : Row) → fold change row (of y) ≡ cond (test y) (f y row) row)
        → (ys : List Y) → Gives change (flat_map of ys) (λ row. option_map_or (λ y. f y row) (last_of test ys) row)
    each_changed_by_last of test each ys = record { at = each_changed_by_last_at of test each ys }

    pub changed_by_last : (of : Y → X) (test : Y → Bool) → ((y : Y) (row : Row) → change row (of y) ≡ cond (test y) (f y row) row)
        → (ys : List Y) → Gives change (map of ys) (λ row. option_map_or (λ y. f y row) (last_of test ys) row)
    changed_by_last of test each ys = record { at = λ row. ap (fold change row) (sym (one_each of ys)) ∙ each_changed_by_last_at (λ y. of y ∷ []) test each ys row }

-- ---- records that each make the row anew: the last that names it counts

module _ {Row X Y : Type 0} (change : Option Row → X → Option Row) (of : Y → X) (test : Y → Bool) (new : Y → Row)
    (each : (y : Y) (row : Option Row) → change row (of y) ≡ cond (test y) (Some (new y)) row) where
  pub made_anew : (ys : List Y) → Gives change (map of ys) (λ row. option_or (option_map new (last_of test ys)) row)
  made_anew ys = record { at = λ row. (changed_by_last change (λ y _. Some (new y)) (λ y z _. refl) of test each ys).at row ∙ as_or (last_of test ys) row }
    where
      as_or : (last : Option Y) (row : Option Row) → option_map_or (λ y. Some (new y)) last row ≡ option_or (option_map new last) row
      as_or None row = refl
      as_or (Some y) row = refl
