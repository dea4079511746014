-- Rows of which some are left, and turns of the loops that spend.
use Rattle.std.proofs.Common.{◌≡◌, ℕ, ◌+◌, ◌<◌, Bool, true, false, not, ◌||◌, ◌&&◌, List, [], ◌∷◌, ◌++◌, filter, length, take, get_or, refl, ap, sym, ◌∙◌}
use Rattle.std.specs.List.{list_any}
use Rattle.std.proofs.lemmas.List.{take_more}
use Rattle.std.proofs.lemmas.List.Elements.{filter_agree}
use Rattle.std.proofs.lemmas.List.Folds.{list_any-append}
use Rattle.dubp_cond.specs.declared.source.Input.{Input}
use Rattle.dubp_sindex.specs.Rows.{Entry, same_source, is_named, without, AreRows, IsInRange}
use Rattle.dubp_sindex.proofs.Elements.{in_all, all_from_in, in_filter, filter_true, filter_twice}
use Rattle.dubp_sindex.proofs.Once.{once-filter, each_once-map}
use Rattle.dubp_sindex.proofs.Sources.{same_source_is, same_source_own, once_each}
use Rattle.dubp_sindex.proofs.Derived.{rises-filter}
use Rattle.dubp_money.specs.Writing.{without_inputs}

-- rows of which some are left are rows
pub rows-filter : (p : Entry → Bool) (rows : List Entry) → AreRows rows → AreRows (filter p rows)
rows-filter p rows are = record {
  once = each_once-map same_source (λ (e : Entry). e.0) (filter p rows) ∙ once-filter same_source same_source_is same_source_own (λ (e : Entry). e.0) p rows (once_each rows are);
  rises = rises-filter p rows are.rises;
  in_range = all_from_in IsInRange (filter p rows) (λ e there. in_all IsInRange rows are.in_range e (in_filter p rows e there).0);
}

-- lists that grow turn by turn

pub taken_next : {X : Type 0} (xs : List X) (i : ℕ) (x : X) → i < length xs → x ≡ get_or xs i x → take i xs ++ x ∷ [] ≡ take (i + 1) xs
taken_next xs i x within is = ap (λ y. take i xs ++ y ∷ []) is ∙ sym (take_more xs i x within)

-- inputs, one after the other

pub no_inputs : (rows : List Entry) → without_inputs [] rows ≡ rows
no_inputs = filter_true

input_more : (inputs : List Input) (input : Input) (rows : List Entry) → without input.source (without_inputs inputs rows) ≡ without_inputs (inputs ++ input ∷ []) rows
input_more inputs input rows =
    filter_twice (λ e. not (is_named input.source e)) (λ e. not (list_any (λ (i : Input). is_named i.source e) inputs)) rows
    ∙ filter_agree (λ e. not (list_any (λ (i : Input). is_named i.source e) inputs) && not (is_named input.source e)) (λ e. not (list_any (λ (i : Input). is_named i.source e) (inputs ++ input ∷ [])))
    (λ e. either (list_any (λ (i : Input). is_named i.source e) inputs) (is_named input.source e) ∙ ap not (sym (list_any-append (λ (i : Input). is_named i.source e) inputs (input ∷ [])))) rows
  where
    either : (a b : Bool) → (not a && not b) ≡ not (a || (b || false))
    either true b = refl
    either false true = refl
    either false false = refl

pub input_next : (inputs : List Input) (i : ℕ) (input : Input) (rows : List Entry) → i < length inputs → input ≡ get_or inputs i input
    → without input.source (without_inputs (take i inputs) rows) ≡ without_inputs (take (i + 1) inputs) rows
input_next inputs i input rows within is = input_more (take i inputs) input rows ∙ ap (λ l. without_inputs l rows) (taken_next inputs i input within is)
