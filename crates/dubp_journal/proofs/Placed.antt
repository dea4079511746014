-- The counts of changes, and the slots without a key, over each move.
use Rattle.std.proofs.Common.{◌≡◌, ℕ, ◌+◌, List, [], ◌∷◌, ◌++◌, get_or, set, take, drop, Option, None, refl, sym, ap, ◌∙◌, arith}
use Rattle.std.proofs.lemmas.List.{length-set, get_or-set_other}
use Rattle.dubp_journal.specs.Journal.{undo, redo_of, noted, named, Follows, HasPlaces}
use Rattle.dubp_journal.proofs.Journals.{length-undo}
use Rattle.dubp_journal.proofs.Naming.{named-append, named-split, named-redo_of, named_other, undo-unnamed}

module _ {K V : Type 0} {keys : List (Option K)} {uses : List ℕ} {slots root : List (Option V)} {j redo : List (ℕ × Option V)} (p : HasPlaces keys uses slots root j redo) where
  -- a slot without a key is named by no change
  unnamed : (i : ℕ) → get_or keys i None ≡ None → named i j + named i redo ≡ 0
  unnamed i none = sym (p.counted i) ∙ (p.free i none).unnamed

  -- it holds nothing after the changes of a part of them are undone
  undone : (i : ℕ) → get_or keys i None ≡ None → (seg : List (ℕ × Option V)) → named i seg ≡ 0 → get_or (undo slots seg) i None ≡ None
  undone i none seg e = undo-unnamed slots i seg e ∙ (p.free i none).nothing

  -- the last n changes are undone, and leave
  pub places_back : (n : ℕ) {uses' : List ℕ} → Follows uses uses' j (take n j) → HasPlaces keys uses' (undo slots (drop n j)) root (take n j) redo
  places_back n f =
      let same = length-undo slots (drop n j) in
      record {
        keys_each = p.keys_each ∙ sym same;
        uses_each = f.same_length ∙ p.uses_each ∙ sym same;
        counted = λ i. omega (arith, f.each i, p.counted i);
        free = λ i none. record {
          nothing = undone i none (drop n j) (omega (arith, unnamed i none, named-split i n j));
          unnamed = omega (arith, f.each i, (p.free i none).unnamed, named-split i n j, unnamed i none);
        };
        free_root = p.free_root;
      }

  -- they are undone, and noted at the end of the other journal
  pub places_hold : (n : ℕ) → HasPlaces keys uses (undo slots (drop n j)) (undo slots (drop n j)) (take n j) (redo ++ redo_of slots (drop n j))
  places_hold n =
      let same = length-undo slots (drop n j) in
      record {
        keys_each = p.keys_each ∙ sym same;
        uses_each = p.uses_each ∙ sym same;
        counted = λ i. omega (arith, p.counted i, named-split i n j, named-append i redo (redo_of slots (drop n j)), named-redo_of i slots (drop n j));
        free = λ i none. record { nothing = undone i none (drop n j) (omega (arith, unnamed i none, named-split i n j)); unnamed = (p.free i none).unnamed };
        free_root = λ i none. undone i none (drop n j) (omega (arith, unnamed i none, named-split i n j));
      }

  pub places_again : (n : ℕ) → HasPlaces keys uses (undo slots (drop n redo)) (undo slots (drop n redo)) (j ++ redo_of slots (drop n redo)) (take n redo)
  places_again n =
      let same = length-undo slots (drop n redo) in
      record {
        keys_each = p.keys_each ∙ sym same;
        uses_each = p.uses_each ∙ sym same;
        counted = λ i. omega (arith, p.counted i, named-split i n redo, named-append i j (redo_of slots (drop n redo)), named-redo_of i slots (drop n redo));
        free = λ i none. record { nothing = undone i none (drop n redo) (omega (arith, unnamed i none, named-split i n redo)); unnamed = (p.free i none).unnamed };
        free_root = λ i none. undone i none (drop n redo) (omega (arith, unnamed i none, named-split i n redo));
      }

  -- the first n changes leave
  pub places_drop : (n : ℕ) {uses' : List ℕ} → Follows uses uses' j (drop n j) → HasPlaces keys uses' slots root (drop n j) redo
  places_drop n f = record {
    keys_each = p.keys_each;
    uses_each = f.same_length ∙ p.uses_each;
    counted = λ i. omega (arith, f.each i, p.counted i);
    free = λ i none. record { nothing = (p.free i none).nothing; unnamed = omega (arith, f.each i, (p.free i none).unnamed, named-split i n j, unnamed i none) };
    free_root = p.free_root;
  }

  -- all changes of the way ahead leave
  pub places_forgotten : {uses' : List ℕ} → Follows uses uses' redo [] → HasPlaces keys uses' slots root j []
  places_forgotten f = record {
    keys_each = p.keys_each;
    uses_each = f.same_length ∙ p.uses_each;
    counted = λ i. omega (arith, f.each i, p.counted i);
    free = λ i none. record { nothing = (p.free i none).nothing; unnamed = omega (arith, f.each i, (p.free i none).unnamed, unnamed i none) };
    free_root = p.free_root;
  }

  -- a slot with a key is written, and the change is noted
  pub places_set : (i : ℕ) (v old : Option V) (marks : List ℕ) {uses' : List ℕ} → (get_or keys i None ≡ None → ⊥) → Follows uses uses' j (noted marks j (i, old)) → HasPlaces keys uses' (set slots i v) root (noted marks j (i, old)) redo
  places_set i v old marks some f =
      let same = length-set slots i v in
      record {
        keys_each = p.keys_each ∙ sym same;
        uses_each = f.same_length ∙ p.uses_each ∙ sym same;
        counted = λ x. omega (arith, f.each x, p.counted x);
        free = λ x none. (
            let other : x ≡ i → ⊥ = λ e. some (ap (λ y. get_or keys y None) (sym e) ∙ none) in
            record {
              nothing = get_or-set_other slots i x v None other ∙ (p.free x none).nothing;
              unnamed = omega (arith, f.each x, (p.free x none).unnamed, named_noted x marks other, unnamed x none);
            });
        free_root = p.free_root;
      }
    where
      named_noted : (x : ℕ) (marks : List ℕ) → (x ≡ i → ⊥) → named x (noted marks j (i, old)) ≡ named x j
      named_noted x [] other = refl
      named_noted x (m ∷ marks) other = named-append x j ((i, old) ∷ []) ∙ omega (arith, named_other x i old other)
