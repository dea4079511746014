-- A set of keys with one key more, beside a list with one key more.
use Rattle.std.proofs.Common.{◌≡◌, ℕ, ◌+◌, ◌<◌, Bool, true, false, ◌||◌, cond, List, [], ◌∷◌, ◌++◌, take, get_or, length, refl, ap, sym, ◌∙◌}
use Rattle.std.specs.List.{list_any}
use Rattle.std.specs.Ordering.{is_eq}
use Rattle.std.specs.Cmp.Lexicographic.{nat_list_eq_equiv, texts_ties}
use Rattle.std.proofs.lemmas.List.{take_more}
use Rattle.std.proofs.lemmas.List.Folds.{list_any-append}
use Rattle.dubp_atoms.specs.Same.{Text, same_text}
use Rattle.dubp_iindex.specs.Rows.{texts}
use Rattle.dubp_chain.specs.Words.{names}

either : (a b : Bool) → (a || (b || false)) ≡ cond b true a
either true true = refl
either true false = refl
either false true = refl
either false false = refl

tied : (key k : Text) → same_text k key ≡ is_eq (texts key k)
tied key k = nat_list_eq_equiv.symm k key ∙ texts_ties key k

pub one_more : (keys : List Text) (i : ℕ) (key k : Text) (now new : Bool) → i < length keys → key ≡ get_or keys i key
    → new ≡ cond (is_eq (texts key k)) true now → now ≡ names (take i keys) k → new ≡ names (take (i + 1) keys) k
one_more keys i key k now new lt at grown holds =
    let longer : take (i + 1) keys ≡ take i keys ++ key ∷ [] = take_more keys i key lt ∙ ap (λ z. take i keys ++ z ∷ []) (sym at) in
    let named : names (take (i + 1) keys) k ≡ cond (same_text k key) true (names (take i keys) k) =
    ap (list_any (same_text k)) longer ∙ list_any-append (same_text k) (take i keys) (key ∷ []) ∙ either (names (take i keys) k) (same_text k key) in
    grown ∙ ap (cond (is_eq (texts key k)) true) holds ∙ ap (λ b. cond b true (names (take i keys) k)) (sym (tied key k)) ∙ sym named
