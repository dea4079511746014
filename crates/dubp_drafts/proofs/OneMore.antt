-- A loop that makes a line of each element, one element further.
use Rattle.std.proofs.Common.{◌≡◌, ℕ, ◌+◌, ◌<◌, List, [], ◌∷◌, ◌++◌, length, get_or, take, map, ap, sym, ◌∙◌, append_assoc}
use Rattle.std.specs.List.{All}
use Rattle.std.proofs.lemmas.List.{map_more}
use Rattle.std.proofs.lemmas.List.Elements.{All-push}

pub one_line_more : {A L : Type 0} (f : A → L) (xs : List A) (i : ℕ) (d x : A) (line : L) (start old new : List L) → i < length xs
    → x ≡ get_or xs i d
    → line ≡ f x
    → old ≡ start ++ map f (take i xs)
    → new ≡ old ++ line ∷ []
    → new ≡ start ++ map f (take (i + 1) xs)
one_line_more f xs i d x line start old new h at is o n =
    n ∙ ap (λ l. l ++ line ∷ []) o ∙ append_assoc start (map f (take i xs)) (line ∷ [])
    ∙ ap (λ l. start ++ l) (ap (λ y. map f (take i xs) ++ y ∷ []) (is ∙ ap f at) ∙ sym (map_more f xs i d h))

pub all_with_one : {L : Type 0} (P : L → Type 0) (line : L) (old new : List L) → All P old → P line → new ≡ old ++ line ∷ [] → All P new
all_with_one P line old new all one n = rw n (All-push P old line all one)
