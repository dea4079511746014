-- What a list begins with that is appended to more than once.
use Rattle.std.proofs.Common.{◌≡◌, List, ◌++◌, take, drop, length, ap, sym, ◌∙◌, append_assoc, take-append-drop}
use Rattle.std.proofs.Math.Seq.{take-append_seam}

module _ {A : Type 0} where
  behind : (xs ys : List A) → take (length xs) ys ≡ xs → ys ≡ xs ++ drop (length xs) ys
  behind xs ys begins = sym (take-append-drop (length xs) ys) ∙ ap (λ l. l ++ drop (length xs) ys) begins

  pub begins_on : (xs ys zs : List A) → take (length xs) ys ≡ xs → take (length ys) zs ≡ ys → take (length xs) zs ≡ xs
  begins_on xs ys zs first next =
      ap (take (length xs)) (behind ys zs next ∙ ap (λ l. l ++ drop (length ys) zs) (behind xs ys first) ∙ append_assoc xs (drop (length xs) ys) (drop (length ys) zs))
      ∙ take-append_seam xs (drop (length xs) ys ++ drop (length ys) zs)

  pub begins_behind : (xs more ys zs : List A) → ys ≡ xs ++ more → take (length ys) zs ≡ ys → take (length xs) zs ≡ xs
  begins_behind xs more ys zs is next = begins_on xs ys zs (ap (take (length xs)) is ∙ take-append_seam xs more) next
