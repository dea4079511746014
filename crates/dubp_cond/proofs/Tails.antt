-- What a loop that writes texts with a word between has still to write.
use Rattle.std.proofs.Common.{◌≡◌, ℕ, suc, ◌+◌, ◌<◌, List, [], ◌∷◌, ◌++◌, length, get_or, drop, refl, sym, ap, ◌∙◌, arith, append_assoc, length-append, add-one, drop-cons}
use Rattle.std.proofs.lemmas.List.{append-nil}
use Rattle.dubp_cond.specs.Joined.{joined}

-- the texts, with what stands before the first, and the word before each other
abbrev pub tail : List ℕ → List ℕ → List (List ℕ) → List ℕ
tail before word [] = []
tail before word (t ∷ ts) = before ++ (t ++ tail word word ts)

pub joined_tail : (word : List ℕ) (ts : List (List ℕ)) → tail [] word ts ≡ joined word ts
joined_tail word [] = refl
joined_tail word (t ∷ []) = append-nil t
joined_tail word (t ∷ u ∷ ts) = ap (λ v. t ++ (word ++ v)) (joined_tail word (u ∷ ts))

drop_next : {A : Type 0} (i : ℕ) (items : List A) (x : A) → i < length items → x ≡ get_or items i x → drop i items ≡ x ∷ drop (i + 1) items
drop_next i items x h is = rw (add-one, drop-cons items i x h) (ap (λ v. v ∷ drop (suc i) items) (sym is))

-- one turn of the loop over the items, whose texts are `texts`
module _ {X : Type 0} (texts : List X → List (List ℕ)) (text : X → List ℕ) (more : (x : X) (xs : List X) → texts (x ∷ xs) ≡ text x ∷ texts xs) (word before : List ℕ) (items : List X) (i : ℕ) (x : X)
    (within : i < length items) (is : x ≡ get_or items i x) where
  rest : tail before word (texts (drop i items)) ≡ before ++ (text x ++ tail word word (texts (drop (i + 1) items)))
  rest = ap (tail before word) (ap texts (drop_next i items x within is) ∙ more x (drop (i + 1) items))

  pub text_turn : (at next out all : List ℕ) → at ++ tail before word (texts (drop i items)) ≡ all → next ≡ at ++ before → out ≡ next ++ text x →
      out ++ tail word word (texts (drop (i + 1) items)) ≡ all
  text_turn at next out all h a b =
      let left = tail word word (texts (drop (i + 1) items)) in
      rw (b, a, append_assoc (at ++ before) (text x) left, append_assoc at before (text x ++ left)) (ap (λ v. at ++ v) (sym rest) ∙ h)

  pub room_turn : (at next out all : ℕ) → at + length (tail before word (texts (drop i items))) ≡ all → next ≡ at + length before → out ≡ next + length (text x) →
      out + length (tail word word (texts (drop (i + 1) items))) ≡ all
  room_turn at next out all h a b =
      let left = tail word word (texts (drop (i + 1) items)) in
      omega (arith, ap length rest, length-append before (text x ++ left), length-append (text x) left)
