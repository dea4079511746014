-- A text that is `SIG(..)`, and what stands in its parentheses.
use Rattle.std.proofs.Common.{◌≡◌, ℕ, ◌-◌, Bool, true, false, ◌&&◌, eq-eqb, [], ◌∷◌, ◌++◌, length, length-append, take, drop, take-append-drop, Option, None, Some, refl, ap, sym, ◌∙◌, arith, true≢false}
use Rattle.std.specs.Prelude.{codes, nat_eq}
use Rattle.std.specs.Option.{MatchOption}
use Rattle.std.proofs.Math.Seq.{drop-append_seam}
use Rattle.dubp_atoms.specs.Same.{Text, same_text}
use Rattle.dubp_atoms.proofs.Same.{same_text_is, same_text_own}

pub match_weaker : {X : Type 0} (o : Option X) {P P' : Type 0} {Q Q' : X → Type 0} → (P → P') → ((x : X) → Q x → Q' x) → MatchOption o P Q → MatchOption o P' Q'
match_weaker None none some m = none m
match_weaker (Some x) none some m = some x m

-- a text whose front is this one
pub front_is : (text rest front : Text) (n : ℕ) → same_text (take n text) front ≡ true → rest ≡ drop n text → text ≡ front ++ rest
front_is text rest front n same is =
    sym (take-append-drop n text) ∙ (λ i. same_text_is (take n text) front same i ++ sym is i)

-- a text whose end is this one
pub end_is : (text rest back : Text) (n : ℕ) → same_text (drop n text) back ≡ true → rest ≡ take n text → text ≡ rest ++ back
end_is text rest back n same is =
    sym (take-append-drop n text) ∙ (λ i. sym is i ++ same_text_is (drop n text) back same i)

false_and : (b : Bool) → (b && false) ≡ false
false_and true = refl
false_and false = refl

-- the same sign behind two texts tells nothing
same_behind : (e : ℕ) (x k : Text) → same_text (x ++ e ∷ []) (k ++ e ∷ []) ≡ same_text x k
same_behind e [] [] = ap (λ b. b && true) (eq-eqb e e refl)
same_behind e [] (y ∷ []) = false_and (nat_eq e y)
same_behind e [] (y ∷ z ∷ k) = false_and (nat_eq e y)
same_behind e (y ∷ []) [] = false_and (nat_eq y e)
same_behind e (y ∷ z ∷ k) [] = false_and (nat_eq y e)
same_behind e (x ∷ xs) (y ∷ ys) = ap (λ b. nat_eq x y && b) (same_behind e xs ys)

pub same_signer : (text rest key k : Text) → text ≡ codes "SIG(" ++ rest → rest ≡ key ++ 41 ∷ [] → same_text text (codes "SIG(" ++ (k ++ 41 ∷ [])) ≡ same_text key k
same_signer text rest key k front back =
    ap (λ t. same_text t (codes "SIG(" ++ (k ++ 41 ∷ []))) front ∙ ap (λ r. same_text r (k ++ 41 ∷ [])) back ∙ same_behind 41 key k

last_sign : (e : ℕ) (k : Text) → drop (length (k ++ e ∷ []) - 1) (k ++ e ∷ []) ≡ e ∷ []
last_sign e k =
    let place : length (k ++ e ∷ []) - 1 ≡ length k = omega (arith, length-append k (e ∷ [])) in
    ap (λ n. drop n (k ++ e ∷ [])) place ∙ drop-append_seam k (e ∷ [])

other_end : (e : ℕ) (rest k : Text) → same_text (drop (length rest - 1) rest) (e ∷ []) ≡ false → same_text rest (k ++ e ∷ []) ≡ false
other_end e rest k other = elim (same_text rest (k ++ e ∷ [])) as (λ r. same_text rest (k ++ e ∷ []) ≡ r → r ≡ false) [
  | true ↦ λ same.
      let is : rest ≡ k ++ e ∷ [] = same_text_is rest (k ++ e ∷ []) same in
      absurd (true≢false (sym (ap (λ t. same_text t (e ∷ [])) (ap (λ r. drop (length r - 1) r) is ∙ last_sign e k) ∙ same_text_own (e ∷ [])) ∙ other))
  | false ↦ λ same. refl
] refl

pub no_signer : (text rest k : Text) → text ≡ codes "SIG(" ++ rest → same_text (drop (length rest - 1) rest) (41 ∷ []) ≡ false → same_text text (codes "SIG(" ++ (k ++ 41 ∷ [])) ≡ false
no_signer text rest k front other =
    ap (λ t. same_text t (codes "SIG(" ++ (k ++ 41 ∷ []))) front ∙ other_end 41 rest k other
