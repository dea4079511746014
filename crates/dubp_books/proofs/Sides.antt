-- The states of a pair of tables that are those of a chain: so are those of either.
use Rattle.std.proofs.Common.{◌≡◌, ◌+◌, ℕ, zero, suc, List, [], ◌∷◌, length, Option, Some, None, ◌∙◌, sym, arith}
use Rattle.dubp_chain.specs.Chains.{Chain}
use Rattle.dubp_moving.specs.Chains.{Waits}
use Rattle.dubp_moving.specs.Others.{Others, zip, zip_others, length_zip}
use Rattle.dubp_kept.specs.KeptChain.{KeptChain, Out, AreStates, Fits, HasOut, StandsWithin}

module _ {M N : Type 0} (is : M → Chain → Type 0) (is' : N → Chain → Type 0) where
  abbrev Both : M × N → Chain → Type 0
  Both n c = is n.0 c × is' n.1 c

  fits : (m : M) (n : N) (p q : ℕ) (c : Chain) → Fits Both ((m, n), p + q) c → Fits is (m, p) c × Fits is' (n, q) c
  fits m n p q c f = ((f.0.0, omega (arith, f.1)), (f.0.1, omega (arith, f.1)))

  sides_stand : (m : M) (n : N) (p q : ℕ) (xs : List (M × ℕ)) (ys : List (N × ℕ)) (c : Chain) → length xs ≡ length ys → StandsWithin Both (m, n) (p + q) (zip xs ys) c → StandsWithin is m p xs c × StandsWithin is' n q ys c
  sides_stand m n p q [] [] c e s = fits m n p q c s
  sides_stand m n p q [] (y ∷ ys) c e s = absurd (omega (arith, e))
  sides_stand m n p q (x ∷ xs) [] c e s = absurd (omega (arith, e))
  sides_stand m n p q (x ∷ xs) (y ∷ ys) [] e s = absurd s
  sides_stand m n p q (x ∷ xs) (y ∷ ys) (b ∷ c) e s =
      let here = fits m n p q (b ∷ c) s.0 in
      let rest = sides_stand x.0 y.0 x.1 y.1 xs ys c (omega (arith, e)) s.1 in
      ((here.0, rest.0), (here.1, rest.1))

  sides_wait : (xs : List (M × ℕ)) (ys : List (N × ℕ)) (o : Chain) (i : ℕ) → length xs ≡ length ys → Waits (Fits Both) (zip xs ys) o i → Waits (Fits is) xs o i × Waits (Fits is') ys o i
  sides_wait [] [] o i e w = (w, w)
  sides_wait [] (y ∷ ys) o i e w = absurd (omega (arith, e))
  sides_wait (x ∷ xs) [] o i e w = absurd (omega (arith, e))
  sides_wait (x ∷ xs) (y ∷ ys) o zero e w = absurd w
  sides_wait (x ∷ xs) (y ∷ ys) o (suc i) e w =
      let here = fits x.0 y.0 x.1 y.1 _ w.0 in
      let rest = sides_wait xs ys o i (omega (arith, e)) w.1 in
      ((here.0, rest.0), (here.1, rest.1))

  sides_out : (o : Others M) (p : Others N) (out : Option Out) → length o.ahead ≡ length p.ahead → HasOut Both (zip_others o p) out → HasOut is o out × HasOut is' p out
  sides_out o p None e h =
      let none = length_zip o.ahead p.ahead e in
      (omega (arith, none, h), omega (arith, none, h, e))
  sides_out o p (Some out) e h =
      let both = sides_wait o.ahead p.ahead out.chain out.taken e h.0 in
      ((both.0, λ some. (h.1 some).0), (both.1, λ some. (h.1 some).1))

  pub sides : (m : M) (n : N) (p q : ℕ) (o : Others M) (l : Others N) (s : KeptChain) → length o.kept ≡ length l.kept → length o.ahead ≡ length l.ahead → AreStates Both (m, n) (p + q) (zip_others o l) s → AreStates is m p o s × AreStates is' n q l s
  sides m n p q o l s even even_ahead a =
      let stand = sides_stand m n p q o.kept l.kept s.chain even a.stands in
      let out = sides_out o l s.out even_ahead a.ahead in
      let many = length_zip o.kept l.kept even in (
        record { stands = stand.0; as_many = omega (arith, many, a.as_many); ahead = out.0 },
        record { stands = stand.1; as_many = omega (arith, many, a.as_many, even); ahead = out.1 },
      )
