-- What a chain's tables are with one block more and one less, and where blocks are held and come back: each state stays that of its part
-- of the chain, within the bound. And what the last blocks add at most.
use Rattle.std.proofs.Common.{◌≡◌, ◌∙◌, ◌≤◌, ◌<◌, ◌+◌, ℕ, zero, suc, List, [], ◌∷◌, Option, Some, None, length, drop, drop-drop, refl, ap, subst, arith}
use Rattle.dubp_block.specs.declared.block.Block.{Block}
use Rattle.dubp_chain.specs.Chains.{Chain}
use Rattle.dubp_moving.specs.Chains.{Waits, stands_now, stands_back, stands_but_last, stands_stay, waits_stay}
use Rattle.dubp_moving.specs.Others.{Others, but_last}
use Rattle.dubp_head.specs.HeadsStates.{HeadsState}
use Rattle.dubp_chain.specs.declared.head.Head.{Head}
use Rattle.dubp_kept.specs.KeptChain.{Out, KeptChain, AreKept, AreStates, HasOut, Stands as KeepsOut, last_steps, most_steps, steps_of_last, Fits, StandsWithin, WaitsWithin}
use Rattle.dubp_kept.proofs.Moved.{drop_next}

first_left : (i : ℕ) (o : Chain) → i < length o → (b : Block) × ((c : Chain) × (drop i o ≡ b ∷ c))
first_left zero [] below = absurd (omega (arith, below))
first_left zero (b ∷ o) below = (b, (o, refl))
first_left (suc i) [] below = absurd (omega (arith, below))
first_left (suc i) (b ∷ o) below = first_left i o (omega (arith, below))

-- what was a state's chain is so by other names
module _ {N : Type 0} (is is' : N → Chain → Type 0) (stays : (n : N) (c : Chain) → is n c → is' n c) where
  fits_stay : (x : N × ℕ) (c : Chain) → Fits is x c → Fits is' x c
  fits_stay x c f = (stays x.0 c f.0, f.1)

  pub within_same : (now now' : N) (count count' : ℕ) (kept kept' : List (N × ℕ)) (c : Chain) → now' ≡ now → count' ≡ count → kept' ≡ kept → StandsWithin is now count kept c → StandsWithin is' now' count' kept' c
  within_same now now' count count' kept kept' c n m k s = rw (n, m, k) (stands_stay (Fits is) (Fits is') fits_stay (now, count) kept c s)

  -- the last kept state came back
  pub within_back : (now now' : N) (count count' : ℕ) (kept kept' : List (N × ℕ)) (c : Chain) → (now', count') ∷ kept' ≡ (now, count) ∷ kept → StandsWithin is now count kept c → StandsWithin is' now' count' kept' c
  within_back now now' count count' kept kept' c e =
      let first : ◌≡◌ {A = N × ℕ} (now', count') (now, count) = cc in
      let n : now' ≡ now = ap (λ x. x.0) first in
      let m : count' ≡ count = ap (λ x. x.1) first in
      let k : kept' ≡ kept = cc in
      within_same now now' count count' kept kept' c n m k

  -- without the oldest kept state
  pub within_fewer : (now now' : N) (count count' : ℕ) (kept kept' : List (N × ℕ)) (c : Chain) → now' ≡ now → count' ≡ count → kept' ≡ but_last kept → StandsWithin is now count kept c → StandsWithin is' now' count' kept' c
  within_fewer now now' count count' kept kept' c n m k s = rw (n, m, k) (stands_but_last (Fits is') (now, count) kept c (stands_stay (Fits is) (Fits is') fits_stay (now, count) kept c s))

  pub waits_same : (others others' : Others N) (o : Chain) (i : ℕ) → others'.ahead ≡ others.ahead → others'.root ≡ others.root → WaitsWithin is others o i → WaitsWithin is' others' o i
  waits_same others others' o i a r w =
      (rw a (waits_stay (Fits is) (Fits is') fits_stay others.ahead o i w.0), λ some. rw r (stays others.root (drop i o) (w.1 some)))

  pub within_more : (now now' : N) (count count' : ℕ) (kept kept' : List (N × ℕ)) (b : Block) (c : Chain) → kept' ≡ (now, count) ∷ kept → is' now' (b ∷ c) → count' ≤ most_steps c b → StandsWithin is now count kept c → StandsWithin is' now' count' kept' (b ∷ c)
  within_more now now' count count' kept kept' b c k p few s = rw k ((p, few), stands_stay (Fits is) (Fits is') fits_stay (now, count) kept c s)

  pub within_less : (now now' : N) (count count' : ℕ) (kept kept' : List (N × ℕ)) (c : Chain) → kept ≡ (now', count') ∷ kept' → StandsWithin is now count kept c → StandsWithin is' now' count' kept' (drop 1 c)
  within_less now now' count count' kept kept' c k s =
      stands_stay (Fits is) (Fits is') fits_stay (now', count') kept' (drop 1 c) (stands_back (Fits is) (now, count) (now', count') kept' c (subst (λ l. StandsWithin is now count l c) k s))

  -- one block more is off
  pub within_held : (now now' : N) (count count' : ℕ) (others others' : Others N) (o : Chain) (i : ℕ) → others.kept ≡ (now', count') ∷ others'.kept → others'.ahead ≡ (now, count) ∷ others.ahead → others'.root ≡ now'
      → StandsWithin is now count others.kept (drop i o) → WaitsWithin is others o i → StandsWithin is' now' count' others'.kept (drop (i + 1) o) × WaitsWithin is' others' o (i + 1)
  within_held now now' count count' others others' o i k a r s w =
      let back : StandsWithin is' now' count' others'.kept (drop (i + 1) o) = subst (λ d. StandsWithin is' now' count' others'.kept d) (drop-drop 1 i o) (within_less now now' count count' others.kept others'.kept (drop i o) k s) in
      let next : i + 1 ≡ suc i = omega arith in
      let held : Waits (Fits is') ((now, count) ∷ others.ahead) o (suc i) = (fits_stay (now, count) (drop i o) (stands_now (Fits is) (now, count) others.kept (drop i o) s), waits_stay (Fits is) (Fits is') fits_stay others.ahead o i w.0) in
      (back, (rw (a, next) held, λ some. rw r ((stands_now (Fits is') (now', count') others'.kept (drop (i + 1) o) back).0)))

  -- one block less is off
  pub within_again : (now now' : N) (count count' : ℕ) (others others' : Others N) (o : Chain) (i : ℕ) → i < length o → others'.kept ≡ (now, count) ∷ others.kept → others.ahead ≡ (now', count') ∷ others'.ahead → others'.root ≡ now'
      → StandsWithin is now count others.kept (drop (i + 1) o) → WaitsWithin is others o (i + 1) → (StandsWithin is' now' count' others'.kept (drop i o) × WaitsWithin is' others' o i) × (count' ≤ last_steps (drop i o))
  within_again now now' count count' others others' o i below k a r s w =
      let next : i + 1 ≡ suc i = omega arith in
      let waits : Waits (Fits is) ((now', count') ∷ others'.ahead) o (suc i) = subst (λ l. Waits (Fits is) l o (suc i)) a (subst (λ n. Waits (Fits is) others.ahead o n) next w.0) in
      let here : Fits is' (now', count') (drop i o) = fits_stay (now', count') (drop i o) waits.0 in
      let at = first_left i o below in
      let rest : drop (i + 1) o ≡ at.1.0 = drop_next i o at.1.0 at.0 at.1.1 in
      let stands : StandsWithin is' now' count' ((now, count) ∷ others.kept) (at.0 ∷ at.1.0) =
      (subst (λ d. Fits is' (now', count') d) at.1.1 here, stands_stay (Fits is) (Fits is') fits_stay (now, count) others.kept at.1.0 (subst (λ d. StandsWithin is now count others.kept d) rest s)) in
      ((rw (k, at.1.1) stands, (waits_stay (Fits is) (Fits is') fits_stay others'.ahead o i waits.1, λ some. rw r here.0)), here.1)

-- the state now, and how many keys were set to it
pub now_is : {N : Type 0} (is : N → Chain → Type 0) (now : N) (count : ℕ) (kept : List (N × ℕ)) (c d : Chain) → c ≡ d → StandsWithin is now count kept c → is now d
now_is is now count kept c d e s = subst (λ x. is now x) e ((stands_now (Fits is) (now, count) kept c s).0)

pub last_within : {N : Type 0} (is : N → Chain → Type 0) (now : N) (count : ℕ) (kept : List (N × ℕ)) (c : Chain) → StandsWithin is now count kept c → count ≤ last_steps c
last_within is now count kept c s = (stands_now (Fits is) (now, count) kept c s).1

-- the states of tables that are kept, by what contracts see
pub states_of : {N : Type 0} (is : N → Chain → Type 0) (now : N) (count : ℕ) (others : Others N) (out : Option Out) (heads : HeadsState) (behind : List Head) (c : Chain) (room : ℕ) (s : KeptChain)
    → AreKept (StandsWithin is now count others.kept) (WaitsWithin is others) (length others.kept) (length others.ahead) heads behind c room out → record { chain = c; kept = length others.kept; out = out } ≡ s → AreStates is now count others s
states_of is now count others out heads behind c room s k e =
    subst (AreStates is now count others) e (record { stands = k.stands_is; as_many = refl; ahead = has_out out k.out_is })
  where
    has_out : (o : Option Out) → KeepsOut (WaitsWithin is others) (length others.kept) (length others.ahead) heads behind c room o → HasOut is others o
    has_out None s = s.1
    has_out (Some o) s = s.waits_is

steps_next : (count : ℕ) (c : Chain) → steps_of_last (suc count) c ≡ steps_of_last count c + last_steps (drop count c)
steps_next zero [] = refl
steps_next zero (b ∷ c) = omega arith
steps_next (suc count) [] = refl
steps_next (suc count) (b ∷ c) = omega (arith, steps_next count c)

pub steps_on : (count : ℕ) (c : Chain) → steps_of_last (count + 1) c ≡ steps_of_last count c + last_steps (drop count c)
steps_on count c =
    let next : count + 1 ≡ suc count = omega arith in
    ap (λ n. steps_of_last n c) next ∙ steps_next count c
