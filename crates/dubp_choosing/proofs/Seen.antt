-- What a view holds is enough to choose by.
use Rattle.std.proofs.Common.{◌≡◌, ℕ, zero, suc, ◌+◌, ◌<◌, List, [], ◌∷◌, ◌++◌, map, length, drop, take, reverse, slice_get, Option, Some, None, refl, sym, ap, ◌∙◌, arith}
use Rattle.std.specs.Option.{option_map}
use Rattle.std.proofs.lemmas.List.{length-map, reverse-append}
use Rattle.dubp_atoms.specs.declared.stamp.Stamp.{Stamp}
use Rattle.dubp_block.specs.declared.block.Block.{Block}
use Rattle.dubp_block.specs.Text.{stamp_of}
use Rattle.dubp_chain.specs.Chains.{Chain}
use Rattle.dubp_validity.specs.Rules.{IsSound}
use Rattle.dubp_resolve.specs.Choice.{choice}
use Rattle.dubp_resolve.proofs.Last.{same_choice}
use Rattle.dubp_replay.specs.declared.failure.Failure.{Failure}
use Rattle.dubp_replay.specs.Turns.{Branches, choices_of, offered, previous_stamp}
use Rattle.dubp_choosing.specs.States.{choosing, list_of, seen_of}
use Rattle.dubp_choosing.proofs.Offers.{counted}

pub choice_seen : (b : Branches) (fs : List Failure) → IsSound b.chain → choice (seen_of b fs) ≡ choice (choices_of (choosing b fs))
choice_seen b fs sound = same_choice (choices_of (choosing b fs)) (counted b.chain sound) (sym (length-map b.chain stamp_of))

-- ---- the last stamps, one after another
one_of : (o : Option Stamp) → reverse (list_of o) ≡ list_of o
one_of None = refl
one_of (Some s) = refl

next : (c : Chain) (n m : ℕ) → n < m → drop n (take m (map stamp_of c)) ≡ list_of (option_map stamp_of (slice_get c n)) ++ drop (suc n) (take m (map stamp_of c))
next [] n zero l = absurd (omega arith)
next [] zero (suc m) l = refl
next [] (suc n) (suc m) l = refl
next (b ∷ c) n zero l = absurd (omega arith)
next (b ∷ c) zero (suc m) l = refl
next (b ∷ c) (suc n) (suc m) l = next c n m (omega arith)

pub one_before : (c : Chain) (n m : ℕ) → n < m → reverse (drop (suc n) (take m (map stamp_of c))) ++ list_of (option_map stamp_of (slice_get c n)) ≡ reverse (drop n (take m (map stamp_of c)))
one_before c n m l =
    let o = option_map stamp_of (slice_get c n) in
    ap (λ x. reverse (drop (suc n) (take m (map stamp_of c))) ++ x) (sym (one_of o)) ∙ sym (reverse-append (list_of o) (drop (suc n) (take m (map stamp_of c)))) ∙ ap reverse (sym (next c n m l))

past : (xs : List Stamp) (m : ℕ) → drop m (take m xs) ≡ []
past xs zero = refl
past [] (suc m) = refl
past (x ∷ xs) (suc m) = past xs m

pub none_before : (c : Chain) (m : ℕ) → reverse (drop m (take m (map stamp_of c))) ≡ []
none_before c m = ap reverse (past (map stamp_of c) m)

-- with one stamp more
pub with_one : (c : Chain) (n m : ℕ) (o : Option Stamp) (stamps : List Stamp) → n < m → stamps ≡ reverse (drop (suc n) (take m (map stamp_of c))) → o ≡ option_map stamp_of (slice_get c n)
    → stamps ++ list_of o ≡ reverse (drop n (take m (map stamp_of c)))
with_one c n m o stamps l is e = ap (λ x. stamps ++ list_of x) e ∙ ap (λ x. x ++ list_of (option_map stamp_of (slice_get c n))) is ∙ one_before c n m l

pub first_one : (c : Chain) (kept count : ℕ) (o : Option Stamp) (stamps : List Stamp) → count ≡ kept → stamps ≡ [] → o ≡ option_map stamp_of (slice_get c count)
    → stamps ++ list_of o ≡ reverse (drop count (take (kept + 1) (map stamp_of c)))
first_one c kept count o stamps same is e =
    with_one c count (kept + 1) o stamps (omega arith)
    (is ∙ sym (none_before c (kept + 1)) ∙ ap (λ n. reverse (drop n (take (kept + 1) (map stamp_of c)))) (let s : kept + 1 ≡ suc count = omega arith in s)) e

-- ---- stored blocks, one after another
pub with_entry : (store : List Block) (place : ℕ) (s : Stamp) (p : Option Stamp) → place < length store → ((b : Block) → slice_get store place ≡ Some b → (s ≡ stamp_of b) × (p ≡ previous_stamp b))
    → map offered (take place store) ++ record { stamp = s; previous = p } ∷ [] ≡ map offered (take (suc place) store)
with_entry [] place s p l h = absurd (omega arith)
with_entry (b ∷ store) zero s p l h = let e = h b refl in let f = e.0 in let g = e.1 in λ i. record { stamp = f i; previous = g i } ∷ []
with_entry (b ∷ store) (suc place) s p l h = ap (λ x. offered b ∷ x) (with_entry store place s p (omega arith) h)
