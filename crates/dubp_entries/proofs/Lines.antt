-- The first line of some bytes.
use Rattle.std.proofs.Common.{◌≡◌, ◌≢◌, ℕ, suc, ◌+◌, ◌<◌, List, [], ◌∷◌, ◌++◌, length, get_or, take, drop, sym, ◌∙◌, ap, arith, eq-eqb, eqb-true, take-append-drop, get_or-take, Option, None, Some, MatchOption}
use Rattle.std.proofs.lemmas.List.{drop_more, length-take-le}
use Rattle.memchr.specs.Find.{IsFirstByte, is_byte}
use Rattle.dubp_atoms.specs.Letters.{LF}
use Rattle.dubp_entries.specs.Entries.{IsText}

pub text_by_index : (hand : List ℕ) → ((k : ℕ) → k < length hand → get_or hand k 0 ≢ LF) → IsText hand
text_by_index [] h = tt
text_by_index (b ∷ bs) h = (h 0 (omega arith), text_by_index bs (λ k l. h (suc k) (omega arith)))

pub line_at : (hand : List ℕ) (i : ℕ) → i < length hand → get_or hand i 0 ≡ LF → ((k : ℕ) → k < i → get_or hand k 0 ≢ LF) → IsText (take i hand) × (hand ≡ take i hand ++ LF ∷ drop (i + 1) hand)
line_at hand i within here before =
    let len : length (take i hand) ≡ i = length-take-le i hand (omega arith) in (
      text_by_index (take i hand) (λ k l e. let lt : k < i = omega arith in before k lt (sym (get_or-take i hand k 0 lt) ∙ e)),
      sym (take-append-drop i hand) ∙ ap (λ t. take i hand ++ t) (drop_more hand i 0 within ∙ ap (λ t. t ∷ drop (i + 1) hand) here),
    )

pub line_found : (hand : List ℕ) (r : Option ℕ) → IsFirstByte (is_byte 10) hand r → MatchOption r (IsText hand) (λ i. (i < length hand) × IsText (take i hand) × (hand ≡ take i hand ++ LF ∷ drop (i + 1) hand))
line_found hand None p = text_by_index hand (λ k l e. p k (omega arith) l (eq-eqb (get_or hand k 0) 10 e))
line_found hand (Some i) p =
    let within : i < length hand = p.0.high in
    let here : get_or hand i 0 ≡ LF = eqb-true (get_or hand i 0) 10 p.1 in
    let l = line_at hand i within here (λ k lt e. p.0.before k (omega arith) lt (eq-eqb (get_or hand k 0) 10 e)) in
    (within, l.0, l.1)
