-- A place in one word, of which the greatest number stands for none.
use Rattle.std.specs.Prelude.{◌≡◌, ℕ, ◌==◌, ◌<◌, ◌^◌, Option, None, Some, cond, true, false, refl, unwrap_or}
use Rattle.std.proofs.Common.{sym, ap, arith}
use Rattle.std.proofs.lemmas.Bool.{eqb-true, ne_eqb}

abbrev pub greatest : ℕ
greatest = 18446744073709551615

abbrev pub place_in : ℕ → Option ℕ
place_in word = cond (word == greatest) None (Some word)

abbrev pub word_of : Option ℕ → ℕ
word_of o = unwrap_or o greatest

pub word_of_place_in : (word : ℕ) → word_of (place_in word) ≡ word
word_of_place_in word =
    elim (word == greatest) as (λ b. word == greatest ≡ b → word_of (cond b None (Some word)) ≡ word) [
      | true ↦ λ e. sym (eqb-true word greatest e)
      | false ↦ λ _. refl
    ] refl

-- a place that is below the greatest
pub place_in_fits : (place : ℕ) → place < 2 ^ 63 → place_in place ≡ Some place
place_in_fits place fits = ap (λ b. cond b None (Some place)) (ne_eqb place greatest (λ e. omega (arith, fits, e)))
