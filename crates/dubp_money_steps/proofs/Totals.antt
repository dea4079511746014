-- The steps of totals and of transaction hashes.
use Rattle.std.proofs.Common.{◌≡◌, ℕ, ◌+◌, ◌≤◌, cond, true, false, nat_lt, List, [], ◌∷◌, ◌++◌, length, arith, length-append}
use Rattle.std.proofs.lemmas.List.Sums.{sum_by-cons, sum_by-append}
use Rattle.std.proofs.lemmas.List.Folds.{list_any-append}
use Rattle.dubp_atoms.specs.Same.{same_text}
use Rattle.dubp_block.specs.declared.block.Block.{Block}
use Rattle.dubp_chain.specs.Chains.{Chain}
use Rattle.dubp_chain.specs.Heads.{units, newest, next_head, is_reevaluated, dividend_of, heads_of, unit_base_of, issued}
use Rattle.dubp_chain.specs.Chains.{params}
use Rattle.dubp_chain.specs.Members.{members}
use Rattle.dubp_chain.specs.declared.head.Head.{Head}
use Rattle.dubp_params.specs.declared.params.Params.{Params}
use Rattle.dubp_dividend.specs.Reevaluation.{raised_amount, rebased, of_base, next_in_base}
use Rattle.std.specs.Option.{option_map_or}
use Rattle.std.specs.Int.{div_ceil}
use Rattle.std.proofs.Math.Nat.{mul-le-mul_left, pow-le-pow_right}
use Rattle.dubp_chain.specs.Money.{units_of, made_sources, cleared_by, cleared, unspent_units, cleared_units, hashes_in, hashes_of}
use Rattle.dubp_laws.specs.OfValidity.{IsSound}
use Rattle.dubp_laws.proofs.Mass.{issued_at}
use Rattle.dubp_laws.proofs.Conservation.{conserves}
use Rattle.dubp_money_steps.specs.Steps.{head_with, issued_by, cleared_units_by, outputs_of, dividends_of, TotalsGoOn, TransactionsGoOn, LimitStays}

-- what is left falls by what is cleared and rises by what is issued, since what was issued is always unspent or cleared
unspent_goes_on : (issued' unspent' cleared' issued_before unspent_before cleared_before new gone : ℕ)
    → issued' ≡ unspent' + cleared' → issued_before ≡ unspent_before + cleared_before
    → issued' ≡ issued_before + new → cleared' ≡ cleared_before + gone → unspent' + gone ≡ unspent_before + new
unspent_goes_on issued' unspent' cleared' issued_before unspent_before cleared_before new gone whole before adds clears = omega arith

three : {X : Type 0} (xs ys zs : List X) → length (xs ++ (ys ++ zs)) ≡ length xs + length ys + length zs
three xs ys zs = omega (arith, length-append xs (ys ++ zs), length-append ys zs)

module _ (c : Chain) (b : Block) (sound : IsSound (b ∷ c)) where
  issued_more : issued (b ∷ c) ≡ issued c + issued_by c b
  issued_more = omega (arith, sum_by-cons issued_at (head_with c b) (heads_of c))

  cleared_more : cleared_units (b ∷ c) ≡ cleared_units c + cleared_units_by c b
  cleared_more = sum_by-append units_of (cleared c) (cleared_by c b (cleared c))

  pub totals_go_on : TotalsGoOn c b
  totals_go_on = record {
    issued = issued_more;
    cleared = cleared_more;
    unspent = unspent_goes_on (issued (b ∷ c)) (unspent_units (b ∷ c)) (cleared_units (b ∷ c)) (issued c) (unspent_units c) (cleared_units c) (issued_by c b) (cleared_units_by c b)
        (conserves (b ∷ c) sound).units (conserves c sound.1).units issued_more cleared_more;
    made = three (made_sources c) (outputs_of c b) (dividends_of c b);
  }

pub transactions_go_on : (c : Chain) (b : Block) → TransactionsGoOn c b
transactions_go_on c b hash = list_any-append (same_text hash) (hashes_in b) (hashes_of c)

-- ---- the limit

rebased_up : (amount base : ℕ) → base ≤ (rebased amount base).base
rebased_up amount base = elim (nat_lt amount 10000) as (λ r. base ≤ (cond r (of_base amount base) (of_base (div_ceil amount 10) (base + 1))).base) [ true ↦ omega arith | false ↦ omega arith ]

base_up : (p : Params) (n : ℕ) (hs : List Head) (b : Block) → option_map_or (λ (h : Head). h.unit_base) (newest hs) 0 ≤ (next_head p n hs b).unit_base
base_up p n [] b = omega arith
base_up p n (h ∷ hs) b =
    elim (is_reevaluated p h (h ∷ hs)) as (λ r. h.unit_base ≤ (cond r (next_in_base (dividend_of h) h.mass_reeval n p) (dividend_of h)).base) [
      | true ↦ rebased_up (raised_amount (dividend_of h) h.mass_reeval n p) h.unit_base
      | false ↦ omega arith
    ]

units_up : (a b : ℕ) → a ≤ b → units 100 a ≤ units 100 b
units_up a b le = mul-le-mul_left 100 (pow-le-pow_right (omega arith) le)

pub limit_stays : (c : Chain) (b : Block) → LimitStays c b
limit_stays c b = units_up (unit_base_of c) (unit_base_of (b ∷ c)) (base_up (params (b ∷ c)) (length (members (b ∷ c))) (heads_of c) b)
