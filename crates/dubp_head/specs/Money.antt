-- The money at a later block by the median time of the chain with it: what `later_head` of `dubp_chain` says, cut into the values
-- that the code computes one by one. These words mirror the code.
use Rattle.std.specs.Prelude.{ℕ, ◌+◌, ◌^◌, ◌<◌, ◌≤◌, IsTrue, Option, Some, None, nat_le, if◌then◌else◌, List, ⊤}
use Rattle.dubp_params.specs.declared.params.Params.{Params}
use Rattle.dubp_block.specs.declared.block.Block.{Block}
use Rattle.dubp_dividend.specs.declared.dividends.Dividend.{Dividend}
use Rattle.dubp_dividend.specs.Reevaluation.{numerator, next_in_base}
use Rattle.dubp_rules.specs.declared.rule.Rule.{Rule}
use Rattle.dubp_rules.specs.declared.rule.Rule.TheVariants.{X03, X04, X08}
use Rattle.dubp_chain.specs.declared.head.Head.{Head}
use Rattle.dubp_chain.specs.Heads.{dividend_of, later_head, paid_units}
use Rattle.dubp_head.specs.declared.money.Money.{Money}

abbrev pub amount_at : Params → ℕ → Head → ℕ → Dividend
amount_at p count h time =
    if nat_le h.ud_reeval_time time then next_in_base (dividend_of h) h.mass_reeval count p else dividend_of h

abbrev pub paid_at : Params → ℕ → Head → ℕ → Option ℕ
paid_at p count h time = if nat_le h.ud_time time then Some (amount_at p count h time).amount else None

abbrev pub mass_at : Params → ℕ → Head → ℕ → ℕ
mass_at p count h time = h.mass + paid_units (paid_at p count h time) (amount_at p count h time).base count

abbrev pub money_at : Params → ℕ → Head → ℕ → Money
money_at p count h time = record {
  dividend = (amount_at p count h time).amount;
  unit_base = (amount_at p count h time).base;
  mass = mass_at p count h time;
  mass_reeval = if nat_le h.ud_reeval_time time then h.mass else h.mass_reeval;
  ud = paid_at p count h time;
}

-- what the limits say of that money
abbrev pub MoneyHolds : Params → ℕ → Head → ℕ → Rule → Type 0
MoneyHolds p count h time X03 = IsTrue (nat_le h.ud_reeval_time time) → numerator h.unit_base h.mass_reeval count p < 2 ^ 127
MoneyHolds p count h time X04 = (amount_at p count h time).base ≤ 15
MoneyHolds p count h time X08 = ((amount_at p count h time).amount < 2 ^ 53) × (mass_at p count h time < 2 ^ 100)
MoneyHolds p count h time rule = ⊤

-- a head with this money
abbrev pub with_money : Head → Money → Head
with_money h m =
    record h { dividend = m.dividend; unit_base = m.unit_base; mass = m.mass; mass_reeval = m.mass_reeval; ud = m.ud }

-- the head at a later block with no dividend and the money of the head before
abbrev pub later_without : Params → ℕ → Head → List Head → Block → Head
later_without p count h hs b =
    record (later_head p count h hs b) { dividend = h.dividend; unit_base = h.unit_base; mass = h.mass; mass_reeval = h.mass_reeval; ud = None }
