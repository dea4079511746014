-- How much the sources of a chain have: what is unspent is within the mass, and the amount of each source has its bounds. The rows of
-- sources have their units.
use Rattle.std.proofs.Common.{◌≡◌, ℕ, ◌+◌, ◌*◌, ◌^◌, ◌<◌, ◌≤◌, List, [], ◌∷◌, length, sum_by, refl, ap, sym, ◌∙◌, arith, add_comm}
use Rattle.std.specs.List.{AllByRecursion, enumerate_from}
use Rattle.std.proofs.lemmas.List.Sums.{sum_by-cons}
use Rattle.std.proofs.Math.Nat.{le_trans, mul-le-mul, mul-le-mul_left, pow-le-pow_right}
use Rattle.dubp_atoms.specs.Same.{Text}
use Rattle.dubp_block.specs.declared.block.Block.{Block}
use Rattle.dubp_rules.specs.declared.rule.Rule.TheVariants.{X08}
use Rattle.dubp_chain.specs.Chains.{Chain}
use Rattle.dubp_chain.specs.Heads.{units, issued}
use Rattle.dubp_chain.specs.Money.{Source, units_of, is_left, made_by, made_sources, cleared, unspent_units, cleared_units}
use Rattle.dubp_laws.specs.OfValidity.{IsSound}
use Rattle.dubp_laws.proofs.Mass.{mass-is}
use Rattle.dubp_laws.proofs.Conservation.{conserves}
use Rattle.dubp_sindex.specs.Rows.{units_of_entry}
use Rattle.dubp_money_steps.specs.Steps.{head_with, issued_by, numbered}
use Rattle.dubp_money_steps.specs.Left.{account_in, entry_of, entries_of, sources_left, IsSmall, most_made}
use Rattle.dubp_money_steps.specs.Laws.{UnitsFit}
use Rattle.dubp_money_steps.proofs.Bounds.{made_is_few, times_one_more}
use Rattle.dubp_money_steps.proofs.Entries.{sum_rows, without_numbers}
use Rattle.dubp_money_steps.proofs.Ranges.{made_are_small}
use Rattle.dubp_money_steps.proofs.Totals.{totals_go_on}

-- ---- what is unspent

is_below : (unspent gone before new after mass : ℕ) → before ≡ unspent + gone → after ≡ before + new → mass ≡ after → mass < 2 ^ 100 → unspent < 2 ^ 100
is_below unspent gone before new after mass whole adds is small = omega arith

unspent_below : (c : Chain) (b : Block) → IsSound (b ∷ c) → unspent_units c < 2 ^ 100
unspent_below c b sound =
    is_below (unspent_units c) (cleared_units c) (issued c) (issued_by c b) (issued (b ∷ c)) ((head_with c b).mass)
    (conserves c sound.1).units (totals_go_on c b sound).issued (mass-is (b ∷ c)) (sound.0 X08 refl).1

-- ---- what is made

within_greatest : (amount base : ℕ) → amount < 2 ^ 53 → base ≤ 15 → units amount base ≤ 2 ^ 103
within_greatest amount base below fits =
    let coefficient : amount ≤ 2 ^ 53 = omega (arith, below) in
    let power : 10 ^ base ≤ 10 ^ 15 = pow-le-pow_right (omega arith) fits in
    let both : amount * 10 ^ base ≤ 2 ^ 53 * 10 ^ 15 = mul-le-mul coefficient power in
    let greatest : 2 ^ 53 * 10 ^ 15 ≤ 2 ^ 103 = omega arith in
    le_trans both greatest

sum_within : (ss : List Source) → AllByRecursion IsSmall ss → sum_by units_of ss ≤ 2 ^ 103 * length ss
sum_within [] small = omega arith
sum_within (s ∷ ss) small =
    times_one_more (2 ^ 103) (sum_by units_of (s ∷ ss)) (sum_by units_of ss) (units_of s) (length ss)
    (sum_by-cons units_of s ss ∙ add_comm (units_of s) (sum_by units_of ss)) (sum_within ss small.1) (within_greatest s.amount s.base small.0.0 small.0.1)

both_within : (unspent made part whole most all : ℕ) → unspent < most → made ≤ part → part ≤ whole → most + whole ≤ all → unspent + made < all
both_within unspent made part whole most all below is part_of fits = omega arith

pub units_fit : UnitsFit
units_fit c b sound is short =
    both_within (unspent_units c) (sum_by units_of (made_by c b)) (2 ^ 103 * length (made_by c b)) (2 ^ 103 * most_made) (2 ^ 100) (2 ^ 128)
    (unspent_below c b sound) (sum_within (made_by c b) (made_are_small c b sound is)) (mul-le-mul_left (2 ^ 103) (made_is_few c b sound.1 short)) (omega arith)

-- ---- the units of rows

-- the rows of the unspent sources have what is unspent
pub units_left : (texts : List Text) (c : Chain) → sum_by units_of_entry (sources_left texts c) ≡ unspent_units c
units_left texts c = sum_rows (account_in texts) (numbered c) ∙ ap (sum_by units_of) (without_numbers (is_left c (cleared c)) 0 (made_sources c))

-- and the rows of sources that follow one another have what these have
pub units_of_entries : (account : Text → ℕ) (n : ℕ) (ss : List Source) → sum_by units_of_entry (entries_of account (enumerate_from n ss)) ≡ sum_by units_of ss
units_of_entries account n [] = refl
units_of_entries account n (s ∷ ss) =
    sum_by-cons units_of_entry (entry_of account (n, s)) (entries_of account (enumerate_from (n + 1) ss))
    ∙ ap (λ m. units_of s + m) (units_of_entries account (n + 1) ss)
    ∙ sym (sum_by-cons units_of s ss)
