-- The first rule of the table that small blocks break.
use Rattle.std.specs.Prelude.{[], ◌∷◌, drop, Some}
use Rattle.std.proofs.Common.{refl, arith}
use Rattle.dubp_rules.specs.declared.rule.Rule.TheVariants.{X01, P01, X02, X07}
use Rattle.dubp_rules.specs.Table.{table_rules}
use Rattle.dubp_validity.specs.Rules.{FirstBroken}
use Rattle.dubp_trials.specs.Samples.{paying_params, first_of_members, block1, one_block}

-- no dividend would ever be due
dividend_without_end : FirstBroken [] [] (first_of_members (record paying_params { dt = 0 })) (Some X02)
dividend_without_end = record {
  before = X01 ∷ P01 ∷ [];
  after = drop 3 table_rules;
  stands = refl;
  passed = (tt, (tt, tt));
  fails = λ h. omega (arith, h.0.dt.0);
}

time_too_great : FirstBroken [] one_block (record block1 { time = 1099511627776 }) (Some X07)
time_too_great = record {
  before = X01 ∷ P01 ∷ X02 ∷ [];
  after = drop 4 table_rules;
  stands = refl;
  passed = (tt, (tt, (tt, tt)));
  fails = λ h. omega (arith, h.time);
}
