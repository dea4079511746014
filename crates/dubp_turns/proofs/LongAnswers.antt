-- A frame that is too long is refused.
use Rattle.std.proofs.Common.{◌≡◌, ℕ, ◌<◌, List, [], length, drop, Some, refl, arith}
use Rattle.std.specs.Prelude.{codes}
use Rattle.dubp_rules.specs.declared.rule.Rule.TheVariants.{X01}
use Rattle.dubp_rules.specs.Table.{table_rules}
use Rattle.dubp_validity.specs.Rules.{longest_block}
use Rattle.dubp_replay.specs.Answers.{refused_answer}
use Rattle.dubp_replay.specs.Turns.{BlockTurn, OfferTurn, Branches, offer_rules}

pub long_block_turn : (old : Branches) (bytes answer : List ℕ) → longest_block < length bytes → answer ≡ refused_answer (codes "X01") → BlockTurn old bytes answer old
long_block_turn old bytes answer long is = record {
  broken = Some X01;
  first = record { before = []; after = drop 1 table_rules; stands = refl; passed = tt; fails = λ short. omega (arith, long, short) };
  decides = (is, refl);
}

pub long_offer_turn : (old : Branches) (bytes answer : List ℕ) → longest_block < length bytes → answer ≡ refused_answer (codes "X01") → OfferTurn old bytes answer old
long_offer_turn old bytes answer long is = record {
  broken = Some X01;
  first = record { before = []; after = drop 1 offer_rules; stands = refl; passed = tt; fails = λ short. omega (arith, long, short) };
  decides = (is, refl);
}
