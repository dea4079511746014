use Rattle.std.proofs.Common.{◌≡◌, [], ◌∷◌, ◌++◌, take, length}
use Rattle.std.specs.List.{flat_map}
use Rattle.dubp_chain.specs.Chains.{Chain}
use Rattle.dubp_validity.specs.Rules.{IsSound}
use Rattle.dubp_validity.specs.Records.{membership_time}
use Rattle.dubp_validity.specs.declared.record.Record.TheVariants.{Enter, Join}
use Rattle.dubp_left.specs.OfFacts.facts_tables_block as facts
use Rattle.dubp_people_apply.proofs.records.put_joiners.Given as goal

abbrev pub invariant-loop-line : goal.invariant-loop-line
invariant-loop-line l = record {
  put : (c : Chain) → (facts.ghosts).at l.facts c → IsSound c → l.out.items ≡ l.initial.out.items ++ flat_map (λ line. Enter line.key ∷ Join line.key (membership_time c l.block line) ∷ []) (take l.line-index l.lines);
  begins : take (length l.initial.out.items) l.out.items ≡ l.initial.out.items;
}
