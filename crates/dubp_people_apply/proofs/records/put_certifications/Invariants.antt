use Rattle.std.proofs.Common.{◌≡◌, ◌++◌, map, take, length}
use Rattle.dubp_chain.specs.Chains.{Chain}
use Rattle.dubp_steps.specs.AfterLines.{certification_time}
use Rattle.dubp_validity.specs.declared.record.Record.TheVariants.{Cert}
use Rattle.dubp_left.specs.OfFacts.facts_tables_block as facts
use Rattle.dubp_people_apply.proofs.records.put_certifications.Given as goal

abbrev pub invariant-loop-line : goal.invariant-loop-line
invariant-loop-line l = record {
  put : (c : Chain) → (facts.ghosts).at l.facts c → l.out.items ≡ l.initial.out.items ++ map (λ line. Cert line.from line.to (certification_time c l.block line)) (take l.line-index l.lines);
  begins : take (length l.initial.out.items) l.out.items ≡ l.initial.out.items;
}
