use Rattle.std.proofs.Common.{refl, ap, arith}
use Rattle.dubp_rules.specs.declared.rule.Rule.TheVariants.{G51}
use Rattle.dubp_money.specs.declared.money.Totals.{Totals}
use Rattle.dubp_money.specs.Applied.{Follows}
use Rattle.dubp_money.proofs.Applies.{totals_are}
use Rattle.dubp_money.proofs.writing.write_all.Goals as goal

pub returns-clause-at : goal.returns-clause-at
returns-clause-at g c = λ chain applied are was at beside facts.
    let b = c.args.block.now in
    let written = c.in_ok-written.written in
    let follows : Follows chain b c.args.head.now c.args.members.now c.args.before.made = record { applied = applied; pays = are; behind = ap (λ (t : Totals). t.made) was } in
    let totals =
    totals_are chain b c.args.head.now applied c.totals_with-totals.result c.args.before written.cleared written.made was (c.in_ok-written.ensures.cleared chain follows at) (c.in_ok-written.ensures.made chain follows at)
    c.totals_with-totals.ensures.issued c.totals_with-totals.ensures.whole c.totals_with-totals.ensures.cleared c.totals_with-totals.ensures.made in (
      c.in_ok-written.ensures.at chain follows at,
      c.in_ok-write_beside.ensures.at chain b c.requires.hashes totals beside,
      c.in_ok-write_facts.ensures.at chain facts (record { block = applied.block; number = applied.sound.0 G51 refl; head = applied.head }),
    )

pub returns-clause-taken : goal.returns-clause-taken
returns-clause-taken g c = λ chain applied are was at. c.in_ok-written.ensures.taken chain (record { applied = applied; pays = are; behind = ap (λ (t : Totals). t.made) was }) at

pub returns-clause-steps : goal.returns-clause-steps
returns-clause-steps g c = λ chain applied are was at.
    omega (
      arith,
      c.in_ok-written.ensures.steps chain (record { applied = applied; pays = are; behind = ap (λ (t : Totals). t.made) was }) at,
      c.in_ok-write_beside.ensures.steps,
      c.in_ok-write_facts.ensures.steps,
    )
