use Rattle.std.proofs.Common.{true, sym, ◌∙◌}
use Rattle.std.specs.BTreeSet.{contains}
use Rattle.dubp_iindex.specs.Rows.{texts}
use Rattle.dubp_chain.specs.Live.{kick}
use Rattle.dubp_people_rules.proofs.Walk.{next_walk, walked, missed}
use Rattle.dubp_people_rules.proofs.exclusions.kicked_are_among.Goals as goal

pub returns-then-not-remove : goal.returns-then-not-remove
returns-then-not-remove c = λ ch at.
    let has = contains texts c.args.set.now in
    let next = c.in-Some.ensures ch at in
    let walk = c.loop-key.invariant ch at in
    let lacks = sym (walk.rests c.in-Some.key next.1) ∙ sym c.remove.ensures.test ∙ c.if-not-remove.true in
    (λ no_one. absurd (cc no_one), λ all. absurd (missed has (kick ch) c.in-Some.key next.0 lacks all))

pub loop-key-preserved : goal.loop-key-preserved
loop-key-preserved c = λ ch at.
    next_walk (contains texts c.args.set.now) (kick ch) c.loop-key.after c.in-Some.key (contains texts c.loop-key.set) (contains texts c.remove.new.self) (c.in-Some.ensures ch at)
    (sym c.remove.ensures.test ∙ c.if-not-remove.false) c.remove.ensures.updates.2 (c.loop-key.invariant ch at)

pub returns : goal.returns
returns c = λ ch at. (λ _. walked (contains texts c.args.set.now) (kick ch) c.loop-key.after (contains texts c.loop-key.set) (c.in_default.ensures ch at) (c.loop-key.invariant ch at), λ _. λ i. true)
