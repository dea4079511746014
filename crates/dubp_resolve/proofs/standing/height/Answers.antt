use Rattle.std.proofs.Common.{ap, sym, ◌∙◌, cond, Some, None}
use Rattle.std.specs.HashMap.{get}
use Rattle.dubp_atoms.specs.Same.{same_stamp}
use Rattle.dubp_resolve.specs.Known.{seen}
use Rattle.dubp_resolve.proofs.Paths.{height_failed, height_first, height_known, height_unknown}
use Rattle.dubp_resolve.proofs.standing.height.Goals as goal

pub returns-then-contains : goal.returns-then-contains
returns-then-contains c =
    sym (height_failed (seen c.args.view.now) c.args.block.now c.requires.found (sym (c.requires.failed c.args.block.now.stamp) ∙ sym c.contains.ensures ∙ c.if-contains.true))

pub returns-in_default : goal.returns-in_default
returns-in_default c =
    sym (height_first (seen c.args.view.now) c.args.block.now c.requires.found c.in_default.is (sym (c.requires.failed c.args.block.now.stamp) ∙ sym c.contains.ensures ∙ c.if-contains.false))

pub returns-in-Some-get : goal.returns-in-Some-get
returns-in-Some-get c =
    height_known (seen c.args.view.now) (get same_stamp c.args.heights.now) c.args.block.now c.in-Some.before c.requires.found c.requires.numbered c.in-Some.is
    (sym (c.requires.failed c.args.block.now.stamp) ∙ sym c.contains.ensures ∙ c.if-contains.false) c.requires.before c.in-Some-get.height.now c.in-Some-get.ensures.value

pub returns-in-None : goal.returns-in-None
returns-in-None c =
    c.height_on.ensures
    ∙ ap (λ r. cond r (Some c.args.block.now.stamp.number) None) (c.requires.recent c.in-Some.before)
    ∙ height_unknown (seen c.args.view.now) (get same_stamp c.args.heights.now) c.args.block.now c.in-Some.before c.requires.found c.requires.numbered c.in-Some.is
    (sym (c.requires.failed c.args.block.now.stamp) ∙ sym c.contains.ensures ∙ c.if-contains.false) c.requires.before c.in-None.ensures.value
