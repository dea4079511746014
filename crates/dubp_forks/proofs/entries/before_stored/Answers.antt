use Rattle.std.proofs.Common.{Some, ap, ◌∙◌, option_map}
use Rattle.dubp_replay.specs.Turns.{previous_stamp}
use Rattle.dubp_forks.proofs.Kept.{kept_lookup}
use Rattle.dubp_forks.proofs.entries.before_stored.Goals as goal

pub returns-in-Some : goal.returns-in-Some
returns-in-Some c =
    ap (λ x. Some x) c.previous.ensures ∙ ap (option_map previous_stamp) (c.in-Some.ensures.value ∙ kept_lookup c.args.blocks.now.entries c.args.stamp.now c.requires)

pub returns-in-None : goal.returns-in-None
returns-in-None c =
    ap (option_map previous_stamp) (c.in-None.ensures.value ∙ kept_lookup c.args.blocks.now.entries c.args.stamp.now c.requires)
