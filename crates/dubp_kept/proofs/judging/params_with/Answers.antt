use Rattle.std.proofs.Common.{◌≡◌, ◌∙◌, sym, ap, reverse, None, option_and_then}
use Rattle.dubp_chain.specs.Chains.{first_block}
use Rattle.dubp_kept.proofs.Chains.{first_without}
use Rattle.dubp_kept.proofs.judging.params_with.Goals as goal

pub returns-in-None : goal.returns-in-None
returns-in-None c =
    let none : first_block (reverse c.args.blocks.now) ≡ None = sym c.in-None.ensures in
    c.stated_params-in-None.ensures ∙ ap (λ o. option_and_then (λ b. b.params) o) (sym (first_without (reverse c.args.blocks.now) c.args.block.now none))
