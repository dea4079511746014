use Rattle.std.proofs.Common.{◌∙◌, ◌++◌, ap, option_to_list}
use Rattle.dubp_block.specs.Text.{IsBlock}
use Rattle.dubp_validity.specs.LocalRules.{InnerHashIsRight}
use Rattle.dubp_gen.specs.OfLedger.{IsShort}
use Rattle.dubp_session.proofs.Givens.{blocks_more, blocks_none, of_last}
use Rattle.dubp_session.proofs.generating.give_blocks.Goals as goal

pub loop-block-init : goal.loop-block-init
loop-block-init g c = blocks_none c.args.blocks.items c.args.node.now

pub give_block-requires-clause-text : goal.give_block-requires-clause-text
give_block-requires-clause-text g c =
    let last = c.pop.ensures.items ∙ ap (λ r. c.pop.new.self.items ++ option_to_list r) c.in-Some.is in
    of_last IsBlock c.args.blocks.items c.loop-block.blocks.items c.pop.new.self.items c.in-Some.block c.args.node.now c.loop-block.node c.loop-block.invariant last c.requires.blocks

pub give_block-requires-clause-short : goal.give_block-requires-clause-short
give_block-requires-clause-short g c =
    let last = c.pop.ensures.items ∙ ap (λ r. c.pop.new.self.items ++ option_to_list r) c.in-Some.is in
    of_last IsShort c.args.blocks.items c.loop-block.blocks.items c.pop.new.self.items c.in-Some.block c.args.node.now c.loop-block.node c.loop-block.invariant last c.requires.short

pub give_block-requires-clause-inner : goal.give_block-requires-clause-inner
give_block-requires-clause-inner g c =
    let last = c.pop.ensures.items ∙ ap (λ r. c.pop.new.self.items ++ option_to_list r) c.in-Some.is in
    of_last InnerHashIsRight c.args.blocks.items c.loop-block.blocks.items c.pop.new.self.items c.in-Some.block c.args.node.now c.loop-block.node c.loop-block.invariant last c.requires.hashed

pub loop-block-preserved : goal.loop-block-preserved
loop-block-preserved g c =
    let last = c.pop.ensures.items ∙ ap (λ r. c.pop.new.self.items ++ option_to_list r) c.in-Some.is in
    blocks_more c.args.blocks.items c.loop-block.blocks.items c.pop.new.self.items c.in-Some.block c.args.node.now c.loop-block.node c.give_block.new.self c.loop-block.invariant last c.in_ok-give_block.ensures.given
