use Rattle.std.proofs.Common.{reverse}
use Rattle.dubp_session.proofs.Givens.{all_given, front_given}
use Rattle.dubp_session.proofs.generating.give.Goals as goal

pub returns-clause-all : goal.returns-clause-all
returns-clause-all g c =
    all_given c.give_blocks.result c.args.chain.verdicts.items c.as_slice.result.now (reverse c.args.chain.blocks.items) c.reverse.new.self.items c.args.node.now c.give_verdicts.new.node c.give_blocks.new.node c.as_slice.ensures.value c.reverse.ensures.items c.in_ok-give_verdicts.ensures.all c.give_blocks.ensures.all

pub returns-clause-front : goal.returns-clause-front
returns-clause-front g c =
    front_given c.give_blocks.result c.args.chain.verdicts.items c.as_slice.result.now (reverse c.args.chain.blocks.items) c.reverse.new.self.items c.args.node.now c.give_verdicts.new.node c.give_blocks.new.node c.as_slice.ensures.value c.reverse.ensures.items c.in_ok-give_verdicts.ensures.all c.give_blocks.ensures.front
