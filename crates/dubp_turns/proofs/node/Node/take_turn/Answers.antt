use Rattle.std.proofs.Common.{sym, subst}
use Rattle.dubp_replay.specs.declared.command.Command.{Command}
use Rattle.dubp_turns.specs.Acting.{Acts}
use Rattle.dubp_turns.specs.Told.{told_text}
use Rattle.dubp_replay.specs.Turns.{IsTimely}
use Rattle.dubp_turns.proofs.node.Node.take_turn.Goals as goal

pub forge-requires : goal.forge-requires
forge-requires g c = record { time = subst IsTimely c.in-Forge.is c.requires.timely; empty = c.requires.empty }

pub returns-in-Offer : goal.returns-in-Offer
returns-in-Offer g c =
    subst (λ (k : Command). Acts c.args.self.now k c.args.frame.now (told_text c.act_offer.new.line.items c.act_offer.result) c.act_offer.new.self) (sym c.in-Offer.is) c.act_offer.ensures

pub returns-in-Pend : goal.returns-in-Pend
returns-in-Pend g c =
    subst (λ (k : Command). Acts c.args.self.now k c.args.frame.now (c.act_pend.new.line.items) c.act_pend.new.self) (sym c.in-Pend.is) c.act_pend.ensures

pub returns-in-Forge : goal.returns-in-Forge
returns-in-Forge g c =
    subst (λ (k : Command). Acts c.args.self.now k c.args.frame.now (told_text c.forge.new.line.items c.forge.result) c.args.self.now) (sym c.in-Forge.is) (c.forge.ensures c.args.frame.now)
