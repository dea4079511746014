use Rattle.std.proofs.Common.{◌∷◌, [], ap, subst}
use Rattle.dubp_replay.specs.Turns.{State}
use Rattle.dubp_choosing.specs.States.{state_with}
use Rattle.dubp_turns.specs.Given.{IsGivenAll, block_given}
use Rattle.dubp_turns.proofs.Given.{given_one}
use Rattle.dubp_turns.proofs.Turns.{held_left}
use Rattle.dubp_turns.proofs.node.Node.give_block.Goals as goal

pub returns-clause-given : goal.returns-clause-given
returns-clause-given g c =
    let s = c.self.inside in
    let turn = c.in_ok-give_block.ensures.given in
    let new = state_with s.pool c.give_block.new.self s.auto c.let_go.new.failures.items in
    subst (λ (x : State). IsGivenAll (block_given c.args.block ∷ []) x new) c.self.view_is
    (given_one (block_given c.args.block) turn.0 (state_with s.pool s.branches s.auto s.failures.items) new (c.give_block.new.self, turn.1, ap (state_with s.pool c.give_block.new.self s.auto) c.let_go.ensures))

pub invariant_of-self-2 : goal.invariant_of-self-2
invariant_of-self-2 g c = held_left c.give_block.new.self.store c.self.inside.failures.items c.let_go.new.failures.items c.let_go.ensures
