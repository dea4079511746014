use Rattle.std.proofs.Common.{◌≡◌, ◌∷◌, Err, Ok, ap, sym, subst}
use Rattle.dubp_replay.specs.Turns.{Branches}
use Rattle.dubp_forks.specs.Stores.{state_of}
use Rattle.dubp_turns.specs.Deciding.{IsDecided}
use Rattle.dubp_validity.specs.Rules.{IsValid}
use Rattle.dubp_turns.proofs.Valid.{valid_joined}
use Rattle.dubp_turns.proofs.Decisions.{decided_ok, decided_err, joins_outside}
use Rattle.dubp_turns.proofs.branches.Branches.decide.Goals as goal

pub invariant_of-self : goal.invariant_of-self
invariant_of-self g c =
    let s = c.self.inside in
    let joined = joins_outside s.verdicts s.ledger c.submit_read.new.self s.store c.forget.new.self c.args.block c.in-Ok.stamp c.self.invariant.0 c.in-Ok.ensures.accepted c.forget.ensures.left c.self.invariant.1 in
    let chain : c.submit_read.new.self.chain ≡ c.args.block ∷ s.ledger.chain = ap (λ k. k.chain) c.in-Ok.ensures.accepted.joins in
    (joined.0, joined.1, subst (IsValid s.verdicts) (sym chain) (valid_joined c.blocks_have_one_text.ensures s.verdicts s.ledger.chain c.args.block c.requires.text c.requires.short c.in-Ok.ensures.accepted.keeps c.self.invariant.2))

pub returns-in-Ok : goal.returns-in-Ok
returns-in-Ok g c =
    let s = c.self.inside in
    subst (λ (x : Branches). IsDecided x c.args.block (Ok c.in-Ok.stamp) (state_of s.verdicts c.submit_read.new.self c.forget.new.self)) c.self.view_is
    (decided_ok s.verdicts s.ledger c.submit_read.new.self s.store c.forget.new.self c.args.block c.in-Ok.stamp c.self.invariant.0 c.in-Ok.ensures.accepted c.forget.ensures.left)

pub returns-in-Err : goal.returns-in-Err
returns-in-Err g c =
    let s = c.self.inside in
    subst (λ (x : Branches). IsDecided x c.args.block (Err c.in-Err.refusal) (state_of s.verdicts c.submit_read.new.self s.store)) c.self.view_is
    (decided_err s.verdicts s.ledger c.submit_read.new.self s.store c.args.block c.in-Err.refusal c.in-Err.ensures.refused)
