use Rattle.std.proofs.Common.{ap, subst, sym, Some, ◌∙◌}
use Rattle.dubp_people_and_money.specs.OfKept.{IsKnown}
use Rattle.dubp_ledger.proofs.Difficulties.{may_count, difficulty_is, nobody}
use Rattle.dubp_ledger.proofs.ledger.Ledger.difficulty.Goals as goal

pub difficulty-requires-clause-valid : goal.difficulty-requires-clause-valid
difficulty-requires-clause-valid g c =
    (may_count c.args.self.now.chain c.heads.result.now c.in-Some.first (subst (λ s. IsKnown s.chain c.heads.result.now) c.self.view_is c.heads.ensures) (c.in-Some.ensures c.args.self.now.chain c.tables.ensures)).valid

pub difficulty-requires-clause-over : goal.difficulty-requires-clause-over
difficulty-requires-clause-over g c =
    (may_count c.args.self.now.chain c.heads.result.now c.in-Some.first (subst (λ s. IsKnown s.chain c.heads.result.now) c.self.view_is c.heads.ensures) (c.in-Some.ensures c.args.self.now.chain c.tables.ensures)).over

pub difficulty-requires-clause-heads : goal.difficulty-requires-clause-heads
difficulty-requires-clause-heads g c =
    (may_count c.args.self.now.chain c.heads.result.now c.in-Some.first (subst (λ s. IsKnown s.chain c.heads.result.now) c.self.view_is c.heads.ensures) (c.in-Some.ensures c.args.self.now.chain c.tables.ensures)).follow

pub difficulty-requires-clause-some : goal.difficulty-requires-clause-some
difficulty-requires-clause-some g c =
    (may_count c.args.self.now.chain c.heads.result.now c.in-Some.first (subst (λ s. IsKnown s.chain c.heads.result.now) c.self.view_is c.heads.ensures) (c.in-Some.ensures c.args.self.now.chain c.tables.ensures)).some

pub returns-clause-value : goal.returns-clause-value
returns-clause-value g c =
    let chain = c.args.self.now.chain in (
      sym (c.is_member.ensures chain c.tables-2.ensures c.laws.ensures.sound) ∙ c.if-not-is_member.false,
      sym (difficulty_is chain c.heads.result.now c.in-Some.first c.args.key (subst (λ s. IsKnown s.chain c.heads.result.now) c.self.view_is c.heads.ensures) (c.in-Some.ensures chain c.tables.ensures)) ∙ ap Some (sym c.in_ok-found.ensures.value),
    )

pub returns-in_default-clause-value : goal.returns-in_default-clause-value
returns-in_default-clause-value g c = nobody c.args.self.now.chain c.args.key (c.in_default.ensures c.args.self.now.chain c.tables.ensures)

pub returns-then-not-is_member-clause-value : goal.returns-then-not-is_member-clause-value
returns-then-not-is_member-clause-value g c = sym (c.is_member.ensures c.args.self.now.chain c.tables-2.ensures c.laws.ensures.sound) ∙ c.if-not-is_member.true
