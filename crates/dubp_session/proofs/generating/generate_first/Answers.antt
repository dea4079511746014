use Rattle.std.proofs.Common.{List, ℕ, ap, min, subst, sym, ◌∙◌}
use Rattle.dubp_drafts.specs.Drafting.{Given}
use Rattle.dubp_gen.specs.Generated.{IsMade}
use Rattle.dubp_gen.specs.Making.{made_in}
use Rattle.dubp_session.proofs.Handed.{made_long}
use Rattle.dubp_session.proofs.generating.generate_first.Goals as goal

pub hand_over-requires-clause-kept : goal.hand_over-requires-clause-kept
hand_over-requires-clause-kept g c =
    c.in-Ok.ensures.kept ∙ ap (λ (k : ℕ). min k 100) (sym (made_long c.args.start c.args.n (made_in c.make_ledger.new.ledger c.in-Ok.verdicts.items) c.in-Ok.ensures.made))

pub returns-in-Ok-hand_over-clause-ends : goal.returns-in-Ok-hand_over-clause-ends
returns-in-Ok-hand_over-clause-ends g c = λ left.
    c.show.ensures.ends c.args.node.now left (record {
      made = made_in c.make_ledger.new.ledger c.as_slice.result.now;
      is = subst (λ (gs : List Given). IsMade c.args.start c.args.n (made_in c.make_ledger.new.ledger gs)) (sym c.as_slice.ensures.value) c.in-Ok.ensures.made;
      given = c.in-Ok-hand_over.ensures.all;
    })

pub returns-clause-ends : goal.returns-clause-ends
returns-clause-ends g c = λ left. c.write_end.ensures.ends c.args.n c.args.start c.args.node.now left c.in-Err.ensures.ended
