use Rattle.std.proofs.Common.{inr, refl, sym, subst, ◌∙◌}
use Rattle.dubp_gen.specs.declared.chain.GenRefusal.{GenRefusal}
use Rattle.dubp_session.specs.Generating.{NamesEnd}
use Rattle.dubp_session.proofs.Givens.{ends_by}
use Rattle.dubp_session.proofs.generating.write_end.Goals as goal

pub returns-in-NoNonce-clause-ends : goal.returns-in-NoNonce-clause-ends
returns-in-NoNonce-clause-ends g c = λ n start state left ended.
    let text = c.as_slice.result.now in
    ends_by n start state state left (g.K.Sink.held c.args.sink.now) (g.K.Sink.held c.write_text.new.sink) text c.write_text.result
    (inr (record { refusal = c.args.refusal; ends = ended; names = subst (λ (r : GenRefusal). NamesEnd r text) (sym c.in-NoNonce.is) (c.as_slice.ensures.value ∙ c.no_nonce.ensures); same = refl }))
    c.write_text.ensures.written

pub returns-in-Invalid-clause-ends : goal.returns-in-Invalid-clause-ends
returns-in-Invalid-clause-ends g c = λ n start state left ended.
    let text = c.as_slice-in-Invalid.result.now in
    ends_by n start state state left (g.K.Sink.held c.args.sink.now) (g.K.Sink.held c.write_text-in-Invalid.new.sink) text c.write_text-in-Invalid.result
    (inr (record { refusal = c.args.refusal; ends = ended; names = subst (λ (r : GenRefusal). NamesEnd r text) (sym c.in-Invalid.is) (c.as_slice-in-Invalid.ensures.value ∙ c.no_block.ensures); same = refl }))
    c.write_text-in-Invalid.ensures.written
