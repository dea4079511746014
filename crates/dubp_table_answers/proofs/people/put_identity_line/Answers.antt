use Rattle.std.proofs.Common.{option_map, sym, ap, ◌∙◌}
use Rattle.dubp_chain.specs.People.{identity}
use Rattle.dubp_people_views.specs.Views.{identity_texts}
use Rattle.dubp_table_answers.proofs.Identities.{texts_answer, identity_answered}
use Rattle.dubp_table_answers.proofs.people.put_identity_line.Goals as goal

pub returns-in-Some : goal.returns-in-Some
returns-in-Some c = λ chain at sound.
    c.put_view.ensures
    ∙ ap (λ view. texts_answer (option_map identity_texts view)) (sym c.in-Some.is)
    ∙ ap texts_answer (c.identity.ensures chain at sound)
    ∙ identity_answered chain (identity chain c.args.key)

pub returns-in-None : goal.returns-in-None
returns-in-None c = λ chain at sound.
    c.put_none.ensures
    ∙ ap (λ view. texts_answer (option_map identity_texts view)) (sym c.in-None.is)
    ∙ ap texts_answer (c.identity.ensures chain at sound)
    ∙ identity_answered chain (identity chain c.args.key)
