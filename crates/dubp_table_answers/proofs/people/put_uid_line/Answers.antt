use Rattle.std.proofs.Common.{sym, ap, ◌∙◌}
use Rattle.std.specs.Prelude.{find}
use Rattle.dubp_atoms.specs.Same.{same_text}
use Rattle.dubp_chain.specs.People.{identity_lines}
use Rattle.dubp_table_answers.proofs.Identities.{key_answer, uid_answered}
use Rattle.dubp_table_answers.proofs.people.put_uid_line.Goals as goal

pub returns-in-Some : goal.returns-in-Some
returns-in-Some c = λ chain at sound.
    c.put_identity_line.ensures chain at sound
    ∙ ap (key_answer chain) (sym c.in-Some.is ∙ c.key_of.ensures chain at sound)
    ∙ uid_answered chain (find (λ line. same_text c.args.uid line.uid) (identity_lines chain))

pub returns-in-None : goal.returns-in-None
returns-in-None c = λ chain at sound.
    c.put_none.ensures
    ∙ ap (key_answer chain) (sym c.in-None.is ∙ c.key_of.ensures chain at sound)
    ∙ uid_answered chain (find (λ line. same_text c.args.uid line.uid) (identity_lines chain))
