use Rattle.std.proofs.Common.{◌∙◌, ◌||◌, ap, sym}
use Rattle.dubp_people_after.specs.Names.{is_repeated}
use Rattle.dubp_people_after.proofs.Identities.{identity_told}
use Rattle.dubp_people_after.proofs.after.AfterWithBlock.has_identity.Goals as goal

pub returns-then-repeats : goal.returns-then-repeats
returns-then-repeats c = λ chain b shown.
    let line = c.args.line.now in
    let told = identity_told chain b c.args.self.now.next shown.1.0 line c.name_made-made.result c.name_before-before.result
    (c.name_made-made.ensures chain b shown) (c.name_before-before.ensures chain b shown) in
    (c.if-repeats.true ∙ ap (λ r. r || is_repeated line c.name_before-before.result) (sym c.if-repeats.true ∙ c.repeats.ensures) ∙ told)

pub returns-else-repeats : goal.returns-else-repeats
returns-else-repeats c = λ chain b shown.
    let line = c.args.line.now in
    let told = identity_told chain b c.args.self.now.next shown.1.0 line c.name_made-made.result c.name_before-before.result
    (c.name_made-made.ensures chain b shown) (c.name_before-before.ensures chain b shown) in
    (c.repeats-else-repeats.ensures ∙ ap (λ r. r || is_repeated line c.name_before-before.result) (sym c.if-repeats.false ∙ c.repeats.ensures) ∙ told)
