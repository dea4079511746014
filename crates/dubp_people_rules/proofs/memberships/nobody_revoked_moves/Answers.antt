use Rattle.dubp_people_rules.specs.Lines.{IsNotRevoked}
use Rattle.dubp_people_rules.proofs.Sections.{of_sections}
use Rattle.dubp_people_rules.proofs.memberships.nobody_revoked_moves.Goals as goal

pub returns : goal.returns
returns c = λ ch at sound. of_sections (IsNotRevoked ch) c.args.block.now c.sections_are_not_revoked.result (c.sections_are_not_revoked.ensures ch at sound)
