use Rattle.std.proofs.Common.{ap, sym, ◌∙◌}
use Rattle.std.specs.Option.{option_map_or}
use Rattle.dubp_iindex.specs.declared.row.Counts.{Counts}
use Rattle.dubp_iindex.specs.Rows.{newest_rows}
use Rattle.dubp_iindex.proofs.Numbered.{counted_members}
use Rattle.dubp_iindex.proofs.index.IIndex.members.Goals as goal

pub returns-in-Some : goal.returns-in-Some
returns-in-Some c = λ s at. ap (λ o. option_map_or (λ (n : Counts). n.members) o 0) (sym c.in-Some.is ∙ c.get.ensures ∙ at.1.2 tt) ∙ counted_members (newest_rows s)

pub returns-in-None : goal.returns-in-None
returns-in-None c = λ s at. ap (λ o. option_map_or (λ (n : Counts). n.members) o 0) (sym c.in-None.is ∙ c.get.ensures ∙ at.1.2 tt) ∙ counted_members (newest_rows s)
