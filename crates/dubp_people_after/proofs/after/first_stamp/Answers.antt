use Rattle.std.proofs.Common.{◌∙◌, ap, sym}
use Rattle.std.proofs.lemmas.Option.{none-some}
use Rattle.dubp_atoms.specs.Letters.{is_hash}
use Rattle.dubp_atoms.specs.Reading.{text_if}
use Rattle.dubp_people_after.proofs.after.first_stamp.Goals as goal

pub returns-in-None : goal.returns-in-None
unfolding is_hash
returns-in-None c = absurd (none-some _ (sym c.in-None.is ∙ c.read.ensures ∙ ap (text_if is_hash) c.as_slice.ensures))
