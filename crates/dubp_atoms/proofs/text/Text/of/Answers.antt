use Rattle.dubp_atoms.specs.Padded.{padded_text}
use Rattle.dubp_atoms.proofs.text.Text.of.Goals as goal

pub invariant_of-result : goal.invariant_of-result
invariant_of-result g c = rw c.copy_from_slice.ensures.after (padded_text g.row.CAP c.args.text.now c.requires.1)
