use Rattle.dubp_atoms.proofs.Decs.{ten_pos}
use Rattle.dubp_atoms.proofs.dec.power_of_ten.Goals as goal

pub returns-clause-some : goal.returns-clause-some
returns-clause-some c = rw c.pow.ensures (ten_pos c.args.k)
