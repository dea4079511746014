use Rattle.dubp_people_after.proofs.Every.{certified_told}
use Rattle.dubp_people_after.proofs.rules.is_certified.Goals as goal

pub returns : goal.returns
returns g c = λ chain shown.
    certified_told c.args.verdicts.now chain c.args.block.now c.args.line.now c.name-name.result c.certification_stamp-stamp.result c.certifies.result
    (c.name-name.ensures chain c.args.block.now shown) (c.certification_stamp-stamp.ensures chain c.args.block.now shown) c.certifies.ensures
