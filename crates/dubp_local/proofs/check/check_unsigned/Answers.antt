use Rattle.std.specs.Prelude.{option_copied}
use Rattle.dubp_local.specs.Local.{FirstLocal, unsigned_rules}
use Rattle.dubp_local.proofs.Firsts.{broken_first}
use Rattle.dubp_local.proofs.check.check_unsigned.Goals as goal

pub returns : goal.returns
returns c =
    rw c.broken.ensures (broken_first (FirstLocal unsigned_rules c.args.verdicts.now (option_copied c.args.params) c.args.block.now) c.args.block.now c.in_ok-checked.checked c.in_ok-checked.ensures)
