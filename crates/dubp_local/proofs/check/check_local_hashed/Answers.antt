use Rattle.std.specs.Prelude.{option_copied}
use Rattle.dubp_local.specs.Local.{FirstLocal, local_rules}
use Rattle.dubp_local.specs.Asking.{FirstAsked, asked_rules}
use Rattle.dubp_local.proofs.Firsts.{first_asked, checked_same}
use Rattle.dubp_local.proofs.check.check_local_hashed.Goals as goal

pub returns : goal.returns
returns c =
    let v = c.args.verdicts.now in
    let p = option_copied c.args.params in
    let b = c.args.block.now in
    let asked = c.args.asked in
    checked_same (FirstAsked local_rules asked v p b) (FirstLocal (asked_rules asked) v p b) (first_asked asked v p b) b c.in_ok-checked.checked c.in_ok-checked.ensures
