use Rattle.std.proofs.Common.{[]}
use Rattle.dubp_local.proofs.Signing.{signing_is}
use Rattle.dubp_local.proofs.closing.begin_closing.Goals as goal

pub returns : goal.returns
returns c =
    rw (← signing_is c.args.block.now c.as_bytes.result.now c.as_bytes.ensures.text) (c.in-Ok-put_number_line.ensures.added.goes_on _ (c.in-Ok.ensures.added.goes_on [] c.new-closing.ensures))
