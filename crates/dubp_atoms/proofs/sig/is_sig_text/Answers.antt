use Rattle.std.proofs.Common.{sym, arith}
use Rattle.std.proofs.lemmas.List.{length-take-le}
use Rattle.dubp_atoms.proofs.sig.is_sig_text.Goals as goal

pub slice_bounds-all_base64-end : goal.slice_bounds-all_base64-end
slice_bounds-all_base64-end c = sym (length-take-le 86 c.args.text.now (omega arith))
