use Rattle.std.proofs.Common.{true≢false, refl, sym}
use Rattle.dubp_facts.proofs.Written.{no_stamp}
use Rattle.dubp_facts.proofs.facts.made_first.Goals as goal

pub returns-else-is_empty_stamp : goal.returns-else-is_empty_stamp
returns-else-is_empty_stamp c = rw (no_stamp c.args.stamp.now (λ e. true≢false (sym (c.if-is_empty_stamp.ensures.1 e)))) refl
