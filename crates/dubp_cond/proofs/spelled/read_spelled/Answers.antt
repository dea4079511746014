use Rattle.dubp_cond.proofs.Spellings.{spelled_good}
use Rattle.dubp_cond.proofs.spelled.read_spelled.Goals as goal

pub invariant_of-result : goal.invariant_of-result
invariant_of-result c = rw (c.from_vec-text.ensures, c.in_ok-copied.ensures) (spelled_good c.args.text.now c.pass_whole.result c.pass_whole.ensures.passed c.if-not-pass_whole.false)
