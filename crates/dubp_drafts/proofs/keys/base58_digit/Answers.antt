use Rattle.dubp_drafts.proofs.ByNumber.{digit_is_base58}
use Rattle.dubp_drafts.proofs.keys.base58_digit.Goals as goal

pub returns-clause-letter : goal.returns-clause-letter
returns-clause-letter c = digit_is_base58 c.args.value c.requires
