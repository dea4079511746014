-- A signed block that breaks no rule may join the chain.
use Rattle.std.proofs.Common.{None}
use Rattle.dubp_params.specs.declared.params.Params.{Params}
use Rattle.dubp_block.specs.declared.block.Block.{Block}
use Rattle.dubp_rules.specs.First.{IsFirst}
use Rattle.dubp_rules.specs.Table.{table_rules}
use Rattle.dubp_verdict.specs.Verdicts.{Verdicts}
use Rattle.dubp_chain.specs.declared.head.Head.{Head}
use Rattle.dubp_chain.specs.Chains.{Chain}
use Rattle.dubp_validity.specs.Rules.{IsShort}
use Rattle.dubp_kept.specs.KeptChain.{MayJoin}
use Rattle.dubp_kept.specs.OfLocal.{Asked}
use Rattle.dubp_kept.specs.OfLocal.{Signed, Unsigned}
use Rattle.dubp_kept.specs.Asking.{Asks, WhereSigned}
use Rattle.dubp_kept.specs.Judged.{HeadFits, IsToJudge}
use Rattle.dubp_kept.proofs.Asking.{signed_asked}
use Rattle.dubp_kept.proofs.Early.{keeps_unsigned}

pub may_join : (asked : Asked) (v : Verdicts) (c : Chain) (b : Block) (h : Head) (p : Params) → IsFirst (Asks asked v c b) table_rules None → IsShort b → IsToJudge c b h p → HeadFits c b h → WhereSigned asked (MayJoin c b h p)
may_join Signed v c b h p all short judged fits = record {
  text = judged.block;
  short = short;
  keeps = keeps_unsigned v c b ((signed_asked v c b table_rules None).1 all);
  head = judged.head;
  same = judged.same;
  follows = fits.follows;
  steered = fits.steered;
  stated = fits.stated;
}
may_join Unsigned v c b h p all short judged fits = tt
