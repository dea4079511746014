-- What was found of a block on the chain of a ledger.
use Rattle.std.proofs.Common.{◌≡◌, subst}
use Rattle.dubp_block.specs.declared.block.Block.{Block}
use Rattle.dubp_verdict.specs.Verdicts.{Verdicts}
use Rattle.dubp_people_and_money.specs.OfKept.{KeptChain}
use Rattle.dubp_people_and_money.specs.OfKept.{Judged}
use Rattle.dubp_people_and_money.specs.OfKept.{Judgement}

pub found_here : (v : Verdicts) (s t : KeptChain) (b : Block) (j k : Judgement) → s ≡ t → j ≡ k → Judged v s.chain b j → Judged v t.chain b k
found_here v s t b j k same is found = subst (λ (x : KeptChain). Judged v x.chain b k) same (subst (Judged v s.chain b) is found)
