-- What a call of `submit`, and of `revert`, says. Protocol: chains; rules.
use Rattle.std.specs.Prelude.{◌≡◌, ◌<◌, ℕ, true, false, Option, Some, None}
use Rattle.dubp_atoms.specs.Same.{Text}
use Rattle.dubp_atoms.specs.declared.stamp.Stamp.{Stamp}
use Rattle.dubp_block.specs.declared.block.Block.{Block}
use Rattle.dubp_block.specs.Text.{stamp_of}
use Rattle.dubp_chain.specs.Chains.{Chain}
use Rattle.dubp_chain.specs.Heads.{difficulty}
use Rattle.dubp_chain.specs.Members.{member}
use Rattle.dubp_verdict.specs.Verdicts.{Verdicts}
use Rattle.dubp_people_and_money.specs.OfValidity.{FirstBroken}
use Rattle.dubp_people_and_money.specs.OfKept.{KeptChain, with_block}
use Rattle.dubp_ledger.specs.declared.refusal.TooDeep.{TooDeep}
use Rattle.dubp_ledger.specs.declared.refusal.SubmitRefusal.{SubmitRefusal}
use Rattle.dubp_ledger.specs.declared.refusal.SubmitRefusal.TheVariants.{Refused, NoMemory}

-- the difficulty that a key has for the next block where it is a member of the chain, and none where it is not
abbrev pub IsDifficulty : Chain → Text → Option ℕ → Type 0
IsDifficulty c k None = member c k ≡ false
IsDifficulty c k (Some d) = (member c k ≡ true) × (difficulty c k ≡ Some d)

-- fewer blocks can be reversed than are asked for
pub record IsTooDeep (old : KeptChain) (count : ℕ) (refusal : TooDeep) (new : KeptChain) : Type 0 where
  pub fewer : old.kept < count
  pub kept_is : refusal.kept ≡ old.kept
  pub same : new ≡ old

-- no rule is broken, and the block joins the chain
pub record Accepted (v : Verdicts) (old : KeptChain) (b : Block) (stamp : Stamp) (new : KeptChain) : Type 0 where
  pub keeps : FirstBroken v old.chain b None
  pub stamp_is : stamp ≡ stamp_of b
  pub joins : new ≡ with_block b old

-- the block is handed back, and the ledger is as before
abbrev pub HandedBack : Verdicts → KeptChain → Block → SubmitRefusal → KeptChain → Type 0
HandedBack v old b (Refused rule back) new = FirstBroken v old.chain b (Some rule) × (back ≡ b) × (new ≡ old)
HandedBack v old b (NoMemory back) new = (back ≡ b) × (new ≡ old)
