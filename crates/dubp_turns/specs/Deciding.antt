-- What the parts of a turn ensure.
use Rattle.std.specs.Prelude.{◌≡◌, ◌⊎◌, ℕ, List, Option, Result, Ok, Err}
use Rattle.std.specs.Option.{MatchOption}
use Rattle.dubp_atoms.specs.declared.stamp.Stamp.{Stamp}
use Rattle.dubp_block.specs.declared.block.Block.{Block}
use Rattle.dubp_block.specs.Text.{stamp_of}
use Rattle.dubp_rules.specs.declared.rule.Rule.{Rule}
use Rattle.dubp_rules.specs.Table.{code_text}
use Rattle.dubp_validity.specs.Rules.{FirstBroken}
use Rattle.dubp_replay.specs.Answers.{accepted_answer, branch_refused_answer, detached_answer, full_answer, known_answer, no_memory_answer, refused_answer, stored_answer, switched_answer, too_deep_answer, unknown_answer, unread_answer}
use Rattle.dubp_replay.specs.Turns.{Branches, Only, BlockTurn, OfferTurn, accepted}
use Rattle.dubp_forks.specs.OfLedger.{SubmitRefusal}
use Rattle.dubp_forks.specs.OfLedger.{Refused, NoMemory}
use Rattle.dubp_forks.specs.declared.refusals.OfferRefusal.{OfferRefusal}
use Rattle.dubp_forks.specs.declared.refusals.OfferRefusal.TheVariants as offer
use Rattle.dubp_forks.specs.declared.refusals.SwitchRefusal.{SwitchRefusal}
use Rattle.dubp_forks.specs.declared.refusals.SwitchRefusal.TheVariants as switch

-- the block joins the chain
abbrev pub Joins : Branches → Block → List ℕ → Branches → Type 0
Joins old b answer new = (answer ≡ accepted_answer (stamp_of b)) × (new ≡ accepted old b)

-- the first rule that the block breaks is named, or it joins the chain
pub record Decision (old : Branches) (b : Block) (answer : List ℕ) (new : Branches) : Type 0 where
  pub broken : Option Rule
  pub first : FirstBroken old.verdicts old.chain b broken
  pub decides : MatchOption broken (Joins old b answer new) (λ rule. Only (refused_answer (code_text rule)) old answer new)

-- or memory ran out
abbrev pub Decided : Branches → Block → List ℕ → Branches → Type 0
Decided old b answer new = Decision old b answer new ⊎ Only no_memory_answer old answer new

-- a decision by what `submit` of the ledger said; nothing changes where memory ran out
abbrev pub IsDecided : Branches → Block → Result Stamp SubmitRefusal → Branches → Type 0
IsDecided old b (Ok stamp) new = Decision old b (accepted_answer stamp) new
IsDecided old b (Err (Refused rule block)) new = Decision old b (refused_answer (code_text rule)) new
IsDecided old b (Err (NoMemory block)) new = new ≡ old

-- the answer where `submit` of the ledger refused the block
abbrev pub refusal_text : SubmitRefusal → List ℕ
refusal_text (Refused rule block) = refused_answer (code_text rule)
refusal_text (NoMemory block) = no_memory_answer

-- BLOCK with these raw bytes was answered somehow
abbrev pub TakesTurn : Branches → List ℕ → Branches → Type 0
TakesTurn old bytes new = (answer : List ℕ) × BlockTurn old bytes answer new

-- BLOCK with these raw bytes, which are not too many, or memory ran out
abbrev pub ShortBlockActs : Branches → List ℕ → List ℕ → Branches → Type 0
ShortBlockActs old frame answer new = BlockTurn old frame answer new ⊎ Only no_memory_answer old answer new

-- the answer to what `offer` of the store said
abbrev pub offer_text : Result Stamp OfferRefusal → List ℕ
offer_text (Ok stamp) = stored_answer stamp
offer_text (Err (offer.Unread line)) = unread_answer line
offer_text (Err (offer.Local rule)) = refused_answer (code_text rule)
offer_text (Err (offer.Known stamp)) = known_answer stamp
offer_text (Err (offer.Full held)) = full_answer
offer_text (Err offer.NoMemory) = no_memory_answer

-- OFFER with these raw bytes, which are not too many, or memory ran out
abbrev pub ShortOfferActs : Branches → List ℕ → List ℕ → Branches → Type 0
ShortOfferActs old frame answer new = OfferTurn old frame answer new ⊎ Only no_memory_answer old answer new

-- the answer to what `switch` of the store said
abbrev pub switch_text : Stamp → Result (Unit {0}) SwitchRefusal → List ℕ
switch_text stamp (Ok done) = switched_answer stamp
switch_text stamp (Err switch.Unknown) = unknown_answer
switch_text stamp (Err (switch.Detached at)) = detached_answer at
switch_text stamp (Err (switch.TooDeep kept)) = too_deep_answer kept
switch_text stamp (Err (switch.Full held)) = full_answer
switch_text stamp (Err (switch.Refused at rule)) = branch_refused_answer at (code_text rule)
switch_text stamp (Err switch.NoMemory) = no_memory_answer
