-- What contracts see of the stored blocks of branches: their list, in the order in which they came. Protocol: commands and answers.
use Rattle.std.specs.Prelude.{◌≡◌, ◌≤◌, Bool, false, List, [], ◌∷◌, length, ⊤}
use Rattle.std.specs.List.{AllByRecursion, list_any}
use Rattle.dubp_block.specs.declared.block.Block.{Block}
use Rattle.dubp_block.specs.Text.{IsBlock, block_text, stamp_of}
use Rattle.dubp_verdict.specs.Verdicts.{Verdicts}
use Rattle.dubp_validity.specs.Rules.{longest_block}
use Rattle.dubp_chain.specs.Chains.{Chain}
use Rattle.dubp_ledger.specs.OfKept.{KeptChain}
use Rattle.dubp_replay.specs.Turns.{Branches, is_stamped, most_stored}

-- a block in range, whose text is no longer than blocks are read
pub record IsStorable (b : Block) : Type 0 where
  pub text : IsBlock b
  pub short : length (block_text b) ≤ longest_block

-- one of these blocks has the stamp of that one
abbrev pub has_stamp_of : List Block → Block → Bool
has_stamp_of blocks b = list_any (is_stamped (stamp_of b)) blocks

-- no two of these blocks have one stamp
abbrev pub AreApart : List Block → Type 0
AreApart [] = ⊤
AreApart (b ∷ blocks) = (has_stamp_of blocks b ≡ false) × AreApart blocks

-- what may stand in a store
pub record AreStored (store : List Block) : Type 0 where
  pub each : AllByRecursion IsStorable store
  pub apart : AreApart store
  pub few : length store ≤ most_stored

-- none of these blocks is in the chain
abbrev pub AreOutside : List Block → Chain → Type 0
AreOutside store c = AllByRecursion (λ b. has_stamp_of c b ≡ false) store

-- the state that verdicts, a ledger and a store make together
abbrev pub state_of : Verdicts → KeptChain → List Block → Branches
state_of v s store = record { verdicts = v; chain = s.chain; kept = s.kept; store = store }
