-- What the code has made so far. Protocol: the generator.
use Rattle.std.specs.Prelude.{◌≡◌, ◌≤◌, ℕ, List, [], reverse, length, None}
use Rattle.dubp_verdict.specs.Verdicts.{Verdicts}
use Rattle.dubp_ledger.specs.OfKept.{KeptChain, with_block}
use Rattle.dubp_gen.specs.declared.chain.Chain.{Chain}
use Rattle.dubp_block.specs.Text.{block_text}
use Rattle.dubp_block.specs.declared.block.Block.{Block}
use Rattle.dubp_chain.specs.Chains.{Chain as Blocks}
use Rattle.dubp_validity.specs.Rules.{FirstBroken, longest_block}
use Rattle.dubp_drafts.specs.Drafting.{Given}
use Rattle.dubp_drafts.specs.Sealing.{IsSealed}
use Rattle.dubp_drafts.specs.declared.sealed.Sealed.{Sealed}
use Rattle.dubp_cond.specs.declared.source.Input.{Input}
use Rattle.dubp_ledger.specs.OfAnswers.{SourceView}
use Rattle.dubp_gen.specs.Generated.{Made, IsToSeal, IssuerMay, number_at, with_given}

-- the blocks and the verdicts of a chain that was made
abbrev pub made_of : Chain → Made
made_of c = record { chain = reverse c.blocks.items; given = c.verdicts.items }

-- the blocks of a ledger, and the verdicts that were noted beside it
abbrev pub made_in : KeptChain → List Given → Made
made_in ledger noted = record { chain = ledger.chain; given = noted }

-- the verdicts are those that were noted, and x is the number of the next block of the ledger in the run
pub record IsOfMade (start : ℕ) (ledger : KeptChain) (v : Verdicts) (x : ℕ) (noted : List Given) : Type 0 where
  pub verdicts : v ≡ with_given [] noted
  pub number : x ≡ number_at start (length ledger.chain)

-- the ledger has one block more
abbrev pub HasGrown : KeptChain → KeptChain → Type 0
HasGrown old new = (b : Block) × (new ≡ with_block b old)

-- the draft was sealed behind the chain
pub record IsSealedBlock (c : Blocks) (draft : Block) (s : Sealed) : Type 0 where
  pub filled : Block
  pub difficulty : ℕ
  pub to_seal : IsToSeal c draft filled difficulty
  pub may : IssuerMay c filled.issuer
  pub sealed : IsSealed filled difficulty s

-- the block is short and breaks no rule
pub record Joins (v : Verdicts) (c : Blocks) (b : Block) : Type 0 where
  pub short : length (block_text b) ≤ longest_block
  pub keeps : FirstBroken v c b None

-- a source that is shown, as an input
abbrev pub input_of : SourceView → Input
input_of view = record { amount = view.amount; base = view.base; source = view.source }
