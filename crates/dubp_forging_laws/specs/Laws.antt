-- Laws of drafts and of forged blocks, each of which a public function without a body promises. Protocol: forging.
use Rattle.std.specs.Prelude.{◌≡◌, ◌↔◌, ◌≤◌, ℕ, Bool, true, not, List, length, None, ⊤, ◌++◌}
use Rattle.std.specs.List.{AllByRecursion, list_any}
use Rattle.dubp_atoms.specs.Hashing.{hash_of}
use Rattle.dubp_atoms.specs.Letters.{is_sig}
use Rattle.dubp_atoms.specs.Same.{Text, same_text}
use Rattle.dubp_atoms.specs.Spelling.{IsNumber}
use Rattle.dubp_cond.specs.declared.tx.Tx.{Tx}
use Rattle.dubp_docs.specs.declared.doc.Doc.TheVariants.{Transaction}
use Rattle.dubp_block.specs.Text.{IsBlock, block_text, inner_text}
use Rattle.dubp_block.specs.declared.block.Block.{Block}
use Rattle.dubp_rules.specs.declared.rule.Rule.{Rule}
use Rattle.dubp_verdict.specs.Verdicts.{Verdicts}
use Rattle.dubp_chain.specs.Chains.{Chain}
use Rattle.dubp_validity.specs.LocalRules.{BlockIsSigned}
use Rattle.dubp_validity.specs.HeadRules.{HashMeetsDifficulty}
use Rattle.dubp_validity.specs.Rules.{FirstBrokenRaw, longest_block}
use Rattle.dubp_pool.specs.Pools.{AreApart}
use Rattle.dubp_forging.specs.OfPool.{Doc, doc_hash}
use Rattle.dubp_forging.specs.Filled.{IsFilled}
use Rattle.dubp_forging.specs.Drafts.{FirstBad}
use Rattle.dubp_forging.specs.Forged.{Forging, IsForged, IsTried, is_in}

-- two blocks that a draft becomes behind a chain are one
abbrev pub DraftsAreOne : Type 0
DraftsAreOne = (c : Chain) (draft b b' : Block) → IsFilled c draft b → IsFilled c draft b' → b ≡ b'

-- two blocks that are forged from the same are one, and so is what they leave out
abbrev pub ForgingIsOne : Type 0
ForgingIsOne =
    (f : Forging) (b b' : Block) (left left' : List (Text × Rule)) → IsForged f b left → IsForged f b' left' → (b ≡ b') × (left ≡ left')

-- the document is named among those that are left out
abbrev pub is_left : List (Text × Rule) → Doc → Bool
is_left left d = list_any (λ l. same_text (doc_hash d) l.0) left

-- it is named exactly where it is not in the draft
abbrev pub IsInOrNamed : List Doc → List (Text × Rule) → Doc → Type 0
IsInOrNamed docs left d = is_left left d ≡ not (is_in docs d)

-- each document of a pool, of which no two have one text
abbrev pub EachIsInOrNamed : Type 0
EachIsInOrNamed =
    (f : Forging) (b : Block) (left : List (Text × Rule)) (forged : IsForged f b left) → AreApart f.pool
    → AllByRecursion (IsInOrNamed forged.docs left) f.pool

-- the block with this nonce and this signature
abbrev pub sealed : Block → ℕ → Text → Block
sealed b nonce sig = record b { nonce = nonce; sig = sig }

-- it is not too long, it is signed, and its hash meets the difficulty
pub record IsSealedWell (v : Verdicts) (c : Chain) (b : Block) : Type 0 where
  pub short : length (block_text b) ≤ longest_block
  pub signed : BlockIsSigned v b
  pub meets : HashMeetsDifficulty c b

-- exactly then a draft without another fault is accepted
abbrev pub SealedIsAccepted : Type 0
SealedIsAccepted =
    (v : Verdicts) (c : Chain) (b : Block) (nonce : ℕ) (sig : Text) → IsBlock b → FirstBad v c b None → IsNumber nonce → is_sig sig ≡ true
    → FirstBrokenRaw v c (block_text (sealed b nonce sig)) None ↔ IsSealedWell v c (sealed b nonce sig)

-- ---- fewer transactions

-- the block with these transactions, and the inner hash of that
abbrev pub with_transactions : Block → List Tx → Block
with_transactions b txs = record b { transactions = txs; inner_hash = hash_of (inner_text (record b { transactions = txs })) }

abbrev pub IsTransaction : Doc → Type 0
IsTransaction (Transaction d) = ⊤
IsTransaction d = ⊥

-- Transactions come behind documents: where the draft with all of them breaks no rule, neither does the draft without the last of them.
abbrev pub FewerTransactionsFit : Type 0
FewerTransactionsFit = (f : Forging) (docs more : List Doc) → AllByRecursion IsTransaction more → IsTried f (docs ++ more) None → IsTried f docs None
