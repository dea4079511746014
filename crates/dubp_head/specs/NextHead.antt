-- The head of a block behind a chain, where it passes a limit, and the rules that compare it with what the block states. Protocol:
-- head values; rules.
use Rattle.std.specs.Prelude.{◌≡◌, ℕ, ◌<◌, List, [], ◌∷◌, None, Some, ⊤}
use Rattle.dubp_atoms.specs.Same.{Text}
use Rattle.dubp_params.specs.declared.params.Params.{Params}
use Rattle.dubp_pow.specs.Meeting.{Meets}
use Rattle.dubp_block.specs.declared.block.Block.{Block}
use Rattle.dubp_block.specs.Text.{block_hash_of, size_of}
use Rattle.dubp_rules.specs.declared.rule.Rule.{Rule}
use Rattle.dubp_rules.specs.declared.rule.Rule.TheVariants.{G50, G54, G55, G56, G57, G58, G59, G60, G61, G62}
use Rattle.dubp_rules.specs.First.{IsFirst}
use Rattle.dubp_chain.specs.declared.head.Head.{Head}
use Rattle.dubp_chain.specs.Heads.{first_head, later_head, difficulty_behind}
use Rattle.dubp_validity.specs.HeadRules.{greatest_size}
use Rattle.dubp_head.specs.declared.refusal.HeadRefusal.{HeadRefusal}
use Rattle.dubp_head.specs.declared.refusal.HeadRefusal.TheVariants.{Refused, NoMemory}
use Rattle.dubp_head.specs.Following.{LimitHolds, limit_rules}

-- the head of a block that passes a limit: it has no new dividend, and the money of the head before
abbrev pub without_dividend : Params → ℕ → List Head → Block → Head
without_dividend p count [] b = first_head p count b
without_dividend p count (h ∷ hs) b =
    record (later_head p count h (h ∷ hs) b) { dividend = h.dividend; unit_base = h.unit_base; mass = h.mass; mass_reeval = h.mass_reeval; ud = None }

-- the first limit that the block passes is this rule, and this is what its head is without a dividend
pub record PassesLimit (p : Params) (count : ℕ) (hs : List Head) (b : Block) (rule : Rule) (head : Head) : Type 0 where
  pub first : IsFirst (LimitHolds p count hs b) limit_rules (Some rule)
  pub head_is : head ≡ without_dividend p count hs b

-- what a refusal says of the block
abbrev pub IsRefusal : Params → ℕ → List Head → Block → HeadRefusal → Type 0
IsRefusal p count hs b (Refused rule head) = PassesLimit p count hs b rule head
IsRefusal p count hs b NoMemory = ⊤

-- the refusal names a limit
abbrev pub IsOfLimit : HeadRefusal → Type 0
IsOfLimit (Refused rule head) = ⊤
IsOfLimit NoMemory = ⊥

-- the size of a block is bounded behind a first block
abbrev pub IsSmallEnough : List Head → Head → Block → Type 0
IsSmallEnough [] head b = ⊤
IsSmallEnough (h ∷ hs) head b = size_of b < greatest_size head.issuers (h ∷ hs)

-- the difficulty of a key for the next block: PoWMin for a first block
abbrev pub difficulty_for : Params → List Head → ℕ → Text → ℕ
difficulty_for p [] pow_min k = pow_min
difficulty_for p (h ∷ hs) pow_min k = difficulty_behind p h (h ∷ hs) k

-- what each rule on the header says of a block whose head is `head`, behind the heads `hs`
abbrev pub HeaderHolds : Params → List Head → Head → Block → Rule → Type 0
HeaderHolds p hs head b G50 = IsSmallEnough hs head b
HeaderHolds p hs head b G54 = b.issuers ≡ head.issuers
HeaderHolds p hs head b G55 = b.frame ≡ head.frame
HeaderHolds p hs head b G56 = b.frame_var ≡ head.frame_var
HeaderHolds p hs head b G57 = b.median_time ≡ head.median_time
HeaderHolds p hs head b G58 = b.dividend ≡ head.ud
HeaderHolds p hs head b G59 = b.unit_base ≡ head.unit_base
HeaderHolds p hs head b G60 = b.members ≡ head.members
HeaderHolds p hs head b G61 = b.pow_min ≡ head.pow_min
HeaderHolds p hs head b G62 = Meets (block_hash_of b) (difficulty_for p hs b.pow_min b.issuer)
HeaderHolds p hs head b rule = ⊤

abbrev pub header_rules : List Rule
header_rules = G50 ∷ G54 ∷ G55 ∷ G56 ∷ G57 ∷ G58 ∷ G59 ∷ G60 ∷ G61 ∷ G62 ∷ []

-- those without the rule on the difficulty, which a block that is not signed yet cannot keep
abbrev pub stated_rules : List Rule
stated_rules = G50 ∷ G54 ∷ G55 ∷ G56 ∷ G57 ∷ G58 ∷ G59 ∷ G60 ∷ G61 ∷ []
