-- The chain that the generator makes from a number, block by block, and how the making may end before. Protocol: the generator.
use Rattle.std.specs.Prelude.{◌≡◌, ℕ, zero, suc, ◌<◌, ◌≤◌, ◌⊎◌, IsTrue, List, [], ◌∷◌, ◌++◌, length, slice_get, Option, Some, None, option_map, ⊤}
use Rattle.dubp_atoms.specs.Same.{Text}
use Rattle.dubp_atoms.specs.Hashing.{hash_of}
use Rattle.dubp_cond.specs.Conditions.{cond_text}
use Rattle.dubp_cond.specs.declared.source.Input.{Input}
use Rattle.dubp_pow.specs.Meeting.{Meets}
use Rattle.dubp_block.specs.Text.{block_hash_of, block_text, signed_text, stamp_of}
use Rattle.dubp_block.specs.declared.block.Block.{Block}
use Rattle.dubp_rules.specs.declared.rule.Rule.{Rule}
use Rattle.dubp_rules.specs.declared.rule.Rule.TheVariants.{X01, G101}
use Rattle.dubp_verdict.specs.Verdicts.{Verdicts, verdict_of, with_verdict}
use Rattle.dubp_chain.specs.Chains.{Chain}
use Rattle.dubp_chain.specs.Heads.{difficulty}
use Rattle.dubp_chain.specs.Members.{member}
use Rattle.dubp_chain.specs.Money.{signed_by, sources_of}
use Rattle.dubp_validity.specs.Rules.{FirstBroken, longest_block}
use Rattle.dubp_drafts.specs.Keys.{key_text}
use Rattle.dubp_drafts.specs.Numbers.{number_after}
use Rattle.dubp_drafts.specs.Drafting.{Given, draft_of, first_draft, first_given, given_of, payer}
use Rattle.dubp_drafts.specs.Sealing.{sealed_with}
use Rattle.dubp_ledger.specs.OfForging.{IsFilled}
use Rattle.dubp_gen.specs.declared.chain.GenRefusal.{GenRefusal}
use Rattle.dubp_gen.specs.declared.chain.GenRefusal.TheVariants.{NoNonce, Invalid, NoMemory}

-- the run of numbers: the first is START
abbrev pub number_at : ℕ → ℕ → ℕ
number_at start zero = start
number_at start (suc n) = number_after (number_at start n)

-- what was made so far: the blocks, newest first, and the verdicts in the order in which they are given
pub record Made : Type 0 where
  pub chain : Chain
  pub given : List Given

abbrev pub nothing : Made
nothing = record { chain = []; given = [] }

-- the set of these verdicts
abbrev pub with_given : Verdicts → List Given → Verdicts
with_given v [] = v
with_given v (g ∷ gs) = with_given (with_verdict (verdict_of g.0 g.1 g.2) v) gs

-- ---- the next block

-- the first unspent source of SIG(K_i), in the order of making
abbrev pub first_source : Chain → ℕ → Option Input
first_source c i =
    option_map (λ s. record { amount = s.amount; base = s.base; source = s.id }) (slice_get (sources_of c (cond_text (signed_by (key_text i)))) 0)

-- its lines and the verdicts of these: for the first block, and behind a block a
abbrev pub next_draft : ℕ → Chain → Block
next_draft start [] = first_draft
next_draft start (a ∷ c) =
    let n = length (a ∷ c) in
    let x = number_at start n in
    draft_of n x (stamp_of a) (first_source (a ∷ c) (payer x))

abbrev pub next_given : ℕ → Chain → List Given
next_given start [] = first_given
next_given start (a ∷ c) =
    let n = length (a ∷ c) in
    let x = number_at start n in
    given_of n x (stamp_of a) (first_source (a ∷ c) (payer x))

-- what is sealed of a draft, and for which difficulty: a first one as it is, for 0; a later one once it is filled, for the difficulty of its
-- issuer
abbrev pub IsToSeal : Chain → Block → Block → ℕ → Type 0
IsToSeal [] draft b d = (b ≡ draft) × (d ≡ 0)
IsToSeal (a ∷ c) draft b d = IsFilled (a ∷ c) draft b × (difficulty (a ∷ c) b.issuer ≡ Some d)

-- the issuer of a later block is a member
abbrev pub IssuerMay : Chain → Text → Type 0
IssuerMay [] k = ⊤
IssuerMay (a ∷ c) k = IsTrue (member (a ∷ c) k)

-- no nonce up to 999,999 meets the difficulty
abbrev pub HasNoNonce : Block → ℕ → Type 0
HasNoNonce b d = (nonce : ℕ) → nonce ≤ 999999 → Meets (block_hash_of (sealed_with b nonce)) d → ⊥

-- with the least nonce that meets the difficulty
pub record IsLeast (b : Block) (d nonce : ℕ) : Type 0 where
  pub within : nonce ≤ 999999
  pub meets : Meets (block_hash_of (sealed_with b nonce)) d
  pub least : (n : ℕ) → n < nonce → Meets (block_hash_of (sealed_with b n)) d → ⊥

-- the verdict on the signature of a block
abbrev pub own : Block → Given
own b = (b.issuer, hash_of (signed_text b), b.sig)

-- with the verdicts of the lines of the next block, and its own
abbrev pub given_with : ℕ → Made → Block → List Given
given_with start m b = m.given ++ (next_given start m.chain ++ own b ∷ [])

-- the sealed block b is behind what was made, and these are the verdicts then
pub record IsSealedNext (start : ℕ) (m : Made) (b : Block) : Type 0 where
  pub filled : Block
  pub difficulty : ℕ
  pub nonce : ℕ
  pub to_seal : IsToSeal m.chain (next_draft start m.chain) filled difficulty
  pub may : IssuerMay m.chain filled.issuer
  pub least : IsLeast filled difficulty nonce
  pub is : b ≡ sealed_with filled nonce

-- and it breaks no rule
pub record IsMadeNext (start : ℕ) (m : Made) (b : Block) (new : Made) : Type 0 where
  pub next : IsSealedNext start m b
  pub short : length (block_text b) ≤ longest_block
  pub keeps : FirstBroken (with_given [] (given_with start m b)) m.chain b None
  pub chain : new.chain ≡ b ∷ m.chain
  pub given : new.given ≡ given_with start m b

-- so many blocks were made
abbrev pub IsMade : ℕ → ℕ → Made → Type 0
IsMade start zero m = m ≡ nothing
IsMade start (suc n) m = (before : Made) × (b : Block) × (IsMade start n before × IsMadeNext start before b m)

-- ---- where the making ends

-- the block is too long, or with these verdicts it breaks this rule first
abbrev pub IsBroken : Verdicts → Chain → Block → Rule → Type 0
IsBroken v c b rule =
    ((longest_block < length (block_text b)) × (rule ≡ X01))
    ⊎ ((length (block_text b) ≤ longest_block) × FirstBroken v c b (Some rule))

-- the draft cannot be sealed: there is no nonce, or its issuer is no member
abbrev pub HasNoSeal : Chain → Block → GenRefusal → Type 0
HasNoSeal c draft (NoNonce block) =
    (block ≡ length c) × ((b : Block) × (d : ℕ) × (IsToSeal c draft b d × (IssuerMay c b.issuer × HasNoNonce b d)))
HasNoSeal c draft (Invalid block rule) = (block ≡ length c) × ((rule ≡ G101) × ((IssuerMay c draft.issuer) → ⊥))
HasNoSeal c draft NoMemory = ⊤

-- the sealed block is refused
abbrev pub IsRefused : Verdicts → Chain → Block → GenRefusal → Type 0
IsRefused v c b (NoNonce block) = ⊥
IsRefused v c b (Invalid block rule) = (block ≡ length c) × IsBroken v c b rule
IsRefused v c b NoMemory = ⊤

-- the next block cannot be sealed, or is refused
abbrev pub EndsWith : ℕ → Made → GenRefusal → Type 0
EndsWith start m refusal =
    HasNoSeal m.chain (next_draft start m.chain) refusal
    ⊎ ((b : Block) × (IsSealedNext start m b × IsRefused (with_given [] (given_with start m b)) m.chain b refusal))

-- that happens when fewer than n blocks were made
abbrev pub Ends : ℕ → ℕ → GenRefusal → Type 0
Ends start n refusal = (m : Made) × (k : ℕ) × ((k < n) × (IsMade start k m × EndsWith start m refusal))
