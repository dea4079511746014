-- Steps of the code that fills a draft: the draft in its place with an empty header, and the header written into it. Protocol: the
-- generator.
use Rattle.std.specs.Prelude.{◌≡◌, ◌≤◌, ℕ, ◌⊎◌, pos, List, ◌∷◌, Some, None}
use Rattle.dubp_atoms.specs.Same.{Text}
use Rattle.dubp_atoms.specs.Hashing.{hash_of}
use Rattle.dubp_atoms.specs.Spelling.{IsNumber, IsSigned}
use Rattle.dubp_block.specs.Text.{inner_text, IsDividend}
use Rattle.dubp_block.specs.declared.block.Block.{Block}
use Rattle.dubp_chain.specs.declared.head.Head.{Head}
use Rattle.dubp_chain.specs.Chains.{Chain, params}
use Rattle.dubp_chain.specs.Heads.{heads_of}
use Rattle.dubp_head.specs.Laws.{head_with, members_with}
use Rattle.dubp_head.specs.NextHead.{without_dividend}
use Rattle.dubp_forging.specs.Filled.{IsWithinLimits, blank_sig}

-- the draft as the block of this number behind the last head, with these exclusions, at time 0 and with an empty header
abbrev pub placed : Text → ℕ → Head → List Text → Block → Block
placed currency number last excluded d = record d {
  version = last.version;
  currency = currency;
  number = number;
  pow_min = 0;
  time = 0;
  median_time = 0;
  dividend = None;
  unit_base = 0;
  frame = 0;
  frame_var = pos 0;
  issuers = 0;
  previous = Some (last.hash, last.issuer);
  params = None;
  members = 0;
  excluded = excluded;
  nonce = 0;
  sig = blank_sig;
}

-- with the values of a head, and a time
abbrev pub stating : ℕ → Head → Block → Block
stating time h b = record b {
  pow_min = h.pow_min;
  time = time;
  median_time = h.median_time;
  dividend = h.ud;
  unit_base = h.unit_base;
  frame = h.frame;
  frame_var = h.frame_var;
  issuers = h.issuers;
  members = h.members;
}

-- with its inner hash
abbrev pub hashed : Block → Block
hashed b = record b { inner_hash = hash_of (inner_text b) }

-- the head of the block, where it passes no limit, or that without a dividend and with the money of the chain
abbrev pub IsStated : Chain → Block → Head → Type 0
IsStated c b h =
    (IsWithinLimits c b × (h ≡ head_with c b))
    ⊎ ((IsWithinLimits c b → ⊥) × (h ≡ without_dividend (params (b ∷ c)) (members_with c b) (heads_of c) b))

-- the values of a head that a header states are in range
pub record CanBeStated (h : Head) : Type 0 where
  pub pow_min : IsNumber h.pow_min
  pub median_time : IsNumber h.median_time
  pub dividend : IsDividend h.ud
  pub unit_base : h.unit_base ≤ 15
  pub frame : IsNumber h.frame
  pub frame_var : IsSigned h.frame_var
  pub issuers : IsNumber h.issuers
  pub members : IsNumber h.members
