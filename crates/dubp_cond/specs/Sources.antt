-- The one spelling of sources and inputs, and which of them have one. Protocol: sources.
use Rattle.std.specs.Prelude.{ℕ, ◌≤◌, ◌≡◌, true, List, ◌∷◌, ◌++◌, codes, decimal}
use Rattle.dubp_atoms.specs.Letters.{COLON, is_key, is_hash}
use Rattle.dubp_atoms.specs.Spelling.{IsNumber}
use Rattle.dubp_cond.specs.declared.source.SourceId.{SourceId}
use Rattle.dubp_cond.specs.declared.source.SourceId.TheVariants.{D, T}
use Rattle.dubp_cond.specs.declared.source.Input.{Input}

-- SOURCE: `D:KEY:NUM` or `T:HASH:NUM`
abbrev pub source_text : SourceId → List ℕ
source_text (D key block) = codes "D:" ++ (key ++ COLON ∷ decimal block)
source_text (T tx index) = codes "T:" ++ (tx ++ COLON ∷ decimal index)

abbrev pub IsSource : SourceId → Type 0
IsSource (D key block) = (is_key key ≡ true) × IsNumber block
IsSource (T tx index) = (is_hash tx ≡ true) × IsNumber index

-- INPUT: `NUM:BASE:SOURCE`
abbrev pub input_text : Input → List ℕ
input_text i = decimal i.amount ++ COLON ∷ (decimal i.base ++ COLON ∷ source_text i.source)

pub record IsInput (i : Input) : Type 0 where
  pub amount : IsNumber i.amount
  pub base : i.base ≤ 15
  pub source : IsSource i.source
