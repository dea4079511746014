-- Bytes as whole entries, and a rest that begins with none.
use Rattle.std.specs.Prelude.{◌≡◌, ℕ, List, [], ◌∷◌, ◌++◌, if◌then◌else◌, ◌==◌, not}
use Rattle.std.specs.List.{flat_map, list_all}
use Rattle.dubp_atoms.specs.Letters.{LF}
use Rattle.dubp_entries.specs.Entries.{Entry, text_of, IsWhole, AllWhole}

-- no whole entry begins these bytes
abbrev pub BeginsNone : List ℕ → Type 0
BeginsNone bytes = (entry : Entry) (more : List ℕ) → IsWhole entry → bytes ≡ text_of entry ++ more → ⊥

-- the bytes of these entries
abbrev pub texts : List Entry → List ℕ
texts entries = flat_map text_of entries

-- the bytes are these whole entries, and then less than one
pub record Cut (bytes : List ℕ) (entries : List Entry) (rest : List ℕ) : Type 0 where
  pub bytes_are : bytes ≡ texts entries ++ rest
  pub each : AllWhole entries
  pub no_more : BeginsNone rest

-- the LF that the last line lacks, where the input ended without one
abbrev pub lacking : List ℕ → List ℕ
lacking [] = []
lacking (b ∷ bs) = if list_all (λ x. not (x == LF)) (b ∷ bs) then LF ∷ [] else []

-- the same where the input ended: a last line without LF is read as if one stood there
pub record CutAtEnd (bytes : List ℕ) (entries : List Entry) (rest : List ℕ) : Type 0 where
  pub before : List Entry
  pub tail : List ℕ
  pub open_end : Cut bytes before tail
  pub closed : Cut (bytes ++ lacking tail) entries rest

-- bytes are cut in one way
abbrev pub CutOnce : Type 0
CutOnce = (bytes : List ℕ) (cs ds : List Entry) (r s : List ℕ) → Cut bytes cs r → Cut bytes ds s → (cs ≡ ds) × (r ≡ s)

-- any bytes can be cut
abbrev pub CutExists : Type 0
CutExists = (bytes : List ℕ) → (entries : List Entry) × (rest : List ℕ) × Cut bytes entries rest

-- bytes that come in two pieces are cut as the first, and then what that leaves with the second
abbrev pub CutGoesOn : Type 0
CutGoesOn = (xs ys : List ℕ) (cs ds : List Entry) (r s : List ℕ) → Cut xs cs r → Cut (r ++ ys) ds s → Cut (xs ++ ys) (cs ++ ds) s
