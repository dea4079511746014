-- Which stored branch the node would choose. Protocol: choice.
use Rattle.std.specs.Prelude.{◌≡◌, ◌<◌, ◌≤◌, ◌&&◌, ◌+◌, ◌-◌, ℕ, zero, suc, Bool, true, false, cond, not, List, [], ◌∷◌, ◌++◌, length, find, Option, Some, None, nat_le, nat_lt}
use Rattle.std.specs.List.{AllByRecursion, list_any}
use Rattle.std.specs.Option.{MatchOption, option_map_or}
use Rattle.dubp_atoms.specs.Same.{same_stamp}
use Rattle.dubp_atoms.specs.declared.stamp.Stamp.{Stamp}
use Rattle.dubp_resolve.specs.declared.view.Offered.{Offered}

-- one of these stamps is this one
abbrev pub is_among : List Stamp → Stamp → Bool
is_among stamps s = list_any (same_stamp s) stamps

-- what a choice depends on: the stored blocks in their order, the stamps of the last blocks of the chain, how long the chain is, how
-- many of its blocks can be reversed, and the blocks at which a branch failed before
pub record Choices : Type 0 where
  pub offers : List Offered
  pub recent : List Stamp
  pub length : ℕ
  pub kept : ℕ
  pub failed : List Stamp

-- how many blocks are stored at most
abbrev pub most_stored : ℕ
most_stored = 1024

-- ---- the path

abbrev pub has_stamp : Stamp → Offered → Bool
has_stamp s b = same_stamp s b.stamp

abbrev pub stored : List Offered → Stamp → Option Offered
stored offers s = find (has_stamp s) offers

-- stored blocks, newest first, and the stamp that leads on from the last of them; block 0 leads on to none
pub record Path : Type 0 where
  pub blocks : List Offered
  pub end : Option Stamp

abbrev pub ends : Option Stamp → Path
ends end = record { blocks = []; end = end }

abbrev pub with_tip : Offered → Path → Path
with_tip b below = record { blocks = b ∷ below.blocks; end = below.end }

-- the path from a stamp, of at most so many blocks: each is the stored one of the stamp that leads to it
abbrev pub path : List Offered → ℕ → Option Stamp → Path
path offers zero at = ends at
path offers (suc most) None = ends None
path offers (suc most) (Some s) = option_map_or (λ b. with_tip b (path offers most b.previous)) (stored offers s) (ends (Some s))

-- the path of a stored block: below a block of number i are at most i others
abbrev pub path_of : Choices → Offered → Path
path_of v b = path v.offers (suc b.stamp.number) (Some b.stamp)

-- the same as a relation: the path from a stored stamp, newest block first, and where it ends
abbrev pub IsPath : List Offered → Stamp → List Offered → Option Stamp → Type 0
IsPath offers s [] end = (stored offers s ≡ None) × (end ≡ Some s)
IsPath offers s (b ∷ blocks) end =
    (stored offers s ≡ Some b) × MatchOption b.previous ((blocks ≡ []) × (end ≡ None)) (λ before. IsPath offers before blocks end)

-- ---- candidates

-- a path is detached where it ends neither at a recent block of the chain nor at the empty chain
abbrev pub is_detached : Choices → Path → Bool
is_detached v p = option_map_or (λ s. not (is_among v.recent s)) p.end false

-- how many blocks the chain has up to where a path ends
abbrev pub height_under : Path → ℕ
height_under p = option_map_or (λ (s : Stamp). s.number + 1) p.end 0

-- how many blocks of the chain stand behind that, and would be reversed
abbrev pub behind : Choices → Path → ℕ
behind v p = v.length - height_under p

-- how many blocks would be stored behind the switch
abbrev pub stored_then : Choices → Path → ℕ
stored_then v p = (length v.offers - length p.blocks) + behind v p

-- a branch failed at one of its blocks before
abbrev pub has_failed : Choices → Path → Bool
has_failed v p = list_any (λ b. is_among v.failed b.stamp) p.blocks

abbrev pub is_candidate : Choices → Offered → Bool
is_candidate v b =
    let p = path_of v b in
    nat_le (v.length + 2) b.stamp.number
    && (not (is_detached v p)
    && (nat_le (behind v p) v.kept
    && (nat_le (stored_then v p) most_stored
    && not (has_failed v p))))

-- ---- the choice

-- a candidate takes the place of the one before it, where its number is greater
abbrev pub better : Choices → Option Offered → Offered → Option Offered
better v best b = cond (is_candidate v b && option_map_or (λ c. nat_lt c.stamp.number b.stamp.number) best true) (Some b) best

abbrev pub best_of : Choices → Option Offered → List Offered → Option Offered
best_of v best [] = best
best_of v best (b ∷ bs) = best_of v (better v best b) bs

abbrev pub choice : Choices → Option Offered
choice v = best_of v None v.offers

-- ---- what the choice is

-- each candidate among these blocks has a number that passes
abbrev pub EachCandidate : Choices → (ℕ → Type 0) → List Offered → Type 0
EachCandidate v Passes blocks = AllByRecursion (λ b. is_candidate v b ≡ true → Passes b.stamp.number) blocks

-- the candidate of greatest number; among equal numbers the first
pub record IsGreatest (v : Choices) (blocks : List Offered) (b : Offered) : Type 0 where
  pub before : List Offered
  pub after : List Offered
  pub stands : blocks ≡ before ++ b ∷ after
  pub candidate : is_candidate v b ≡ true
  pub first : EachCandidate v (λ number. number < b.stamp.number) before
  pub greatest : EachCandidate v (λ number. number ≤ b.stamp.number) after

-- none exactly where there is no candidate
abbrev pub IsChoice : Choices → Option Offered → Type 0
IsChoice v chosen = MatchOption chosen (AllByRecursion (λ b. is_candidate v b ≡ false) v.offers) (IsGreatest v v.offers)
