-- How many of the last blocks of a chain each issuer issued. This mirrors the code.
use Rattle.std.specs.Prelude.{◌≡◌, ℕ, ◌<◌, ◌≤◌, List, [], ◌∷◌, Option, if◌then◌else◌, length, map, reverse, slice_index_or, take}
use Rattle.std.specs.List.{list_any}
use Rattle.std.specs.Set.{distinct_count, unique_keys}
use Rattle.dubp_atoms.specs.Same.{Text, same_text}
use Rattle.dubp_time.specs.Median.{count_of}
use Rattle.dubp_chain.specs.Heads.{blocks_of}
use Rattle.dubp_head.specs.LastBlocks.{last_place}

-- what contracts see: how many blocks of the frame each issuer has, in the order of their first blocks in the chain; for each block of
-- the chain, oldest first, the number of its issuer; the counts that are not 0, the greatest first; how many blocks the frame has; and
-- for how many blocks of the chain there is room
pub record CountsState : Type 0 where
  pub counts : List ℕ
  pub numbers : List ℕ
  pub ranked : List ℕ
  pub blocks : ℕ
  pub room : ℕ

-- Issuers are listed newest first.

-- each issuer once, in the order of their first blocks
abbrev pub in_turn : List Text → List Text
in_turn issuers = reverse (unique_keys same_text issuers)

-- the number of an issuer: how many came before his first block
abbrev pub number_of : List Text → Text → ℕ
number_of [] k = 0
number_of (i ∷ is) k = if list_any (same_text k) is then number_of is k else distinct_count same_text is

-- for each block the number of its issuer
abbrev pub numbers_of : List Text → List ℕ
numbers_of [] = []
numbers_of (i ∷ is) = number_of (i ∷ is) i ∷ numbers_of is

-- none stands before a greater one
abbrev pub IsFalling : List ℕ → Type 0
IsFalling ns = (i j : ℕ) → i ≤ j → j < length ns → slice_index_or ns j 0 ≤ slice_index_or ns i 0

-- the first place, and the last place, of a number in a falling list
pub record IsFirstPlace (ns : List ℕ) (n place : ℕ) : Type 0 where
  pub within : place < length ns
  pub is : slice_index_or ns place 0 ≡ n
  pub before : (k : ℕ) → k < place → n < slice_index_or ns k 0

pub record IsLastPlace (ns : List ℕ) (n place : ℕ) : Type 0 where
  pub within : place < length ns
  pub is : slice_index_or ns place 0 ≡ n
  pub behind : (k : ℕ) → place < k → k < length ns → slice_index_or ns k 0 < n

-- the counts that are not 0, each as often, the greatest first
pub record IsRankedOf (ranked counts : List ℕ) : Type 0 where
  pub falling : IsFalling ranked
  pub none : count_of 0 ranked ≡ 0
  pub each : (n : ℕ) → 0 < n → count_of n ranked ≡ count_of n counts

-- the frame is the last blocks of a chain with these issuers, and these are its counts
pub record AreCounted (s : CountsState) (issuers : List Text) : Type 0 where
  pub blocks : s.blocks ≤ length issuers
  pub counts : s.counts ≡ map (blocks_of (take s.blocks issuers)) (in_turn issuers)
  pub numbers : s.numbers ≡ reverse (numbers_of issuers)
  pub ranked : IsRankedOf s.ranked s.counts
  pub room : length issuers ≤ s.room

pub record AreCountedOfSome (s : CountsState) : Type 0 where
  pub issuers : List Text
  pub are : AreCounted s issuers

-- a block may come, of some issuer whose last block stands at this place
pub record MayCome (s : CountsState) (earlier : Option ℕ) : Type 0 where
  pub issuers : List Text
  pub key : Text
  pub are : AreCounted s issuers
  pub is : earlier ≡ last_place issuers key
  pub room : length issuers < s.room

-- a block may go
pub record MayGo (s : CountsState) : Type 0 where
  pub issuers : List Text
  pub key : Text
  pub are : AreCounted s (key ∷ issuers)

-- this is the place of the last block of some key
pub record IsLastCounted (s : CountsState) (last : Option ℕ) : Type 0 where
  pub issuers : List Text
  pub key : Text
  pub are : AreCounted s issuers
  pub is : last ≡ last_place issuers key

-- the issuer of a block that comes has this number, and his count stands among the others
pub record IsEntered (s : CountsState) (number : ℕ) (issuers : List Text) (key : Text) : Type 0 where
  pub is : number ≡ number_of (key ∷ issuers) key
  pub counts : s.counts ≡ map (blocks_of (take s.blocks issuers)) (in_turn (key ∷ issuers))
  pub ranked : IsRankedOf s.ranked s.counts

-- the block of this issuer is gone, and his count still stands among the others
pub record IsLeft (s : CountsState) (issuers : List Text) (key : Text) : Type 0 where
  pub blocks : s.blocks ≤ length issuers
  pub counts : s.counts ≡ map (blocks_of (take s.blocks issuers)) (in_turn (key ∷ issuers))
  pub numbers : s.numbers ≡ reverse (numbers_of issuers)
  pub ranked : IsRankedOf s.ranked s.counts
  pub room : length issuers ≤ s.room
