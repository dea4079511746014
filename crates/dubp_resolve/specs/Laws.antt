-- Laws of choice, each of which a public function without a body promises.
use Rattle.std.specs.Prelude.{◌≡◌, ◌≤◌, ◌+◌, List, [], ◌∷◌, length, reverse, take, Option, ⊤}
use Rattle.std.specs.List.{All}
use Rattle.dubp_atoms.specs.declared.stamp.Stamp.{Stamp}
use Rattle.dubp_resolve.specs.declared.view.Offered.{Offered}
use Rattle.dubp_resolve.specs.Choice.{Choices, IsChoice, IsPath, behind, choice, most_stored, path_of, stored_then}
use Rattle.dubp_resolve.specs.Known.{AreApart, AreOffers, IsFound}

-- the choice is the candidate of greatest number, the first among equals; and none exactly where there is none
abbrev pub ChoosesGreatest : Type 0
ChoosesGreatest = (v : Choices) → IsChoice v (choice v)

-- the path as a relation is the one that the function gives
abbrev pub HasOnePath : Type 0
HasOnePath =
    (v : Choices) → AreOffers v.offers → (b : Offered) (blocks : List Offered) (end : Option Stamp) → IsPath v.offers b.stamp blocks end
    → path_of v b ≡ record { blocks = blocks; end = end }

-- Where no more blocks can be reversed than stored, a branch that is longer by two blocks fits: the fourth condition never decides.
abbrev pub FitsAlways : Type 0
FitsAlways =
    (v : Choices) → AreOffers v.offers → v.kept ≤ most_stored → (b : Offered) → v.length + 2 ≤ b.stamp.number → behind v (path_of v b) ≤ v.kept
    → stored_then v (path_of v b) ≤ most_stored

-- where no two blocks have one stamp, each is found by its own
abbrev pub EachIsFound : Type 0
EachIsFound = (offers : List Offered) → AreApart offers → All (IsFound offers) offers

-- the numbers of these stamps, the last block's first, count down to 0
abbrev pub AreCounted : List Stamp → Type 0
AreCounted [] = ⊤
AreCounted (s ∷ stamps) = (s.number ≡ length stamps) × AreCounted stamps

-- Of the chain the stamps of its last blocks are enough to choose by, one more than can be reversed.
abbrev pub LastAreEnough : Type 0
LastAreEnough =
    (v : Choices) → AreCounted v.recent → v.length ≡ length v.recent → choice (record v { recent = reverse (take (v.kept + 1) v.recent) }) ≡ choice v
