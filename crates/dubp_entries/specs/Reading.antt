-- What the bytes at hand are of the bytes of the input.
use Rattle.std.specs.Prelude.{◌≡◌, ℕ, ◌+◌, ◌<◌, ◌≤◌, List, ◌∷◌, ◌++◌, length, drop, ⊤}
use Rattle.dubp_atoms.specs.Letters.{LF}
use Rattle.dubp_validity.specs.Rules.{longest_block}
use Rattle.dubp_entries.specs.Entries.{Entry, Line, Frame, text_of, IsWhole, IsText, HeadsFrame, longest_line}
use Rattle.dubp_script.specs.Framed.{framed_command, framed_len}
use Rattle.dubp_script.specs.Spelling.{Says}
use Rattle.dubp_entries.specs.Cut.{BeginsNone}
use Rattle.dubp_entries.specs.declared.item.Item.{Item}
use Rattle.dubp_entries.specs.declared.item.Item.TheVariants as item
use Rattle.dubp_entries.specs.declared.reading.Phase.{Phase}
use Rattle.dubp_entries.specs.declared.reading.Phase.TheVariants.{Start, LongLine, LongFrame}
use Rattle.dubp_entries.specs.declared.reading.Found.{Found}
use Rattle.dubp_entries.specs.declared.reading.Found.TheVariants.{Got, Pass, Wait}

-- the bytes are a part of a line that is too long, of which the last are at hand
pub record InLongLine (hand bytes : List ℕ) : Type 0 where
  pub gone : List ℕ
  pub bytes_are : bytes ≡ gone ++ hand
  pub text : IsText gone
  pub long : longest_line < length gone

-- the bytes are a part of a frame that is too long, of which the last are at hand, and `left` more than `gone` end it
pub record InLongFrame (left : ℕ) (hand bytes : List ℕ) : Type 0 where
  pub head : List ℕ
  pub gone : List ℕ
  pub len : ℕ
  pub bytes_are : bytes ≡ head ++ LF ∷ (gone ++ hand)
  pub text : IsText head
  pub heads : HeadsFrame head len
  pub long : longest_block < len
  pub left_is : length gone + left ≡ len + 1
  pub some : 0 < left

abbrev pub Stands : Phase → List ℕ → List ℕ → Type 0
Stands Start hand bytes = bytes ≡ hand
Stands LongLine hand bytes = InLongLine hand bytes
Stands (LongFrame left) hand bytes = InLongFrame left hand bytes

-- what is at hand of an entry, or was read past, is of this entry
abbrev pub Shows : Item → Entry → Type 0
Shows item.LongLine entry = (text : List ℕ) × (entry ≡ Line text) × (longest_line < length text)
Shows (item.Line text) entry = entry ≡ Line text.now
Shows (item.Frame framed payload last) entry =
    (head : List ℕ) × (entry ≡ Frame head payload.now last) × Says head (framed_command framed) × (framed_len framed ≡ length payload.now) × (length payload.now ≤ longest_block)
Shows (item.LongFrame last) entry = (head : List ℕ) × (payload : List ℕ) × (entry ≡ Frame head payload last) × HeadsFrame head (length payload) × (longest_block < length payload)

-- what is at hand is no line: the end of one that was read past, a frame, or the byte behind one that was read past
abbrev pub IsNoLine : Item → Type 0
IsNoLine item.LongLine = ⊤
IsNoLine (item.Line text) = ⊥
IsNoLine (item.Frame framed payload last) = ⊤
IsNoLine (item.LongFrame last) = ⊤

-- there is such an entry
abbrev pub IsShown : Item → Type 0
IsShown item = (entry : Entry) × IsWhole entry × Shows item entry

-- there are such bytes
abbrev pub StandsSomewhere : Phase → List ℕ → Type 0
StandsSomewhere phase hand = (bytes : List ℕ) × Stands phase hand bytes

-- the bytes begin with the entry that the item shows
pub record TakesOne (bytes rest : List ℕ) (item : Item) : Type 0 where
  pub command : Entry
  pub bytes_are : bytes ≡ text_of command ++ rest
  pub whole : IsWhole command
  pub shows : Shows item command

-- no more than this is kept at hand: the longest frame with the line that heads it
abbrev pub most_at_hand : ℕ
most_at_hand = 1048600

abbrev pub Takes : Phase → List ℕ → Found → Type 0
Takes phase hand (Got used item) =
    (0 < used) × (used ≤ length hand) × ((bytes : List ℕ) → Stands phase hand bytes → TakesOne bytes (drop used hand) item)
Takes phase hand (Pass used next) =
    (0 < used) × (used ≤ length hand) × ((bytes : List ℕ) → Stands phase hand bytes → Stands next (drop used hand) bytes)
Takes phase hand Wait = (length hand ≤ most_at_hand) × ((bytes : List ℕ) → Stands phase hand bytes → BeginsNone bytes)
