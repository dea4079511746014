-- Texts that are numbered in the order in which they came. Protocol: money.
use Rattle.std.specs.Prelude.{◌≡◌, ℕ, List, [], ◌∷◌, ◌++◌, Option, Some, position, if◌then◌else◌, IfSome}
use Rattle.std.specs.List.{list_any, IsDistinct}
use Rattle.indexmap.specs.IndexMap.{IndexMap, get}
use Rattle.dubp_atoms.specs.Same.{Text, same_text}
use Rattle.dubp_cond.specs.Tree.{sig, no_items, add_item, no_alls, add_all}
use Rattle.dubp_cond.specs.Conditions.{cond_text}

-- no text stands twice
abbrev pub AreApart : List Text → Type 0
AreApart texts = IsDistinct same_text texts

-- the number of a text
abbrev pub number_of : List Text → Text → Option ℕ
number_of texts text = position (same_text text) texts

-- the texts with this one, which goes last where it is new
abbrev pub with_text : List Text → Text → List Text
with_text texts text = if list_any (same_text text) texts then texts else texts ++ text ∷ []

-- the text of the condition that one key signs
abbrev pub signed_text : Text → Text
signed_text key = cond_text (add_all (add_item (sig key) no_items) no_alls)

-- a key in the map has the number of the condition that it signs
abbrev pub AreNumbers : {S : Type 0} → IndexMap Text ℕ S → List Text → Type 0
AreNumbers signed texts = (key : Text) → IfSome (get same_text signed key) (λ n. number_of texts (signed_text key) ≡ Some n)
