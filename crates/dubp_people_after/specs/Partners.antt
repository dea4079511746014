-- A map from keys to lists of keys: the partners of each. Protocol: certifications.
use Rattle.std.specs.Prelude.{Bool, false}
use Rattle.std.specs.Option.{option_map_or}
use Rattle.std.specs.List.{list_any}
use Rattle.std.specs.Global.{Vec}
use Rattle.indexmap.specs.IndexMap.{IndexMap, get}
use Rattle.dubp_atoms.specs.Same.{Text, same_text}

-- the second key is in the list of the first
abbrev pub is_partner : {S : Type 0} → IndexMap Text (Vec Text) S → Text → Text → Bool
is_partner map x y = option_map_or (λ (partners : Vec Text). list_any (same_text y) partners.items) (get same_text map x) false
