-- The condition that a text spells. Protocol: conditions.
use Rattle.std.specs.Prelude.{ℕ, List, Option, Some, None}
use Rattle.dubp_cond.specs.Tree.{CondTree, no_alls}
use Rattle.dubp_cond.specs.Reading.{cond_of_text}

-- where there is none, one without ALLs, which is in no range
abbrev pub cond_or_empty : Option CondTree → CondTree
cond_or_empty (Some c) = c
cond_or_empty None = no_alls

abbrev pub spelled : List ℕ → CondTree
spelled text = cond_or_empty (cond_of_text text)
