-- The line of an unspent source, of what is shown of it. Protocol: commands and answers.
use Rattle.std.specs.Prelude.{ℕ, List, [], ◌∷◌, codes, map}
use Rattle.std.specs.List.{flat_map}
use Rattle.dubp_cond.specs.declared.source.Input.{Input}
use Rattle.dubp_cond.specs.Sources.{input_text}
use Rattle.dubp_chain.specs.Money.{Source}
use Rattle.dubp_answers.specs.declared.source_lines.SourceView.{SourceView}
use Rattle.dubp_replay.specs.Answers.{values_line}

-- what is shown of an unspent source
abbrev pub view_of : Source → SourceView
view_of s = record { amount = s.amount; base = s.base; source = s.id }

abbrev pub view_input : SourceView → Input
view_input v = record { amount = v.amount; base = v.base; source = v.source }

-- SOURCE AMOUNT:BASE:SOURCE
abbrev pub view_line : SourceView → List ℕ
view_line v = values_line (codes "SOURCE") (input_text (view_input v) ∷ [])

-- the lines of these sources, one behind the other
abbrev pub view_lines : List SourceView → List ℕ
view_lines views = flat_map (λ line. line) (map view_line views)
