use Rattle.std.proofs.Common.{Option, Some, None, ℕ}
use Rattle.std.specs.Prelude.{IfSome}
use Rattle.dubp_params.specs.declared.params.Params.{Params}
use Rattle.dubp_params.specs.Spelling.{IsParams}
use Rattle.dubp_block.specs.Text.{IsFirstParams}
use Rattle.dubp_block.proofs.Added.{lines_then}
use Rattle.dubp_block.proofs.writing.add_inner.Goals as goal

each_has_a_text : (number : ℕ) (params : Option Params) → IsFirstParams number params → IfSome params IsParams
each_has_a_text number None h = tt
each_has_a_text number (Some params) h = h.1

pub add_params-requires : goal.add_params-requires
add_params-requires g c = each_has_a_text c.args.block.now.number c.args.block.now.params c.requires.params

pub returns : goal.returns
returns g c = lines_then c.in_ok-add_opening.ensures (lines_then c.in_ok-add_dividend.ensures (lines_then c.in_ok-add_issuing.ensures (lines_then c.in_ok-add_previous.ensures (lines_then c.in_ok-add_params.ensures (lines_then c.in_ok-add_number.ensures c.in_ok-add_sections.ensures)))))
