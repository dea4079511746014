use Rattle.std.specs.Prelude.{codes}
use Rattle.dubp_block.proofs.Added.{lines_then, section_lines_are}
use Rattle.dubp_block.proofs.writing.add_sections.Goals as goal

pub returns : goal.returns
returns g c =
    lines_then c.in_ok-add_section.ensures (lines_then c.in_ok-add_section-2.ensures (lines_then c.in_ok-add_section-3.ensures (lines_then c.in_ok-add_section-4.ensures
    (lines_then c.in_ok-add_section-5.ensures (lines_then (section_lines_are (codes "Excluded:") c.args.block.now.excluded c.in_ok-add_section-6.ensures) (lines_then c.in_ok-add_section-7.ensures
    (lines_then c.in_ok-add_line.ensures c.in_ok-add_transactions.ensures)))))))
