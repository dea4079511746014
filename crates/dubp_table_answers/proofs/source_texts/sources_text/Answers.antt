use Rattle.std.proofs.Common.{◌∙◌, ap, map}
use Rattle.dubp_chain.specs.Money.{sources_of}
use Rattle.dubp_replay.specs.Answers.{ended}
use Rattle.dubp_answers.specs.SourceLines.{view_line}
use Rattle.dubp_answers.proofs.Views.{lines_shown}
use Rattle.dubp_table_answers.proofs.source_texts.sources_text.Goals as goal

pub returns : goal.returns
returns c = λ chain at sound.
    c.in_ok-text.ensures ∙ ap ended (ap (map view_line) (c.as_slice.ensures.value ∙ c.in_ok-found.ensures chain at sound) ∙ lines_shown (sources_of chain c.args.cond.now.items))
