use Rattle.std.proofs.Common.{◌∙◌}
use Rattle.std.specs.Prelude.{option_copied}
use Rattle.dubp_query.proofs.Records.{shown_have_numbers}
use Rattle.dubp_query.proofs.asking.records_of.Goals as goal

pub records_text-requires : goal.records_text-requires
records_text-requires g c =
    shown_have_numbers c.args.ledger.now.chain c.args.number (option_copied c.as_deref.result) c.laws.ensures.sound c.laws.ensures.blocks (c.as_deref.ensures.value ∙ c.in_ok-rows.ensures)
