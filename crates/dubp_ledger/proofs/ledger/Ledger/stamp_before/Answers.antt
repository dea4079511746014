use Rattle.std.proofs.Common.{◌∙◌, ap}
use Rattle.std.specs.Prelude.{option_map, slice_get}
use Rattle.dubp_block.specs.Text.{stamp_of}
use Rattle.dubp_chain.specs.HeadStamp.{head_stamp}
use Rattle.dubp_ledger.proofs.Stamps.{stamp_at}
use Rattle.dubp_ledger.proofs.ledger.Ledger.stamp_before.Goals as goal

pub returns : goal.returns
returns g c =
    c.stamp_in.ensures
    ∙ ap (λ l. option_map head_stamp (slice_get l c.args.count)) c.heads.ensures.are
    ∙ stamp_at c.self.inside.kept.chain c.args.count
    ∙ ap (λ s. option_map stamp_of (slice_get s.chain c.args.count)) c.self.view_is
