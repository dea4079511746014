use Rattle.std.proofs.Common.{◌++◌, drop, replicate, ap, ◌∙◌}
use Rattle.dubp_atoms.specs.Padded.{padded}
use Rattle.dubp_atoms.proofs.Padding.{more_zeros}
use Rattle.dubp_atoms.proofs.text.Text.with_zeros.Goals as goal

pub returns : goal.returns
returns g c =
    ap (λ bytes. bytes ++ drop g.row.CAP (replicate g.row.SIZE 0)) c.copy_from_slice.ensures.after
    ∙ more_zeros g.row.CAP g.row.SIZE c.self.inside.bytes c.self.inside.len c.self.invariant c.requires
    ∙ ap (padded g.row.SIZE) c.self.view_is
