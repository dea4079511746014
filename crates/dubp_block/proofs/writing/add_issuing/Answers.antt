use Rattle.std.proofs.Common.{◌∷◌, ◌++◌, [], subst, arith, w64}
use Rattle.std.specs.Prelude.{codes, ℤ}
use Rattle.std.specs.Fmt.{signed_decimal}
use Rattle.std.proofs.lemmas.Int.{to_z-of_z, fits_signed_from_abs}
use Rattle.dubp_block.specs.AddsLines.{AddsLines}
use Rattle.dubp_block.proofs.Added.{lines_then}
use Rattle.dubp_block.proofs.writing.add_issuing.Goals as goal

pub returns : goal.returns
returns g c =
    let frame_var : AddsLines g.S.TextSink.has c.add_number-2.new.out c.add_signed.new.out ((codes "IssuersFrameVar: " ++ signed_decimal c.args.block.now.frame_var) ∷ []) =
    subst (λ (z : ℤ). AddsLines g.S.TextSink.has c.add_number-2.new.out c.add_signed.new.out ((codes "IssuersFrameVar: " ++ signed_decimal z) ∷ [])) (to_z-of_z w64 c.args.block.now.frame_var (fits_signed_from_abs w64 c.args.block.now.frame_var (omega arith))) c.in_ok-add_signed.ensures in
    lines_then c.in_ok-add_number.ensures (lines_then c.in_ok-add_field.ensures (lines_then c.in_ok-add_number-2.ensures (lines_then frame_var c.in_ok-add_number-3.ensures)))
