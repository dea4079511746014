-- The first draft as the code puts it together.
use Rattle.std.proofs.Common.{◌≡◌, List, ap, ◌∙◌}
use Rattle.std.specs.Prelude.{Option, Some, None}
use Rattle.dubp_atoms.specs.Same.{empty_stamp}
use Rattle.dubp_atoms.specs.declared.stamp.Stamp.{Stamp}
use Rattle.dubp_params.specs.declared.params.Params.{Params}
use Rattle.dubp_block.specs.declared.block.Block.{Block}
use Rattle.dubp_drafts.specs.Drafting.{draft_of, first_draft, first_given, Given, given_of, parameters}

pub first_draft_is : (b : Block) (s : Stamp) (p : Option Params) → b ≡ draft_of 0 0 s None → s ≡ empty_stamp → p ≡ Some parameters → record b { params = p; members = 8 } ≡ first_draft
first_draft_is b s p of_block of_stamp of_parameters =
    let e : b ≡ draft_of 0 0 empty_stamp None = of_block ∙ ap (λ t. draft_of 0 0 t None) of_stamp in
    λ i. record (e i) { params = of_parameters i; members = 8 }

pub first_given_is : (notes : List Given) (s : Stamp) → notes ≡ given_of 0 0 s None → s ≡ empty_stamp → notes ≡ first_given
first_given_is notes s of_notes of_stamp = of_notes ∙ ap (λ t. given_of 0 0 t None) of_stamp
