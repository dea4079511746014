use Rattle.std.proofs.Common.{◌∙◌, refl}
use Rattle.dubp_local.proofs.Lines.{where_ok, sources_once}
use Rattle.dubp_local.proofs.unlocks.sources_stand_once.Goals as goal

-- the comparison that the code derives computes to that of the fields
pub returns : goal.returns
returns c =
    where_ok _ c.stand_once.ensures
    (λ once e.
    sources_once _ _ _ once e (c.as_slice.ensures.value ∙ c.in_ok-sources.ensures)
    (λ k b l n. refl) (λ k b l n. refl) (λ k b l n. refl) (λ k b l n. refl))
