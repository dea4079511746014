-- The keys of a block of which no line was looked at. Protocol: people, certifications.
use Rattle.std.specs.Prelude.{◌≡◌, []}
use Rattle.indexmap.specs.IndexMap.{IsEmpty}
use Rattle.dubp_people_after.specs.declared.keys.Keys.{Keys}

-- nothing is in any of them
pub record AreEmpty (keys : Keys) : Type 0 where
  pub joining : keys.joining.keys ≡ []
  pub coming : keys.coming.keys ≡ []
  pub leaving : keys.leaving.keys ≡ []
  pub excluded : keys.excluded.keys ≡ []
  pub identities : IsEmpty keys.identities
  pub certifications : IsEmpty keys.certifications
  pub partners : IsEmpty keys.partners
