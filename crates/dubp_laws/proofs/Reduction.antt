-- The records of a valid chain leave its tables. Certifications need no rule for that, and the others those that read no verdict.
use Rattle.dubp_validity.specs.Reduced.{Reduces}
use Rattle.dubp_laws.proofs.Sound.{valid_is_sound}
use Rattle.dubp_laws.proofs.ReducedIdentities.{identities_are}
use Rattle.dubp_laws.proofs.ReducedMemberships.{memberships_are}
use Rattle.dubp_laws.proofs.ReducedCertifications.{certifications_are}
use Rattle.dubp_laws.proofs.ReducedSources.{sources_are}

pub reduces : Reduces
reduces v c valid =
    let sound = valid_is_sound v c valid in
    record {
      identities = identities_are c sound;
      memberships = memberships_are c sound;
      certifications = certifications_are c;
      sources = sources_are c sound;
    }
