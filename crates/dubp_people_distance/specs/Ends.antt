-- The two ends of a certification. Protocol: certifications.
use Rattle.std.specs.Prelude.{Bool, false}
use Rattle.dubp_atoms.specs.Same.{Text}
use Rattle.dubp_block.specs.declared.block.CertLine.{CertLine}
use Rattle.dubp_expiry.specs.declared.due.Due.{Due}
use Rattle.dubp_expiry.specs.declared.due.Due.TheVariants.{Membership, Revocation, Certification}
use Rattle.dubp_left.specs.OfSteps.{is_end}

abbrev pub is_end_of_line : Text → CertLine → Bool
is_end_of_line k line = is_end line.from line.to k

-- what falls due is a certification, of which the key is an end
abbrev pub is_end_of_due : Text → Due → Bool
is_end_of_due k (Membership key) = false
is_end_of_due k (Revocation key) = false
is_end_of_due k (Certification from to) = is_end from to k
