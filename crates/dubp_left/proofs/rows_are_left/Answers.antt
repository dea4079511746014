use Rattle.dubp_left.proofs.Left.{identities-at, memberships-at, certifications-at}
use Rattle.dubp_left.proofs.Queued.{queue-at}
use Rattle.dubp_left.proofs.rows_are_left.Goals as goal

pub returns : goal.returns
returns g = λ c. record { identities = identities-at c; memberships = memberships-at c; certifications = certifications-at c; queue = queue-at c }
