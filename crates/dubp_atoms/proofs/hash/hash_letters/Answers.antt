use Rattle.std.proofs.Common.{arith}
use Rattle.dubp_atoms.proofs.Digests.{digest_is_hash}
use Rattle.dubp_atoms.proofs.hash.hash_letters.Goals as goal

pub returns-clause-valid : goal.returns-clause-valid
returns-clause-valid c = rw c.upper_hex.ensures (digest_is_hash c.args.digest.now (λ i. omega (arith, c.type_inv.digest i)) c.requires)
