use Rattle.std.proofs.Common.{ap, sym, ◌∙◌}
use Rattle.dubp_atoms.specs.Hashing.{hash_of}
use Rattle.dubp_drafts.proofs.WithHash.{inner_text-with_hash, sealed_again}
use Rattle.dubp_drafts.proofs.sealing.seal.Goals as goal

pub seal_hashed-requires-clause-inner : goal.seal_hashed-requires-clause-inner
seal_hashed-requires-clause-inner c =
    let hash = c.inner_hash_of-block.result in
    c.inner_hash_of-block.ensures ∙ sym (ap hash_of (inner_text-with_hash c.args.draft hash))

pub returns-clause-sealed : goal.returns-clause-sealed
returns-clause-sealed c = sealed_again c.args.draft c.inner_hash_of-block.result c.args.difficulty c.seal_hashed.result c.seal_hashed.ensures.sealed
