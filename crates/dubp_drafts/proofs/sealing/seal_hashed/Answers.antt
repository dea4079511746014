use Rattle.std.proofs.Common.{ℕ, ◌≤◌, ◌<◌, ap, subst, sym, ◌∙◌}
use Rattle.dubp_atoms.specs.Hashing.{hash_of}
use Rattle.dubp_block.specs.Text.{signed_text}
use Rattle.dubp_drafts.specs.Sealing.{MeetsWith, signed, with_nonce}
use Rattle.dubp_drafts.proofs.Hashed.{signed_text-signed}
use Rattle.dubp_drafts.proofs.WithHash.{has_inner_hash}
use Rattle.dubp_drafts.proofs.sealing.seal_hashed.Goals as goal

pub returns-in-None-clause-sealed : goal.returns-in-None-clause-sealed
returns-in-None-clause-sealed c =
    subst (λ b. (n : ℕ) → n ≤ 999999 → MeetsWith b n c.args.difficulty → ⊥) (sym (has_inner_hash c.args.draft c.requires.inner)) c.in-None.ensures.none

pub returns-in-Some-clause-sealed : goal.returns-in-Some-clause-sealed
returns-in-Some-clause-sealed c =
    let same = sym (has_inner_hash c.args.draft c.requires.inner) in
    record {
      nonce = c.in-Some.nonce;
      within = c.in-Some.ensures.within;
      block_is = c.signed.ensures.block ∙ ap (λ b. signed (with_nonce b c.in-Some.nonce)) same;
      meets = rw c.signed.ensures.block c.in-Some.ensures.meets;
      least = subst (λ b. (n : ℕ) → n < c.in-Some.nonce → MeetsWith b n c.args.difficulty → ⊥) same c.in-Some.ensures.least;
      key_is = c.signed.ensures.key;
      message_is = c.signed.ensures.message ∙ sym (ap hash_of (ap signed_text c.signed.ensures.block ∙ signed_text-signed _));
      sig_is = c.signed.ensures.sig;
    }
