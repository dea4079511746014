-- How many steps were taken while what is due was taken, and by all of the block.
use Rattle.std.proofs.Common.{◌≡◌, ℕ, ◌+◌, ◌*◌, ◌≤◌, false, length, refl, ap, ◌∙◌, arith}
use Rattle.std.specs.BTreeSet.{contains, btree_set_len}
use Rattle.dubp_atoms.specs.Same.{Text}
use Rattle.dubp_block.specs.declared.block.Block.{Block}
use Rattle.dubp_chain.specs.Chains.{Chain}
use Rattle.dubp_chain.specs.Tables as chain
use Rattle.dubp_steps.specs.Ordered.{text_cmp, pair_cmp}
use Rattle.dubp_steps.specs.Loops.{Standing, is_noted}
use Rattle.dubp_people_apply.specs.declared.ended.Ended.{Ended}
use Rattle.dubp_people_apply.specs.Taking.{AreNoted}
use Rattle.dubp_people_apply.specs.Counting.{expired_by, revoked_by, ended_by, IsOneMore, IsCounted, IsWithin, HasLengths, membership_sets, certification_sets, queue_sets}

-- ---- one entry

module _ (s : Standing) (old new : Ended) (noted : AreNoted old s.over s.revoked s.ended) where
  pub one_expired : (k : Text) → is_noted s (chain.Due.Membership k) ≡ false → new.revoked ≡ old.revoked → new.ended ≡ old.ended
      → (contains text_cmp old.expired k ≡ false → btree_set_len new.expired ≡ btree_set_len old.expired + 1) → IsOneMore (chain.Due.Membership k) old new
  one_expired k fresh r e len = record {
    expired = len (noted.over k ∙ fresh);
    revoked = let h = ap btree_set_len r in omega (arith, h);
    ended = let h = ap btree_set_len e in omega (arith, h);
  }

  pub one_revoked : (k : Text) → is_noted s (chain.Due.Revocation k) ≡ false → new.expired ≡ old.expired → new.ended ≡ old.ended
      → (contains text_cmp old.revoked k ≡ false → btree_set_len new.revoked ≡ btree_set_len old.revoked + 1) → IsOneMore (chain.Due.Revocation k) old new
  one_revoked k fresh x e len = record {
    expired = let h = ap btree_set_len x in omega (arith, h);
    revoked = len (noted.revoked k ∙ fresh);
    ended = let h = ap btree_set_len e in omega (arith, h);
  }

  pub one_ended : (a b : Text) → is_noted s (chain.Due.Certification a b) ≡ false → new.expired ≡ old.expired → new.revoked ≡ old.revoked
      → (contains pair_cmp old.ended (a, b) ≡ false → btree_set_len new.ended ≡ btree_set_len old.ended + 1) → IsOneMore (chain.Due.Certification a b) old new
  one_ended a b fresh x r len = record {
    expired = let h = ap btree_set_len x in omega (arith, h);
    revoked = let h = ap btree_set_len r in omega (arith, h);
    ended = len (noted.ended a b ∙ fresh);
  }

-- it joins one set
one_of : (due : chain.Due) → expired_by due + (revoked_by due + ended_by due) ≡ 1
one_of (chain.Due.Membership k) = refl
one_of (chain.Due.Revocation k) = refl
one_of (chain.Due.Certification x y) = refl

-- ---- none yet, and one more

pub none_counted : (sets : Ended) (steps : ℕ) → IsCounted sets sets steps steps
none_counted sets steps = record { expired = 0; revoked = 0; ended = 0; are_expired = omega arith; are_revoked = omega arith; are_ended = omega arith; most = omega arith }

pub one_counted : (old mid new : Ended) (due : chain.Due) (steps steps' steps'' : ℕ) → IsCounted old mid steps steps' → IsOneMore due mid new → steps'' ≤ steps' + (1 + (revoked_by due + 5 * ended_by due))
    → IsCounted old new steps steps''
one_counted old mid new due steps steps' steps'' counted more most =
    record {
      expired = counted.expired + expired_by due;
      revoked = counted.revoked + revoked_by due;
      ended = counted.ended + ended_by due;
      are_expired = omega (arith, counted.are_expired, more.expired);
      are_revoked = omega (arith, counted.are_revoked, more.revoked);
      are_ended = omega (arith, counted.are_ended, more.ended);
      most = omega (arith, one_of due, counted.most, most);
    }

-- ---- the lines before it

pub all_within : (b : Block) (old new : Ended) (s s' s'' s''' : ℕ)
    → s' ≤ s + (5 * (length b.joiners + length b.actives) + length b.leavers + 2 * length b.revoked) → s'' ≤ s' + 7 * length b.certifications
    → IsCounted old new s'' s''' → IsWithin b new s s'''
all_within b old new s s' s'' s''' s1 s2 counted =
    omega (arith, counted.are_expired, counted.are_revoked, counted.are_ended, s1, s2, counted.most)

-- ---- as long as the records

pub steps_within : (c : Chain) (b : Block) (sets : Ended) → HasLengths c b sets → (s s' : ℕ) → IsWithin b sets s s' → s' ≤ s + (membership_sets c b + certification_sets c b + queue_sets c b)
steps_within c b sets has s s' most = omega (arith, has.expired, has.revoked, has.ended, most)
