-- What stands in the tables of small chains.
use Rattle.std.specs.Prelude.{◌≡◌, [], ◌∷◌, codes, Some, None, true, false}
use Rattle.std.proofs.Common.{refl}
use Rattle.dubp_atoms.specs.Same.{empty_stamp}
use Rattle.dubp_cond.specs.declared.source.SourceId.TheVariants.{D}
use Rattle.dubp_chain.specs.Chains.{Chain}
use Rattle.dubp_chain.specs.Tables.{IdentityRow, identity_row, MembershipRow, membership_row, CertificationRow, certification_row, SourceRow, source_row, Membership, Revocation, Certification, is_queued, Totals, totals}
use Rattle.dubp_trials.specs.Samples.{key0, key1, key2, unread, member_line, block1, one_block, revoking_chain, three_blocks}
use Rattle.dubp_trials.proofs.Checks.{condition_of}
use Rattle.dubp_trials.proofs.MoreSamples.{key9}

-- ---- people

abbrev first_identity : IdentityRow
first_identity = record { uid = codes "user0"; stamp = empty_stamp; sig = unread; written = 0; is_member = true }

has_identity : identity_row one_block key0 ≡ Some first_identity
has_identity = refl

abbrev first_membership : MembershipRow
first_membership = record { last_number = 0; made = 1000; written = 0; is_leaving = false; is_revoked = false }

has_membership : membership_row one_block key0 ≡ Some first_membership
has_membership = refl

abbrev first_certification : CertificationRow
first_certification = record { made = 1000; written = 0; is_live = true }

has_certification : certification_row one_block key0 key1 ≡ Some first_certification
has_certification = refl

-- of a key that no block names nothing stands there
has_no_rows : (identity_row one_block key9 ≡ None) × (membership_row one_block key9 ≡ None) × (certification_row one_block key0 key9 ≡ None)
has_no_rows = (refl, refl, refl)

-- who leaves keeps the time at which its membership was made; the identity of key2 is revoked by a line, and it is a member still
abbrev leaving_chain : Chain
leaving_chain = record block1 { leavers = record (member_line key0 (codes "user0")) { stamp = record { number = 7; hash = unread } } ∷ [] } ∷ one_block

abbrev left_membership : MembershipRow
left_membership = record { last_number = 7; made = 1000; written = 1; is_leaving = true; is_revoked = false }

has_left : membership_row leaving_chain key0 ≡ Some left_membership
has_left = refl

has_been_revoked : (membership_row revoking_chain key2 ≡ Some (record first_membership { is_revoked = true })) × (identity_row revoking_chain key2 ≡ Some (record first_identity { uid = codes "user2" }))
has_been_revoked = (refl, refl)

-- an excluded key is a member no more
has_been_excluded : identity_row (record block1 { excluded = key0 ∷ [] } ∷ one_block) key0 ≡ Some (record first_identity { is_member = false })
has_been_excluded = refl

-- ---- the queue

membership_waits : is_queued one_block 3000 (Membership key0) ≡ true
membership_waits = refl

revocation_waits : is_queued one_block 5000 (Revocation key0) ≡ true
revocation_waits = refl

certification_waits : is_queued one_block 6000 (Certification key0 key1) ≡ true
certification_waits = refl

-- nothing waits for the second before
waits_for_its_second : (is_queued one_block 2999 (Membership key0) ≡ false) × (is_queued one_block 4999 (Revocation key0) ≡ false) × (is_queued one_block 5999 (Certification key0 key1) ≡ false)
waits_for_its_second = (refl, refl, refl)

-- ---- money

-- the dividend of key1 was the second source
abbrev second_source : SourceRow
second_source = record { amount = 1000; base = 0; cond = condition_of key1; made_at = 1150; order = 1 }

has_source : source_row three_blocks (D key1 2) ≡ Some second_source
has_source = refl

has_no_source : source_row three_blocks (D key1 1) ≡ None
has_no_source = refl

abbrev paid_totals : Totals
paid_totals = record { issued = 3000; unspent = 3000; cleared = 0; made = 3 }

totals_of_three : totals three_blocks ≡ Some paid_totals
totals_of_three = refl

totals_of_none : totals [] ≡ None
totals_of_none = refl
