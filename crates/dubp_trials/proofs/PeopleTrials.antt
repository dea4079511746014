-- Each rule on identities, memberships, certifications and exclusions, at its bound: a block that keeps it, and one that breaks it.
-- `CertificationTrials` has the second half of them.
--
-- Rule, kept by, broken by:
--   X06   a_million_identities        one_identity_more; a chain of so many cannot be written out, so their number is a premise
--   G63   named_in_time, named_on_chain_in_time     named_too_late, named_on_chain_too_late, named_on_unknown
--   G73   new_name                    name_of_another
--   G74   new_key                     key_named_before
--   G64   member_in_time, member_on_chain_in_time   member_too_late, leaver_too_late, member_on_chain_too_late, member_on_unknown
--   G75   newer_membership, first_membership        as_new_membership
--   G108  renewed, renewed_before, first_membership_at_once     renewed_too_soon
--   G82   members_have_identities, stays_by_its_identity     stays_by_other_name, stays_by_other_key, stays_by_other_stamp
--   G78   stranger_joins, excluded_joins_again     member_joins
--   G81   member_stays                stranger_stays, excluded_stays
--   G80   member_leaves, leaves_after_staying     stranger_leaves, leaver_leaves
--   G77   others_move, moves_before_end     revoked_moves, revoked_by_time_moves
--   G83   identity_is_revoked         stranger_is_revoked, revoked_again, revoked_by_time_again
--   G84   revocation_signed           revocation_unsigned, stranger_revoked_by_signature
use Rattle.std.specs.Prelude.{◌≡◌, ℕ, ◌+◌, ◌≤◌, List, [], ◌∷◌, ◌++◌, codes, length, true}
use Rattle.std.specs.Fmt.{digits}
use Rattle.std.proofs.Common.{refl, inl, inr, arith}
use Rattle.dubp_atoms.specs.Same.{Text, same_text, empty_stamp}
use Rattle.dubp_atoms.specs.Hashing.{hash_of}
use Rattle.dubp_atoms.specs.declared.stamp.Stamp.{Stamp}
use Rattle.dubp_lines.specs.Lines.{unlines}
use Rattle.dubp_docs.specs.Spelling.{signed_text as signed_document}
use Rattle.dubp_block.specs.Text.{block_hash_of, stamp_of}
use Rattle.dubp_block.specs.declared.block.Block.{Block}
use Rattle.dubp_block.specs.declared.block.MemberLine.{MemberLine}
use Rattle.dubp_rules.specs.declared.rule.Rule.TheVariants.{X06, G63, G73, G74, G64, G75, G108, G82, G78, G81, G80, G77, G83, G84}
use Rattle.dubp_chain.specs.Chains.{Chain}
use Rattle.dubp_chain.specs.People.{identity_lines}
use Rattle.dubp_verdict.specs.Verdicts.{Verdicts}
use Rattle.dubp_validity.specs.Rules.{Holds}
use Rattle.dubp_trials.specs.Samples.{key0, key1, key2, key3, unread, identity_line, member_line, empty_block, paying_params, first_of_members, block0, block1, block2, one_block, revoking_chain, aged}
use Rattle.dubp_trials.proofs.Apart.{fails, is_itself, nothing_there}
use Rattle.dubp_trials.proofs.MoreSamples.{waiting, windows, third_block}

-- ---- identities

a_million_identities : (c : Chain) (b : Block) → length (identity_lines (b ∷ c)) ≡ 1000000 → Holds [] c b X06
a_million_identities c b long = omega (arith, long)

one_identity_more : (c : Chain) (b : Block) → length (identity_lines (b ∷ c)) ≡ 1000001 → ¬ Holds [] c b X06
one_identity_more c b long h = omega (arith, long, h)

-- the windows of identities, memberships and certifications are 600, 700 and 800 seconds; the first block says what was made at
-- 1000, and its time is its Time
abbrev first_at : ℕ → Block
first_at time = record (first_of_members windows) { time = time }

named_in_time : Holds [] [] (first_at 1600) G63
named_in_time = (omega arith, (omega arith, (omega arith, tt)))

named_too_late : ¬ Holds [] [] (first_at 1601) G63
named_too_late h = omega (arith, h.0)

-- with a third block the time is the mean of 1000 and the Time of the second; the document was made on the first, at 1000
abbrev first_stamp : Stamp
first_stamp = stamp_of (first_of_members windows)

hash_is_itself : (b : Block) → same_text (block_hash_of b) (block_hash_of b) ≡ true
hash_is_itself b = is_itself (block_hash_of b)

abbrev naming : Stamp → Block
naming stamp = record third_block { identities = record (identity_line key3 (codes "user3")) { stamp = stamp } ∷ [] }

named_on_chain_in_time : Holds [] (waiting windows 2200) (naming first_stamp) G63
named_on_chain_in_time = rw (hash_is_itself (first_of_members windows)) (omega arith, tt)

named_on_chain_too_late : ¬ Holds [] (waiting windows 2202) (naming first_stamp) G63
named_on_chain_too_late h =
    let late : (1601 ≤ 1000 + 600) × Unit {0} = rw (hash_is_itself (first_of_members windows)) at h in
    omega (arith, late.0)

named_on_unknown : ¬ Holds [] (waiting windows 1000) (naming (record { number = 7; hash = unread })) G63
named_on_unknown h = h.0

new_name : Holds [] one_block (record block1 { identities = identity_line key0 (codes "user3") ∷ [] }) G73
new_name = (refl, tt)

name_of_another : ¬ Holds [] one_block (record block1 { identities = identity_line key3 (codes "user2") ∷ [] }) G73
name_of_another h = fails h.0

new_key : Holds [] one_block (record block1 { identities = identity_line key3 (codes "user2") ∷ [] }) G74
new_key = (refl, tt)

key_named_before : ¬ Holds [] one_block (record block1 { identities = identity_line key2 (codes "user3") ∷ [] }) G74
key_named_before h = fails h.0

-- ---- memberships

member_in_time : Holds [] [] (first_at 1700) G64
member_in_time = (omega arith, (omega arith, (omega arith, tt)))

member_too_late : ¬ Holds [] [] (first_at 1701) G64
member_too_late h = omega (arith, h.0)

abbrev line0 : List MemberLine
line0 = member_line key0 (codes "user0") ∷ []

leaver_too_late : ¬ Holds [] [] (record (first_at 1701) { joiners = []; leavers = line0 }) G64
leaver_too_late h = omega (arith, h.0)

abbrev staying_by : Stamp → Block
staying_by stamp = record third_block { actives = record (member_line key0 (codes "user0")) { stamp = stamp } ∷ [] }

member_on_chain_in_time : Holds [] (waiting windows 2400) (staying_by first_stamp) G64
member_on_chain_in_time = rw (hash_is_itself (first_of_members windows)) (omega arith, tt)

member_on_chain_too_late : ¬ Holds [] (waiting windows 2402) (staying_by first_stamp) G64
member_on_chain_too_late h =
    let late : (1701 ≤ 1000 + 700) × Unit {0} = rw (hash_is_itself (first_of_members windows)) at h in
    omega (arith, late.0)

member_on_unknown : ¬ Holds [] (waiting windows 1000) (staying_by (record { number = 7; hash = unread })) G64
member_on_unknown h = h.0

-- the last membership of key0 was made on a stamp of number 0
newer_membership : Holds [] one_block (staying_by (record { number = 1; hash = unread })) G75
newer_membership = (omega arith, tt)

as_new_membership : ¬ Holds [] one_block (staying_by (record { number = 0; hash = unread })) G75
as_new_membership h = omega (arith, h.0)

abbrev line3 : List MemberLine
line3 = member_line key3 (codes "user3") ∷ []

first_membership : Holds [] one_block (record block1 { joiners = line3 }) G75
first_membership = (tt, tt)

-- in version 11 who comes again waits for msWindow, from 1000 up to 2000
abbrev staying : ℕ → Block
staying version = record (empty_block 3 key1 3000 2000) { version = version; actives = line0 }

renewed : Holds [] (aged paying_params 3000) (staying 11) G108
renewed = inr (omega arith, tt)

renewed_too_soon : ¬ Holds [] (aged paying_params 2998) (staying 11) G108
renewed_too_soon (inl version) = omega (arith, version)
renewed_too_soon (inr waited) = omega (arith, waited.0)

renewed_before : Holds [] (aged paying_params 2998) (staying 10) G108
renewed_before = inl refl

first_membership_at_once : Holds [] one_block (record block1 { version = 11; joiners = line3 }) G108
first_membership_at_once = inr (tt, tt)

members_have_identities : Holds [] [] block0 G82
members_have_identities = (refl, (refl, (refl, tt)))

abbrev staying_as : MemberLine → Block
staying_as line = record block1 { actives = line ∷ [] }

stays_by_its_identity : Holds [] one_block (staying_as (member_line key0 (codes "user0"))) G82
stays_by_its_identity = (refl, tt)

stays_by_other_name : ¬ Holds [] one_block (staying_as (member_line key0 (codes "user1"))) G82
stays_by_other_name h = fails h.0

stays_by_other_key : ¬ Holds [] one_block (staying_as (member_line key3 (codes "user0"))) G82
stays_by_other_key h = fails h.0

stays_by_other_stamp : ¬ Holds [] one_block (staying_as (record (member_line key0 (codes "user0")) { identity_stamp = record empty_stamp { number = 1 } })) G82
stays_by_other_stamp h = fails h.0

-- ---- who may move

-- key2 is a member no more
abbrev excluding_chain : Chain
excluding_chain = record block1 { excluded = key2 ∷ [] } ∷ one_block

abbrev line2 : List MemberLine
line2 = member_line key2 (codes "user2") ∷ []

stranger_joins : Holds [] one_block (record block1 { joiners = line3 }) G78
stranger_joins = (refl, tt)

excluded_joins_again : Holds [] excluding_chain (record block2 { joiners = line2 }) G78
excluded_joins_again = (refl, tt)

member_joins : ¬ Holds [] one_block (record block1 { joiners = line2 }) G78
member_joins h = fails h.0

member_stays : Holds [] one_block (record block1 { actives = line0 }) G81
member_stays = (refl, tt)

stranger_stays : ¬ Holds [] one_block (record block1 { actives = line3 }) G81
stranger_stays h = fails h.0

excluded_stays : ¬ Holds [] excluding_chain (record block2 { actives = line2 }) G81
excluded_stays h = fails h.0

-- key0 leaves, and then stays after all
abbrev leaving_chain : Chain
leaving_chain = record block1 { leavers = line0 } ∷ one_block

abbrev returned_chain : Chain
returned_chain = record block2 { actives = line0 } ∷ leaving_chain

member_leaves : Holds [] one_block (record block1 { leavers = line0 }) G80
member_leaves = (refl, tt)

leaves_after_staying : Holds [] returned_chain (record (empty_block 3 key0 1200 1150) { leavers = line0 }) G80
leaves_after_staying = (refl, tt)

stranger_leaves : ¬ Holds [] one_block (record block1 { leavers = line3 }) G80
stranger_leaves h = fails h.0

leaver_leaves : ¬ Holds [] leaving_chain (record block2 { leavers = line0 }) G80
leaver_leaves h = fails h.0

others_move : Holds [] revoking_chain (record block2 { actives = line0 }) G77
others_move = (refl, tt)

revoked_moves : ¬ Holds [] revoking_chain (record block2 { leavers = line2 }) G77
revoked_moves h = fails h.0

-- by time alone everybody is revoked at 5000
moves_before_end : Holds [] (aged paying_params 8998) (staying 10) G77
moves_before_end = (refl, tt)

revoked_by_time_moves : ¬ Holds [] (aged paying_params 9000) (staying 10) G77
revoked_by_time_moves h = fails h.0

-- ---- revocations

abbrev revoking_key : Text → Block
revoking_key key = record block2 { revoked = record { key = key; sig = unread } ∷ [] }

identity_is_revoked : Holds [] one_block (revoking_key key0) G83
identity_is_revoked = (refl, tt)

stranger_is_revoked : ¬ Holds [] one_block (revoking_key key3) G83
stranger_is_revoked h = fails h.0

revoked_again : ¬ Holds [] revoking_chain (revoking_key key2) G83
revoked_again h = fails h.0

revoked_by_time_again : ¬ Holds [] (aged paying_params 9000) (revoking_key key2) G83
revoked_by_time_again h = fails h.0

abbrev revocation_lines : List (List ℕ)
revocation_lines =
    codes "Version: 10"
    ∷ codes "Type: Revocation"
    ∷ codes "Currency: test_currency"
    ∷ (codes "Issuer: " ++ key2)
    ∷ codes "IdtyUniqueID: user2"
    ∷ codes "IdtyTimestamp: 0-E3B0C44298FC1C149AFBF4C8996FB92427AE41E4649B934CA495991B7852B855"
    ∷ codes "IdtySignature: AB"
    ∷ []

revocation_signed : Holds (record { key = key2; hash = hash_of (unlines revocation_lines); sig = unread } ∷ []) one_block (revoking_key key2) G84
unfolding signed_document digits
revocation_signed = ((0, omega arith, refl), tt)

revocation_unsigned : ¬ Holds [] one_block (revoking_key key2) G84
revocation_unsigned h = nothing_there _ h.0

-- whatever verdicts there are
stranger_revoked_by_signature : (v : Verdicts) → ¬ Holds v one_block (revoking_key key3) G84
stranger_revoked_by_signature v h = h.0
