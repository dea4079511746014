-- Each rule that a block is checked against by itself, at its bound: a block that keeps it, and one that breaks it.
--
-- Rule, kept by, broken by:
--   X01  longest_frame               one_byte_more
--   P01  text_of_a_block             no_text
--   X02  greatest_parameters         difficulty_past_parameters, steps_past_bound, share_above_one, time_past_bound
--   X07  greatest_numbers            number_too_great, time_too_great, median_time_too_great
--   L01  inner_hash_is_right         inner_hash_of_another
--   L02  times_equal, later_times    times_apart
--   L03  certified_on_block_before   certified_on_itself
--   L04  stamps_empty, later_stamps  identity_stamped, membership_stamped, identity_of_member_stamped
--   L05  block_signed                block_unsigned, signed_by_another
--   L06  time_at_most_ahead          time_too_far, time_behind
--   L07  identity_signed             identity_unsigned
--   L08  names_once                  name_twice
--   L09  keys_once                   key_twice
--   L10  identities_join             joins_not, joins_by_other_name, joins_by_other_stamp
--   L11  comes_in, stays_in, goes_out    comes_in_unsigned, goes_out_unsigned
--   L12  movers_once                 joins_and_is_excluded, stays_and_leaves
--   L13  revoked_once                revoked_twice, revoked_and_stays
--   L14  pairs_once                  pair_twice
--   L15  certifies_others            certifies_itself
--   L16  certifies_many_at_first, certify_one_each    certifies_two_later
--   L17  certified_stays             certified_leaves, certified_is_revoked, certified_is_excluded
use Rattle.std.specs.Prelude.{◌≡◌, ℕ, List, [], ◌∷◌, ◌++◌, codes, length, map}
use Rattle.std.specs.Fmt.{digits}
use Rattle.std.proofs.Common.{refl, ap, inl, inr, arith}
use Rattle.dubp_atoms.specs.Same.{Text, empty_stamp}
use Rattle.dubp_atoms.specs.Hashing.{hash_of}
use Rattle.dubp_atoms.specs.declared.dec.Dec.{Dec}
use Rattle.dubp_lines.specs.Lines.{unlines}
use Rattle.dubp_params.specs.declared.params.Params.{Params}
use Rattle.dubp_docs.specs.Spelling.{signed_text as signed_document}
use Rattle.dubp_block.specs.Text.{IsBlock, block_text, inner_text, signed_text}
use Rattle.dubp_block.specs.declared.block.Block.{Block}
use Rattle.dubp_block.specs.declared.block.CertLine.{CertLine}
use Rattle.dubp_block.specs.declared.block.MemberLine.{MemberLine}
use Rattle.dubp_rules.specs.declared.rule.Rule.TheVariants.{X01, P01, X02, X07, L01, L02, L03, L04, L05, L06, L07, L08, L09, L10, L11, L12, L13, L14, L15, L16, L17}
use Rattle.dubp_verdict.specs.Verdicts.{Verdict, Verdicts}
use Rattle.dubp_validity.specs.Rules.{Holds, HoldsRaw}
use Rattle.dubp_trials.specs.Samples.{key0, key1, key2, key3, unread, identity_line, member_line, certifies, empty_block, first_of_members, block0, block1, one_block}
use Rattle.dubp_trials.proofs.Apart.{fails, texts_differ, only_one, nothing_there}

-- ---- raw bytes

longest_frame : (bytes : List ℕ) → length bytes ≡ 1048576 → HoldsRaw [] [] bytes X01
longest_frame bytes long = omega (arith, long)

one_byte_more : (bytes : List ℕ) → length bytes ≡ 1048577 → ¬ HoldsRaw [] [] bytes X01
one_byte_more bytes long h = omega (arith, long, h)

text_of_a_block : (b : Block) → IsBlock b → HoldsRaw [] [] (block_text b) P01
text_of_a_block b is = (b, record { is = is; text = refl })

no_text : ¬ HoldsRaw [] [] [] P01
unfolding block_text
no_text h = let none : [] ≡ block_text h.0 = h.1.text in cc

-- ---- parameters and numbers

-- 2^40 - 1 seconds
abbrev longest : ℕ
longest = 1099511627775

abbrev one : Dec
one = record { mantissa = 100; places = 2 }

abbrev greatest_params : Params
greatest_params = record {
  c = one;
  dt = longest;
  ud0 = longest;
  sig_period = longest;
  sig_stock = 65536;
  sig_window = longest;
  sig_validity = longest;
  sig_qty = 65536;
  idty_window = longest;
  ms_window = longest;
  xpercent = one;
  ms_validity = longest;
  step_max = 16;
  median_time_blocks = 10000;
  avg_gen_time = 1048576;
  dt_diff_eval = 10000;
  percent_rot = one;
  ud_time0 = longest;
  ud_reeval_time0 = longest;
  dt_reeval = longest;
}

abbrev setting : Params → ℕ → Block
setting params pow_min = record (first_of_members params) { pow_min = pow_min }

greatest_parameters : Holds [] [] (setting greatest_params 1023) X02
greatest_parameters = (
  record {
    c = omega arith;
    dt = (omega arith, omega arith);
    ud0 = (omega arith, omega arith);
    sig_period = omega arith;
    sig_stock = (omega arith, omega arith);
    sig_window = (omega arith, omega arith);
    sig_validity = (omega arith, omega arith);
    sig_qty = omega arith;
    idty_window = (omega arith, omega arith);
    ms_window = (omega arith, omega arith);
    xpercent = omega arith;
    ms_validity = (omega arith, omega arith);
    step_max = (omega arith, omega arith);
    median_time_blocks = (omega arith, omega arith);
    avg_gen_time = (omega arith, omega arith);
    dt_diff_eval = (omega arith, omega arith);
    percent_rot = omega arith;
    ud_time0 = omega arith;
    ud_reeval_time0 = omega arith;
    dt_reeval = (omega arith, omega arith);
  },
  omega arith,
)

difficulty_past_parameters : ¬ Holds [] [] (setting greatest_params 1024) X02
difficulty_past_parameters h = omega (arith, h.1)

steps_past_bound : ¬ Holds [] [] (setting (record greatest_params { step_max = 17 }) 0) X02
steps_past_bound h = omega (arith, h.0.step_max.1)

share_above_one : ¬ Holds [] [] (setting (record greatest_params { xpercent = record { mantissa = 101; places = 2 } }) 0) X02
share_above_one h = omega (arith, h.0.xpercent)

time_past_bound : ¬ Holds [] [] (setting (record greatest_params { ud_time0 = 1099511627776 }) 0) X02
time_past_bound h = omega (arith, h.0.ud_time0)

abbrev numbered : ℕ → ℕ → ℕ → Block
numbered number time median_time = empty_block number key1 time median_time

greatest_numbers : Holds [] one_block (numbered 1099511627775 1099511627775 1099511627775) X07
greatest_numbers = record { number = omega arith; time = omega arith; median_time = omega arith }

number_too_great : ¬ Holds [] one_block (numbered 1099511627776 0 0) X07
number_too_great h = omega (arith, h.number)

time_too_great : ¬ Holds [] one_block (numbered 0 1099511627776 0) X07
time_too_great h = omega (arith, h.time)

median_time_too_great : ¬ Holds [] one_block (numbered 0 0 1099511627776) X07
median_time_too_great h = omega (arith, h.median_time)

-- ---- hashes and times

-- the text of block 1 above its InnerHash, by hand
abbrev inner_of_block1 : List ℕ
inner_of_block1 =
    unlines (
    codes "Version: 10"
    ∷ codes "Type: Block"
    ∷ codes "Currency: test_currency"
    ∷ codes "Number: 1"
    ∷ codes "PoWMin: 0"
    ∷ codes "Time: 1300"
    ∷ codes "MedianTime: 1000"
    ∷ codes "UnitBase: 0"
    ∷ (codes "Issuer: " ++ key1)
    ∷ codes "IssuersFrame: 1"
    ∷ codes "IssuersFrameVar: 0"
    ∷ codes "DifferentIssuersCount: 0"
    ∷ codes "PreviousHash: AB"
    ∷ (codes "PreviousIssuer: " ++ key0)
    ∷ codes "MembersCount: 3"
    ∷ codes "Identities:"
    ∷ codes "Joiners:"
    ∷ codes "Actives:"
    ∷ codes "Leavers:"
    ∷ codes "Revoked:"
    ∷ codes "Excluded:"
    ∷ codes "Certifications:"
    ∷ codes "Transactions:"
    ∷ []
    )

inner_hash_is_right : Holds [] one_block (record block1 { inner_hash = hash_of inner_of_block1 }) L01
unfolding inner_text digits
inner_hash_is_right = refl

inner_hash_of_another : (other : Text) → ¬ (other ≡ hash_of inner_of_block1) → ¬ Holds [] one_block (record block1 { inner_hash = other }) L01
unfolding inner_text digits
inner_hash_of_another other apart h = apart h

times_equal : Holds [] [] block0 L02
times_equal = λ _. refl

times_apart : ¬ Holds [] [] (record block0 { time = 1001 }) L02
times_apart h = omega (arith, h refl)

-- only the first block has to state one time
later_times : Holds [] one_block block1 L02
later_times is_first = absurd (omega arith)

abbrev certifying : List CertLine → Block
certifying lines = record block1 { certifications = lines }

certified_on_block_before : Holds [] one_block (certifying (certifies key0 key1 0 ∷ [])) L03
certified_on_block_before = (inl (omega arith), tt)

certified_on_itself : ¬ Holds [] one_block (certifying (certifies key0 key1 1 ∷ [])) L03
certified_on_itself (inl below, rest) = omega (arith, below)
certified_on_itself (inr both, rest) = omega (arith, both.0)

stamps_empty : Holds [] [] block0 L04
stamps_empty _ = ((refl, (refl, (refl, tt))), ((refl, refl), ((refl, refl), ((refl, refl), tt))))

identity_stamped : ¬ Holds [] [] (record block0 { identities = record (identity_line key0 (codes "user0")) { stamp = record empty_stamp { number = 1 } } ∷ [] }) L04
identity_stamped h = let number : 1 ≡ 0 = ap (λ s. s.number) (h refl).0.0 in omega (arith, number)

abbrev leaving_first : MemberLine → Block
leaving_first line = record block0 { joiners = []; leavers = line ∷ [] }

membership_stamped : ¬ Holds [] [] (leaving_first (record (member_line key0 (codes "user0")) { stamp = record empty_stamp { number = 1 } })) L04
membership_stamped h = let number : 1 ≡ 0 = ap (λ s. s.number) (h refl).1.0.0 in omega (arith, number)

identity_of_member_stamped : ¬ Holds [] [] (leaving_first (record (member_line key0 (codes "user0")) { identity_stamp = record empty_stamp { number = 1 } })) L04
identity_of_member_stamped h = let number : 1 ≡ 0 = ap (λ s. s.number) (h refl).1.0.1 in omega (arith, number)

later_stamps : Holds [] one_block (record block1 { actives = record (member_line key0 (codes "user0")) { stamp = record { number = 0; hash = unread } } ∷ [] }) L04
later_stamps is_first = absurd (omega (arith, is_first))

-- ---- signatures

-- the signature of the samples, by this key, of the text of these lines
abbrev by : Text → List (List ℕ) → Verdicts
by key lines = record { key = key; hash = hash_of (unlines lines); sig = unread } ∷ []

abbrev signed_by_issuer : List (List ℕ)
signed_by_issuer = codes "InnerHash: AB" ∷ codes "Nonce: 1" ∷ []

block_signed : Holds (by key1 signed_by_issuer) one_block block1 L05
unfolding signed_text digits
block_signed = (0, omega arith, refl)

block_unsigned : ¬ Holds [] one_block block1 L05
block_unsigned h = nothing_there _ h

signed_by_another : ¬ Holds (by key0 signed_by_issuer) one_block block1 L05
signed_by_another h = texts_differ key0 key1 refl (ap (λ (t : Verdict). t.key) (only_one _ _ h))

-- 72 seconds a block, five blocks: 360 seconds
time_at_most_ahead : Holds [] one_block (numbered 1 1360 1000) L06
time_at_most_ahead = λ later. (omega arith, omega arith)

time_too_far : ¬ Holds [] one_block (numbered 1 1361 1000) L06
time_too_far h = omega (arith, (h (omega arith)).1)

time_behind : ¬ Holds [] one_block (numbered 1 999 1000) L06
time_behind h = omega (arith, (h (omega arith)).0)

abbrev named : Block
named = record block1 { identities = identity_line key3 (codes "user3") ∷ [] }

abbrev empty_stamp_text : List ℕ
empty_stamp_text = codes "0-E3B0C44298FC1C149AFBF4C8996FB92427AE41E4649B934CA495991B7852B855"

identity_signed : Holds (
    by key3 (
    codes "Version: 10"
    ∷ codes "Type: Identity"
    ∷ codes "Currency: test_currency"
    ∷ (codes "Issuer: " ++ key3)
    ∷ codes "UniqueID: user3"
    ∷ (codes "Timestamp: " ++ empty_stamp_text)
    ∷ []
    )
    ) one_block named L07
unfolding signed_document digits
identity_signed = ((0, omega arith, refl), tt)

identity_unsigned : ¬ Holds [] one_block named L07
identity_unsigned h = nothing_there _ h.0

names_once : Holds [] [] block0 L08
names_once = refl

name_twice : ¬ Holds [] [] (record block0 { identities = identity_line key0 (codes "user0") ∷ identity_line key1 (codes "user0") ∷ [] }) L08
name_twice = fails

keys_once : Holds [] [] block0 L09
keys_once = refl

key_twice : ¬ Holds [] [] (record block0 { identities = identity_line key0 (codes "user0") ∷ identity_line key0 (codes "user1") ∷ [] }) L09
key_twice = fails

identities_join : Holds [] [] block0 L10
identities_join = (refl, (refl, (refl, tt)))

joins_not : ¬ Holds [] one_block named L10
joins_not h = fails h.0

joins_by_other_name : ¬ Holds [] one_block (record named { joiners = member_line key3 (codes "user4") ∷ [] }) L10
joins_by_other_name h = fails h.0

joins_by_other_stamp : ¬ Holds [] one_block (record named { joiners = record (member_line key3 (codes "user3")) { identity_stamp = record empty_stamp { number = 1 } } ∷ [] }) L10
joins_by_other_stamp h = fails h.0

-- the membership of key0 that says so
abbrev member_lines : List ℕ → List (List ℕ)
member_lines direction =
    codes "Version: 10"
    ∷ codes "Type: Membership"
    ∷ codes "Currency: test_currency"
    ∷ (codes "Issuer: " ++ key0)
    ∷ (codes "Block: " ++ empty_stamp_text)
    ∷ (codes "Membership: " ++ direction)
    ∷ codes "UserID: user0"
    ∷ (codes "CertTS: " ++ empty_stamp_text)
    ∷ []

abbrev line0 : List MemberLine
line0 = member_line key0 (codes "user0") ∷ []

comes_in : Holds (by key0 (member_lines (codes "IN"))) one_block (record block1 { joiners = line0 }) L11
unfolding signed_document digits
comes_in = (((0, omega arith, refl), tt), tt)

stays_in : Holds (by key0 (member_lines (codes "IN"))) one_block (record block1 { actives = line0 }) L11
unfolding signed_document digits
stays_in = (((0, omega arith, refl), tt), tt)

goes_out : Holds (by key0 (member_lines (codes "OUT"))) one_block (record block1 { leavers = line0 }) L11
unfolding signed_document digits
goes_out = (tt, ((0, omega arith, refl), tt))

comes_in_unsigned : ¬ Holds [] one_block (record block1 { joiners = line0 }) L11
comes_in_unsigned h = nothing_there _ h.0.0

goes_out_unsigned : ¬ Holds [] one_block (record block1 { leavers = line0 }) L11
goes_out_unsigned h = nothing_there _ h.1.0

movers_once : Holds [] [] block0 L12
movers_once = refl

joins_and_is_excluded : ¬ Holds [] [] (record block0 { excluded = key2 ∷ [] }) L12
joins_and_is_excluded = fails

stays_and_leaves : ¬ Holds [] one_block (record block1 { actives = line0; leavers = line0 }) L12
stays_and_leaves = fails

abbrev revoking_all : List Text → Block
revoking_all keys = record block1 { revoked = map (λ key. record { key = key; sig = unread }) keys }

revoked_once : Holds [] one_block (revoking_all (key1 ∷ key2 ∷ [])) L13
revoked_once = (refl, (refl, (refl, tt)))

revoked_twice : ¬ Holds [] one_block (revoking_all (key2 ∷ key1 ∷ key2 ∷ [])) L13
revoked_twice h = fails h.0

revoked_and_stays : ¬ Holds [] one_block (record (revoking_all (key1 ∷ key0 ∷ [])) { actives = line0 }) L13
revoked_and_stays h = fails h.1.1.0

-- ---- certifications

pairs_once : Holds [] [] block0 L14
pairs_once = refl

pair_twice : ¬ Holds [] one_block (certifying (certifies key0 key1 0 ∷ certifies key1 key0 0 ∷ certifies key0 key1 0 ∷ [])) L14
pair_twice = fails

certifies_others : Holds [] one_block (certifying (certifies key0 key1 0 ∷ [])) L15
certifies_others = (refl, tt)

certifies_itself : ¬ Holds [] one_block (certifying (certifies key0 key0 0 ∷ [])) L15
certifies_itself h = fails h.0

-- in the first block a key may certify many
certifies_many_at_first : Holds [] [] block0 L16
certifies_many_at_first = inl refl

certify_one_each : Holds [] one_block (certifying (certifies key0 key2 0 ∷ certifies key1 key2 0 ∷ [])) L16
certify_one_each = inr refl

certifies_two_later : ¬ Holds [] one_block (certifying (certifies key0 key1 0 ∷ certifies key0 key2 0 ∷ [])) L16
certifies_two_later (inl is_first) = omega (arith, is_first)
certifies_two_later (inr once) = fails once

-- key1 certifies key0
abbrev certified0 : Block
certified0 = certifying (certifies key1 key0 0 ∷ [])

certified_stays : Holds [] one_block (record certified0 { actives = line0; excluded = key2 ∷ [] }) L17
certified_stays = (refl, tt)

certified_leaves : ¬ Holds [] one_block (record certified0 { leavers = line0 }) L17
certified_leaves h = fails h.0

certified_is_revoked : ¬ Holds [] one_block (record certified0 { revoked = record { key = key0; sig = unread } ∷ [] }) L17
certified_is_revoked h = fails h.0

certified_is_excluded : ¬ Holds [] one_block (record certified0 { excluded = key0 ∷ [] }) L17
certified_is_excluded h = fails h.0
