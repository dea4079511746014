-- Each rule on certifications and exclusions, at its bound: a block that keeps it, and one that breaks it. `PeopleTrials` has the
-- rules before them.
--
-- Rule, kept by, broken by:
--   G65   made_in_time, made_in_time_at_first     made_too_late, made_too_late_at_first, made_on_unknown
--   G66   stock_is_full, ended_ones_count_not     stock_overflows
--   G67   waited_long_enough, never_certified     certifies_too_soon
--   G68   member_certifies, first_joiner_certifies    stranger_certifies, joiner_certifies_at_once, first_stranger_certifies
--   G69   member_is_certified, joiner_is_certified    stranger_is_certified, excluded_is_certified
--   G70   who_stays_is_certified      who_leaves_is_certified, who_left_before_is_certified
--   G71   certified_again, ended_before_version_11    certified_too_soon, certified_again_before, made_no_later
--   G72   certification_signed, certification_signed_on_chain     certification_unsigned, stranger_certified_by_signature
--   G79   enough_received             too_few_received, none_received
--   G76   all_must_reach               more_than_all, stranger_joins_from_afar; steps are tried in `Reaches`: reached_in_two_steps,
--         not_reached_in_one
--   G85   excludes_only_revoked       excludes_another
--   G86   excludes_revoked            does_not_exclude_revoked
use Rattle.std.specs.Prelude.{◌≡◌, ℕ, ◌*◌, ◌≤◌, List, [], ◌∷◌, ◌++◌, codes, take, count_by, true, false, Bool, IsTrue}
use Rattle.std.specs.Fmt.{digits}
use Rattle.std.specs.List.{Contains, AllByRecursion}
use Rattle.std.proofs.Common.{refl, sym, subst, ap, zero, suc, arith}
use Rattle.std.proofs.lemmas.List.Elements.{All-from_recursion, All-contains}
use Rattle.std.proofs.lemmas.List.Sums.{count_by-le-length}
use Rattle.dubp_atoms.specs.Same.{Text, same_text}
use Rattle.dubp_atoms.specs.Hashing.{hash_of}
use Rattle.dubp_atoms.specs.Walks.{Reaches, IsWalk}
use Rattle.dubp_lines.specs.Lines.{unlines}
use Rattle.dubp_docs.specs.Spelling.{signed_text as signed_document}
use Rattle.dubp_block.specs.Text.{block_hash_of}
use Rattle.dubp_block.specs.declared.block.Block.{Block}
use Rattle.dubp_block.specs.declared.block.MemberLine.{MemberLine}
use Rattle.dubp_block.specs.declared.block.CertLine.{CertLine}
use Rattle.dubp_rules.specs.declared.rule.Rule.TheVariants.{G65, G66, G67, G68, G69, G70, G71, G72, G79, G76, G85, G86}
use Rattle.dubp_verdict.specs.Verdicts.{Verdicts}
use Rattle.dubp_chain.specs.Chains.{Chain}
use Rattle.dubp_chain.specs.Members.{members}
use Rattle.dubp_chain.specs.Live.{live_at, live_pairs, stock}
use Rattle.dubp_chain.specs.Distance.{Passes}
use Rattle.dubp_validity.specs.Rules.{Holds}
use Rattle.dubp_trials.specs.Samples.{key0, key1, key2, key3, unread, member_line, certifies, empty_block, paying_params, short_params, first_of_members, block0, block1, block2, one_block, revoking_chain, aged}
use Rattle.dubp_trials.proofs.Apart.{fails, texts_differ, nothing_there}
use Rattle.dubp_trials.proofs.Checks.{reached_by_two}
use Rattle.dubp_trials.proofs.MoreSamples.{waiting, windows, third_block}

-- block 1 with these certifications
abbrev certifying : List CertLine → Block
certifying lines = record block1 { certifications = lines }

-- ---- time

-- certifications may wait 800 seconds; it was made on the first block, at 1000, and the time is the mean of 1000 and the Time of
-- the second block
abbrev third_certifying : ℕ → Block
third_certifying number = record third_block { certifications = certifies key0 key1 number ∷ [] }

made_in_time : Holds [] (waiting windows 2600) (third_certifying 0) G65
made_in_time = (omega arith, tt)

made_too_late : ¬ Holds [] (waiting windows 2602) (third_certifying 0) G65
made_too_late h = omega (arith, h.0)

made_on_unknown : ¬ Holds [] (waiting windows 1000) (third_certifying 7) G65
made_on_unknown h = h.0

-- on the empty chain it was made at MedianTime, and the time is the block's Time
abbrev first_certifying : ℕ → Block
first_certifying time = record (first_of_members windows) { time = time; certifications = certifies key0 key1 0 ∷ [] }

made_in_time_at_first : Holds [] [] (first_certifying 1800) G65
made_in_time_at_first = (omega arith, tt)

made_too_late_at_first : ¬ Holds [] [] (first_certifying 1801) G65
made_too_late_at_first h = omega (arith, h.0)

-- ---- issuers

-- each key of the first block has issued two
abbrev stocking : ℕ → Block
stocking most = first_of_members (record paying_params { sig_stock = most })

stock_is_full : Holds [] [] (stocking 2) G66
stock_is_full = (omega arith, (omega arith, (omega arith, (omega arith, (omega arith, (omega arith, tt))))))

stock_overflows : ¬ Holds [] [] (stocking 1) G66
stock_overflows h = omega (arith, h.0)

-- certifications last 200 seconds, from 1000 to 1200; the third block's own, made on the second at 1000, has ended with them
ended_ones_count_not : (stock (record third_block { certifications = certifies key0 key1 1 ∷ [] } ∷ waiting (record short_params { sig_stock = 1 }) 1400) key0 ≡ 0) × Holds [] (waiting (record short_params { sig_stock = 1 }) 1400) (third_certifying 1) G66
ended_ones_count_not = (refl, (omega arith, tt))

-- key0 has certified at 1000 and waits 50 seconds
waited_long_enough : Holds [] (waiting windows 1100) (third_certifying 1) G67
waited_long_enough = (omega arith, tt)

certifies_too_soon : ¬ Holds [] (waiting windows 1098) (third_certifying 1) G67
certifies_too_soon h = omega (arith, h.0)

never_certified : Holds [] one_block (certifying (certifies key3 key0 0 ∷ [])) G67
never_certified = (tt, tt)

member_certifies : Holds [] one_block (certifying (certifies key0 key3 0 ∷ [])) G68
member_certifies = (refl, tt)

stranger_certifies : ¬ Holds [] one_block (certifying (certifies key3 key0 0 ∷ [])) G68
stranger_certifies h = fails h.0

abbrev line3 : List MemberLine
line3 = member_line key3 (codes "user3") ∷ []

joiner_certifies_at_once : ¬ Holds [] one_block (record (certifying (certifies key3 key0 0 ∷ [])) { joiners = line3 }) G68
joiner_certifies_at_once h = fails h.0

first_joiner_certifies : Holds [] [] (record block0 { certifications = certifies key0 key1 0 ∷ [] }) G68
first_joiner_certifies = (refl, tt)

first_stranger_certifies : ¬ Holds [] [] (record block0 { certifications = certifies key3 key1 0 ∷ [] }) G68
first_stranger_certifies h = fails h.0

-- ---- receivers

abbrev to_key3 : Block
to_key3 = certifying (certifies key0 key3 0 ∷ [])

abbrev to_key2 : Block
to_key2 = certifying (certifies key0 key2 0 ∷ [])

member_is_certified : Holds [] one_block to_key2 G69
member_is_certified = (refl, tt)

joiner_is_certified : Holds [] one_block (record to_key3 { joiners = line3 }) G69
joiner_is_certified = (refl, tt)

stranger_is_certified : ¬ Holds [] one_block to_key3 G69
stranger_is_certified h = fails h.0

excluded_is_certified : ¬ Holds [] one_block (record to_key2 { excluded = key2 ∷ [] }) G69
excluded_is_certified h = fails h.0

abbrev line2 : List MemberLine
line2 = member_line key2 (codes "user2") ∷ []

who_stays_is_certified : Holds [] one_block (record to_key2 { actives = line2 }) G70
who_stays_is_certified = (refl, tt)

who_leaves_is_certified : ¬ Holds [] one_block (record to_key2 { leavers = line2 }) G70
who_leaves_is_certified h = fails h.0

who_left_before_is_certified : ¬ Holds [] (record block1 { leavers = line2 } ∷ one_block) (record block2 { certifications = certifies key0 key2 0 ∷ [] }) G70
who_left_before_is_certified h = fails h.0

-- ---- pairs that are live: in version 11 who certifies again waits for msWindow, from 1000 up to 2000

-- block 3 with a certification that is made on this block
abbrev certifying_again : ℕ → ℕ → Block
certifying_again version number = record (empty_block 3 key1 3000 2000) { version = version; certifications = certifies key0 key1 number ∷ [] }

-- the pair is still live
certified_again : (live_at 2000 (aged paying_params 3000) key0 key1 ≡ true) × Holds [] (aged paying_params 3000) (certifying_again 11 2) G71
certified_again = (refl, (λ is_live. record { version = refl; waited = omega arith; newer = omega arith }, tt))

certified_too_soon : ¬ Holds [] (aged paying_params 2998) (certifying_again 11 2) G71
certified_too_soon h = omega (arith, (h.0 refl).waited)

certified_again_before : ¬ Holds [] (aged paying_params 3000) (certifying_again 10 2) G71
certified_again_before h = omega (arith, (h.0 refl).version)

-- it was made on the block on which the live one was made
made_no_later : ¬ Holds [] (aged paying_params 3000) (certifying_again 11 0) G71
made_no_later h = omega (arith, (h.0 refl).newer)

-- at its end, 6000, the pair is live no more
ended_before_version_11 : (live_at 6000 (aged paying_params 11000) key0 key1 ≡ false) × Holds [] (aged paying_params 11000) (certifying_again 10 2) G71
ended_before_version_11 = (refl, (λ is_live. absurd (fails is_live), tt))

abbrev certification_lines : List (List ℕ)
certification_lines =
    codes "Version: 10"
    ∷ codes "Type: Certification"
    ∷ codes "Currency: test_currency"
    ∷ (codes "Issuer: " ++ key0)
    ∷ (codes "IdtyIssuer: " ++ key2)
    ∷ codes "IdtyUniqueID: user2"
    ∷ codes "IdtyTimestamp: 0-E3B0C44298FC1C149AFBF4C8996FB92427AE41E4649B934CA495991B7852B855"
    ∷ codes "IdtySignature: AB"
    ∷ codes "CertTimestamp: 0-E3B0C44298FC1C149AFBF4C8996FB92427AE41E4649B934CA495991B7852B855"
    ∷ []

-- in the first block, on the empty chain
abbrev signing_first : Block
signing_first = record block0 { certifications = certifies key0 key2 0 ∷ [] }

certification_signed : Holds (record { key = key0; hash = hash_of (unlines certification_lines); sig = unread } ∷ []) [] signing_first G72
unfolding signed_document digits
certification_signed = ((0, omega arith, refl), tt)

-- on a chain the document names the block by its hash
abbrev stamped_lines : List (List ℕ)
stamped_lines = take 8 certification_lines ++ (codes "CertTimestamp: 0-" ++ block_hash_of block0) ∷ []

certification_signed_on_chain : Holds (record { key = key0; hash = hash_of (unlines stamped_lines); sig = unread } ∷ []) one_block to_key2 G72
unfolding signed_document digits
certification_signed_on_chain = ((0, omega arith, refl), tt)

certification_unsigned : ¬ Holds [] [] signing_first G72
certification_unsigned h = nothing_there _ h.0

-- whatever verdicts there are
stranger_certified_by_signature : (v : Verdicts) → ¬ Holds v one_block to_key3 G72
stranger_certified_by_signature v h = h.0

-- ---- who joins and stays

-- each key of the first block has received two
abbrev asking_for : ℕ → Block
asking_for least = first_of_members (record paying_params { sig_qty = least })

enough_received : Holds [] [] (asking_for 2) G79
enough_received = (omega arith, (omega arith, (omega arith, tt)))

too_few_received : ¬ Holds [] [] (asking_for 3) G79
too_few_received h = omega (arith, h.0)

none_received : ¬ Holds [] one_block (record block1 { joiners = line3 }) G79
none_received h = omega (arith, h.0)

-- ---- who is excluded: key2 is revoked

abbrev excluding : List Text → Block
excluding keys = record block2 { excluded = keys }

excludes_only_revoked : Holds [] revoking_chain (excluding (key2 ∷ [])) G85
excludes_only_revoked = (refl, tt)

excludes_another : ¬ Holds [] revoking_chain (excluding (key1 ∷ key2 ∷ [])) G85
excludes_another h = fails h.0

excludes_nobody : Holds [] revoking_chain (excluding []) G85
excludes_nobody = tt

excludes_revoked : Holds [] revoking_chain (excluding (key2 ∷ [])) G86
excludes_revoked = (refl, tt)

excludes_more : Holds [] revoking_chain (excluding (key1 ∷ key2 ∷ [])) G86
excludes_more = (refl, tt)

does_not_exclude_revoked : ¬ Holds [] revoking_chain (excluding []) G86
does_not_exclude_revoked h = fails h.0

-- ---- distance

-- a share of the sentries, in hundredths
abbrev sharing : ℕ → Chain
sharing hundredths = first_of_members (record paying_params { xpercent = record { mantissa = hundredths; places = 2 } }) ∷ []

abbrev key0_stays : Block
key0_stays = record block1 { actives = member_line key0 (codes "user0") ∷ [] }

-- two sentries are there beside key0, and both reach it
all_must_reach : Holds [] (sharing 100) key0_stays G76
all_must_reach = (record { reached = 2; counted = reached_by_two; near = omega arith }, tt)

-- no count of them is above two
more_than_all : ¬ Holds [] (sharing 101) key0_stays G76
more_than_all h =
    let passes : Passes (key0_stays ∷ sharing 101) key0 = h.0 in
    let test : Text → Bool = passes.counted.0 in
    let few : count_by test (key1 ∷ key2 ∷ []) ≤ 2 = count_by-le-length test (key1 ∷ key2 ∷ []) in
    let is : passes.reached ≡ count_by test (key1 ∷ key2 ∷ []) = passes.counted.2 in
    let near : 101 * 2 ≤ passes.reached * 100 = passes.near in
    omega (arith, few, is, near)

-- on a line of certifications from key2 over key1 to key0
abbrev line_of_three : List (Text × Text)
line_of_three = (key2, key1) ∷ (key1, key0) ∷ []

reached_in_two_steps : Reaches (key0 ∷ key1 ∷ key2 ∷ []) line_of_three 2 key2 key0
reached_in_two_steps =
    (key1 ∷ key0 ∷ [], omega arith, ((2, omega arith, refl), (0, omega arith, refl), ((1, omega arith, refl), (1, omega arith, refl), ((0, omega arith, refl), refl))))

-- with one step only a pair from key2 to key0 itself would do
pair_apart : (b : Text) → b ≡ key0 → ¬ Contains line_of_three (key2, b)
pair_apart b is (zero, below, pair) =
    let same : key1 ≡ b = ap (λ (p : Text × Text). p.1) pair in
    texts_differ key0 key1 refl (sym (subst (λ x. key1 ≡ x) is same))
pair_apart b is (suc zero, below, pair) = texts_differ key1 key2 refl (ap (λ (p : Text × Text). p.0) pair)
pair_apart b is (suc (suc k), below, pair) = omega (arith, below)

not_reached_in_one : ¬ Reaches (key0 ∷ key1 ∷ key2 ∷ []) line_of_three 1 key2 key0
not_reached_in_one ([], short, walk) = texts_differ key2 key0 refl walk.1
not_reached_in_one (b ∷ [], short, walk) = pair_apart b walk.2.1 walk.1
not_reached_in_one (a ∷ b ∷ path, short, walk) = omega (arith, short)

-- key3 joins, and nobody has certified it: none of the three sentries reaches it
abbrev key3_joins : Block
key3_joins = record block1 { joiners = line3 }

abbrev joined : Chain
joined = key3_joins ∷ one_block

abbrev IsNotToKey3 : Text × Text → Type 0
IsNotToKey3 p = same_text key3 p.1 ≡ false

nobody_certifies_key3 : (a : Text) → ¬ Contains (live_pairs joined) (a, key3)
nobody_certifies_key3 a there =
    let none : AllByRecursion IsNotToKey3 (live_pairs joined) = (refl, (refl, (refl, (refl, (refl, (refl, tt)))))) in
    fails (sym (All-contains IsNotToKey3 (live_pairs joined) (a, key3) (All-from_recursion IsNotToKey3 (live_pairs joined) none) there))

-- so each walk to key3 begins there
begins_at_key3 : (path : List Text) (a : Text) → IsWalk (members joined) (live_pairs joined) a path key3 → a ≡ key3
begins_at_key3 [] a walk = walk.1
begins_at_key3 (b ∷ path) a walk =
    let is : b ≡ key3 = begins_at_key3 path b walk.2 in
    absurd (nobody_certifies_key3 a (subst (λ x. Contains (live_pairs joined) (a, x)) is walk.1))

not_true : (b : Bool) → ¬ IsTrue b → b ≡ false
not_true true is_not = absurd (is_not refl)
not_true false is_not = refl

reaches_not : (passes : Passes joined key3) (k : Text) → same_text k key3 ≡ false → passes.counted.0 k ≡ false
reaches_not passes k apart =
    not_true (passes.counted.0 k) (λ is.
    let reaches : Reaches (members joined) (live_pairs joined) 3 k key3 = (passes.counted.1 k).0 is in
    texts_differ k key3 apart (begins_at_key3 reaches.0 k reaches.2))

stranger_joins_from_afar : ¬ Holds [] one_block key3_joins G76
stranger_joins_from_afar h =
    let passes : Passes joined key3 = h.0 in
    let is : passes.reached ≡ count_by passes.counted.0 (key0 ∷ key1 ∷ key2 ∷ []) = passes.counted.2 in
    let none = rw (reaches_not passes key0 refl, reaches_not passes key1 refl, reaches_not passes key2 refl) at is in
    let near : 5 * 3 ≤ passes.reached * 10 = passes.near in
    omega (arith, none, near)
