-- Each rule on transactions and sources, at its bound: a block that keeps it, and one that breaks it.
--
-- Rule, kept by, broken by:
--   X05   new_transaction             sent_before, sent_twice
--   G103  sent_in_time, sent_on_chain_in_time     sent_too_late, sent_on_chain_too_late, sent_on_unknown
--   G87   source_there, output_kept, spends_output_before     source_unknown, source_of_other_amount, source_of_other_base, source_spent,
--         source_cleared, spends_output_behind
--   G88   opened_by_receiver          opened_by_another, opened_without_signature; conditions on time in `IsOpened`: opens_in_time,
--         opens_too_soon, opens_at_date, opens_before_date
--   G89   lock_has_ended              locked_too_long
--   G90   base_fits, base_one_fits    base_too_great
use Rattle.std.specs.Prelude.{◌≡◌, ℕ, ◌+◌, ◌≤◌, [], ◌∷◌, true, Some, unwrap_or, Any}
use Rattle.std.proofs.Common.{refl, sym, subst, ap, inl, inr, zero, suc, arith}
use Rattle.dubp_atoms.specs.Same.{same_text, empty_stamp}
use Rattle.dubp_atoms.specs.declared.stamp.Stamp.{Stamp}
use Rattle.dubp_cond.specs.Truth.{Signs}
use Rattle.dubp_cond.specs.Tree.{CondTree, csv, cltv, no_items, add_item, no_alls, add_all}
use Rattle.dubp_cond.specs.declared.source.SourceId.TheVariants.{D, T}
use Rattle.dubp_cond.specs.declared.unlock.Unlock.TheVariants.{Sig}
use Rattle.dubp_cond.specs.declared.source.Input.{Input}
use Rattle.dubp_block.specs.Text.{block_hash_of, stamp_of}
use Rattle.dubp_block.specs.declared.block.Block.{Block}
use Rattle.dubp_rules.specs.declared.rule.Rule.TheVariants.{X05, G103, G87, G88, G89, G90}
use Rattle.dubp_chain.specs.Chains.{Chain}
use Rattle.dubp_chain.specs.Money.{Source}
use Rattle.dubp_validity.specs.MoneyRules.{IsOpened}
use Rattle.dubp_validity.specs.Rules.{Holds}
use Rattle.dubp_trials.specs.Samples.{key0, key1, key3, unread, paying_params, first_of_members, block1, block2, three_blocks, dividend_input, output_to, spending, spending_block, spent_chain}
use Rattle.dubp_trials.proofs.Checks.{spending_hash, hash_is_itself}
use Rattle.dubp_trials.proofs.Apart.{fails, is_itself, texts_differ}
use Rattle.dubp_trials.proofs.MoreSamples.{later_blocks, passing_on, moving, moving_all, waiting, windows, third_block}

-- ---- transactions

new_transaction : Holds [] three_blocks (spending_block 99 901) X05
new_transaction = (refl, (refl, tt))

sent_before : ¬ Holds [] (spent_chain 99 901) (record (spending_block 99 901) { number = 4 }) X05
sent_before h = let found = rw hash_is_itself at h in fails found.1.0

sent_twice : ¬ Holds [] three_blocks (moving_all (spending 99 901 ∷ spending 99 901 ∷ [])) X05
sent_twice h = let found = rw hash_is_itself at h in fails found.0

-- on the empty chain it was made at MedianTime, 1000, and the time is the block's Time
abbrev first_sending : ℕ → Block
first_sending time =
    record (first_of_members paying_params) { time = time; transactions = record (spending 99 901) { stamp = empty_stamp } ∷ [] }

sent_in_time : Holds [] [] (first_sending 605800) G103
sent_in_time = (omega arith, tt)

sent_too_late : ¬ Holds [] [] (first_sending 605801) G103
sent_too_late h = omega (arith, h.0)

-- made on the first block, at 1000, and the time is the mean of 1000 and the Time of the second
abbrev first_stamp : Stamp
first_stamp = stamp_of (first_of_members windows)

abbrev first_is_itself : same_text (block_hash_of (first_of_members windows)) (block_hash_of (first_of_members windows)) ≡ true
first_is_itself = is_itself (block_hash_of (first_of_members windows))

abbrev third_sending : Stamp → Block
third_sending stamp = record third_block { transactions = record (spending 99 901) { stamp = stamp } ∷ [] }

sent_on_chain_in_time : Holds [] (waiting windows 1210600) (third_sending first_stamp) G103
sent_on_chain_in_time = rw first_is_itself (omega arith, tt)

sent_on_chain_too_late : ¬ Holds [] (waiting windows 1210602) (third_sending first_stamp) G103
sent_on_chain_too_late h =
    let late : (605801 ≤ 1000 + 604800) × Unit {0} = rw first_is_itself at h in
    omega (arith, late.0)

sent_on_unknown : ¬ Holds [] (waiting windows 1000) (third_sending (record { number = 7; hash = unread })) G103
sent_on_unknown h = h.0

-- ---- sources

abbrev spending_of : Input → Block
spending_of input = moving (record (spending 99 901) { inputs = input ∷ [] })

source_there : Holds [] three_blocks (spending_block 99 901) G87
source_there = ((tt, tt), tt)

source_unknown : ¬ Holds [] three_blocks (spending_of (record { amount = 1000; base = 0; source = D key0 1 })) G87
source_unknown h = h.0.0

source_of_other_amount : ¬ Holds [] three_blocks (spending_of (record { amount = 999; base = 0; source = D key0 2 })) G87
source_of_other_amount h = h.0.0

source_of_other_base : ¬ Holds [] three_blocks (spending_of (record { amount = 1000; base = 1; source = D key0 2 })) G87
source_of_other_base h = h.0.0

-- the dividend was spent by the block before
source_spent : ¬ Holds [] (spent_chain 100 900) (spending_block 99 901) G87
source_spent h = h.0.0

-- of what it made, 901 units are kept, and 99 were cleared at once
output_kept : Holds [] (spent_chain 99 901) (spending_of (record { amount = 901; base = 0; source = T spending_hash 1 })) G87
output_kept = rw hash_is_itself ((rw hash_is_itself tt, tt), tt)

source_cleared : ¬ Holds [] (spent_chain 99 901) (spending_of (record { amount = 99; base = 0; source = T spending_hash 0 })) G87
source_cleared h =
    let found = rw hash_is_itself at h in
    let there = rw hash_is_itself at found.0.0 in
    there

-- what a transaction makes is there for those behind it in the block
spends_output_before : Holds [] three_blocks (moving_all (spending 99 901 ∷ passing_on ∷ [])) G87
spends_output_before = ((tt, tt), ((rw hash_is_itself tt, tt), tt))

spends_output_behind : ¬ Holds [] three_blocks (moving_all (passing_on ∷ spending 99 901 ∷ [])) G87
spends_output_behind h = h.0.0

-- ---- conditions

opened_by_receiver : Holds [] three_blocks (spending_block 99 901) G88
opened_by_receiver = ((inl ((0, _, omega arith, refl, refl), tt), tt), tt)

-- key1 signs in place of key0
signs_for_another : ¬ Any (Signs (key1 ∷ []) key0) (Sig 0 ∷ [])
signs_for_another (zero, unlock, below, is, signs) =
    let same : Some key1 ≡ Some key0 = subst (Signs (key1 ∷ []) key0) (sym is) signs in
    texts_differ key1 key0 refl (ap (λ o. unwrap_or o []) same)
signs_for_another (suc k, unlock, below, is, signs) = omega (arith, below)

opened_by_another : ¬ Holds [] three_blocks (moving (record (spending 99 901) { issuers = key1 ∷ [] })) G88
opened_by_another ((inl opens, rest), more) = signs_for_another opens.0
opened_by_another ((inr none, rest), more) = none

opened_without_signature : ¬ Holds [] three_blocks (moving (record (spending 99 901) { unlocks = [] })) G88
opened_without_signature ((inl opens, rest), more) = omega (arith, opens.0.2)
opened_without_signature ((inr none, rest), more) = none

-- the dividend of key0, made at 1150, with a condition on time alone
abbrev timed_source : CondTree → Source
timed_source cond = record { id = D key0 2; amount = 1000; base = 0; cond = cond; time = 1150 }

abbrev OpensAt : ℕ → CondTree → Type 0
OpensAt t cond = IsOpened t (spending 99 901) (timed_source cond ∷ []) (0, dividend_input)

-- CSV(3600) is true 3600 seconds after the source was made
abbrev after_an_hour : CondTree
after_an_hour = add_all (add_item (csv 3600) no_items) no_alls

opens_in_time : OpensAt 4750 after_an_hour
opens_in_time = inl (omega arith, tt)

opens_too_soon : ¬ OpensAt 4749 after_an_hour
opens_too_soon (inl each) = omega (arith, each.0)
opens_too_soon (inr none) = none

-- CLTV(3600) is true from 3600 on
abbrev from_date : CondTree
from_date = add_all (add_item (cltv 3600) no_items) no_alls

opens_at_date : OpensAt 3600 from_date
opens_at_date = inl (omega arith, tt)

opens_before_date : ¬ OpensAt 3599 from_date
opens_before_date (inl each) = omega (arith, each.0)
opens_before_date (inr none) = none

-- the dividend was made at 1150, and the time is 1300
abbrev locking : ℕ → Block
locking locktime = moving (record (spending 99 901) { locktime = locktime })

lock_has_ended : Holds [] later_blocks (locking 150) G89
lock_has_ended = ((omega arith, tt), tt)

locked_too_long : ¬ Holds [] later_blocks (locking 151) G89
locked_too_long h = omega (arith, h.0.0)

-- ---- bases

base_fits : Holds [] three_blocks (spending_block 99 901) G90
base_fits = ((omega arith, (omega arith, tt)), tt)

abbrev sending_in_base : ℕ → Block
sending_in_base base = moving (record (spending 99 901) { outputs = record (output_to key3 100) { base = base } ∷ [] })

base_too_great : ¬ Holds [] three_blocks (sending_in_base 1) G90
base_too_great h = omega (arith, h.0.0)

-- with the first dividend the unit base became 1
abbrev based_chain : Chain
based_chain = block2 ∷ block1 ∷ first_of_members (record paying_params { ud0 = 10000; ud_reeval_time0 = 1100 }) ∷ []

base_one_fits : Holds [] based_chain (sending_in_base 1) G90
base_one_fits = ((omega arith, tt), tt)

base_two_too_great : ¬ Holds [] based_chain (sending_in_base 2) G90
base_two_too_great h = omega (arith, h.0.0)
