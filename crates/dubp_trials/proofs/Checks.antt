-- What the definitions of heads, people and money give on small chains.
use Rattle.std.specs.Prelude.{◌≡◌, ℕ, ℤ, pos, List, [], ◌∷◌, ◌++◌, codes, Some, option_map, Bool, true, false, map, IsTrue}
use Rattle.std.specs.List.{AllByRecursion, Contains}
use Rattle.std.proofs.Common.{refl, sym, arith}
use Rattle.std.proofs.lemmas.List.Elements.{All-from_recursion, All-contains}
use Rattle.std.proofs.lemmas.Cmp.{nat_list_eq_equiv}
use Rattle.std.proofs.lemmas.Map.Views.{list_any-from_Contains, Contains-from_any}
use Rattle.std.specs.Cmp.Lexicographic.{same_text as one_text}
use Rattle.dubp_atoms.specs.Same.{Text, same_text}
use Rattle.dubp_atoms.specs.Walks.{Reaches, IsWalk, d_sen_of}
use Rattle.dubp_pow.specs.Ladder.{table_row}
use Rattle.dubp_pow.specs.Difficulty.{greatest_reached}
use Rattle.dubp_cond.specs.declared.source.Input.{Input}
use Rattle.dubp_docs.specs.Spelling.{tx_hash}
use Rattle.dubp_block.specs.Text.{block_hash_of, stamp_of}
use Rattle.dubp_block.specs.declared.block.MemberLine.{MemberLine}
use Rattle.dubp_chain.specs.declared.head.Head.{Head}
use Rattle.dubp_chain.specs.Words.{names}
use Rattle.dubp_chain.specs.Chains.{Chain}
use Rattle.dubp_chain.specs.Members.{members}
use Rattle.dubp_chain.specs.Heads.{head_of, difficulty, issued, time_of}
use Rattle.dubp_chain.specs.People.{expiry, revocation, leaving, revoked, expired}
use Rattle.dubp_chain.specs.Live.{live, received, stock, certification, wrote, end_of, live_pairs, kick}
use Rattle.dubp_chain.specs.Distance.{sentries, sentry_count, IsReached, Passes}
use Rattle.dubp_chain.specs.Money.{Source, unspent_units, cleared_units, balance, sources_of}
use Rattle.dubp_trials.specs.Samples.{key0, key1, key2, key3, member_line, certifies, empty_block, paying_params, short_params, block0, block2, one_block, two_blocks, three_blocks, spending, spent_chain, aged, revoking_chain, quiet_chain, dividend_input}

-- ---- heads

-- the values of HEAD: median time, members, least difficulty, dividend, unit base, mass, frame, its variation, issuers
abbrev Values : Type 0
Values = ℕ × ℕ × ℕ × ℕ × ℕ × ℕ × ℕ × ℤ × ℕ

abbrev values_of : Head → Values
values_of h = (h.median_time, h.members, h.pow_min, h.dividend, h.unit_base, h.mass, h.frame, h.frame_var, h.issuers)

abbrev HasValues : Chain → Values → Type 0
HasValues c values = option_map values_of (head_of c) ≡ Some values

first_values : HasValues one_block (1000, 3, 0, 1000, 0, 0, 1, pos 0, 0)
first_values = refl

second_values : HasValues two_blocks (1000, 3, 0, 1000, 0, 0, 1, pos 5, 1)
second_values = refl

third_values : HasValues three_blocks (1150, 3, 0, 1000, 0, 3000, 2, pos 4, 1)
third_values = refl

quiet_values : HasValues quiet_chain (1150, 0, 0, 1000, 0, 0, 2, pos 4, 1)
quiet_values = refl

-- ---- people

three_members : members one_block ≡ key0 ∷ key1 ∷ key2 ∷ []
three_members = refl

pair_is_live : live one_block key0 key1 ≡ true
pair_is_live = refl

two_received : received one_block key0 ≡ 2
two_received = refl

two_issued : stock one_block key0 ≡ 2
two_issued = refl

end_of_memberships : map (expiry one_block) (key0 ∷ key1 ∷ key2 ∷ []) ≡ Some 3000 ∷ Some 3000 ∷ Some 3000 ∷ []
end_of_memberships = refl

end_of_pair : option_map (end_of one_block) (certification one_block key1 key0) ≡ Some 6000
end_of_pair = refl

-- the issuer of the only block has a handicap, another member has none
difficulty_of_issuer : difficulty one_block key0 ≡ Some 4
unfolding greatest_reached table_row
difficulty_of_issuer = refl

difficulty_of_member : difficulty one_block key1 ≡ Some 0
unfolding greatest_reached table_row
difficulty_of_member = refl

-- ---- time goes by

-- a certification lives up to the second before its end
live_before_end : (time_of (aged short_params 1398) ≡ 1199) × (live (aged short_params 1398) key0 key1 ≡ true) × (kick (aged short_params 1398) ≡ [])
live_before_end = (refl, refl, refl)

dead_at_end : (time_of (aged short_params 1400) ≡ 1200) × (live (aged short_params 1400) key0 key1 ≡ false) × (kick (aged short_params 1400) ≡ key0 ∷ key1 ∷ key2 ∷ [])
dead_at_end = (refl, refl, refl)

-- so does a membership
not_expired : (time_of (aged paying_params 4998) ≡ 2999) × (map (expired (aged paying_params 4998)) (members one_block) ≡ false ∷ false ∷ false ∷ [])
not_expired = (refl, refl)

all_expired : (time_of (aged paying_params 5000) ≡ 3000) × (map (expired (aged paying_params 5000)) (members one_block) ≡ true ∷ true ∷ true ∷ [])
all_expired = (refl, refl)

-- and its identity as long again
not_revoked : (time_of (aged paying_params 8998) ≡ 4999) × (map (revoked (aged paying_params 8998)) (members one_block) ≡ false ∷ false ∷ false ∷ [])
not_revoked = (refl, refl)

all_revoked : (time_of (aged paying_params 9000) ≡ 5000) × (map (revoked (aged paying_params 9000)) (members one_block) ≡ true ∷ true ∷ true ∷ [])
all_revoked = (refl, refl)

-- who is revoked by a line is to be excluded at once
revoked_at_once : (map (revoked revoking_chain) (members one_block) ≡ false ∷ false ∷ true ∷ []) × (kick revoking_chain ≡ key2 ∷ [])
revoked_at_once = (refl, refl)

-- where one block has a key in Joiners and in Excluded, the later section wins
joined_and_excluded : members (record block0 { excluded = key2 ∷ [] } ∷ []) ≡ key0 ∷ key1 ∷ []
joined_and_excluded = refl

-- a certification of block 1 is the last of its pair, and was made on block 1
abbrev renewing_chain : Chain
renewing_chain = record block2 { certifications = certifies key0 key1 1 ∷ [] } ∷ two_blocks

last_of_pair : (option_map (end_of renewing_chain) (certification renewing_chain key0 key1) ≡ Some 6000) × (wrote renewing_chain key0 ≡ Some 2) × (wrote renewing_chain key1 ≡ Some 0)
last_of_pair = (refl, refl, refl)

-- who stays by a document made on block 2, at 1150, is a member for 2000 seconds more; who leaves by one gains nothing
abbrev made_on_block2 : MemberLine
made_on_block2 = record (member_line key0 (codes "user0")) { stamp = stamp_of block2 }

abbrev staying_chain : Chain
staying_chain = record (empty_block 3 key0 1200 1150) { actives = made_on_block2 ∷ [] } ∷ three_blocks

stays_longer : expiry staying_chain key0 ≡ Some 3150
stays_longer = rw (nat_list_eq_equiv.refl (block_hash_of block2))

stays_unrevoked : revocation staying_chain key0 ≡ Some 5150
stays_unrevoked = rw (nat_list_eq_equiv.refl (block_hash_of block2))

abbrev left_chain : Chain
left_chain = record (empty_block 3 key0 1200 1150) { leavers = made_on_block2 ∷ [] } ∷ three_blocks

leaves_no_later : (expiry left_chain key0 ≡ Some 3000) × (leaving left_chain key0 ≡ true) × (leaving left_chain key1 ≡ false) × (leaving staying_chain key0 ≡ false)
leaves_no_later = (refl, refl, refl, refl)

-- who leaves is a member still
leaver_is_member : members left_chain ≡ key0 ∷ key1 ∷ key2 ∷ []
leaver_is_member = refl

-- ---- distance

degrees : (d_sen_of 3 3 ≡ 2) × (d_sen_of 8 3 ≡ 2) × (d_sen_of 9 3 ≡ 3) × (d_sen_of 0 3 ≡ 0) × (d_sen_of 6 5 ≡ 2) × (d_sen_of 1 3 ≡ 1)
degrees = (refl, refl, refl, refl, refl, refl)

all_sentries : sentries one_block ≡ key0 ∷ key1 ∷ key2 ∷ []
all_sentries = refl

two_others : sentry_count one_block key0 ≡ 2
two_others = refl

-- a walk leads to key0 from each member, and from nobody else, so it is reached by the other two
abbrev is_member : Text → Bool
is_member k = names (members one_block) k

abbrev ReachesFirst : Text → Type 0
ReachesFirst k = Reaches (members one_block) (live_pairs one_block) 3 k key0

walk_from_members : AllByRecursion ReachesFirst (members one_block)
walk_from_members = (
  ([], omega arith, ((0, omega arith, refl), refl)),
  (
    (key0 ∷ [], omega arith, ((1, omega arith, refl), (2, omega arith, refl), ((0, omega arith, refl), refl))),
    (
      (key0 ∷ [], omega arith, ((2, omega arith, refl), (4, omega arith, refl), ((0, omega arith, refl), refl))),
      tt,
    ),
  ),
)

walk_from : (k : Text) → IsTrue (is_member k) → ReachesFirst k
walk_from k is =
    All-contains ReachesFirst (members one_block) k (All-from_recursion ReachesFirst (members one_block) walk_from_members) (Contains-from_any (λ x y e. one_text x y (sym e)) k (members one_block) is)

-- a walk begins at a member
begins : (path : List Text) (k : Text) → IsWalk (members one_block) (live_pairs one_block) k path key0 → Contains (members one_block) k
begins [] k walk = walk.0
begins (b ∷ path) k walk = walk.0

begins_at_member : (k : Text) → ReachesFirst k → IsTrue (is_member k)
begins_at_member k (path, short, walk) = list_any-from_Contains nat_list_eq_equiv k (members one_block) (begins path k walk)

pub reached_by_two : IsReached one_block key0 2
reached_by_two = (is_member, (λ k. (walk_from k, begins_at_member k)), refl)

near_enough : Passes one_block key0
near_enough = record { reached = 2; counted = reached_by_two; near = omega arith }

-- ---- money

abbrev pub condition_of : Text → Text
condition_of key = codes "SIG(" ++ (key ++ codes ")")

abbrev input_of : Source → Input
input_of s = record { amount = s.amount; base = s.base; source = s.id }

dividends : (issued three_blocks ≡ 3000) × (unspent_units three_blocks ≡ 3000) × (cleared_units three_blocks ≡ 0)
dividends = (refl, refl, refl)

dividend_of_one : balance three_blocks (condition_of key0) ≡ 1000
dividend_of_one = refl

source_of_one : map input_of (sources_of three_blocks (condition_of key0)) ≡ dividend_input ∷ []
source_of_one = refl

-- key3 joins and key1 is excluded in the block that pays
abbrev changing_chain : Chain
changing_chain = record block2 { joiners = member_line key3 (codes "user3") ∷ []; excluded = key1 ∷ [] } ∷ two_blocks

pays_new_members : map (λ key. balance changing_chain (condition_of key)) (key0 ∷ key1 ∷ key2 ∷ key3 ∷ []) ≡ 1000 ∷ 0 ∷ 1000 ∷ 1000 ∷ []
pays_new_members = refl

-- an account of 100 units stays, one of 99 is cleared
kept_account : (issued (spent_chain 100 900) ≡ 3000) × (unspent_units (spent_chain 100 900) ≡ 3000) × (cleared_units (spent_chain 100 900) ≡ 0)
kept_account = (refl, refl, refl)

issued_before_clearing : issued (spent_chain 99 901) ≡ 3000
issued_before_clearing = refl

cleared_account : cleared_units (spent_chain 99 901) ≡ 99
cleared_account = refl

-- a transaction has its own hash, whatever that is
abbrev pub spending_hash : Text
spending_hash = tx_hash (codes "test_currency") (spending 99 901)

pub hash_is_itself : same_text spending_hash spending_hash ≡ true
hash_is_itself = nat_list_eq_equiv.refl spending_hash

pub left_after_clearing : unspent_units (spent_chain 99 901) ≡ 2901
left_after_clearing = rw hash_is_itself

balance_after_clearing : balance (spent_chain 99 901) (condition_of key3) ≡ 0
balance_after_clearing = rw hash_is_itself
