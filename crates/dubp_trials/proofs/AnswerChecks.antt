-- What queries are answered on small chains, byte for byte.
use Rattle.std.specs.Prelude.{◌≡◌, ℕ, List, [], ◌∷◌, ◌++◌, codes}
use Rattle.std.specs.Fmt.{decimal, digits}
use Rattle.std.proofs.Common.{refl, sym, subst, arith}
use Rattle.dubp_atoms.specs.Same.{Text}
use Rattle.dubp_lines.specs.Lines.{unlines}
use Rattle.dubp_pow.specs.Ladder.{table_row}
use Rattle.dubp_pow.specs.Difficulty.{greatest_reached}
use Rattle.dubp_block.specs.declared.block.Block.{Block}
use Rattle.dubp_replay.specs.declared.query.Query.{Query}
use Rattle.dubp_replay.specs.declared.query.Query.TheVariants as query
use Rattle.dubp_chain.specs.Chains.{Chain}
use Rattle.dubp_replay.specs.Answers.{IsAnswered, values_line}
use Rattle.dubp_trials.specs.Samples.{key0, key1, key2, member_line, paying_params, block1, one_block, revoking_chain, aged, three_blocks, spent_chain}
use Rattle.dubp_trials.proofs.Checks.{reached_by_two, condition_of, left_after_clearing}
use Rattle.dubp_trials.proofs.MoreSamples.{key9}

-- the answer has these lines, each with LF behind it
abbrev Says : Chain → Query → List (List ℕ) → Type 0
Says c q lines = IsAnswered c q (unlines lines)

-- a key between words, and two keys
abbrev keyed : List ℕ → Text → List ℕ → List ℕ
keyed before key after = before ++ (key ++ after)

abbrev paired : List ℕ → Text → Text → List ℕ → List ℕ
paired before from to after = before ++ (from ++ (32 ∷ (to ++ after)))

abbrev none : List (List ℕ)
none = codes "NONE" ∷ []

-- ---- people

identity_said : Says one_block (query.Identity key0) (keyed (codes "IDENTITY ") key0 (codes " user0 0 MEMBER 3000 2 2") ∷ [])
unfolding digits
identity_said = refl

name_said : Says one_block (query.Uid (codes "user0")) (keyed (codes "IDENTITY ") key0 (codes " user0 0 MEMBER 3000 2 2") ∷ [])
unfolding digits
name_said = refl

unknown_name : Says one_block (query.Uid (codes "user9")) none
unknown_name = refl

-- the four states: key0 leaves, key2 is excluded or revoked, and at 5000 all are revoked by time
abbrev leaving_block : Block
leaving_block = record block1 { leavers = member_line key0 (codes "user0") ∷ [] }

leaving_said : Says (leaving_block ∷ one_block) (query.Identity key0) (keyed (codes "IDENTITY ") key0 (codes " user0 0 LEAVING 3000 2 2") ∷ [])
unfolding digits
leaving_said = refl

out_said : Says (record leaving_block { excluded = key0 ∷ [] } ∷ one_block) (query.Identity key0) (keyed (codes "IDENTITY ") key0 (codes " user0 0 OUT 3000 2 2") ∷ [])
unfolding digits
out_said = refl

revoked_said : Says revoking_chain (query.Identity key2) (keyed (codes "IDENTITY ") key2 (codes " user2 0 REVOKED 3000 2 2") ∷ [])
unfolding digits
revoked_said = refl

member_until_revoked : Says (aged paying_params 8998) (query.Identity key0) (keyed (codes "IDENTITY ") key0 (codes " user0 0 MEMBER 3000 2 2") ∷ [])
unfolding digits
member_until_revoked = refl

revoked_by_time_said : Says (aged paying_params 9000) (query.Identity key0) (keyed (codes "IDENTITY ") key0 (codes " user0 0 REVOKED 3000 2 2") ∷ [])
unfolding digits
revoked_by_time_said = refl

-- what was received stands before what was issued
certs_said : Says one_block (query.Certs key0) (
    paired (codes "CERT ") key1 key0 (codes " 1000 6000 0")
    ∷ paired (codes "CERT ") key2 key0 (codes " 1000 6000 0")
    ∷ paired (codes "CERT ") key0 key1 (codes " 1000 6000 0")
    ∷ paired (codes "CERT ") key0 key2 (codes " 1000 6000 0")
    ∷ codes "END"
    ∷ []
    )
unfolding digits
certs_said = refl

distance_said : Says one_block (query.Distance key0) (codes "DISTANCE 2 2 PASS" ∷ [])
unfolding digits
distance_said = record {
  reached = 2;
  counted = reached_by_two;
  near = λ _. refl;
  far = λ far. absurd (far (omega arith));
}

-- of a key that no block names nothing is known
unknown_identity : Says one_block (query.Identity key9) none
unknown_identity = refl

unknown_certs : Says one_block (query.Certs key9) none
unknown_certs = refl

unknown_distance : Says one_block (query.Distance key9) none
unknown_distance = refl

-- ---- blocks

difficulty_of_issuer : Says one_block (query.Diff key0) (codes "DIFF 4" ∷ [])
unfolding greatest_reached table_row digits
difficulty_of_issuer = refl

difficulty_of_member : Says one_block (query.Diff key1) (codes "DIFF 0" ∷ [])
unfolding greatest_reached table_row digits
difficulty_of_member = refl

difficulty_of_stranger : Says one_block (query.Diff key9) none
difficulty_of_stranger = refl

no_second_block : Says one_block (query.Show 1) none
no_second_block = refl

no_second_records : Says one_block (query.Records 1) none
no_second_records = refl

-- three names, three members and six certifications, by section and line
abbrev created : Text → List ℕ → List ℕ
created key uid =
    keyed (codes "IIDX CREATE ") key (uid ++ codes " 0-E3B0C44298FC1C149AFBF4C8996FB92427AE41E4649B934CA495991B7852B855")

first_records : Says one_block (query.Records 0) (
    created key0 (codes " user0")
    ∷ created key1 (codes " user1")
    ∷ created key2 (codes " user2")
    ∷ keyed (codes "IIDX IN ") key0 []
    ∷ keyed (codes "MIDX JOIN ") key0 (codes " 1000")
    ∷ keyed (codes "IIDX IN ") key1 []
    ∷ keyed (codes "MIDX JOIN ") key1 (codes " 1000")
    ∷ keyed (codes "IIDX IN ") key2 []
    ∷ keyed (codes "MIDX JOIN ") key2 (codes " 1000")
    ∷ paired (codes "CIDX CERT ") key0 key1 (codes " 1000")
    ∷ paired (codes "CIDX CERT ") key0 key2 (codes " 1000")
    ∷ paired (codes "CIDX CERT ") key1 key0 (codes " 1000")
    ∷ paired (codes "CIDX CERT ") key1 key2 (codes " 1000")
    ∷ paired (codes "CIDX CERT ") key2 key0 (codes " 1000")
    ∷ paired (codes "CIDX CERT ") key2 key1 (codes " 1000")
    ∷ codes "END"
    ∷ []
    )
unfolding digits
first_records = refl

-- ---- money

money_said : Says three_blocks query.Money (codes "MONEY 3000 3000 0" ∷ [])
unfolding digits
money_said = refl

balance_said : Says three_blocks (query.Balance (record { items = condition_of key0 })) (codes "BALANCE 1000" ∷ [])
unfolding digits
balance_said = refl

no_balance : Says three_blocks (query.Balance (record { items = condition_of key9 })) (codes "BALANCE 0" ∷ [])
unfolding digits
no_balance = refl

sources_said : Says three_blocks (query.Sources (record { items = condition_of key0 })) (keyed (codes "SOURCE 1000:0:D:") key0 (codes ":2") ∷ codes "END" ∷ [])
unfolding digits
sources_said = refl

third_records : Says three_blocks (query.Records 2) (
    keyed (codes "SIDX DIVIDEND 1000:0:D:") key0 (codes ":2")
    ∷ keyed (codes "SIDX DIVIDEND 1000:0:D:") key1 (codes ":2")
    ∷ keyed (codes "SIDX DIVIDEND 1000:0:D:") key2 (codes ":2")
    ∷ codes "END"
    ∷ []
    )
unfolding digits
third_records = refl

money_kept : Says (spent_chain 100 900) query.Money (codes "MONEY 3000 3000 0" ∷ [])
unfolding digits
money_kept = refl

abbrev money_line : ℕ → ℕ → ℕ → List ℕ
money_line issued unspent cleared = values_line (codes "MONEY") (decimal issued ∷ decimal unspent ∷ decimal cleared ∷ [])

money_written : unlines (codes "MONEY 3000 2901 99" ∷ []) ≡ money_line 3000 2901 99
unfolding digits
money_written = refl

money_cleared : Says (spent_chain 99 901) query.Money (codes "MONEY 3000 2901 99" ∷ [])
money_cleared = subst (λ unspent. unlines (codes "MONEY 3000 2901 99" ∷ []) ≡ money_line 3000 unspent 99) (sym left_after_clearing) money_written
