-- Which records blocks write to the indexes on small chains.
use Rattle.std.specs.Prelude.{◌≡◌, ℕ, None, [], ◌∷◌, ◌++◌, codes}
use Rattle.std.specs.Fmt.{digits}
use Rattle.std.proofs.Common.{refl}
use Rattle.dubp_atoms.specs.Same.{Text, empty_stamp}
use Rattle.dubp_cond.specs.declared.source.SourceId.TheVariants.{D, T}
use Rattle.dubp_cond.specs.declared.source.Input.{Input}
use Rattle.dubp_docs.specs.Spelling.{tx_hash}
use Rattle.dubp_block.specs.declared.block.Block.{Block}
use Rattle.dubp_block.specs.declared.block.MemberLine.{MemberLine}
use Rattle.dubp_validity.specs.declared.record.Record.{Record}
use Rattle.dubp_validity.specs.declared.record.Record.TheVariants.{Create, Enter, Exit, Join, Active, Leave, Revoke, Expire, ExpireRev, Cert, CertExpire, Spend, Make, Dividend, Clear}
use Rattle.dubp_validity.specs.Records.{records, record_text}
use Rattle.dubp_trials.specs.Samples.{key0, key1, key2, key3, member_line, certifies, first_of_members, block0, block1, block2, one_block, two_blocks, three_blocks, dividend_input, spending, spending_block, quiet_params}
use Rattle.dubp_trials.proofs.Checks.{condition_of, spending_hash}
use Rattle.dubp_trials.proofs.MoreSamples.{short_quiet_params, waiting, third_block, expired_chain, fourth_block, revoking}

-- ---- lines

-- the dividend that the third block gives to a key
abbrev dividend_to : Text → Input
dividend_to key = record { amount = 1000; base = 0; source = D key 2 }

-- three names, three members and six certifications, by section and line
first_block_writes : records [] block0 ≡ (
    Create key0 (codes "user0") empty_stamp
    ∷ Create key1 (codes "user1") empty_stamp
    ∷ Create key2 (codes "user2") empty_stamp
    ∷ Enter key0
    ∷ Join key0 1000
    ∷ Enter key1
    ∷ Join key1 1000
    ∷ Enter key2
    ∷ Join key2 1000
    ∷ Cert key0 key1 1000
    ∷ Cert key0 key2 1000
    ∷ Cert key1 key0 1000
    ∷ Cert key1 key2 1000
    ∷ Cert key2 key0 1000
    ∷ Cert key2 key1 1000
    ∷ []
    )
first_block_writes = refl

empty_block_writes_nothing : records one_block block1 ≡ []
empty_block_writes_nothing = refl

excluded_goes : records one_block (record block1 { excluded = key2 ∷ [] }) ≡ Exit key2 ∷ []
excluded_goes = refl

revoked_ends : records one_block (revoking block1) ≡ Revoke key2 ∷ []
revoked_ends = refl

-- who stays and who leaves, by documents of the first block
abbrev moving_block : Block
moving_block =
    record (first_of_members quiet_params) {
      identities = [];
      joiners = [];
      certifications = [];
      actives = member_line key0 (codes "user0") ∷ [];
      leavers = member_line key1 (codes "user1") ∷ [];
    }

stays_and_leaves : records [] moving_block ≡ Active key0 1000 ∷ Leave key1 1000 ∷ []
stays_and_leaves = refl

-- a certification made on the first block, at 1000, behind the lines of members
certifies_again : records two_blocks (record block2 { certifications = certifies key0 key1 0 ∷ []; dividend = None }) ≡ (
    Cert key0 key1 1000 ∷ Dividend (dividend_to key0) ∷ Dividend (dividend_to key1) ∷ Dividend (dividend_to key2) ∷ []
    )
certifies_again = refl

-- ---- time goes by

-- memberships reach their expiry, and are written once
before_expiry : records (waiting quiet_params 4998) third_block ≡ []
before_expiry = refl

at_expiry : records (waiting quiet_params 5000) third_block ≡ Expire key0 ∷ Expire key1 ∷ Expire key2 ∷ []
at_expiry = refl

before_revocation : records (expired_chain 4999) fourth_block ≡ []
before_revocation = refl

at_revocation : records (expired_chain 5000) fourth_block ≡ ExpireRev key0 ∷ ExpireRev key1 ∷ ExpireRev key2 ∷ []
at_revocation = refl

both_at_once : records (waiting quiet_params 9000) third_block ≡ (
    Expire key0 ∷ Expire key1 ∷ Expire key2 ∷ ExpireRev key0 ∷ ExpireRev key1 ∷ ExpireRev key2 ∷ []
    )
both_at_once = refl

-- who is revoked by a line is not revoked by time
revoked_by_line_alone : records (expired_chain 5000) (revoking fourth_block) ≡ Revoke key2 ∷ ExpireRev key0 ∷ ExpireRev key1 ∷ []
revoked_by_line_alone = refl

-- certifications reach their end, by issuer and then by receiver
before_ends : records (waiting short_quiet_params 1398) third_block ≡ []
before_ends = refl

at_ends : records (waiting short_quiet_params 1400) third_block ≡ (
    CertExpire key0 key1
    ∷ CertExpire key0 key2
    ∷ CertExpire key1 key0
    ∷ CertExpire key1 key2
    ∷ CertExpire key2 key0
    ∷ CertExpire key2 key1
    ∷ []
    )
at_ends = refl

-- ---- money

third_block_pays : records two_blocks block2 ≡ Dividend (dividend_to key0) ∷ Dividend (dividend_to key1) ∷ Dividend (dividend_to key2) ∷ []
third_block_pays = refl

-- who joins in the block is paid with the others, and who is excluded in it is not; the joiner's stamp has no time
abbrev joiner : MemberLine
joiner = record (member_line key3 (codes "user3")) { stamp = record { number = 7; hash = codes "AB" } }

pays_the_joiner : records two_blocks (record block2 { joiners = joiner ∷ []; excluded = key1 ∷ [] }) ≡ (
    Enter key3
    ∷ Join key3 0
    ∷ Exit key1
    ∷ Dividend (dividend_to key0)
    ∷ Dividend (dividend_to key2)
    ∷ Dividend (dividend_to key3)
    ∷ []
    )
pays_the_joiner = refl

text_of_dividend : record_text (Dividend (dividend_to key0)) ≡ codes "SIDX DIVIDEND 1000:0:D:" ++ (key0 ++ codes ":2")
unfolding digits
text_of_dividend = refl

-- an output of a transaction of this hash
abbrev output : ℕ → Text → ℕ → Input
output amount hash place = record { amount = amount; base = 0; source = T hash place }

abbrev made_for : Text → Input → Record
made_for key input = Make input (condition_of key)

-- an account of 99 units is cleared, one of 100 stays
small_output_goes : records three_blocks (spending_block 99 901) ≡ (
    Spend dividend_input
    ∷ made_for key3 (output 99 spending_hash 0)
    ∷ made_for key0 (output 901 spending_hash 1)
    ∷ Clear (output 99 spending_hash 0)
    ∷ []
    )
small_output_goes = refl

abbrev other_hash : Text
other_hash = tx_hash (codes "test_currency") (spending 100 900)

greater_output_stays : records three_blocks (spending_block 100 900) ≡ (
    Spend dividend_input ∷ made_for key3 (output 100 other_hash 0) ∷ made_for key0 (output 900 other_hash 1) ∷ []
    )
greater_output_stays = refl
