-- More small chains on which the definitions are tried: time goes by in a currency that pays no dividend, a dividend is some time
-- old, and a transaction spends what another makes. Protocol: chains.
use Rattle.std.specs.Prelude.{ℕ, List, [], ◌∷◌, codes}
use Rattle.dubp_atoms.specs.Same.{Text}
use Rattle.dubp_params.specs.declared.params.Params.{Params}
use Rattle.dubp_cond.specs.declared.source.SourceId.TheVariants.{T}
use Rattle.dubp_cond.specs.declared.source.Input.{Input}
use Rattle.dubp_cond.specs.declared.tx.Tx.{Tx}
use Rattle.dubp_block.specs.declared.block.Block.{Block}
use Rattle.dubp_docs.specs.Spelling.{tx_hash}
use Rattle.dubp_chain.specs.Chains.{Chain}
use Rattle.dubp_trials.specs.Samples.{key_ending, key0, key1, key2, unread, empty_block, first_of_members, quiet_params, block2, two_blocks, output_to, spending}

-- a key that no block names
abbrev pub key9 : Text
key9 = key_ending (codes "11A")

-- ---- a currency of three members, whose dividend is far away

-- certifications last 200 seconds
abbrev pub short_quiet_params : Params
short_quiet_params = record quiet_params { sig_validity = 200 }

-- identities, memberships and certifications may wait 600, 700 and 800 seconds
abbrev pub windows : Params
windows = record quiet_params { idty_window = 600; ms_window = 700; sig_window = 800 }

-- two blocks: with a third the time is the mean of 1000 and the Time of the second
abbrev pub waiting : Params → ℕ → Chain
waiting params time = empty_block 1 key1 time 1000 ∷ first_of_members params ∷ []

abbrev pub third_block : Block
third_block = empty_block 2 key2 1000 1000

-- three blocks with the time 3000: with a fourth it is the Time of the third, from 3000 up to 5000
abbrev pub expired_chain : ℕ → Chain
expired_chain time = empty_block 2 key2 time 3000 ∷ waiting quiet_params 5000

abbrev pub fourth_block : Block
fourth_block = empty_block 3 key0 5000 5000

-- the same block with the identity of key2 revoked
abbrev pub revoking : Block → Block
revoking b = record b { revoked = record { key = key2; sig = unread } ∷ [] }

-- ---- money

-- the dividend was made at 1150, and with a fourth block the time is 1300
abbrev pub later_blocks : Chain
later_blocks = record block2 { time = 1400 } ∷ two_blocks

-- what key0 keeps in the transaction that sends 99 goes to key1
abbrev pub kept_input : Input
kept_input = record { amount = 901; base = 0; source = T (tx_hash (codes "test_currency") (spending 99 901)) 1 }

abbrev pub passing_on : Tx
passing_on = record (spending 99 901) { inputs = kept_input ∷ []; outputs = output_to key1 901 ∷ [] }

-- block 3 with these transactions
abbrev pub moving_all : List Tx → Block
moving_all txs = record (empty_block 3 key0 1200 1150) { transactions = txs }

abbrev pub moving : Tx → Block
moving tx = moving_all (tx ∷ [])
