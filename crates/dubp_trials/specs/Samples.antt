-- Small chains on which the definitions are tried: a currency of three members, and one without members. Protocol: chains.
use Rattle.std.specs.Prelude.{ℕ, pos, [], ◌∷◌, ◌++◌, codes, Some, None}
use Rattle.dubp_atoms.specs.Same.{Text, empty_stamp}
use Rattle.dubp_params.specs.declared.params.Params.{Params}
use Rattle.dubp_cond.specs.declared.source.SourceId.TheVariants.{D}
use Rattle.dubp_cond.specs.declared.source.Input.{Input}
use Rattle.dubp_cond.specs.declared.output.Output.{Output}
use Rattle.dubp_cond.specs.declared.unlock.Unlock.TheVariants.{Sig}
use Rattle.dubp_cond.specs.declared.tx.Tx.{Tx}
use Rattle.dubp_block.specs.declared.block.Block.{Block}
use Rattle.dubp_block.specs.declared.block.IdentityLine.{IdentityLine}
use Rattle.dubp_block.specs.declared.block.MemberLine.{MemberLine}
use Rattle.dubp_block.specs.declared.block.CertLine.{CertLine}
use Rattle.dubp_chain.specs.Chains.{Chain}
use Rattle.dubp_chain.specs.Money.{signed_by}

-- keys in the order of their texts
abbrev pub key_ending : Text → Text
key_ending end = codes "1111111111111111111111111111111111111111" ++ end

abbrev pub key0 : Text
key0 = key_ending (codes "111")

abbrev pub key1 : Text
key1 = key_ending (codes "112")

abbrev pub key2 : Text
key2 = key_ending (codes "113")

abbrev pub key3 : Text
key3 = key_ending (codes "114")

-- the text of a hash or a signature that no answer here depends on
abbrev pub unread : Text
unread = codes "AB"

-- lines of a first block, and a certification
abbrev pub identity_line : Text → Text → IdentityLine
identity_line key uid = record { key = key; sig = unread; stamp = empty_stamp; uid = uid }

abbrev pub member_line : Text → Text → MemberLine
member_line key uid = record { key = key; sig = unread; stamp = empty_stamp; identity_stamp = empty_stamp; uid = uid }

abbrev pub certifies : Text → Text → ℕ → CertLine
certifies from to number = record { from = from; to = to; number = number; sig = unread }

-- a block with empty sections, with its number, issuer, Time and MedianTime
abbrev pub empty_block : ℕ → Text → ℕ → ℕ → Block
empty_block number issuer time median_time = record {
  version = 10;
  currency = codes "test_currency";
  number = number;
  pow_min = 0;
  time = time;
  median_time = median_time;
  dividend = None;
  unit_base = 0;
  issuer = issuer;
  frame = 1;
  frame_var = pos 0;
  issuers = 0;
  previous = Some (unread, key0);
  params = None;
  members = 3;
  identities = [];
  joiners = [];
  actives = [];
  leavers = [];
  revoked = [];
  excluded = [];
  certifications = [];
  transactions = [];
  inner_hash = unread;
  nonce = 1;
  sig = unread;
}

-- ---- a currency of three members

abbrev pub paying_params : Params
paying_params = record {
  c = record { mantissa = 1; places = 1 };
  dt = 100;
  ud0 = 1000;
  sig_period = 50;
  sig_stock = 20;
  sig_window = 1000;
  sig_validity = 5000;
  sig_qty = 1;
  idty_window = 1000;
  ms_window = 1000;
  xpercent = record { mantissa = 5; places = 1 };
  ms_validity = 2000;
  step_max = 3;
  median_time_blocks = 5;
  avg_gen_time = 60;
  dt_diff_eval = 10;
  percent_rot = record { mantissa = 67; places = 2 };
  ud_time0 = 1100;
  ud_reeval_time0 = 1500;
  dt_reeval = 1000;
}

-- the first block: three members, each certified by the other two
abbrev pub first_of_members : Params → Block
first_of_members params = record (empty_block 0 key0 1000 1000) {
  previous = None;
  params = Some params;
  identities = identity_line key0 (codes "user0") ∷ identity_line key1 (codes "user1") ∷ identity_line key2 (codes "user2") ∷ [];
  joiners = member_line key0 (codes "user0") ∷ member_line key1 (codes "user1") ∷ member_line key2 (codes "user2") ∷ [];
  certifications =
      certifies key0 key1 0
      ∷ certifies key0 key2 0
      ∷ certifies key1 key0 0
      ∷ certifies key1 key2 0
      ∷ certifies key2 key0 0
      ∷ certifies key2 key1 0
      ∷ [];
}

abbrev pub block0 : Block
block0 = first_of_members paying_params

abbrev pub block1 : Block
block1 = empty_block 1 key1 1300 1000

-- it pays the first dividend
abbrev pub block2 : Block
block2 = record (empty_block 2 key2 1150 1150) { dividend = Some 1000 }

abbrev pub one_block : Chain
one_block = block0 ∷ []

abbrev pub two_blocks : Chain
two_blocks = block1 ∷ one_block

abbrev pub three_blocks : Chain
three_blocks = block2 ∷ two_blocks

-- the identity of key2 is revoked
abbrev pub revoking_chain : Chain
revoking_chain = record block1 { revoked = record { key = key2; sig = unread } ∷ [] } ∷ one_block

-- the dividend of key0, and a transaction that spends it
abbrev pub dividend_input : Input
dividend_input = record { amount = 1000; base = 0; source = D key0 2 }

abbrev pub output_to : Text → ℕ → Output
output_to key amount = record { amount = amount; base = 0; cond = signed_by key }

abbrev pub spending : ℕ → ℕ → Tx
spending sent kept = record {
  stamp = record { number = 2; hash = unread };
  locktime = 0;
  issuers = key0 ∷ [];
  inputs = dividend_input ∷ [];
  unlocks = record { input = 0; list = Sig 0 ∷ [] } ∷ [];
  outputs = output_to key3 sent ∷ output_to key0 kept ∷ [];
  comment = [];
  sigs = unread ∷ [];
}

-- key0 sends so much to key3 and keeps so much
abbrev pub spending_block : ℕ → ℕ → Block
spending_block sent kept = record (empty_block 3 key0 1200 1150) { transactions = spending sent kept ∷ [] }

abbrev pub spent_chain : ℕ → ℕ → Chain
spent_chain sent kept = spending_block sent kept ∷ three_blocks

-- ---- chains on which time goes by: the time of the last block is the mean of 1000 and the Time of the second

abbrev pub aged : Params → ℕ → Chain
aged params time = empty_block 2 key2 1000 1000 ∷ empty_block 1 key1 time 1000 ∷ first_of_members params ∷ []

-- certifications last 200 seconds
abbrev pub short_params : Params
short_params = record paying_params { sig_validity = 200 }

-- ---- a currency without members, whose dividend is far away

abbrev pub quiet_params : Params
quiet_params = record paying_params { ud_time0 = 9000000; ud_reeval_time0 = 9000000 }

abbrev pub quiet_first : Block
quiet_first = record (empty_block 0 key0 1000 1000) { previous = None; params = Some quiet_params; members = 0 }

abbrev pub quiet_chain : Chain
quiet_chain = empty_block 2 key2 1150 1150 ∷ empty_block 1 key1 1300 1000 ∷ quiet_first ∷ []
