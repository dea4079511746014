-- What a block leaves behind that its lines do not tell, or tell only to who hashes them: with its fields and its head, its records are put
-- together from it. Protocol: records.
use Rattle.std.specs.Prelude.{List, [], ◌∷◌, ◌++◌, map}
use Rattle.std.specs.Option.{option_map_or}
use Rattle.dubp_atoms.specs.Same.{Text}
use Rattle.dubp_docs.specs.Spelling.{tx_hash}
use Rattle.dubp_block.specs.declared.block.Block.{Block}
use Rattle.dubp_chain.specs.Chains.{Chain}
use Rattle.dubp_chain.specs.Heads.{head_of}
use Rattle.dubp_chain.specs.Members.{members}
use Rattle.dubp_head.specs.OfValidity.{expiry_records, revocation_records, ended_records, clearing_records}
use Rattle.dubp_kept.specs.declared.left_behind.LeftBehind.{LeftBehind}

-- who is paid a dividend by b on c, by key; nobody where there is none
abbrev pub paid_by : Chain → Block → List Text
paid_by c b = option_map_or (λ h. option_map_or (λ amount. members (b ∷ c)) h.ud []) (head_of (b ∷ c)) []

-- what b leaves behind on c
abbrev pub left_behind : Chain → Block → LeftBehind
left_behind c b = record {
  ended = expiry_records c b ++ (revocation_records c b ++ ended_records c b);
  paid = paid_by c b;
  cleared = clearing_records c b;
  transactions = map (tx_hash b.currency) b.transactions;
}
