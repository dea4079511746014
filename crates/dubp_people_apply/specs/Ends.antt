-- The records of a block that none of its lines names. Protocol: records.
use Rattle.std.specs.Prelude.{List, ◌++◌}
use Rattle.dubp_block.specs.declared.block.Block.{Block}
use Rattle.dubp_chain.specs.Chains.{Chain}
use Rattle.dubp_validity.specs.declared.record.Record.{Record}
use Rattle.dubp_validity.specs.Records.{expiry_records, revocation_records, ended_records}

-- whose membership is over, who is revoked by time, and which certifications are at their end, each by key
abbrev pub end_records : Chain → Block → List Record
end_records c b = expiry_records c b ++ (revocation_records c b ++ ended_records c b)
