-- The first blocks of a chain. Protocol: statements.
use Rattle.std.specs.Prelude.{ℕ, ◌-◌, length, drop}
use Rattle.dubp_chain.specs.Chains.{Chain}

-- the chain of its first so many blocks
abbrev pub first_blocks : ℕ → Chain → Chain
first_blocks count c = drop (length c - count) c
