-- The branches of which a ledger can be taken over: there is no block. Protocol: the generator.
use Rattle.std.specs.Prelude.{◌≡◌, []}
use Rattle.dubp_replay.specs.Turns.{Branches}

-- none is in the chain, none can be reversed, and none is stored
pub record HasNoBlock (b : Branches) : Type 0 where
  pub chain : b.chain ≡ []
  pub kept : b.kept ≡ 0
  pub store : b.store ≡ []
