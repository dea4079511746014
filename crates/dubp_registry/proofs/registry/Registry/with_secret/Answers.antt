use Rattle.std.proofs.Common.{[], sym, subst}
use Rattle.dubp_registry.specs.contracts.indexes.IndexesTablesBlock.TheImpl as indexes
use Rattle.dubp_registry.specs.contracts.others.OthersTablesBlock.TheImpl as others
use Rattle.dubp_registry.proofs.registry.Registry.with_secret.Goals as goal

pub returns-clause-at : goal.returns-clause-at
returns-clause-at c = (
  subst (λ t. (indexes.ghosts).at t []) (sym c.new-3.ensures.first) c.new.ensures.at,
  subst (λ t. (others.ghosts).at t []) (sym c.new-3.ensures.second) c.new-2.ensures.at,
)
