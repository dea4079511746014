use Rattle.std.proofs.Common.{[], ap, sym, subst, ◌∙◌}
use Rattle.dubp_iindex.specs.contracts.index.IIndexTablesIdentityRows.TheImpl as identities
use Rattle.dubp_mindex.specs.contracts.member.MIndexTablesMemberRows.TheImpl as memberships
use Rattle.dubp_cindex.specs.contracts.index.CIndexTablesCertRows.TheImpl as certifications
use Rattle.dubp_registry.proofs.indexes.Indexes.new.Goals as goal

pub returns-clause-at : goal.returns-clause-at
returns-clause-at c = (
  subst (λ t. (identities.ghosts).at t []) (sym (ap (λ t. t.tables) c.new-4.ensures.first ∙ c.new.ensures.tables)) c.with_secret.ensures.at,
  subst (λ t. (memberships.ghosts).at t []) (sym (ap (λ t. t.tables) c.new-4.ensures.second ∙ c.new-2.ensures.tables)) c.with_secret-2.ensures.at,
  subst (λ t. (certifications.ghosts).at t []) (sym (ap (λ t. t.tables) c.new-4.ensures.third ∙ c.new-3.ensures.tables)) c.with_secret-3.ensures.at,
)
