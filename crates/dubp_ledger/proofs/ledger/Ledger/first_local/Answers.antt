use Rattle.std.proofs.Common.{subst}
use Rattle.dubp_people_and_money.specs.OfValidity.{Holds}
use Rattle.dubp_people_and_money.specs.OfKept.{local_rules}
use Rattle.dubp_people_and_money.specs.OfKept.{IsKnown}
use Rattle.dubp_ledger.proofs.Difficulties.{before_the_rest, may_count, no_params_here, params_here}
use Rattle.dubp_ledger.proofs.ledger.Ledger.first_local.Goals as goal

pub check_local_read-requires-clause-params : goal.check_local_read-requires-clause-params
check_local_read-requires-clause-params g c =
    (may_count c.args.self.now.chain c.heads.result.now c.in-Some.first (subst (λ s. IsKnown s.chain c.heads.result.now) c.self.view_is c.heads.ensures) (c.in-Some.ensures c.args.self.now.chain c.tables.ensures)).valid

pub returns-in_ok-found-in-Some : goal.returns-in_ok-found-in-Some
returns-in_ok-found-in-Some g c =
    let chain = c.args.self.now.chain in
    let known = subst (λ s. IsKnown s.chain c.heads.result.now) c.self.view_is c.heads.ensures in
    before_the_rest (Holds c.args.verdicts.now chain c.args.block.now) local_rules c.in_ok-found-in-Some.found tt tt
    (c.in_ok-found-in-Some.ensures chain (params_here chain c.heads.result.now c.in-Some.first known (c.in-Some.ensures chain c.tables.ensures)))

pub returns-in_ok-found-in-None : goal.returns-in_ok-found-in-None
returns-in_ok-found-in-None g c =
    let chain = c.args.self.now.chain in
    before_the_rest (Holds c.args.verdicts.now chain c.args.block.now) local_rules c.in_ok-found-in-None.found tt tt
    (c.in_ok-found-in-None.ensures chain (no_params_here chain (c.in-None.ensures chain c.tables.ensures)))
