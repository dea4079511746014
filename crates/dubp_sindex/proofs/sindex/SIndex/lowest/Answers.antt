use Rattle.std.proofs.Common.{sym, subst}
use Rattle.dubp_sindex.specs.Rows.{IsLeastBalance}
use Rattle.dubp_sindex.specs.States.{rows_of}
use Rattle.dubp_sindex.proofs.Lookups.{least_is, no_rows}
use Rattle.dubp_sindex.proofs.sindex.SIndex.lowest.Goals as goal

pub returns-in-Some-clause-found : goal.returns-in-Some-clause-found
returns-in-Some-clause-found c = λ s at.
    subst (IsLeastBalance (rows_of s)) (sym c.units_of.ensures.value)
    (least_is c.args.self.now.tables.third.table.now (rows_of s) at.0.2 c.in-Some.account c.in-Some.balance c.units_of.ensures.fits c.in-Some.ensures.found)

pub returns-in-None-clause-none : goal.returns-in-None-clause-none
returns-in-None-clause-none c = λ s at. no_rows c.args.self.now.tables.third.table.now (rows_of s) at.0.2 c.in-None.ensures.none
