use Rattle.std.proofs.Common.{sym, subst}
use Rattle.std.specs.Option.{IsSome}
use Rattle.std.specs.FinMap as map
use Rattle.dubp_iindex.specs.Rows.{newest_rows}
use Rattle.dubp_iindex.proofs.KeyOrder.{next-some, next-none}
use Rattle.dubp_iindex.proofs.index.IIndex.next_key.Goals as goal

pub returns-in-Some : goal.returns-in-Some
returns-in-Some c = λ s at.
    next-some c.args.self.now.tables.first.table.now (λ a. IsSome (map.get (newest_rows s) a)) (λ q h. subst IsSome (sym (at.0 q)) h) c.args.after c.in-Some.entry
    (subst IsSome (at.0 c.in-Some.entry.0)) c.in-Some.ensures.found

pub returns-in-None : goal.returns-in-None
returns-in-None c = λ s at.
    next-none c.args.self.now.tables.first.table.now (λ a. IsSome (map.get (newest_rows s) a)) (λ q h. subst IsSome (sym (at.0 q)) h) c.args.after c.in-None.ensures.none
