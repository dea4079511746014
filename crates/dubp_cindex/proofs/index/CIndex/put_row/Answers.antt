use Rattle.std.proofs.Common.{subst, sym}
use Rattle.std.specs.FinMap.{empty}
use Rattle.dubp_undo.specs.States.{newest}
use Rattle.dubp_cindex.specs.Putting.{AreChanges}
use Rattle.dubp_cindex.specs.contracts.index.CIndexTablesCertRows.TheImpl as index
use Rattle.dubp_cindex.proofs.index.CIndex.put_row.Goals as goal

pub returns-clause-at : goal.returns-clause-at
returns-clause-at g c = λ s t a.
    let changes = c.in_ok-changes.changes in
    let ready = subst (λ n. index.ghosts.is (index.ghosts.names c.args.self.now) n s) (sym c.make_ready.ensures.now) a in
    let are = subst (λ row. AreChanges (newest empty s) c.args.from c.args.to row changes.pair changes.received changes.issuer) (sym c.in_ok-changes.ensures.row) (c.in_ok-changes.ensures.are s a) in
    rw (sym c.in_ok-changes.ensures.row) (c.in_ok-make_all.ensures.at s t ready are)
