use Rattle.std.proofs.Common.{◌∙◌, ◌++◌, Some, ap, subst, sym}
use Rattle.std.specs.List.{AllByRecursion}
use Rattle.dubp_block.specs.Text.{IsBlock}
use Rattle.dubp_people_and_money.specs.OfValidity.{IsSound, records}
use Rattle.dubp_ledger.proofs.Tracing.{beyond, rows_written}
use Rattle.dubp_ledger.proofs.ledger.Ledger.rows_at.Goals as goal

pub returns-in_default : goal.returns-in_default
returns-in_default g c = beyond c.args.self.now.chain c.args.number c.in_default.ensures

pub put_records-requires : goal.put_records-requires
put_records-requires g c = c.in-Some.ensures.text

pub returns : goal.returns
returns g c =
    let chain = c.args.self.now.chain in
    let written = c.in-Some.written in
    let w = c.in-Some.ensures in
    let b = written.block.now in
    let put = c.in_ok-put_records.ensures.appended w.above w.below (subst (λ x. g.T.Tables.at c.tables.result.now x) w.is c.tables.ensures) (subst IsSound w.is c.laws.ensures.sound) (subst (AllByRecursion IsBlock) w.is c.laws.ensures.blocks) w.head w.left in
    ap Some (put ∙ ap (λ l. l ++ records w.below b) c.new-rows.ensures.items) ∙ sym (rows_written chain c.args.number b written.head.now written.left.now w)
