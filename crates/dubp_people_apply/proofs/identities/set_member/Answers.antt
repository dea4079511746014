use Rattle.std.proofs.Common.{◌∷◌, ◌∙◌, sym, subst}
use Rattle.std.specs.FinMap.{insert}
use Rattle.std.specs.Option.{option_map_or}
use Rattle.dubp_iindex.specs.contracts.index.IIndexTablesIdentityRows.TheImpl as tables
use Rattle.dubp_people_apply.specs.Writing.{row_with}
use Rattle.dubp_people_apply.proofs.Changed.{fits_member}
use Rattle.dubp_people_apply.proofs.identities.set_member.Goals as goal

pub returns-in_ok-put_row-in-Some-clause-at : goal.returns-in_ok-put_row-in-Some-clause-at
returns-in_ok-put_row-in-Some-clause-at g c = λ rows t apart at.
    let found = sym (c.row.ensures (rows ∷ t) at) ∙ c.in-Some.is in
    subst (λ o. (tables.ghosts).at c.put_row.new.self (option_map_or (λ row. insert rows c.args.key (row_with c.args.member row)) o rows ∷ t)) (sym found)
    (c.in_ok-put_row-in-Some.ensures.at (rows ∷ t) t at (fits_member c.args.member rows c.args.key c.in-Some.row apart found))

pub returns-in-None-clause-at : goal.returns-in-None-clause-at
returns-in-None-clause-at g c = λ rows t apart at.
    let none = sym (c.row.ensures (rows ∷ t) at) ∙ c.in-None.is in
    subst (λ o. (tables.ghosts).at c.args.index.now (option_map_or (λ row. insert rows c.args.key (row_with c.args.member row)) o rows ∷ t)) (sym none) at
