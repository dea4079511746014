use Rattle.std.proofs.Common.{◌∷◌, ◌∙◌, false, fold, sym, subst}
use Rattle.dubp_moving.specs.States.{states}
use Rattle.dubp_iindex.specs.contracts.index.IIndexTablesIdentityRows.TheImpl as tables
use Rattle.dubp_left.specs.Left.{identities_left}
use Rattle.dubp_people_apply.specs.Writing.{created, with_member, joined, AreNewLines}
use Rattle.dubp_people_apply.proofs.Changed.{rows-go_on, all_created_apart, joined_apart}
use Rattle.dubp_people_apply.proofs.Lines.{lines-new, uids-apart}
use Rattle.dubp_people_apply.proofs.Onward.{restated}
use Rattle.dubp_people_apply.proofs.identities.write_identities.Goals as goal

pub returns-clause-at : goal.returns-clause-at
returns-clause-at g c = λ chain sound at.
    let b = c.args.block.now in
    let t = states identities_left chain in
    let rows = identities_left chain in
    let e = c.as_slice.ensures in
    let e' = c.as_slice-2.ensures in
    let e'' = c.as_slice-3.ensures in
    let new = subst (AreNewLines b.number rows) (sym e) (lines-new chain b sound) in
    let made = fold (created b.number) rows c.as_slice.result.now in
    let apart = all_created_apart b.number c.as_slice.result.now rows new (uids-apart chain sound.1) in
    subst (λ r. (tables.ghosts).at c.exclude_all.new.index (r ∷ t))
    ((λ i. fold (with_member false) (fold joined (fold (created b.number) rows (e i)) (e' i)) (e'' i)) ∙ rows-go_on chain b sound)
    (c.in_ok-exclude_all.ensures.at (fold joined made c.as_slice-2.result.now) t (joined_apart c.as_slice-2.result.now made apart)
    (c.in_ok-join_all.ensures.at made t apart
    (c.in_ok-create_all.ensures.at rows t new (restated c.args.index.now chain t at))))
