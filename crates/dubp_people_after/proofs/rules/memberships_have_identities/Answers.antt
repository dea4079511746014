use Rattle.dubp_people_after.proofs.Every.{first_fails, second_fails, third_says}
use Rattle.dubp_people_after.proofs.rules.memberships_have_identities.Goals as goal

pub returns-then-not-have_identities : goal.returns-then-not-have_identities
returns-then-not-have_identities g c = λ chain shown.
    let b = c.args.block.now in
    first_fails chain b c.have_identities.result c.as_slice.result.now c.as_slice.ensures (c.have_identities.ensures chain b shown) c.if-not-have_identities.true

pub returns-then-not-have_identities-2 : goal.returns-then-not-have_identities-2
returns-then-not-have_identities-2 g c = λ chain shown.
    let b = c.args.block.now in
    second_fails chain b c.have_identities-2.result c.as_slice-2.result.now c.as_slice-2.ensures (c.have_identities-2.ensures chain b shown) c.if-not-have_identities-2.true

pub returns : goal.returns
returns g c = λ chain shown.
    let b = c.args.block.now in
    third_says chain b c.have_identities.result c.have_identities-2.result c.have_identities-3.result c.as_slice.result.now c.as_slice-2.result.now c.as_slice-3.result.now
    c.as_slice.ensures c.as_slice-2.ensures c.as_slice-3.ensures
    (c.have_identities.ensures chain b shown) (c.have_identities-2.ensures chain b shown) (c.have_identities-3.ensures chain b shown)
    c.if-not-have_identities.false c.if-not-have_identities-2.false
