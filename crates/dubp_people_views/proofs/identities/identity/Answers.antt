use Rattle.std.proofs.Common.{Some, ap, sym, ◌∙◌}
use Rattle.dubp_left.proofs.Looked.{leaving-look, member-look, revoked-look}
use Rattle.dubp_people_views.specs.Views.{expiry_of, is_leaving, is_revoked, state_of}
use Rattle.dubp_people_views.proofs.Told.{no_identity, identity_told, expiry_told}
use Rattle.dubp_people_views.proofs.identities.identity.Goals as goal

pub returns-in-None : goal.returns-in-None
returns-in-None c = λ chain at sound. no_identity chain c.args.key (sym c.in-None.is ∙ c.identity.ensures chain at)

pub returns-in-Some : goal.returns-in-Some
returns-in-Some c = λ chain at sound.
    let k = c.args.key in
    let row = c.in-Some.row in
    let there = sym c.in-Some.is ∙ c.identity.ensures chain at in
    let membership = c.membership-membership.ensures chain at in
    let m = c.membership-membership.result in
    let revoked = revoked-look chain sound k m membership in
    let leaving = leaving-look chain k m membership in
    let member = member-look chain sound k (Some row) there in
    identity_told chain k row c.state.result c.expiry.result c.received.result c.stock.result there
    (c.state.ensures ∙ (λ i. state_of (revoked i) (member i) (leaving i)))
    (c.expiry.ensures ∙ (λ i. expiry_of (membership i) (c.first.ensures chain at i)) ∙ expiry_told chain sound k)
    (c.received.ensures chain at) (c.stock.ensures chain at)
