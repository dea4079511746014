use Rattle.std.proofs.Common.{sym, ◌∙◌}
use Rattle.dubp_people_views.specs.Views.{is_leaving, is_revoked}
use Rattle.dubp_people_views.proofs.Told.{revoked_state, out_state, leaving_state, member_state}
use Rattle.dubp_people_views.proofs.identities.state.Goals as goal

pub returns-then-is_revoked : goal.returns-then-is_revoked
returns-then-is_revoked c =
    let m = c.args.membership in
    revoked_state (is_revoked m) c.args.member (is_leaving m) (sym c.is_revoked.ensures ∙ c.if-is_revoked.true)

pub returns-then-not-member : goal.returns-then-not-member
returns-then-not-member c =
    let m = c.args.membership in
    out_state (is_revoked m) c.args.member (is_leaving m) (sym c.is_revoked.ensures ∙ c.if-is_revoked.false) c.if-not-member.true

pub returns-then-is_leaving : goal.returns-then-is_leaving
returns-then-is_leaving c =
    let m = c.args.membership in
    leaving_state (is_revoked m) c.args.member (is_leaving m) (sym c.is_revoked.ensures ∙ c.if-is_revoked.false) c.if-not-member.false (sym c.is_leaving.ensures ∙ c.if-is_leaving.true)

pub returns : goal.returns
returns c =
    let m = c.args.membership in
    member_state (is_revoked m) c.args.member (is_leaving m) (sym c.is_revoked.ensures ∙ c.if-is_revoked.false) c.if-not-member.false (sym c.is_leaving.ensures ∙ c.if-is_leaving.false)
