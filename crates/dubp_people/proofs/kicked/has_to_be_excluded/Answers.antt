use Rattle.std.proofs.Common.{refl, ap, ◌∙◌}
use Rattle.std.specs.FinMap.{empty}
use Rattle.dubp_undo.specs.States.{states}
use Rattle.dubp_chain.specs.Tables.{identity_row, membership_row}
use Rattle.dubp_cindex.specs.Rows.{received_in}
use Rattle.dubp_registry.specs.OfLeft.{identities_left, memberships_left, certifications_left}
use Rattle.dubp_registry.proofs.OfLeft.{identity-look, membership-look, newest-left}
use Rattle.dubp_registry.proofs.Counted.{received-counted}
use Rattle.dubp_people.specs.Exclusion.{is_kicked}
use Rattle.dubp_people.proofs.Rows.{kicked_told}
use Rattle.dubp_people.proofs.kicked.has_to_be_excluded.Goals as goal

pub returns : goal.returns
returns c = λ chain at.
    let next = c.args.next.now in
    let identity = c.row-identity.ensures (states identities_left chain) at.0 ∙ identity-look chain c.args.key in
    let membership = c.row-membership.ensures (states memberships_left chain) at.1 ∙ membership-look chain c.args.key in
    let count =
    c.received-received.ensures (states certifications_left chain) at.2
    ∙ ap (λ rows. received_in rows c.args.key) (newest-left empty certifications_left refl chain)
    ∙ received-counted chain c.args.key
    in
    c.is_kicked.ensures
    ∙ (λ i. is_kicked next.params next.time (count i) (identity i) (membership i))
    ∙ kicked_told next.params next.time _ (identity_row chain c.args.key) (membership_row chain c.args.key)
