use Rattle.std.proofs.Common.{◌≡◌, ◌∙◌, ◌∷◌, ◌++◌, [], Some, ap, subst}
use Rattle.std.specs.List.{slice_get}
use Rattle.dubp_docs.specs.declared.doc.Doc.TheVariants.{Identity}
use Rattle.dubp_forge.proofs.Growing.{adds_identity, adds_other, extends_same}
use Rattle.dubp_forge.proofs.asking.Forge.add_all.Goals as goal

pub returns-in_ok-add_certifications-in-Identity-clause-adds : goal.returns-in_ok-add_certifications-in-Identity-clause-adds
returns-in_ok-add_certifications-in-Identity-clause-adds g c =
    let f = c.args.self.now in
    let i = c.in-Identity.identity in
    let p = c.args.place in
    let at : slice_get f.pool p ≡ Some (Identity i) = subst (λ x. slice_get x.pool p ≡ Some c.at.result.now) c.self.view_is c.at.ensures ∙ ap Some c.in-Identity.is in
    adds_identity f c.args.draft.now.places.items c.add.new.draft.places.items c.add_membership.new.draft.places.items c.add_certifications.new.draft.places.items p i at c.in_ok-add.ensures.places
    c.in_ok-add_membership-in-Identity.ensures.joins c.in_ok-add_certifications-in-Identity.ensures.certifies

pub returns-in_default : goal.returns-in_default
returns-in_default g c =
    let f = c.args.self.now in
    let ps = c.args.draft.now.places.items in
    let p = c.args.place in
    let is = c.in_ok-add.ensures.places in
    record {
      stands = c.in_ok-add.ensures.stands;
      adds = adds_other f ps c.add.new.draft.places.items p c.at.result.now (subst (λ x. slice_get x.pool p ≡ Some c.at.result.now) c.self.view_is c.at.ensures) is c.in_default.not-Identity;
      grows = extends_same (ps ++ p ∷ []) c.add.new.draft.places.items is;
    }
