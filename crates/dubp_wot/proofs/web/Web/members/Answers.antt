use Rattle.std.proofs.Common.{[], ◌∷◌, ◌++◌, List, ap, sym, ◌∙◌}
use Rattle.dubp_atoms.specs.Same.{Text}
use Rattle.dubp_wot.proofs.Members.{up_to-first, up_to-next, up_to-end}
use Rattle.dubp_wot.proofs.web.Web.members.Goals as goal

pub members-init : goal.members-init
members-init g c = λ members pairs shown. c.new-keys.ensures.items ∙ sym (up_to-first members)

pub members-preserved : goal.members-preserved
members-preserved g c = λ members pairs shown.
    c.in_ok-push.ensures.put
    ∙ ap (λ (ys : List Text). ys ++ c.in-Some.key ∷ []) (c.members.invariant members pairs shown)
    ∙ sym (up_to-next c.members.after c.in-Some.key members (c.count_members-count.ensures.in_order members pairs shown) (c.in-Some.ensures members pairs shown))

pub returns-in_default : goal.returns-in_default
returns-in_default g c = λ members pairs shown.
    c.members.invariant members pairs shown ∙ up_to-end c.members.after members (c.count_members-count.ensures.in_order members pairs shown) (c.in_default.ensures members pairs shown)
