use Rattle.std.proofs.Common.{List, sym, subst, ap, ◌∙◌}
use Rattle.std.specs.Prelude.{find}
use Rattle.dubp_atoms.specs.Same.{Text}
use Rattle.dubp_wot.specs.Order.{is_above, IsNextMember}
use Rattle.dubp_wot.proofs.Members.{find-next}
use Rattle.dubp_parts_at_work.proofs.walks.ListedWeb.next_member.Goals as goal

pub returns : goal.returns
returns c = λ members pairs shown.
    let listed = c.args.self.now.members.items in
    let e = c.first_above.ensures ∙ ap (λ (keys : List Text). find (is_above c.args.after) keys) c.deref.ensures.value in
    subst (λ (keys : List Text). IsNextMember keys c.args.after c.first_above.result) (sym shown.0)
    (subst (IsNextMember listed c.args.after) (sym e) (find-next c.args.after listed c.args.self.now.in_order))
