use Rattle.std.proofs.Common.{refl, sym, subst}
use Rattle.std.specs.Prelude.{IsTrue}
use Rattle.std.specs.FinMap.{empty}
use Rattle.dubp_undo.specs.States.{states}
use Rattle.dubp_left.specs.OfChain.{member}
use Rattle.dubp_iindex.specs.Order.{IsNextMember}
use Rattle.dubp_iindex.specs.Rows.{is_member_at}
use Rattle.dubp_left.specs.Left.{identities_left}
use Rattle.dubp_left.proofs.Looked.{newest-left}
use Rattle.dubp_registry.proofs.Followed.{next-same, member-shown}
use Rattle.dubp_registry.proofs.registry.Registry.next_member.Goals as goal

pub returns : goal.returns
returns c = λ chain at sound.
    next-same (λ a. IsTrue (is_member_at (identities_left chain) a)) (λ a. IsTrue (member chain a)) (λ a is. subst IsTrue (member-shown chain sound a) is) (λ a is. subst IsTrue (sym (member-shown chain sound a)) is) c.args.after c.next_member.result
    (subst (λ rows. IsNextMember rows c.args.after c.next_member.result) (newest-left empty identities_left refl chain) (c.next_member.ensures (states identities_left chain) (c.iindex.ensures chain at)))
