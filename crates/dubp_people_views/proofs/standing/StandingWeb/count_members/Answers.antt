use Rattle.std.proofs.Common.{◌∙◌, ap, length, subst, sym}
use Rattle.dubp_wot.specs.Order.{IsInOrder}
use Rattle.dubp_people_views.proofs.Webs.{members_rise}
use Rattle.dubp_people_views.proofs.standing.StandingWeb.count_members.Goals as goal

pub returns-clause-count : goal.returns-clause-count
returns-clause-count c = λ keys pairs shown. c.members.ensures shown.0 shown.1.0 shown.1.1.0 ∙ ap length (sym shown.1.1.1.0)

pub returns-clause-in_order : goal.returns-clause-in_order
returns-clause-in_order c = λ keys pairs shown. subst IsInOrder (sym shown.1.1.1.0) (members_rise shown.0 shown.1.1.0)
