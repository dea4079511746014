use Rattle.std.proofs.Common.{[], None, subst}
use Rattle.std.specs.List.{Contains}
use Rattle.std.proofs.lemmas.List.{append-nil}
use Rattle.dubp_wot.specs.Order.{AreNextIssuers}
use Rattle.dubp_wot.proofs.Issuers.{next-more}
use Rattle.dubp_wot.proofs.web.Web.issuers.Goals as goal

pub issuers-preserved : goal.issuers-preserved
issuers-preserved g c = λ members pairs shown rest more.
    next-more (λ x. Contains pairs (x, c.args.to)) c.issuers.after c.issuers.keys.items c.in-Some.from (c.in-Some.ensures members pairs shown) (c.issuers.invariant members pairs shown)
    c.push.new.list.items c.in_ok-push.ensures.put rest more

pub returns-in_default : goal.returns-in_default
returns-in_default g c = λ members pairs shown.
    subst (AreNextIssuers pairs c.args.to None) (append-nil c.issuers.keys.items) (c.issuers.invariant members pairs shown [] (c.in_default.ensures members pairs shown))
