use Rattle.std.proofs.Common.{◌∙◌, ap}
use Rattle.dubp_people_and_money.specs.OfKept.{with_block}
use Rattle.dubp_ledger.proofs.Stamps.{stamp_is}
use Rattle.dubp_ledger.proofs.ledger.Ledger.join.Goals as goal

pub returns-in-Ok-clause-accepted : goal.returns-in-Ok-clause-accepted
returns-in-Ok-clause-accepted g c = record {
  keeps = c.requires.keeps;
  stamp_is = c.stamp-stamp.ensures ∙ stamp_is c.args.self.now.chain c.args.block c.args.head c.requires.joins.head;
  joins = c.in-Ok.ensures.added ∙ ap (with_block c.args.block) c.self.view_is;
}
