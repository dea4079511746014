use Rattle.std.proofs.Common.{◌∙◌, inl}
use Rattle.indexmap.specs.IndexMap.{get}
use Rattle.dubp_atoms.specs.Same.{same_text}
use Rattle.dubp_lists.proofs.Elements.{or_true}
use Rattle.dubp_left.specs.OfSteps.{now_of}
use Rattle.dubp_people_distance.proofs.Walked.{walk_starts, walk_goes_on, walk_ends}
use Rattle.dubp_people_distance.proofs.changed.put_dues.Goals as goal

pub dues-init : goal.dues-init
dues-init g c = record {
  certified = λ chain b shown before. before;
  stays = λ k there. there;
  walked = λ chain b shown. walk_starts chain (get same_text c.args.known.now);
}

pub dues-preserved : goal.dues-preserved
dues-preserved g c = record {
  certified = λ chain b shown before. c.in_ok-put_due.ensures.certified chain b shown (c.dues.invariant.certified chain b shown before);
  stays = λ k there. c.in_ok-put_due.ensures.has k ∙ or_true _ _ (inl (c.dues.invariant.stays k there));
  walked = λ chain b shown.
      walk_goes_on chain c.dues.behind (now_of chain b) c.in-Some.time c.in-Some.due (get same_text c.dues.known) (get same_text c.put_due.new.known) (c.in-Some.ensures.found chain b shown) c.in_ok-put_due.ensures.has
      (c.dues.invariant.walked chain b shown);
}

pub returns-in_default-clause-has : goal.returns-in_default-clause-has
returns-in_default-clause-has g c = λ chain b shown time due there later reached k end.
    walk_ends chain c.dues.behind (now_of chain b) (get same_text c.dues.known) (c.in_default.ensures.none chain b shown) (c.dues.invariant.walked chain b shown) time due there later reached k end
