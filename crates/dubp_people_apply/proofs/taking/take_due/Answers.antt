use Rattle.std.proofs.Common.{refl, ◌∙◌, arith}
use Rattle.dubp_left.specs.Left.{due_of}
use Rattle.dubp_people_apply.proofs.Counted.{none_counted, one_counted}
use Rattle.dubp_people_apply.proofs.Taken.{begins_behind, goes_on, not_noted, all_taken}
use Rattle.dubp_people_apply.proofs.taking.take_due.Goals as goal

pub taking-init : goal.taking-init
taking-init g c =
    record {
      way = λ chain b s sound since time taking stand. record { standing = s; stand = stand; taking = taking; behind = begins_behind chain b s c.args.since c.place_of-behind.result sound since c.place_of-behind.ensures taking };
      counted = λ chain b s sound since time taking stand. none_counted c.args.ended.now _;
      memberships_others = refl;
      certifications_others = refl;
      queue_others = refl;
      count = omega arith;
    }

pub taking-preserved : goal.taking-preserved
taking-preserved g c =
    record {
      way = λ chain b s sound since time taking stand.
          goes_on chain b sound c.taking.ended c.take_one.new.ended c.taking.behind c.args.next.now.time c.in-Some.time c.in-Some.due time c.in-Some.ensures.found c.in_ok-take_one.ensures.stand (c.taking.invariant.way chain b s sound since time taking stand);
      counted = λ chain b s sound since time taking stand.
          let way = c.taking.invariant.way chain b s sound since time taking stand in
          let fresh = not_noted chain b sound c.args.next.now.time c.in-Some.time c.in-Some.due time c.in-Some.ensures.found way in
          one_counted c.args.ended.now c.taking.ended c.take_one.new.ended (due_of c.in-Some.due) _ _ _ (c.taking.invariant.counted chain b s sound since time taking stand)
          (c.in_ok-take_one.ensures.more way.standing way.stand.sets fresh) c.in_ok-take_one.ensures.steps;
      memberships_others = c.in_ok-take_one.ensures.memberships_others ∙ c.taking.invariant.memberships_others;
      certifications_others = c.in_ok-take_one.ensures.certifications_others ∙ c.taking.invariant.certifications_others;
      queue_others = c.in_ok-take_one.ensures.queue_others ∙ c.taking.invariant.queue_others;
      count = omega (arith, c.in_ok-take_one.ensures.count, c.taking.invariant.count);
    }

pub returns-in_default-clause-taken : goal.returns-in_default-clause-taken
returns-in_default-clause-taken g c =
    λ chain b s sound since time taking stand.
    all_taken chain b sound c.taking.ended c.taking.behind c.args.next.now.time time c.in_default.ensures.none (c.taking.invariant.way chain b s sound since time taking stand)
