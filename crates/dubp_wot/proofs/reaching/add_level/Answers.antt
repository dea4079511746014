use Rattle.std.proofs.Common.{length, arith}
use Rattle.std.proofs.lemmas.List.{length-map}
use Rattle.dubp_wot.specs.Numbers.{name, named}
use Rattle.dubp_wot.proofs.Levels.{Closed-less}
use Rattle.dubp_wot.proofs.Numbered.{Keeps-then, AreBelow-kept, Grows-level, Closed-level}
use Rattle.dubp_wot.proofs.reaching.add_level.Goals as goal

pub ask-requires-clause-within : goal.ask-requires-clause-within
ask-requires-clause-within g c = c.loop-i.invariant.within c.at-to.result (c.loop-i.i, c.at-to.ensures)

pub returns-in_err-ask-clause-kept : goal.returns-in_err-ask-clause-kept
returns-in_err-ask-clause-kept g c = Keeps-then c.args.known.now.keys c.loop-i.known.keys c.ask.new.self.keys c.loop-i.invariant.kept c.ask.ensures.kept

pub add_issuers-requires-clause-small : goal.add_issuers-requires-clause-small
add_issuers-requires-clause-small g c = λ n m. omega (arith, c.of.ensures.within n m, c.len-keys.ensures.value, c.len-keys.ensures.small)

pub returns-in_err-add_issuers-clause-kept : goal.returns-in_err-add_issuers-clause-kept
returns-in_err-add_issuers-clause-kept g c = Keeps-then c.args.known.now.keys c.loop-i.known.keys c.ask.new.self.keys c.loop-i.invariant.kept c.ask.ensures.kept

pub loop-i-preserved : goal.loop-i-preserved
loop-i-preserved g c =
    let first = named c.args.known.now.keys c.args.found.now in
    let old = c.loop-i.known.keys in
    let new = c.ask.new.self.keys in
    let kept = c.ask.ensures.kept in
    let mid = c.loop-i.found in
    let found = c.add_issuers.new.found in
    let i = c.loop-i.i in
    let to = c.at-to.result in
    let issuers = c.of.result.now in
    let added = c.in_ok-add_issuers.ensures in
    let before = c.loop-i.invariant in
    record {
      known = c.ask.ensures.known;
      kept = Keeps-then c.args.known.now.keys old new before.kept kept;
      within = added.within (length new) c.of.ensures.within (AreBelow-kept old new kept mid before.within);
      counted = added.counted;
      longer = omega (arith, added.longer, before.longer);
      keeps = λ n m. added.keeps n (before.keeps n m);
      grows = λ members pairs shown.
          let are = c.of.ensures.known members pairs (c.ask.ensures.known members pairs shown) in
          Grows-level members pairs old new kept mid found before.within i to c.at-to.ensures issuers are (added.grows members pairs new (name new to) are) added.all
          first (omega (arith, length-map c.args.found.now (name c.args.known.now.keys))) (before.grows members pairs shown);
      closed = λ members pairs shown from_start.
          let are = c.of.ensures.known members pairs (c.ask.ensures.known members pairs shown) in
          Closed-level members pairs old new kept mid found before.within i to c.at-to.ensures issuers are (added.grows members pairs new (name new to) are) added.all
          (before.closed members pairs shown from_start);
    }

pub returns-clause-closed : goal.returns-clause-closed
returns-clause-closed g c = λ members pairs shown some from_start.
    Closed-less members pairs (length c.args.found.now) c.loop-i.i (named c.loop-i.known.keys c.loop-i.found) (omega arith) (c.loop-i.invariant.closed members pairs shown from_start)
