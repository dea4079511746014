use Rattle.std.proofs.Common.{drop, ◌++◌, ◌∙◌, length, reverse, ap, option_to_list, arith, refl}
use Rattle.std.proofs.lemmas.List.{length-reverse}
use Rattle.dubp_chain.specs.Chains.{Chain}
use Rattle.dubp_moving.specs.Chains.{stands_now}
use Rattle.dubp_kept.specs.KeptChain.{Fits, StandsWithin, WaitsWithin}
use Rattle.dubp_kept.proofs.Moved.{length_heads, moved_on}
use Rattle.dubp_kept.proofs.Within.{last_within, steps_on, within_held}
use Rattle.dubp_kept.proofs.switch.move_off.Goals as goal

pub hold-requires-clause-begins : goal.hold-requires-clause-begins
hold-requires-clause-begins g c = λ some.
    let m = c.loop-i.invariant.moved in
    let t = c.loop-i.tables in
    let rest = drop c.loop-i.i (reverse c.args.blocks.now.items) in
    (rest, ((stands_now (Fits (g.T.Tables.is (g.T.Tables.names t))) (g.T.Tables.now t, g.T.Tables.count t) (g.T.Tables.others t).kept rest m.stands_is).0, m.waits_is.1 (omega (arith, some, m.ahead_is))))

pub loop-i-init : goal.loop-i-init
loop-i-init g c =
    let m = c.requires.moved in
    let o = reverse c.args.blocks.now.items in
    record {
      moved = m;
      left = omega (arith, c.requires.few);
      heads_left = omega (arith, ap length m.heads_are, length_heads o, length-reverse c.args.blocks.now.items, c.args.blocks.now.ok.0);
      depth = omega arith;
      spare = omega (arith, c.requires.spare);
      held = omega (arith, ap length m.held_are, c.args.held.now.ok.0);
      room = refl;
      behind = omega (arith, ap length m.behind_are, c.args.behind.now.ok.0);
      heads_room = refl;
      capacity = refl;
      steps = omega arith;
      keeps = record { room = omega arith; width = omega arith };
    }

pub loop-i-preserved : goal.loop-i-preserved
loop-i-preserved g c =
    let i = c.loop-i.invariant in
    let h = c.hold.ensures in
    let last = c.pop-in-loop-i.ensures.items ∙ ap (λ o. c.pop-in-loop-i.new.self.items ++ option_to_list o) c.unwrap.ensures in
    let old = c.loop-i.tables in
    let new = c.hold.new.self in
    let o = reverse c.args.blocks.now.items in
    let stays : (m : g.T.Tables.Now) (d : Chain) → g.T.Tables.is (g.T.Tables.names old) m d → g.T.Tables.is (g.T.Tables.names new) m d = λ m d p. rw h.names p in
    let tables = within_held (g.T.Tables.is (g.T.Tables.names old)) (g.T.Tables.is (g.T.Tables.names new)) stays (g.T.Tables.now old) (g.T.Tables.now new) (g.T.Tables.count old) (g.T.Tables.count new) (g.T.Tables.others old) (g.T.Tables.others new) o c.loop-i.i h.kept h.ahead h.root i.moved.stands_is i.moved.waits_is in
    let least = last_within (g.T.Tables.is (g.T.Tables.names old)) (g.T.Tables.now old) (g.T.Tables.count old) (g.T.Tables.others old).kept (drop c.loop-i.i o) i.moved.stands_is in
    record {
      moved = moved_on (StandsWithin (g.T.Tables.is (g.T.Tables.names old)) (g.T.Tables.now old) (g.T.Tables.count old) (g.T.Tables.others old).kept) (StandsWithin (g.T.Tables.is (g.T.Tables.names new)) (g.T.Tables.now new) (g.T.Tables.count new) (g.T.Tables.others new).kept) (WaitsWithin (g.T.Tables.is (g.T.Tables.names old)) (g.T.Tables.others old)) (WaitsWithin (g.T.Tables.is (g.T.Tables.names new)) (g.T.Tables.others new)) (length (g.T.Tables.others c.loop-i.tables).ahead) (length (g.T.Tables.others c.hold.new.self).ahead) c.loop-i.heads c.pop.new.self c.loop-i.behind.items c.push_reserved.new.self.items c.loop-i.blocks.items c.pop-in-loop-i.new.self.items c.loop-i.held.items c.push_reserved-in-loop-i.new.self.items (reverse c.args.blocks.now.items) c.loop-i.i c.pop.result c.unwrap.result
          i.moved c.pop.ensures.popped c.pop.ensures.span last c.push_reserved-in-loop-i.ensures.items c.push_reserved.ensures.items
          (omega (arith, ap length h.ahead)) tables;
      left = omega (arith, c.pop-in-loop-i.ensures.len, ap (λ o. length (option_to_list o)) c.unwrap.ensures, i.left);
      heads_left = omega (arith, c.pop-in-loop-i.ensures.len, ap (λ o. length (option_to_list o)) c.unwrap.ensures, ap length c.pop.ensures.popped, i.heads_left);
      depth = omega (arith, ap length h.kept, i.depth);
      spare = omega (arith, h.spare, i.spare);
      held = omega (arith, c.push_reserved-in-loop-i.ensures.len, i.held);
      room = c.push_reserved-in-loop-i.ensures.capacity ∙ i.room;
      behind = omega (arith, c.push_reserved.ensures.len, i.behind);
      heads_room = c.push_reserved.ensures.capacity ∙ i.heads_room;
      capacity = c.pop-in-loop-i.ensures.capacity ∙ i.capacity;
      steps = omega (arith, i.steps, h.steps, least, steps_on c.loop-i.i o);
      keeps = record { room = omega (arith, i.keeps.room, c.pop.ensures.keeps.room); width = omega (arith, i.keeps.width, c.pop.ensures.keeps.width) };
    }
