use Rattle.std.proofs.Common.{refl, ◌≡◌, ◌+◌, ◌++◌, ◌∙◌, length, length-append, reverse, ap, drop, sym, subst, option_to_list, arith}
use Rattle.std.proofs.lemmas.List.{length-drop, length-reverse}
use Rattle.dubp_chain.specs.Heads.{heads_of}
use Rattle.dubp_chain.specs.Chains.{Chain}
use Rattle.dubp_moving.specs.Chains.{stands_now}
use Rattle.dubp_kept.specs.KeptChain.{steps_of_last, Fits, StandsWithin, WaitsWithin}
use Rattle.dubp_kept.specs.Moves.{HasMoved}
use Rattle.dubp_kept.proofs.Moved.{length_heads, length_push, moved_back, time_small}
use Rattle.dubp_kept.proofs.Within.{steps_on, within_again}
use Rattle.dubp_kept.proofs.switch.move_back.Goals as goal

pub put_back-requires-clause-time : goal.put_back-requires-clause-time
put_back-requires-clause-time g c =
    let o = c.args.held.now.items ++ reverse c.args.blocks.now.items in
    let m = c.loop-block.invariant.moved in
    let less = c.pop-in-Some.ensures.items ∙ ap (λ r. c.pop-in-Some.new.self.items ++ option_to_list r) c.unwrap-head.ensures in
    time_small _ (heads_of o) (length c.loop-block.held.items) c.pop-in-Some.new.self.items c.unwrap-head.result c.requires.returns.comes.follow (sym m.behind_are ∙ less)

pub put_back-requires-clause-room : goal.put_back-requires-clause-room
put_back-requires-clause-room g c =
    let o = c.args.held.now.items ++ reverse c.args.blocks.now.items in
    let m = c.loop-block.invariant.moved in
    let less = c.pop.ensures.items ∙ ap (λ r. c.pop.new.self.items ++ option_to_list r) c.in-Some.is in
    omega (arith, ap length m.heads_are, length-drop (length c.loop-block.held.items) (heads_of o), length_heads o, m.within, ap length less, length_push c.pop.new.self.items c.in-Some.block, c.requires.returns.heads_room.heads_fit, c.loop-block.invariant.keeps.room)

pub again-requires-clause-begins : goal.again-requires-clause-begins
again-requires-clause-begins g c =
    let m = c.loop-block.invariant.moved in
    let t = c.loop-block.tables in
    let rest = drop (length c.loop-block.held.items) (c.args.held.now.items ++ reverse c.args.blocks.now.items) in
    let rest_is = c.pop.ensures.items ∙ ap (λ r. c.pop.new.self.items ++ option_to_list r) c.in-Some.is in
    (rest, ((stands_now (Fits (g.T.Tables.is (g.T.Tables.names t))) (g.T.Tables.now t, g.T.Tables.count t) (g.T.Tables.others t).kept rest m.stands_is).0, m.waits_is.1 (omega (arith, ap length rest_is, length_push c.pop.new.self.items c.in-Some.block))))

pub loop-block-preserved : goal.loop-block-preserved
loop-block-preserved g c =
    let o = c.args.held.now.items ++ reverse c.args.blocks.now.items in
    let i = c.loop-block.invariant in
    let old = c.loop-block.tables in
    let new = c.again.new.self in
    let rest = c.pop.new.self.items in
    let a = c.again.ensures in
    let less = c.pop.ensures.items ∙ ap (λ r. rest ++ option_to_list r) c.in-Some.is in
    let heads_less = c.pop-in-Some.ensures.items ∙ ap (λ r. c.pop-in-Some.new.self.items ++ option_to_list r) c.unwrap-head.ensures in
    let one_less : length c.loop-block.held.items ≡ length rest + 1 = ap length less ∙ length_push rest c.in-Some.block in
    let m = subst (λ n. HasMoved (StandsWithin (g.T.Tables.is (g.T.Tables.names old)) (g.T.Tables.now old) (g.T.Tables.count old) (g.T.Tables.others old).kept) (WaitsWithin (g.T.Tables.is (g.T.Tables.names old)) (g.T.Tables.others old)) (length (g.T.Tables.others c.loop-block.tables).ahead) c.loop-block.heads c.loop-block.behind.items c.loop-block.blocks.items c.loop-block.held.items o n) one_less i.moved in
    let stays : (l : g.T.Tables.Now) (d : Chain) → g.T.Tables.is (g.T.Tables.names old) l d → g.T.Tables.is (g.T.Tables.names new) l d = λ l d p. rw a.names p in
    let tables = within_again (g.T.Tables.is (g.T.Tables.names old)) (g.T.Tables.is (g.T.Tables.names new)) stays (g.T.Tables.now old) (g.T.Tables.now new) (g.T.Tables.count old) (g.T.Tables.count new) (g.T.Tables.others old) (g.T.Tables.others new) o (length rest) (omega (arith, m.within)) a.kept a.ahead a.root m.stands_is m.waits_is in
    record {
      moved = moved_back (StandsWithin (g.T.Tables.is (g.T.Tables.names old)) (g.T.Tables.now old) (g.T.Tables.count old) (g.T.Tables.others old).kept) (StandsWithin (g.T.Tables.is (g.T.Tables.names new)) (g.T.Tables.now new) (g.T.Tables.count new) (g.T.Tables.others new).kept) (WaitsWithin (g.T.Tables.is (g.T.Tables.names old)) (g.T.Tables.others old)) (WaitsWithin (g.T.Tables.is (g.T.Tables.names new)) (g.T.Tables.others new)) (length (g.T.Tables.others c.loop-block.tables).ahead) (length (g.T.Tables.others c.again.new.self).ahead) c.loop-block.heads c.put_back.new.self c.loop-block.behind.items c.pop-in-Some.new.self.items c.loop-block.blocks.items c.push_reserved.new.self.items c.loop-block.held.items rest o (length rest) c.unwrap-head.result c.in-Some.block
          m c.put_back.ensures.pushed (c.put_back.ensures.span ∙ ap (λ p. p.median_time_blocks) c.requires.params) c.push_reserved.ensures.items less heads_less
          (omega (arith, ap length a.ahead)) tables.0;
      depth = omega (arith, one_less, ap length a.kept, i.depth);
      room = omega (arith, i.room, c.push_reserved.ensures.len, c.push_reserved.ensures.capacity, one_less, c.pop.new.self.ok.0, c.loop-block.held.ok.0);
      capacity = c.push_reserved.ensures.capacity ∙ i.capacity;
      steps = omega (arith, i.steps, a.steps, tables.1, ap (λ k. steps_of_last k o) one_less, steps_on (length rest) o);
      keeps = record { room = omega (arith, i.keeps.room, c.put_back.ensures.keeps.room); width = omega (arith, i.keeps.width, c.put_back.ensures.keeps.width) };
    }

pub loop-block-init : goal.loop-block-init
loop-block-init g c =
    let blocks = c.args.blocks.now in
    let held = c.args.held.now in
    record {
      moved = c.requires.returns.moved;
      depth = refl;
      room = omega (arith, c.requires.returns.fits, length-append held.items (reverse blocks.items), length-reverse blocks.items, blocks.ok.0, held.ok.0);
      capacity = refl;
      steps = omega arith;
      keeps = record { room = omega arith; width = omega arith };
    }
