use Rattle.std.proofs.Common.{refl, ◌++◌, ◌+◌, length, List, map, codes}
use Rattle.arrayvec.specs.ArrayVec.{array_vec_len}
use Rattle.dubp_cond.specs.Joined.{joined}
use Rattle.dubp_cond.specs.Unlocks.{unlock_text}
use Rattle.dubp_cond.specs.declared.unlock.Unlock.{Unlock}
use Rattle.dubp_cond.proofs.Tails.{text_turn, room_turn}
use Rattle.dubp_cond.proofs.unlock.put_list.Goals as goal

pub loop-unlock-preserved : goal.loop-unlock-preserved
loop-unlock-preserved c =
    let texts = λ (list : List Unlock). map unlock_text list in
    let whole = joined (codes " ") (map unlock_text c.args.list.now) in
    record {
      text = text_turn texts unlock_text (λ x xs. refl) (codes " ") c.loop-unlock.before.now c.args.list.now c.loop-unlock.unlock-index c.unlock-item.result c.loop-unlock-test.true c.unlock-item.is
          c.loop-unlock.out.items c.put_bytes.new.out.items c.put_one.new.out.items (c.args.out.now.items ++ whole) c.loop-unlock.invariant.text c.put_bytes.ensures.text c.put_one.ensures.text;
      room = room_turn texts unlock_text (λ x xs. refl) (codes " ") c.loop-unlock.before.now c.args.list.now c.loop-unlock.unlock-index c.unlock-item.result c.loop-unlock-test.true c.unlock-item.is
          (array_vec_len c.loop-unlock.out) (array_vec_len c.put_bytes.new.out) (array_vec_len c.put_one.new.out) (array_vec_len c.args.out.now + length whole) c.loop-unlock.invariant.room c.put_bytes.ensures.room c.put_one.ensures.room;
    }
