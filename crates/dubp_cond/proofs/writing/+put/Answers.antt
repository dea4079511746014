use Rattle.std.proofs.Common.{refl, ◌++◌, ◌+◌, length, List}
use Rattle.arrayvec.specs.ArrayVec.{array_vec_len}
use Rattle.dubp_cond.specs.Conditions.{and_word, or_word, item_text, item_texts, all_text, all_texts, cond_text}
use Rattle.dubp_cond.specs.View.{item_tree, all_tree, all_view, cond_view}
use Rattle.dubp_cond.specs.declared.tree.Item.{Item}
use Rattle.dubp_cond.specs.declared.tree.All.{All}
use Rattle.dubp_cond.proofs.Tails.{text_turn, room_turn}
use Rattle.dubp_cond.proofs.writing.+put.Goals as goal

pub put_items-loop-item-preserved : goal.put_items-loop-item-preserved
put_items-loop-item-preserved t c =
    let texts = λ (items : List Item). item_texts (all_view items) in
    let text = λ (item : Item). item_text (item_tree item) in
    let whole = all_text (all_tree c.args.all.now) in
    record {
      text = text_turn texts text (λ x xs. refl) and_word c.loop-item.before.now c.deref-item-items.result.now c.loop-item.item-index c.item-item.result c.loop-item-test.true c.item-item.is
          c.loop-item.out.items c.put_between.new.out.items c.put_item.new.out.items (c.args.out.now.items ++ whole) c.loop-item.invariant.text c.put_between.ensures.text c.put_item.ensures.text;
      room = room_turn texts text (λ x xs. refl) and_word c.loop-item.before.now c.deref-item-items.result.now c.loop-item.item-index c.item-item.result c.loop-item-test.true c.item-item.is
          (array_vec_len c.loop-item.out) (array_vec_len c.put_between.new.out) (array_vec_len c.put_item.new.out) (array_vec_len c.args.out.now + length whole) c.loop-item.invariant.room c.put_between.ensures.room c.put_item.ensures.room;
    }

pub put_alls-loop-all-preserved : goal.put_alls-loop-all-preserved
put_alls-loop-all-preserved t c =
    let texts = λ (alls : List All). all_texts (cond_view alls) in
    let text = λ (all : All). all_text (all_tree all) in
    let whole = cond_text c.args.cond.now in
    record {
      text = text_turn texts text (λ x xs. refl) or_word c.loop-all.before.now c.deref-all-items.result.now c.loop-all.all-index c.all-item.result c.loop-all-test.true c.all-item.is
          c.loop-all.out.items c.put_between.new.out.items c.put_items.new.out.items (c.args.out.now.items ++ whole) c.loop-all.invariant.text c.put_between.ensures.text c.put_items.ensures.text;
      room = room_turn texts text (λ x xs. refl) or_word c.loop-all.before.now c.deref-all-items.result.now c.loop-all.all-index c.all-item.result c.loop-all-test.true c.all-item.is
          (array_vec_len c.loop-all.out) (array_vec_len c.put_between.new.out) (array_vec_len c.put_items.new.out) (array_vec_len c.args.out.now + length whole) c.loop-all.invariant.room c.put_between.ensures.room c.put_items.ensures.room;
    }
