use Rattle.std.proofs.Common.{◌≡◌, ◌+◌, ◌++◌, length, drop}
use Rattle.arrayvec.specs.ArrayVec.{array_vec_len}
use Rattle.dubp_cond.specs.Conditions.{and_word, or_word, item_texts, all_texts, all_text, cond_text}
use Rattle.dubp_cond.specs.View.{all_tree, all_view, cond_view}
use Rattle.dubp_cond.proofs.Tails.{tail}
use Rattle.dubp_cond.proofs.writing.+put.Given as goal

abbrev pub invariant-put_items-loop-item : goal.invariant-put_items-loop-item
invariant-put_items-loop-item l = record {
  text : l.out.items ++ tail l.before and_word (item_texts (all_view (drop l.item-index l.item-items))) ≡ l.fn.out.items ++ all_text (all_tree l.all);
  room : array_vec_len l.out + length (tail l.before and_word (item_texts (all_view (drop l.item-index l.item-items)))) ≡ array_vec_len l.fn.out + length (all_text (all_tree l.all));
}

abbrev pub invariant-put_alls-loop-all : goal.invariant-put_alls-loop-all
invariant-put_alls-loop-all l = record {
  text : l.out.items ++ tail l.before or_word (all_texts (cond_view (drop l.all-index l.all-items))) ≡ l.fn.out.items ++ cond_text l.cond;
  room : array_vec_len l.out + length (tail l.before or_word (all_texts (cond_view (drop l.all-index l.all-items)))) ≡ array_vec_len l.fn.out + length (cond_text l.cond);
}
