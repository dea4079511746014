use Rattle.std.proofs.Common.{◌∙◌, ◌||◌, ap}
use Rattle.std.specs.List.{list_any}
use Rattle.dubp_atoms.specs.Same.{same_text}
use Rattle.dubp_lists.proofs.OneMore.{any_more, text_flip}
use Rattle.dubp_people_after.proofs.Between.{put_or}
use Rattle.dubp_people_after.proofs.keys.put_all.Goals as goal

pub loop-key-preserved : goal.loop-key-preserved
loop-key-preserved c = λ k.
    let key = c.key-item.result in
    let has = list_any (same_text k) c.loop-key.set.keys in
    any_more (same_text k) c.args.keys.now c.loop-key.key-index key _ _ _ c.loop-key-test.true c.key-item.is (c.loop-key.invariant k)
    (c.in_ok-insert.ensures.has k ∙ put_or (same_text key k) has ∙ ap (λ t. has || t) (text_flip key k))
