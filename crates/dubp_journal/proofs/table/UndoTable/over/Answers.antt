use Rattle.std.proofs.Common.{rules, ◌≡◌, ◌∙◌, [], ap}
use Rattle.dubp_journal.specs.Slots.{live}
use Rattle.dubp_journal.proofs.Forgetting.{nothing_kept}
use Rattle.dubp_journal.proofs.table.UndoTable.over.Goals as goal

pub invariant_of-result : goal.invariant_of-result
invariant_of-result g c =
    let journal : c.unwrap.result.items ≡ [] = search rules in
    let keys : c.of-rooted_keys.result.value.items ≡ [] = ap (λ v. v.items) c.of-rooted_keys.ensures ∙ c.new-keys.ensures.items in
    let rooted : live c.of-rooted_keys.result.value.items c.of-rooted.result.value ≡ [] = ap (λ ks. live ks c.of-rooted.result.value) keys in
    nothing_kept g.F.Finder.cmp _ c.requires.finds _ _ _ _ _ _ _ _ _ _ _ _ _ c.new-keys.ensures.items c.new.ensures.items c.new-slots.ensures (c.of-root.ensures ∙ c.new-slots.ensures) rooted journal c.new-4.ensures.items c.new-3.ensures.items c.new-5.ensures.items
