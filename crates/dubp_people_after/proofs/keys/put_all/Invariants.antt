use Rattle.std.proofs.Common.{◌≡◌, ◌||◌, take}
use Rattle.std.specs.List.{list_any}
use Rattle.dubp_atoms.specs.Same.{Text, same_text}
use Rattle.dubp_people_after.proofs.keys.put_all.Given as goal

abbrev pub invariant-loop-key : goal.invariant-loop-key
invariant-loop-key l =
    (k : Text) → list_any (same_text k) l.set.keys ≡ (list_any (same_text k) l.initial.set.keys || list_any (same_text k) (take l.key-index l.keys))
