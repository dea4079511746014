use Rattle.std.proofs.Common.{◌≡◌, ◌||◌, take}
use Rattle.std.specs.List.{list_any}
use Rattle.dubp_atoms.specs.Same.{Text, same_text}
use Rattle.dubp_people_after.specs.Near.{is_end_of}
use Rattle.dubp_people_after.proofs.near.put_rows.Given as goal

abbrev pub invariant-loop-row : goal.invariant-loop-row
invariant-loop-row l =
    (k : Text) → list_any (same_text k) l.set.keys ≡ (list_any (same_text k) l.initial.set.keys || list_any (is_end_of k) (take l.row-index l.rows))
