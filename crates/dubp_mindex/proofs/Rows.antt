-- The table of rows is that of a state: of the empty one at first, and of one with a row more where the row is set.
use Rattle.std.proofs.Common.{◌≡◌, cond, List, [], ◌∷◌, ℕ, Some, sym, ap, ◌∙◌}
use Rattle.std.specs.BTreeMap.{is_at}
use Rattle.std.specs.Cmp.Lexicographic.{slice_cmp}
use Rattle.std.specs.FinMap.{get-empty, get-insert, insert}
use Rattle.std.specs.Ordering.{nat_cmp}
use Rattle.std.proofs.lemmas.Cmp.{nat_list_cmp_total}
use Rattle.dubp_undo.specs.Definition.{IsAt}
use Rattle.dubp_undo.specs.MovingTable.{Puts}
use Rattle.dubp_mindex.specs.Members.{Members, members, member_at}
use Rattle.dubp_mindex.specs.declared.member.MemberRow.{MemberRow}

pub empty_at : IsAt (slice_cmp nat_cmp) member_at [] []
empty_at k = sym (get-empty (slice_cmp nat_cmp) k)

pub row_put : (now now' : List (List ℕ × MemberRow)) (s t : List Members) (key : List ℕ) (row : MemberRow) → Puts (slice_cmp nat_cmp) now now' key (Some row)
    → IsAt (slice_cmp nat_cmp) member_at now s → IsAt (slice_cmp nat_cmp) member_at now' (insert (members s) key row ∷ t)
row_put now now' s t key row puts is k =
    puts k ∙ ap (cond (is_at (slice_cmp nat_cmp k) key) (Some row)) (is k) ∙ sym (get-insert nat_list_cmp_total (members s) key row k)
