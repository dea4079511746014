-- What failures keep, and what they take out of the choice.
use Rattle.std.proofs.Common.{◌≡◌, ◌||◌, true, List, [], ◌∷◌, map, refl, sym, ap, subst, ◌∙◌, true≢false}
use Rattle.std.specs.List.{list_any}
use Rattle.dubp_atoms.specs.declared.stamp.Stamp.{Stamp}
use Rattle.dubp_block.specs.declared.block.Block.{Block}
use Rattle.dubp_block.specs.Text.{stamp_of}
use Rattle.dubp_resolve.specs.declared.view.Offered.{Offered}
use Rattle.dubp_resolve.specs.Choice.{Path, choice, has_failed, is_among, path_of}
use Rattle.dubp_resolve.specs.Resolve.{Switched, Failed}
use Rattle.dubp_resolve.proofs.Candidates.{chosen_is}
use Rattle.dubp_choosing.proofs.Tries.{chosen_of, path_chosen}
use Rattle.dubp_replay.specs.declared.failure.Failure.{Failure}
use Rattle.dubp_replay.specs.Turns.{IsPath, State, branches_of, choices_of, offered}
use Rattle.dubp_turn_laws.specs.Laws.{FailedIsNotTried, FailingKeepsAll}

pub failing_keeps : FailingKeepsAll
failing_keeps old [] new r all = (ap branches_of r.1, ap (λ (s : State). s.auto) r.1)
failing_keeps old (Switched tip ∷ []) new r all = absurd all.0
failing_keeps old (Switched tip ∷ (line ∷ lines)) new r all = absurd r
failing_keeps old (Failed f ∷ lines) new r all =
    let rest = failing_keeps r.1 lines new r.3 all.1 in
    let noted = r.2.4 in
    (rest.0 ∙ ap branches_of noted, rest.1 ∙ ap (λ (s : State). s.auto) noted)

pub any_failed : (failed : List Stamp) (path : List Block) → list_any (λ (o : Offered). is_among failed o.stamp) (map offered path) ≡ list_any (λ b. is_among failed (stamp_of b)) path
any_failed failed [] = refl
any_failed failed (b ∷ path) = ap (λ r. is_among failed (stamp_of b) || r) (any_failed failed path)

pub failed_not_tried : FailedIsNotTried
failed_not_tried s offers tip path end is failed chosen =
    let v = choices_of s in
    let o = chosen_of (choice v) tip (sym chosen) in
    let good = (chosen_is v offers o.block o.is).sound in
    let same = path_chosen (branches_of s) s.failures offers o.block path end (subst (λ t. IsPath s.store t path end) o.stamp is) in
    let bad : has_failed v (path_of v o.block) ≡ true = ap (λ (p : Path). has_failed v p) same ∙ any_failed (map (λ (f : Failure). f.at) s.failures) path ∙ failed in
    true≢false (sym bad ∙ good)
