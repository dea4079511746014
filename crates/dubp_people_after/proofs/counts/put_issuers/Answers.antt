use Rattle.std.proofs.Common.{◌∙◌, true, false, ap, refl}
use Rattle.std.specs.List.{list_any}
use Rattle.indexmap.specs.IndexSet.{IndexSet}
use Rattle.dubp_atoms.specs.Same.{Text, same_text}
use Rattle.dubp_atoms.specs.declared.secret.Secret.{Secret}
use Rattle.dubp_people_after.proofs.Counting.{one_put, one_passed, issuer_told}
use Rattle.dubp_people_after.proofs.counts.put_issuers.Goals as goal
use Rattle.dubp_people_after.proofs.counts.put_issuers.Goals.{then-is_live+in_ok-insert, else-is_live}

pub loop-i-preserved : goal.loop-i-preserved
loop-i-preserved g c = λ chain b shown a.
    let key = c.args.key.now in
    let keys = c.args.near.now.keys in
    let x = c.index-from.result.now in
    let so_far = c.loop-i.invariant chain b shown a in
    let told = issuer_told chain b key x c.is_live.result (c.is_live.ensures chain b shown) in
    elim c.if-is_live.branch [
      | then-is_live+in_ok-insert w ↦
          ap (λ (s : IndexSet Text Secret). list_any (same_text a) s.keys) w.found-is
          ∙ one_put chain b key keys c.loop-i.i x c.index-from.ensures a _ _ so_far _ (told true w.if-is_live.true) (w.in_ok-insert.ensures.has a)
      | else-is_live w ↦
          ap (λ (s : IndexSet Text Secret). list_any (same_text a) s.keys) w.found-is
          ∙ one_passed chain b key keys c.loop-i.i x c.index-from.ensures a _ _ so_far _ (told false w.if-is_live.false) refl
    ]
