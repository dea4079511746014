use Rattle.std.proofs.Common.{◌∙◌}
use Rattle.indexmap.specs.IndexSet.{contains}
use Rattle.dubp_atoms.specs.Same.{same_text}
use Rattle.dubp_moving.specs.States.{states}
use Rattle.dubp_registry.specs.OfLeft.{certifications_left}
use Rattle.dubp_people_after.proofs.Live.{issuers_near, receivers_near}
use Rattle.dubp_people_after.proofs.after.After.put_near.Goals as goal

pub returns-clause-issuers : goal.returns-clause-issuers
returns-clause-issuers c = λ chain b shown.
    issuers_near chain b c.args.key c.as_slice.result.now c.partners_of.result.now (contains same_text c.args.near.now) (contains same_text c.put_rows.new.set) (contains same_text c.put_all.new.set)
    (c.as_slice.ensures.value ∙ c.in_ok-rows.ensures (states certifications_left chain) (c.cindex.ensures chain shown.0)) (λ k. c.partners_of.ensures k ∙ shown.1.1.partners c.args.key k)
    c.in_ok-put_rows.ensures c.in_ok-put_all.ensures

pub returns-clause-receivers : goal.returns-clause-receivers
returns-clause-receivers c = λ chain b shown.
    receivers_near chain b c.args.key c.as_slice.result.now c.partners_of.result.now (contains same_text c.args.near.now) (contains same_text c.put_rows.new.set) (contains same_text c.put_all.new.set)
    (c.as_slice.ensures.value ∙ c.in_ok-rows.ensures (states certifications_left chain) (c.cindex.ensures chain shown.0)) (λ k. c.partners_of.ensures k ∙ shown.1.1.partners c.args.key k)
    c.in_ok-put_rows.ensures c.in_ok-put_all.ensures
