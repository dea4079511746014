use Rattle.std.proofs.Common.{◌∙◌, ◌∷◌, ap, sym, true≢false}
use Rattle.dubp_atoms.specs.Walks.{sentries_of}
use Rattle.dubp_chain.specs.Live.{live_pairs}
use Rattle.dubp_chain.specs.Members.{members}
use Rattle.dubp_params.specs.declared.params.Params.{Params}
use Rattle.dubp_people_distance.proofs.Passing.{have_steps, none_come, unasked_told}
use Rattle.dubp_people_distance.proofs.rule.comers_pass.Goals as goal

pub returns-then-has_no_comers : goal.returns-then-has_no_comers
returns-then-has_no_comers g c = λ chain shown. none_come chain c.args.block.now (c.has_no_comers.ensures.joiners c.if-has_no_comers.true) (c.has_no_comers.ensures.actives c.if-has_no_comers.true)

pub returns-then-has_no_steps : goal.returns-then-has_no_steps
returns-then-has_no_steps g c = λ chain shown.
    let b = c.args.block.now in
    unasked_told chain b c.params-params.result (c.params-params.ensures.stated chain b shown) (c.params-params.ensures.value chain b shown) (c.has_no_steps.ensures.0 c.if-has_no_steps.true)

pub sentries-requires-clause-steps : goal.sentries-requires-clause-steps
sentries-requires-clause-steps g c =
    let few = c.requires.few in
    have_steps c.params-params.result (c.params-params.ensures.stated few.0 c.args.block.now few.1.0) (λ none. true≢false (sym (c.has_no_steps.ensures.1 none) ∙ c.if-has_no_steps.false))

pub sentries-requires-clause-members : goal.sentries-requires-clause-members
sentries-requires-clause-members g c =
    let few = c.requires.few in
    let d = c.args.block.now ∷ few.0 in
    (members d, live_pairs d, (c.in_ok-web.ensures few.0 few.1.0, few.1.1))

pub returns : goal.returns
returns g c = λ chain shown.
    let d = c.args.block.now ∷ chain in
    let shows = c.in_ok-web.ensures chain shown in
    let value = c.params-params.ensures.value chain c.args.block.now shown in
    c.in_ok-holds.ensures chain shows value (c.as_slice.ensures.value ∙ c.in_ok-found.ensures (members d) (live_pairs d) shows ∙ ap (λ (p : Params). sentries_of (members d) (live_pairs d) p.step_max) value)
