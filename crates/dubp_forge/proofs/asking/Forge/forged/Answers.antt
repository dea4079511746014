use Rattle.std.proofs.Common.{◌≡◌, ◌∙◌, [], None, ap, subst}
use Rattle.dubp_chain.specs.Heads.{head_of}
use Rattle.dubp_forging.specs.Filled.{IsBehind}
use Rattle.dubp_forging.specs.Forged.{IsTried, Settles}
use Rattle.dubp_forge.specs.Steps.{docs_at, docs_of}
use Rattle.dubp_forge.proofs.Passing.{forged_keeps}
use Rattle.dubp_forge.proofs.asking.Forge.forged.Goals as goal

pub returns : goal.returns
returns g c =
    let f = c.args.self.now in
    let b = c.fill.new.draft.block in
    let docs = docs_of f c.settle.new.draft in
    let told = c.in-Ok-settle.ensures.settles in
    let empty : docs_of f c.test.new.draft ≡ [] = ap (λ v. docs_at f.pool v.items) c.test.ensures.places ∙ c.in-Ok.ensures.empty in
    let begins : IsTried f [] None = subst (λ o. IsTried f [] o) c.in-Ok-None.field-0-is (subst (λ l. IsTried f l c.in-Ok-None.field-0) c.in-Ok.ensures.empty c.in-Ok-None.ensures.tried) in
    let settles : Settles f told.0 [] docs = subst (λ l. Settles f told.0 l docs) empty told.1 in
    let draft = c.in-Ok-fill.ensures.filled in (
      λ none. subst (λ l. IsBehind (head_of l) b) none draft.behind,
      c.in-Ok-fill.ensures.block,
      record {
        begins = begins;
        passes = told.0;
        docs = docs;
        settles = settles;
        draft = draft;
        keeps = forged_keeps f told.0 docs b begins settles draft;
        leaves = c.in-Ok-settle.ensures.leaves;
      },
    )
