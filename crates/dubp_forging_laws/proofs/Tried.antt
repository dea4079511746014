-- A draft breaks one first rule, or none.
use Rattle.std.proofs.Common.{◌≡◌, List, Option, subst}
use Rattle.dubp_block.specs.declared.block.Block.{Block}
use Rattle.dubp_rules.specs.declared.rule.Rule.{Rule}
use Rattle.dubp_rules.proofs.FirstLaws.{FirstOf_determined, FirstOf_from_IsFirst}
use Rattle.dubp_forging.specs.OfPool.{Doc}
use Rattle.dubp_forging.specs.Drafts.{FirstBad, HoldsWritten, draft_rules, with_lines}
use Rattle.dubp_forging.specs.Forged.{Forging, IsTried}
use Rattle.dubp_forging_laws.proofs.Drafts.{one_draft}

pub one_bad : (f : Forging) (b : Block) (found found' : Option Rule) → FirstBad f.verdicts f.chain b found → FirstBad f.verdicts f.chain b found' → found ≡ found'
one_bad f b found found' p q =
    let Holding = HoldsWritten f.verdicts f.chain b in
    FirstOf_determined Holding draft_rules found found' (FirstOf_from_IsFirst Holding draft_rules found p) (FirstOf_from_IsFirst Holding draft_rules found' q)

pub one_trial : (f : Forging) (docs : List Doc) (found found' : Option Rule) → IsTried f docs found → IsTried f docs found' → found ≡ found'
one_trial f docs found found' p q =
    one_bad f p.draft found found' p.bad
    (subst (λ (b : Block). FirstBad f.verdicts f.chain b found') (one_draft f.chain (with_lines f.chain f.issuer f.time docs) q.draft p.draft q.is p.is) q.bad)
