use Rattle.std.proofs.Common.{◌-◌, length, refl, ◌∙◌, arith}
use Rattle.std.proofs.lemmas.List.Sums.{count_by-le-length}
use Rattle.dubp_atoms.specs.Same.{same_text}
use Rattle.dubp_head.specs.Frames.{frame_issuers}
use Rattle.dubp_head.proofs.Bounds.{newest_bounds, are_small}
use Rattle.dubp_head.proofs.NextHeads.{told_by, last_issuers-le, blocks_since-le, difficulty_is}
use Rattle.dubp_head.proofs.difficulties.difficulty_over.Goals as goal

pub least_difficulty-least-requires-clause-bounds : goal.least_difficulty-least-requires-clause-bounds
least_difficulty-least-requires-clause-bounds c =
    newest_bounds c.args.params.now c.args.heads.now.list c.in-Some.before.now c.requires.valid c.requires.heads c.in-Some.ensures

pub handicap_in-handicap-requires-clause-blocks : goal.handicap_in-handicap-requires-clause-blocks
handicap_in-handicap-requires-clause-blocks c =
    omega (arith, c.blocks_of_last.ensures _ c.last_place-last.ensures, count_by-le-length (same_text c.args.key.now) (frame_issuers c.args.heads.now.list))

pub issuer_diff-requires-clause-few_issuers : goal.issuer_diff-requires-clause-few_issuers
issuer_diff-requires-clause-few_issuers c =
    let issuers = c.issuers_at-issuers.ensures ∙ told_by (λ h. h.issuers) _ _ (c.at_last-own.ensures _ c.last_place-last.ensures) in
    omega (arith, issuers, last_issuers-le c.args.heads.now.list c.args.key.now (are_small c.args.params.now c.args.heads.now.list c.requires.valid c.requires.heads))

pub issuer_diff-requires-clause-few_blocks : goal.issuer_diff-requires-clause-few_blocks
issuer_diff-requires-clause-few_blocks c =
    let bounds = newest_bounds c.args.params.now c.args.heads.now.list c.in-Some.before.now c.requires.valid c.requires.heads c.in-Some.ensures in
    let since = c.blocks_since-since.ensures ∙ told_by (λ h. length c.args.heads.now.list - 1 - h.number) _ _ (c.at_last-own.ensures _ c.last_place-last.ensures) in
    omega (arith, since, blocks_since-le c.args.heads.now.list c.args.key.now, bounds.short)

-- the head at the last place of the key is its last one
pub returns : goal.returns
returns c =
    let own = c.at_last-own.ensures _ c.last_place-last.ensures in
    let issuers = c.issuers_at-issuers.ensures ∙ told_by (λ h. h.issuers) _ _ own in
    let since = c.blocks_since-since.ensures ∙ told_by (λ h. length c.args.heads.now.list - 1 - h.number) _ _ own in
    let handicap = c.handicap_in-handicap.ensures _ (c.blocks_of_last.ensures _ c.last_place-last.ensures) in
    difficulty_is c.args.params.now c.args.heads.now.list c.args.first c.args.key.now c.in-Some.before.now (frame_issuers c.args.heads.now.list) c.least_difficulty-least.result c.issuers_at-issuers.result c.blocks_since-since.result c.handicap_in-handicap.result c.issuer_diff.result
    c.in-Some.ensures refl c.least_difficulty-least.ensures handicap issuers since c.issuer_diff.ensures
