use Rattle.std.proofs.Common.{◌≡◌, ◌+◌, ◌-◌, ◌<◌, [], length, get_or, set, ap, subst, sym, ◌∙◌, arith}
use Rattle.std.proofs.lemmas.List.{get_or_default}
use Rattle.dubp_head.specs.Counts.{CountsState, IsRankedOf, number_of}
use Rattle.dubp_head.proofs.Counting.{length-kept, end_number, end-within, end-some, AreCounted-shrink}
use Rattle.dubp_head.proofs.counts.Counts.shrink.Goals as goal

pub overflow_sub-len : goal.overflow_sub-len
overflow_sub-len c =
    omega (arith, c.requires.counted.are.blocks, length-kept _ _ c.requires.counted.are, c.len.ensures, c.self.inside.numbers.ok.0, ap (λ (s : CountsState). length s.numbers) c.self.view_is, ap (λ (s : CountsState). s.blocks) c.self.view_is)

pub lower-requires-clause-within : goal.lower-requires-clause-within
lower-requires-clause-within c =
    let issuers = c.requires.counted.issuers in
    let counted = c.requires.counted.are in
    let was = c.args.self.now in
    let pos = c.len.result - c.self.inside.blocks in
    let within : c.args.self.now.blocks - 1 < length issuers = omega (arith, c.requires.some, length-kept was issuers counted, counted.blocks) in
    let at : pos + (c.args.self.now.blocks - 1 + 1) ≡ length was.numbers = omega (arith, c.requires.some, c.len.ensures, c.self.inside.numbers.ok.0, ap (λ (s : CountsState). length s.numbers) c.self.view_is, ap (λ (s : CountsState). s.blocks) c.self.view_is, counted.blocks, length-kept was issuers counted) in
    let number : c.index-number.result.now ≡ number_of issuers (get_or issuers (c.args.self.now.blocks - 1) []) =
    c.index-number.ensures
    ∙ get_or_default c.self.inside.numbers.items pos c.index-number.result.now 0 (omega (arith, at, ap (λ (s : CountsState). length s.numbers) c.self.view_is))
    ∙ ap (λ (s : CountsState). get_or s.numbers pos 0) c.self.view_is
    ∙ end_number was issuers counted (c.args.self.now.blocks - 1) within pos at
    in
    omega (arith, number, end-within was issuers counted (c.args.self.now.blocks - 1) within)

pub lower-requires-clause-some : goal.lower-requires-clause-some
lower-requires-clause-some c =
    let issuers = c.requires.counted.issuers in
    let counted = c.requires.counted.are in
    let was = c.args.self.now in
    let pos = c.len.result - c.self.inside.blocks in
    let within : c.args.self.now.blocks - 1 < length issuers = omega (arith, c.requires.some, length-kept was issuers counted, counted.blocks) in
    let at : pos + (c.args.self.now.blocks - 1 + 1) ≡ length was.numbers = omega (arith, c.requires.some, c.len.ensures, c.self.inside.numbers.ok.0, ap (λ (s : CountsState). length s.numbers) c.self.view_is, ap (λ (s : CountsState). s.blocks) c.self.view_is, counted.blocks, length-kept was issuers counted) in
    let number : c.index-number.result.now ≡ number_of issuers (get_or issuers (c.args.self.now.blocks - 1) []) =
    c.index-number.ensures
    ∙ get_or_default c.self.inside.numbers.items pos c.index-number.result.now 0 (omega (arith, at, ap (λ (s : CountsState). length s.numbers) c.self.view_is))
    ∙ ap (λ (s : CountsState). get_or s.numbers pos 0) c.self.view_is
    ∙ end_number was issuers counted (c.args.self.now.blocks - 1) within pos at
    in
    subst (λ m. 0 < get_or was.counts m 0) (sym number) (end-some was issuers counted (c.args.self.now.blocks - 1) within (omega (arith, c.requires.some)))

pub returns-clause-counted : goal.returns-clause-counted
returns-clause-counted c issuers counted =
    let was = c.args.self.now in
    let pos = c.len.result - c.self.inside.blocks in
    let within : c.args.self.now.blocks - 1 < length issuers = omega (arith, c.requires.some, length-kept was issuers counted, counted.blocks) in
    let at : pos + (c.args.self.now.blocks - 1 + 1) ≡ length was.numbers = omega (arith, c.requires.some, c.len.ensures, c.self.inside.numbers.ok.0, ap (λ (s : CountsState). length s.numbers) c.self.view_is, ap (λ (s : CountsState). s.blocks) c.self.view_is, counted.blocks, length-kept was issuers counted) in
    let number : c.index-number.result.now ≡ number_of issuers (get_or issuers (c.args.self.now.blocks - 1) []) =
    c.index-number.ensures
    ∙ get_or_default c.self.inside.numbers.items pos c.index-number.result.now 0 (omega (arith, at, ap (λ (s : CountsState). length s.numbers) c.self.view_is))
    ∙ ap (λ (s : CountsState). get_or s.numbers pos 0) c.self.view_is
    ∙ end_number was issuers counted (c.args.self.now.blocks - 1) within pos at
    in
    AreCounted-shrink was issuers counted (c.args.self.now.blocks - 1) within _ (omega (arith, c.requires.some))
    (ap (λ (s : CountsState). s.counts) c.self-2.view_is ∙ c.lower.ensures.counts ∙ ap (λ m. set was.counts m (get_or was.counts m 0 - 1)) number)
    (ap (λ (s : CountsState). s.numbers) c.self-2.view_is ∙ c.lower.ensures.numbers)
    (subst (λ (s : CountsState). IsRankedOf s.ranked s.counts) (sym c.self-2.view_is) c.lower.ensures.ranked)
    (omega (arith, ap (λ (s : CountsState). s.blocks) c.self-2.view_is, c.lower.ensures.blocks, c.requires.some))
    (ap (λ (s : CountsState). s.room) c.self-2.view_is ∙ c.lower.ensures.room)
