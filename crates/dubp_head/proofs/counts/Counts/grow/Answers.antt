use Rattle.std.proofs.Common.{◌≡◌, ◌+◌, ◌-◌, ◌<◌, ◌^◌, [], length, get_or, set, ap, subst, sym, refl, ◌∙◌, arith, rules}
use Rattle.std.proofs.lemmas.List.{get_or_default}
use Rattle.dubp_head.specs.Counts.{CountsState, IsRankedOf, number_of}
use Rattle.dubp_head.proofs.Counting.{length-kept, length-counts-le, end_number, end-within, end-few, AreCounted-grow}
use Rattle.dubp_head.proofs.counts.Counts.grow.Goals as goal

pub raise-requires-clause-within : goal.raise-requires-clause-within
raise-requires-clause-within c =
    let issuers = c.requires.counted.issuers in
    let counted = c.requires.counted.are in
    let was = c.args.self.now in
    let pos = c.len.result - 1 - c.self.inside.blocks in
    let within : c.args.self.now.blocks < length issuers = omega (arith, c.requires.behind, length-kept was issuers counted) in
    let at : pos + (c.args.self.now.blocks + 1) ≡ length was.numbers = omega (arith, c.requires.behind, c.len.ensures, c.self.inside.numbers.ok.0, ap (λ (s : CountsState). length s.numbers) c.self.view_is, ap (λ (s : CountsState). s.blocks) c.self.view_is) in
    let number : c.index-number.result.now ≡ number_of issuers (get_or issuers (c.args.self.now.blocks) []) =
    c.index-number.ensures
    ∙ get_or_default c.self.inside.numbers.items pos c.index-number.result.now 0 (omega (arith, at, ap (λ (s : CountsState). length s.numbers) c.self.view_is))
    ∙ ap (λ (s : CountsState). get_or s.numbers pos 0) c.self.view_is
    ∙ end_number was issuers counted (c.args.self.now.blocks) within pos at
    in
    omega (arith, number, end-within was issuers counted (c.args.self.now.blocks) within)

pub raise-requires-clause-few : goal.raise-requires-clause-few
raise-requires-clause-few c =
    let issuers = c.requires.counted.issuers in
    let counted = c.requires.counted.are in
    let was = c.args.self.now in
    let pos = c.len.result - 1 - c.self.inside.blocks in
    let within : c.args.self.now.blocks < length issuers = omega (arith, c.requires.behind, length-kept was issuers counted) in
    let at : pos + (c.args.self.now.blocks + 1) ≡ length was.numbers = omega (arith, c.requires.behind, c.len.ensures, c.self.inside.numbers.ok.0, ap (λ (s : CountsState). length s.numbers) c.self.view_is, ap (λ (s : CountsState). s.blocks) c.self.view_is) in
    let number : c.index-number.result.now ≡ number_of issuers (get_or issuers (c.args.self.now.blocks) []) =
    c.index-number.ensures
    ∙ get_or_default c.self.inside.numbers.items pos c.index-number.result.now 0 (omega (arith, at, ap (λ (s : CountsState). length s.numbers) c.self.view_is))
    ∙ ap (λ (s : CountsState). get_or s.numbers pos 0) c.self.view_is
    ∙ end_number was issuers counted (c.args.self.now.blocks) within pos at
    in
    let few : length c.self.inside.numbers.items < 2 ^ 63 = search rules in
    omega (arith, ap (λ m. get_or was.counts m 0) number, end-few was issuers counted (c.args.self.now.blocks) within, few, length-kept was issuers counted, ap (λ (s : CountsState). length s.numbers) c.self.view_is)

pub raise-requires-clause-room : goal.raise-requires-clause-room
raise-requires-clause-room c =
    omega (arith, length-counts-le _ _ c.requires.counted.are, c.requires.counted.are.room)

pub returns-clause-counted : goal.returns-clause-counted
returns-clause-counted c issuers counted =
    let was = c.args.self.now in
    let pos = c.len.result - 1 - c.self.inside.blocks in
    let within : c.args.self.now.blocks < length issuers = omega (arith, c.requires.behind, length-kept was issuers counted) in
    let at : pos + (c.args.self.now.blocks + 1) ≡ length was.numbers = omega (arith, c.requires.behind, c.len.ensures, c.self.inside.numbers.ok.0, ap (λ (s : CountsState). length s.numbers) c.self.view_is, ap (λ (s : CountsState). s.blocks) c.self.view_is) in
    let number : c.index-number.result.now ≡ number_of issuers (get_or issuers (c.args.self.now.blocks) []) =
    c.index-number.ensures
    ∙ get_or_default c.self.inside.numbers.items pos c.index-number.result.now 0 (omega (arith, at, ap (λ (s : CountsState). length s.numbers) c.self.view_is))
    ∙ ap (λ (s : CountsState). get_or s.numbers pos 0) c.self.view_is
    ∙ end_number was issuers counted (c.args.self.now.blocks) within pos at
    in
    AreCounted-grow was issuers counted (c.args.self.now.blocks) within _ refl
    (ap (λ (s : CountsState). s.counts) c.self-2.view_is ∙ c.raise.ensures.counts ∙ ap (λ m. set was.counts m (get_or was.counts m 0 + 1)) number)
    (ap (λ (s : CountsState). s.numbers) c.self-2.view_is ∙ c.raise.ensures.numbers)
    (subst (λ (s : CountsState). IsRankedOf s.ranked s.counts) (sym c.self-2.view_is) c.raise.ensures.ranked)
    (ap (λ (s : CountsState). s.blocks + 1) c.self-2.view_is ∙ ap (λ m. m + 1) c.raise.ensures.blocks)
    (ap (λ (s : CountsState). s.room) c.self-2.view_is ∙ c.raise.ensures.room)
