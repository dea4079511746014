use Rattle.std.proofs.Common.{◌≡◌, Some, None, reverse, ap, sym, ◌∙◌, get_or, arith}
use Rattle.std.proofs.lemmas.List.{reverse-reverse, length-reverse}
use Rattle.dubp_chain.specs.Heads.{last_issued}
use Rattle.dubp_head.specs.HeadsStates.{HeadsState}
use Rattle.dubp_head.specs.LastBlocks.{last_place}
use Rattle.dubp_head.proofs.KeptHeads.{last-at, none-last, issuers_of}
use Rattle.dubp_head.proofs.heads.Heads.at_last.Goals as goal

pub index-requires : goal.index-requires
index-requires c =
    let k = c.requires.key in
    let place : last_place (issuers_of (reverse c.self.inside.heads.items)) k ≡ Some c.in-Some.place = ap (λ (v : HeadsState). last_place (issuers_of v.list) k) c.self.view_is ∙ sym c.requires.is ∙ c.in-Some.is in
    let found = last-at (reverse c.self.inside.heads.items) k _ place in
    omega (arith, found.within, length-reverse c.self.inside.heads.items, c.self.inside.heads.ok.0)

pub returns-in-Some : goal.returns-in-Some
returns-in-Some c k last =
    let place : last_place (issuers_of (reverse c.self.inside.heads.items)) k ≡ Some c.in-Some.place = ap (λ (v : HeadsState). last_place (issuers_of v.list) k) c.self.view_is ∙ sym last ∙ c.in-Some.is in
    let found = last-at (reverse c.self.inside.heads.items) k _ place in
    ap (λ (v : HeadsState). last_issued v.list k) (sym c.self.view_is) ∙ found.is c.index.result.now ∙ ap Some (ap (λ l. get_or l c.in-Some.place c.index.result.now) (reverse-reverse c.self.inside.heads.items) ∙ sym c.index.ensures)

pub returns-in-None : goal.returns-in-None
returns-in-None c k last =
    let place : last_place (issuers_of (reverse c.self.inside.heads.items)) k ≡ None = ap (λ (v : HeadsState). last_place (issuers_of v.list) k) c.self.view_is ∙ sym last ∙ c.in-None.is in
    ap (λ (v : HeadsState). last_issued v.list k) (sym c.self.view_is) ∙ none-last (reverse c.self.inside.heads.items) k place
