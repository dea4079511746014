use Rattle.std.proofs.Common.{Contains, inl, inr, refl, subst, sym}
use Rattle.dubp_wot.specs.Known.{KnowIssuers}
use Rattle.dubp_wot.specs.Numbers.{Numbered, Keeps}
use Rattle.dubp_wot.proofs.Numbered.{Keeps-result, In-result, AreNumbers-kept, KnowIssuers-kept}
use Rattle.dubp_wot.proofs.known.KnownIssuers.number.Goals as goal

pub invariant_of-self-2 : goal.invariant_of-self-2
invariant_of-self-2 c =
    let old = c.self.inside.keys.keys in
    let new = c.insert_full.new.self.keys in
    AreNumbers-kept old new (Keeps-result c.insert_full.result old new c.args.key c.insert_full.ensures.keys c.insert_full.ensures.err) c.self.inside.issuers.items
    c.self.invariant

pub returns-clause-kept : goal.returns-clause-kept
returns-clause-kept c =
    let old = c.self.inside.keys.keys in
    let new = c.insert_full.new.self.keys in
    subst (λ (x : Numbered). Keeps x.keys new) c.self.view_is
    (Keeps-result c.insert_full.result old new c.args.key c.insert_full.ensures.keys c.insert_full.ensures.err)

pub returns-clause-known : goal.returns-clause-known
returns-clause-known c = λ members pairs in'.
    let old : Numbered = record { keys = c.self.inside.keys.keys; issuers = c.self.inside.issuers.items } in
    let new : Numbered = record { keys = c.insert_full.new.self.keys; issuers = c.self.inside.issuers.items } in
    let put = c.insert_full.ensures.keys in
    let stays = c.insert_full.ensures.err in
    subst (λ (x : Numbered). KnowIssuers members pairs x → KnowIssuers members pairs new) c.self.view_is
    (KnowIssuers-kept members pairs old new (Keeps-result c.insert_full.result old.keys new.keys c.args.key put stays)
    (λ k m. elim (In-result c.insert_full.result old.keys new.keys c.args.key k put stays m) [ inl before ↦ inl before | inr e ↦ inr (subst (Contains members) (sym e) in') ])
    refl c.self.invariant)
