use Rattle.std.proofs.Common.{◌<◌, None, IsSome, get_or, length, subst, sym}
use Rattle.dubp_wot.specs.Known.{AreIssuersOf, KnowIssuers}
use Rattle.dubp_wot.specs.Numbers.{Numbered, AreBelow, name, named}
use Rattle.dubp_wot.proofs.Issuers.{if_there}
use Rattle.dubp_wot.proofs.Numbered.{known-at}
use Rattle.dubp_wot.proofs.known.KnownIssuers.of.Goals as goal

pub returns-in-Some-clause-within : goal.returns-in-Some-clause-within
returns-in-Some-clause-within c =
    let n = c.args.number in
    let keys = c.self.inside.keys.keys in
    let issuers = c.self.inside.issuers.items in
    let some = subst (λ (x : Numbered). IsSome (get_or x.issuers n None)) (sym c.self.view_is) c.requires in
    let at = known-at issuers n c.index.result.now c.in-Some.numbers some c.index.ensures c.in-Some.is in
    let are = if_there (λ v. (n < length keys) × AreBelow (length keys) v.items) (get_or issuers n None) c.in-Some.numbers at (c.self.invariant n) in
    subst (λ (x : Numbered). AreBelow (length x.keys) c.as_slice.result.now) c.self.view_is
    (subst (AreBelow (length keys)) (sym c.as_slice.ensures.value) are.1)

pub returns-in-Some-clause-known : goal.returns-in-Some-clause-known
returns-in-Some-clause-known c = λ members pairs.
    let n = c.args.number in
    let keys = c.self.inside.keys.keys in
    let issuers = c.self.inside.issuers.items in
    let some = subst (λ (x : Numbered). IsSome (get_or x.issuers n None)) (sym c.self.view_is) c.requires in
    let at = known-at issuers n c.index.result.now c.in-Some.numbers some c.index.ensures c.in-Some.is in
    subst (λ (x : Numbered). KnowIssuers members pairs x → AreIssuersOf members pairs (name x.keys n) (named x.keys c.as_slice.result.now)) c.self.view_is
    (λ know.
    subst (λ xs. AreIssuersOf members pairs (name keys n) (named keys xs)) (sym c.as_slice.ensures.value)
    (if_there (λ v. AreIssuersOf members pairs (name keys n) (named keys v.items)) (get_or issuers n None) c.in-Some.numbers at (know.are_issuers n)))
