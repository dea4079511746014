use Rattle.std.proofs.Common.{◌<◌, Some, None, IfSome, length, refl, subst, sym, arith}
use Rattle.dubp_wot.specs.Known.{AreIssuersOf, KnowIssuers}
use Rattle.dubp_wot.specs.Numbers.{Numbered, AreBelow, name, named}
use Rattle.dubp_wot.proofs.Numbered.{set-each}
use Rattle.dubp_wot.proofs.known.KnownIssuers.put.Goals as goal

pub returns-in_err-make_room-clause-known : goal.returns-in_err-make_room-clause-known
returns-in_err-make_room-clause-known c = λ members pairs know are.
    let keys = c.self.inside.keys.keys in
    let knew = subst (KnowIssuers members pairs) (sym c.self.view_is) know in
    record {
      are_members = knew.are_members;
      are_issuers = λ i. subst (λ o. IfSome o (λ v. AreIssuersOf members pairs (name keys i) (named keys v.items))) (sym (c.make_room.ensures.same i)) (knew.are_issuers i);
    }

pub invariant_of-self-2 : goal.invariant_of-self-2
invariant_of-self-2 c =
    let n = c.args.number in
    let keys = c.self.inside.keys.keys in
    let mid = c.make_room.new.issuers.items in
    let within = subst (λ (x : Numbered). n < length x.keys) (sym c.self.view_is) c.requires.within in
    let below = subst (λ (x : Numbered). AreBelow (length x.keys) c.args.numbers.items) (sym c.self.view_is) c.requires.below in
    set-each (λ i o. IfSome o (λ v. (i < length keys) × AreBelow (length keys) v.items)) None (Some c.args.numbers) c.self.inside.issuers.items mid _ n
    c.make_room.ensures.same (omega (arith, c.in_ok-make_room.ensures.room)) refl c.self.invariant (within, below)

pub returns-clause-known : goal.returns-clause-known
returns-clause-known c = λ members pairs know are.
    let n = c.args.number in
    let keys = c.self.inside.keys.keys in
    let mid = c.make_room.new.issuers.items in
    let knew = subst (KnowIssuers members pairs) (sym c.self.view_is) know in
    let mine = subst (λ (x : Numbered). AreIssuersOf members pairs (name x.keys n) (named x.keys c.args.numbers.items)) (sym c.self.view_is) are in
    record {
      are_members = knew.are_members;
      are_issuers =
          set-each (λ i o. IfSome o (λ v. AreIssuersOf members pairs (name keys i) (named keys v.items))) None (Some c.args.numbers) c.self.inside.issuers.items mid _ n
          c.make_room.ensures.same (omega (arith, c.in_ok-make_room.ensures.room)) refl knew.are_issuers mine;
    }
