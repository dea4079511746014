use Rattle.std.proofs.Common.{ℕ, ◌∙◌, List, length, ap, subst, sym, arith}
use Rattle.std.proofs.lemmas.List.{take_all}
use Rattle.dubp_wot.specs.Known.{members_among}
use Rattle.dubp_wot.specs.Numbers.{named, AreBelow}
use Rattle.dubp_wot.proofs.Numbered.{Keeps-then, AreBelow-found, among-found}
use Rattle.dubp_wot.proofs.known.KnownIssuers.number_members.Goals as goal

pub loop-key-preserved : goal.loop-key-preserved
loop-key-preserved g c =
    let old = c.loop-key.self.keys in
    let new = c.number_member.new.self.keys in
    let kept = c.number_member.ensures.kept in
    let before = c.loop-key.invariant in
    let numbers = c.loop-key.numbers.items in
    let key = c.key-item.result in
    let found = c.in_ok-found.found in
    let at = c.in_ok-found.ensures.number in
    let put = c.in_ok-push_found.ensures in
    record {
      kept = Keeps-then c.args.self.now.keys old new before.kept kept;
      known = c.number_member.ensures.known;
      within = subst (AreBelow (length new)) (sym {A = List ℕ} put) (AreBelow-found old new kept numbers before.within key found at);
      among = λ members pairs shown.
          ap (λ (xs : List ℕ). named new xs) put
          ∙ among-found old new kept numbers before.within key found at members c.args.keys.now (c.in_ok-found.ensures.member members pairs shown) c.loop-key.key-index c.loop-key-test.true c.key-item.is
          (before.among members pairs shown);
    }

pub returns-clause-among : goal.returns-clause-among
returns-clause-among g c = λ members pairs shown.
    let keys = c.args.keys.now in
    c.loop-key.invariant.among members pairs shown ∙ ap (members_among members) (take_all c.loop-key.key-index keys (omega (arith, c.loop-key-test.false)))
