use Rattle.std.proofs.Common.{◌≡◌, ◌≤◌, ℕ, nat_eq, List, length, get_or, arith, subst, sym, refl}
use Rattle.std.proofs.lemmas.List.{get_or_default}
use Rattle.std.proofs.lemmas.Option.{slice_get-get_or}
use Rattle.dubp_wot.specs.Numbers.{name, named, AreBelow}
use Rattle.dubp_wot.specs.Search.{Grows, In}
use Rattle.dubp_wot.proofs.Issuers.{longer-insert, In-insert_old, In-put}
use Rattle.dubp_wot.proofs.Levels.{Grows-then}
use Rattle.dubp_wot.proofs.Numbered.{nat_same, AreBelow-at, AreBelow-insert, Contains-named, Grows-number}
use Rattle.dubp_wot.proofs.reaching.add_issuers.Goals as goal

pub insert-requires-clause-small : goal.insert-requires-clause-small
insert-requires-clause-small c =
    let i = c.loop-from.from-index in
    c.requires.small (get_or c.args.issuers.now i 0) (i, slice_get-get_or c.args.issuers.now i 0 c.loop-from-test.true)

pub loop-from-preserved : goal.loop-from-preserved
loop-from-preserved c =
    let issuers = c.args.issuers.now in
    let i = c.loop-from.from-index in
    let from = get_or issuers i 0 in
    let within = c.loop-from-test.true in
    let at = get_or_default issuers i 0 from within in
    let old = c.args.found.now in
    let found = c.loop-from.found in
    let new = c.insert.new.self in
    let put = c.in_ok-insert.ensures.put in
    record {
      longer = let more = longer-insert nat_eq found from in subst (λ (xs : List ℕ). length old ≤ length xs) (sym put) (omega (arith, c.loop-from.invariant.longer));
      within = λ size are below.
          subst (AreBelow size) (sym put)
          (AreBelow-insert size found from (c.loop-from.invariant.within size are below) (AreBelow-at size issuers i from are within at));
      counted = c.in_ok-insert.ensures.counted;
      keeps = λ n m. subst (λ (xs : List ℕ). In xs n) (sym put) (In-insert_old nat_eq found from n (c.loop-from.invariant.keeps n m));
      grows = λ members pairs keys to are.
          let m = (are (name keys from)).0 (Contains-named keys issuers i from within at) in
          Grows-then members pairs (λ b. b ≡ to) (named keys old) (named keys found) (named keys new) (c.loop-from.invariant.grows members pairs keys to are)
          (subst (λ (xs : List ℕ). Grows members pairs (λ b. b ≡ to) (named keys found) (named keys xs)) (sym put)
          (Grows-number keys members pairs (λ b. b ≡ to) found from to m.0 refl m.1));
      all = In-put nat_eq nat_same issuers i from within at found new put c.loop-from.invariant.all;
    }
