use Rattle.std.proofs.Common.{◌≡◌, ◌<◌, ℕ, nat_eq, inl, inr, List, length, refl, sym, ap, subst, true≢false, ◌∙◌, arith}
use Rattle.std.proofs.lemmas.Bool.{cases_lt}
use Rattle.std.proofs.lemmas.List.{length-map}
use Rattle.std.proofs.lemmas.Option.{slice_get_within}
use Rattle.indexmap.specs.IndexSet.{insert_key}
use Rattle.dubp_atoms.specs.Walks.{others}
use Rattle.dubp_wot.specs.Numbers.{name, named, AreBelow}
use Rattle.dubp_wot.specs.Search.{In, Level}
use Rattle.dubp_wot.specs.Sought.{missing}
use Rattle.dubp_wot.proofs.Counts.{missing-none, missing-first, found-all}
use Rattle.dubp_wot.proofs.Levels.{In-insert, Reaches-more, sound-next, Level-next, Level-end, Closed-less, Closed-none}
use Rattle.dubp_wot.proofs.Numbered.{nat_same, Keeps-none, Keeps-then, AreBelow-none, AreBelow-insert, Level-target}
use Rattle.dubp_wot.proofs.Reached.{AreSought-kept, found-level, none_reach, reached_is}
use Rattle.dubp_wot.proofs.reaching.count_reaching.Goals as goal

pub returns-then-not-is_member-clause-kept : goal.returns-then-not-is_member-clause-kept
returns-then-not-is_member-clause-kept g c = Keeps-none c.args.known.now.keys

pub returns-then-not-is_member-clause-reached : goal.returns-then-not-is_member-clause-reached
returns-then-not-is_member-clause-reached g c = λ members pairs shown are.
    none_reach members pairs c.args.target c.args.steps_max (others c.args.sought.now.keys c.args.target)
    (λ h. true≢false (sym ((c.is_member.ensures members pairs shown).1 h) ∙ c.if-not-is_member.true))

pub insert-requires-clause-small : goal.insert-requires-clause-small
insert-requires-clause-small g c =
    omega (arith, slice_get_within c.number.new.self.keys c.in_ok-first.first c.args.target c.in_ok-first.ensures.number, c.len.ensures.value, c.len.ensures.small)

pub insert-requires-clause-counted : goal.insert-requires-clause-counted
insert-requires-clause-counted g c =
    let numbers = c.args.sought.now.numbers in
    c.count_members-left.ensures ∙ sym (missing-none numbers) ∙ ap (missing numbers) (sym c.in_ok-found.ensures)

pub loop-level-init : goal.loop-level-init
loop-level-init g c =
    let keys = c.number.new.self.keys in
    let first = c.in_ok-first.first in
    let at = c.in_ok-first.ensures.number in
    let none = c.in_ok-found.ensures in
    let put = c.in_ok-insert.ensures.put in
    record {
      known = λ members pairs shown.
          c.number.ensures.known members pairs ((c.is_member.ensures members pairs shown).0 c.if-not-is_member.false) (c.requires.known members pairs shown);
      kept = Keeps-none keys;
      within =
          subst (AreBelow (length keys)) (sym put)
          (AreBelow-insert (length keys) c.in_ok-found.found first (AreBelow-none (length keys) c.in_ok-found.found none) (slice_get_within keys first c.args.target at));
      counted = c.in_ok-insert.ensures.counted;
      first = (
        first,
        subst (λ (xs : List ℕ). In xs first) (sym put) (In-insert nat_eq nat_same c.in_ok-found.found first),
        at,
        c.in_ok-insert.ensures.counted ∙ ap (missing c.args.sought.now.numbers) (put ∙ ap (λ (xs : List ℕ). insert_key nat_eq xs first) none),
      );
      sound = λ members pairs shown.
          (Level-target members pairs c.args.target keys first at c.in_ok-found.found c.insert.new.self none put ((c.is_member.ensures members pairs shown).0 c.if-not-is_member.false)).sound;
      closed = λ members pairs shown _. Closed-none members pairs (named keys c.insert.new.self);
      level = λ members pairs shown _.
          Level-target members pairs c.args.target keys first at c.in_ok-found.found c.insert.new.self none put ((c.is_member.ensures members pairs shown).0 c.if-not-is_member.false);
    }

pub returns-then-left-eq0-clause-kept : goal.returns-then-left-eq0-clause-kept
returns-then-left-eq0-clause-kept g c = Keeps-then c.args.known.now.keys c.number.new.self.keys c.loop-level.known.keys c.number.ensures.kept c.loop-level.invariant.kept

pub returns-then-left-eq0-clause-reached : goal.returns-then-left-eq0-clause-reached
returns-then-left-eq0-clause-reached g c = λ members pairs shown are.
    let known = c.loop-level.known in
    let sought = c.args.sought.now in
    let before = c.loop-level.invariant in
    let first = before.first in
    let kept = Keeps-then c.args.known.now.keys c.number.new.self.keys known.keys c.number.ensures.kept before.kept in
    reached_is members pairs c.args.target c.args.steps_max known c.len-keys.ensures.unique sought (AreSought-kept members c.args.known.now known sought kept are) c.loop-level.found
    (λ a m. Reaches-more members pairs c.args.target c.loop-level.level c.args.steps_max a (omega arith) (before.sound members pairs shown a m))
    (λ n m _. found-all sought.numbers c.loop-level.found (sym before.counted ∙ c.if-left-eq0.true) n m) first.0 first.2 _ c.loop-level.left _ first.3 before.counted first.1
    (omega arith)

pub overflow_sub-result : goal.overflow_sub-result
overflow_sub-result g c =
    let before = c.loop-level.invariant in
    let first = before.first in
    omega (arith, missing-first c.args.sought.now.numbers c.loop-level.found first.0 first.1, first.3, before.counted)

pub overflow_sub-result-2 : goal.overflow_sub-result-2
overflow_sub-result-2 g c =
    let before = c.loop-level.invariant in
    let first = before.first in
    omega (arith, missing-first c.args.sought.now.numbers c.loop-level.found first.0 first.1, first.3, before.counted)

pub returns-then-start-end-clause-kept : goal.returns-then-start-end-clause-kept
returns-then-start-end-clause-kept g c = Keeps-then c.args.known.now.keys c.number.new.self.keys c.loop-level.known.keys c.number.ensures.kept c.loop-level.invariant.kept

pub returns-then-start-end-clause-reached : goal.returns-then-start-end-clause-reached
returns-then-start-end-clause-reached g c = λ members pairs shown are.
    let known = c.loop-level.known in
    let sought = c.args.sought.now in
    let before = c.loop-level.invariant in
    let first = before.first in
    let kept = Keeps-then c.args.known.now.keys c.number.new.self.keys known.keys c.number.ensures.kept before.kept in
    let are_now = AreSought-kept members c.args.known.now known sought kept are in
    let some : 0 < c.loop-level.left = omega arith in
    let keys = named known.keys c.loop-level.found in
    let level =
    Level-end members pairs c.args.target c.loop-level.level c.args.steps_max keys (omega arith) (before.level members pairs shown some)
    (Closed-less members pairs (length keys) c.loop-level.start keys (omega (arith, length-map c.loop-level.found (name known.keys))) (before.closed members pairs shown some)) in
    reached_is members pairs c.args.target c.args.steps_max known c.len-keys.ensures.unique sought are_now c.loop-level.found
    (λ a m. Reaches-more members pairs c.args.target c.loop-level.level c.args.steps_max a (omega arith) (before.sound members pairs shown a m))
    (λ n m r. found-level members pairs c.args.target c.args.steps_max known c.len-keys.ensures.unique c.loop-level.found before.within level n (are_now.within n m) r)
    first.0 first.2 _ c.loop-level.left _ first.3 before.counted first.1 refl

pub returns-in_err-add_level-clause-kept : goal.returns-in_err-add_level-clause-kept
returns-in_err-add_level-clause-kept g c =
    let before = Keeps-then c.args.known.now.keys c.number.new.self.keys c.loop-level.known.keys c.number.ensures.kept c.loop-level.invariant.kept in
    Keeps-then c.args.known.now.keys c.loop-level.known.keys c.add_level.new.known.keys before c.add_level.ensures.kept

pub loop-level-preserved : goal.loop-level-preserved
loop-level-preserved g c =
    let old = named c.loop-level.known.keys c.loop-level.found in
    let new = named c.add_level.new.known.keys c.add_level.new.found in
    let many = length-map c.loop-level.found (name c.loop-level.known.keys) in
    let kept = c.add_level.ensures.kept in
    let added = c.in_ok-add_level.ensures in
    let before = c.loop-level.invariant in
    let first = before.first in
    let some : 0 < c.loop-level.left = omega arith in
    record {
      known = c.add_level.ensures.known;
      kept = Keeps-then c.number.new.self.keys c.loop-level.known.keys c.add_level.new.known.keys before.kept kept;
      within = added.within;
      counted = added.counted;
      first = (first.0, added.keeps first.0 first.1, kept.keeps first.0 c.args.target first.2, first.3);
      sound = λ members pairs shown.
          sound-next members pairs c.args.target c.loop-level.level old new (before.sound members pairs shown) (added.grows members pairs shown);
      closed = λ members pairs shown left.
          Closed-less members pairs c.len-end.result (length c.loop-level.found) new (omega arith)
          (added.closed members pairs shown left (before.closed members pairs shown some));
      level = λ members pairs shown left.
          Level-next members pairs c.args.target c.loop-level.level old new (before.level members pairs shown some) (added.grows members pairs shown)
          (Closed-less members pairs (length old) (length c.loop-level.found) new (omega (arith, many))
          (added.closed members pairs shown left (before.closed members pairs shown some)));
    }

pub returns-clause-kept : goal.returns-clause-kept
returns-clause-kept g c = Keeps-then c.args.known.now.keys c.number.new.self.keys c.loop-level.known.keys c.number.ensures.kept c.loop-level.invariant.kept

pub returns-clause-reached : goal.returns-clause-reached
returns-clause-reached g c = λ members pairs shown are.
    let known = c.loop-level.known in
    let sought = c.args.sought.now in
    let found = c.loop-level.found in
    let before = c.loop-level.invariant in
    let first = before.first in
    let kept = Keeps-then c.args.known.now.keys c.number.new.self.keys known.keys c.number.ensures.kept before.kept in
    let are_now = AreSought-kept members c.args.known.now known sought kept are in
    let all : c.loop-level.level ≡ c.args.steps_max = omega arith in
    reached_is members pairs c.args.target c.args.steps_max known c.len-keys-2.ensures.unique sought are_now found
    (λ a m. Reaches-more members pairs c.args.target c.loop-level.level c.args.steps_max a (omega arith) (before.sound members pairs shown a m))
    (λ n m r. elim (cases_lt 0 c.loop-level.left) [
      | inl some ↦
          found-level members pairs c.args.target c.args.steps_max known c.len-keys-2.ensures.unique found before.within
          (subst (λ k. Level members pairs c.args.target k (named known.keys found)) all (before.level members pairs shown some)) n (are_now.within n m) r
      | inr none ↦ found-all sought.numbers found (omega (arith, before.counted)) n m
    ])
    first.0 first.2 _ c.loop-level.left _ first.3 before.counted first.1 refl
