-- Who reaches the target: a test that decides it, and how many sought keys do, by the numbers that a search found.
use Rattle.std.proofs.Common.{◌≡◌, ℕ, zero, suc, ◌-◌, ◌<◌, ◌≤◌, inl, inr, nat_eq, Bool, true, false, not, ◌&&◌, ◌||◌, List, [], ◌∷◌, Some, length, slice_get, Contains, refl, sym, ap, subst, ◌∙◌, true≢false, arith}
use Rattle.std.specs.Prelude.{count_by}
use Rattle.std.specs.List.{IsDistinct, list_any}
use Rattle.std.proofs.lemmas.Bool.{and_parts, and_from, or_cases, or_left, or_right}
use Rattle.std.proofs.lemmas.List.Folds.{Any-from_list_any, list_any_at}
use Rattle.std.proofs.lemmas.Option.{slice_get-get_or, get_or_from_slice_get}
use Rattle.dubp_atoms.specs.Same.{Text, same_text}
use Rattle.dubp_atoms.specs.Walks.{IsCountOf, IsWalk, Reaches, others}
use Rattle.dubp_wot.specs.Known.{is_among}
use Rattle.dubp_wot.specs.Numbers.{Numbered, name, named, AreBelow, Keeps}
use Rattle.dubp_wot.specs.Search.{In, Level}
use Rattle.dubp_wot.specs.Sought.{SoughtKeys, AreSought, missing}
use Rattle.dubp_wot.proofs.Counts.{alike, counts-same, count-filter, count-map, missing-first}
use Rattle.dubp_wot.proofs.Issuers.{among-has, has-among}
use Rattle.dubp_wot.proofs.Levels.{text_same, text_own, In-from_any, any_from_In, member-end}
use Rattle.dubp_wot.proofs.Numbered.{nat_same, nat_own, In-named, In-of_named, AreBelow-kept, named-kept, one_number}

-- ---- a test

module _ (members : List Text) (pairs : List (Text × Text)) (target : Text) where
  -- whether a walk of at most so many pairs leads from the key to the target
  abbrev walks_within : ℕ → Text → Bool
  walks_within zero a = is_among members a && same_text a target
  walks_within (suc n) a = is_among members a && (same_text a target || list_any (λ p. same_text a p.0 && walks_within n p.1) pairs)

  walks_within-sound : (n : ℕ) (a : Text) → walks_within n a ≡ true → Reaches members pairs n a target
  walks_within-sound zero a h =
      let both = and_parts (is_among members a) (same_text a target) h in
      ([], omega arith, (has-among members a both.0, text_same a target both.1))
  walks_within-sound (suc n) a h =
      let leads = λ (p : Text × Text). same_text a p.0 && walks_within n p.1 in
      let both = and_parts (is_among members a) (same_text a target || list_any leads pairs) h in
      let in' = has-among members a both.0 in
      elim (or_cases (same_text a target) (list_any leads pairs) both.1) [
        | inl e ↦ ([], omega arith, (in', text_same a target e))
        | inr some ↦
            let m = Any-from_list_any leads pairs some in
            let p = m.1 in
            let step = and_parts (same_text a p.0) (walks_within n p.1) m.4 in
            let rest = walks_within-sound n p.1 step.1 in
            let pair = subst (λ z. Contains pairs (z, p.1)) (sym (text_same a p.0 step.0)) (m.0, m.2, m.3) in
            (p.1 ∷ rest.0, omega (arith, rest.1), (in', pair, rest.2))
      ]

  walks_within-complete : (n : ℕ) (a : Text) (path : List Text) → length path ≤ n → IsWalk members pairs a path target → walks_within n a ≡ true
  walks_within-complete zero a [] few walk =
      and_from (is_among members a) (same_text a target) (among-has members a walk.0) (subst (λ z. same_text a z ≡ true) walk.1 (text_own a))
  walks_within-complete zero a (b ∷ path) few walk = absurd (omega arith)
  walks_within-complete (suc n) a [] few walk =
      let leads = λ (p : Text × Text). same_text a p.0 && walks_within n p.1 in
      and_from (is_among members a) (same_text a target || list_any leads pairs) (among-has members a walk.0)
      (or_left (same_text a target) (list_any leads pairs) (subst (λ z. same_text a z ≡ true) walk.1 (text_own a)))
  walks_within-complete (suc n) a (b ∷ path) few walk =
      let leads = λ (p : Text × Text). same_text a p.0 && walks_within n p.1 in
      let rest = walks_within-complete n b path (omega arith) walk.2 in
      let m = walk.1 in
      and_from (is_among members a) (same_text a target || list_any leads pairs) (among-has members a walk.0)
      (or_right (same_text a target) (list_any leads pairs)
      (list_any_at leads pairs m.0 (a, b) m.1 (subst (λ (p : Text × Text). leads p ≡ true) (sym m.2) (and_from (same_text a a) (walks_within n b) (text_own a) rest))))

  -- a walk begins at a member
  member-first : (path : List Text) (a : Text) → IsWalk members pairs a path target → Contains members a
  member-first [] a walk = walk.0
  member-first (b ∷ path) a walk = walk.0

  -- nobody reaches who is no member
  pub none_reach : (steps : ℕ) (keys : List Text) → (Contains members target → ⊥) → IsCountOf (λ s. Reaches members pairs steps s target) keys 0
  none_reach steps keys out = (λ _. false, λ s. (λ h. absurd (true≢false (sym h)), λ r. absurd (out (member-end members pairs target r.0 s r.2))), none keys)
    where
      none : (ks : List Text) → 0 ≡ count_by (λ (k : Text). false) ks
      none [] = refl
      none (k ∷ ks) = none ks

-- ---- what was sought

agree : (a t s : Bool) → (t ≡ true → a ≡ true) → (a && (t && s)) ≡ (s && t)
agree true true true h = refl
agree true true false h = refl
agree true false true h = refl
agree true false false h = refl
agree false true s h = absurd (true≢false (sym (h refl)))
agree false false true h = refl
agree false false false h = refl

-- keys keep their numbers
pub AreSought-kept : (members : List Text) (old new : Numbered) (sought : SoughtKeys) → Keeps old.keys new.keys → AreSought members old sought → AreSought members new sought
AreSought-kept members old new sought kept are = record {
  within = AreBelow-kept old.keys new.keys kept sought.numbers are.within;
  are_members = named-kept old.keys new.keys kept sought.numbers are.within ∙ are.are_members;
}

module _ (members : List Text) (pairs : List (Text × Text)) (target : Text) (steps : ℕ) (known : Numbered) (once : IsDistinct same_text known.keys) where
  -- where a search went through all levels, each number is found whose key reaches the target
  pub found-level : (found : List ℕ) → AreBelow (length known.keys) found → Level members pairs target steps (named known.keys found)
      → (n : ℕ) → n < length known.keys → Reaches members pairs steps (name known.keys n) target → In found n
  found-level found below level n within reaches =
      let keys = known.keys in
      let m = level.complete (name keys n) reaches in
      let q = In-of_named keys found (name keys n) m.0 m.1 in
      subst (In found)
      (one_number keys once (name keys n) q.0 n (slice_get-get_or keys q.0 [] (below q.0 q.1) ∙ ap Some q.2) (slice_get-get_or keys n [] within)) q.1

  module _ (sought : SoughtKeys) (are : AreSought members known sought) (found : List ℕ)
      (sound : (a : Text) → In (named known.keys found) a → Reaches members pairs steps a target)
      (has : (n : ℕ) → In sought.numbers n → Reaches members pairs steps (name known.keys n) target → In found n)
      (first : ℕ) (at : slice_get known.keys first ≡ Some target) where
    -- a number is found where its key reaches the target
    found_is : (n : ℕ) → In sought.numbers n → list_any (nat_eq n) found ≡ walks_within members pairs target steps (name known.keys n)
    found_is n m = alike (list_any (nat_eq n) found) (walks_within members pairs target steps (name known.keys n)) forth back
      where
        forth : list_any (nat_eq n) found ≡ true → walks_within members pairs target steps (name known.keys n) ≡ true
        forth h =
            let f = In-from_any nat_eq nat_same found n h in
            let r = sound (name known.keys n) (f.0, In-named known.keys found n f.0 f.1) in
            walks_within-complete members pairs target steps (name known.keys n) r.0 r.1 r.2

        back : walks_within members pairs target steps (name known.keys n) ≡ true → list_any (nat_eq n) found ≡ true
        back h =
            let f = has n m (walks_within-sound members pairs target steps (name known.keys n) h) in
            any_from_In nat_eq nat_same nat_own found n f.0 f.1

    -- and it is the first one where its key is the target
    first_is : (n : ℕ) → In sought.numbers n → nat_eq n first ≡ same_text target (name known.keys n)
    first_is n m = alike (nat_eq n first) (same_text target (name known.keys n)) forth back
      where
        forth : nat_eq n first ≡ true → same_text target (name known.keys n) ≡ true
        forth h =
            subst (λ z. same_text target (name known.keys z) ≡ true) (sym (nat_same n first h))
            (subst (λ z. same_text target z ≡ true) (sym (get_or_from_slice_get known.keys first target [] at)) (text_own target))

        back : same_text target (name known.keys n) ≡ true → nat_eq n first ≡ true
        back h =
            let here = slice_get-get_or known.keys n [] (are.within n m) ∙ ap Some (sym (text_same target (name known.keys n) h)) in
            subst (λ z. nat_eq n z ≡ true) (one_number known.keys once target n first here at) (nat_own n)

    -- so those found beside it are the sought keys other than the target that reach it
    pub reached_is : (all left n : ℕ) → all ≡ missing sought.numbers (first ∷ []) → left ≡ missing sought.numbers found → In found first → n ≡ all - left
        → IsCountOf (λ s. Reaches members pairs steps s target) (others sought.keys target) n
    reached_is all left n many some there is =
        let reaches = walks_within members pairs target steps in
        let other = λ (k : Text). not (same_text target k) in
        let both = λ (k : Text). reaches k && other k in
        let by_number = λ (q : ℕ). list_any (nat_eq q) found && not (nat_eq q first) in
        let counted : n ≡ count_by by_number sought.numbers = omega (arith, missing-first sought.numbers found first there, many, some, is) in (
          reaches,
          λ s. (walks_within-sound members pairs target steps s, λ r. walks_within-complete members pairs target steps s r.0 r.1 r.2),
          counted
              ∙ counts-same by_number (λ q. both (name known.keys q)) sought.numbers
              (λ q m. ap (λ (t : Bool). t && not (nat_eq q first)) (found_is q m) ∙ ap (λ (t : Bool). reaches (name known.keys q) && not t) (first_is q m))
              ∙ sym (count-map (name known.keys) both sought.numbers)
              ∙ ap (λ (ks : List Text). count_by both ks) are.are_members
              ∙ count-filter (is_among members) both sought.keys
              ∙ counts-same (λ k. is_among members k && both k) (λ k. other k && reaches k) sought.keys
              (λ k _. agree (is_among members k) (reaches k) (other k)
              (λ e. let r = walks_within-sound members pairs target steps k e in among-has members k (member-first members pairs target r.0 k r.2)))
              ∙ sym (count-filter other reaches sought.keys),
        )
