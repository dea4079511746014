-- How many members a chain has with a block: no more than it has lines of Identities, of which a rule allows a million, and the block lines of
-- Joiners, of which its text has room for about as many.
use Rattle.std.proofs.Common.{◌≡◌, ◌+◌, ◌<◌, ◌≤◌, ◌^◌, Bool, true, false, cond, ◌&&◌, ◌||◌, true≢false, List, [], ◌∷◌, ◌++◌, map, filter, length, length-append, refl, sym, ◌∙◌, ap, subst, T, arith, if◌then◌else◌}
use Rattle.std.specs.List.{AllByRecursion, IsDistinct, list_any}
use Rattle.std.specs.Cmp.Lexicographic.{slice_cmp, nat_list_cmp_total, nat_list_eq_equiv}
use Rattle.std.specs.Ordering.{nat_cmp, is_lt}
use Rattle.std.specs.FinMap.Entries.{below_all, is_sorted, is_sorted-put}
use Rattle.std.proofs.lemmas.Cmp.{tied_itself}
use Rattle.std.proofs.lemmas.List.{length-map}
use Rattle.std.proofs.lemmas.List.Folds.{list_any-append}
use Rattle.std.proofs.lemmas.Map.Made.{length-le_from_is_member}
use Rattle.dubp_verdict.specs.OfAtoms.{Text, same_text, same_stamp}
use Rattle.dubp_rules.specs.declared.rule.Rule.TheVariants.{G82, X06}
use Rattle.dubp_chain.specs.OfBlock.{Block, IdentityLine, MemberLine}
use Rattle.dubp_chain.proofs.OfAtoms.{same_text_is}
use Rattle.dubp_chain.proofs.OfBlock.{size_is_within}
use Rattle.dubp_chain.specs.Words.{names, marked}
use Rattle.dubp_chain.specs.Chains.{Chain}
use Rattle.dubp_chain.specs.Members.{is_of, member, members, joined_keys}
use Rattle.dubp_chain.specs.People.{identity_lines}
use Rattle.dubp_validity.specs.PeopleRules.{is_identity_of}
use Rattle.dubp_validity.specs.Rules.{IsSound, IsShort}

-- ---- members stand once each

first : (a b : Bool) → T (a && b) → T a
first true b p = tt
first false b p = p

second : (a b : Bool) → T (a && b) → T b
second true b p = p
second false b p = absurd p

marked_sorted : (ks : List Text) → T (is_sorted (slice_cmp nat_cmp) (marked ks))
marked_sorted [] = tt
marked_sorted (k ∷ ks) = is_sorted-put (slice_cmp nat_cmp) nat_list_cmp_total k tt (marked ks) (marked_sorted ks)

-- a text is none of those that it is below
is_other : (k x : Text) → T (is_lt (slice_cmp nat_cmp k x)) → same_text k x ≡ false
is_other k x below =
    elim (same_text k x) as (λ s. same_text k x ≡ s → s ≡ false) [
      | true ↦ λ same. absurd (subst (λ r. T (is_lt r)) (tied_itself nat_list_cmp_total k) (subst (λ y. T (is_lt (slice_cmp nat_cmp k y))) (sym (same_text_is k x same)) below))
      | false ↦ λ _. refl
    ] refl

module _ (p : Text → Bool) where
  others_kept : (k : Text) (es : List (Text × Unit {0})) → T (below_all (slice_cmp nat_cmp) k es) → AllByRecursion (λ y. same_text k y ≡ false) (filter p (map (λ e. e.0) es))
  others_kept k [] below = tt
  others_kept k (e ∷ es) below =
      let here = is_other k e.0 (first _ _ below) in
      let rest = others_kept k es (second _ _ below) in
      elim (p e.0) as (λ b. AllByRecursion (λ y. same_text k y ≡ false) (cond b (e.0 ∷ filter p (map (λ e. e.0) es)) (filter p (map (λ e. e.0) es)))) [
        | true ↦ (here, rest)
        | false ↦ rest
      ]

  distinct_kept : (es : List (Text × Unit {0})) → T (is_sorted (slice_cmp nat_cmp) es) → IsDistinct same_text (filter p (map (λ e. e.0) es))
  unfolding IsDistinct
  distinct_kept [] sorted = tt
  distinct_kept (e ∷ es) sorted =
      let rest = distinct_kept es (second _ _ sorted) in
      elim (p e.0) as (λ b. IsDistinct same_text (cond b (e.0 ∷ filter p (map (λ e. e.0) es)) (filter p (map (λ e. e.0) es)))) [
        | true ↦ (others_kept e.0 es (first _ _ sorted), rest)
        | false ↦ rest
      ]

  -- what a filter has passes its test
  kept_passes : (k : Text) (ks : List Text) → names (filter p ks) k ≡ true → p k ≡ true
  kept_passes k [] named = absurd (true≢false (sym named))
  kept_passes k (x ∷ xs) named =
      elim (p x) as (λ b. p x ≡ b → names (cond b (x ∷ filter p xs) (filter p xs)) k ≡ true → p k ≡ true) [
        | true ↦ λ passes named. elim (same_text k x) as (λ s. same_text k x ≡ s → (s || names (filter p xs) k) ≡ true → p k ≡ true) [
          | true ↦ λ same _. subst (λ y. p y ≡ true) (sym (same_text_is k x same)) passes
          | false ↦ λ _ later. kept_passes k xs later
        ] refl named
        | false ↦ λ _ later. kept_passes k xs later
      ] refl named

-- the members are no more than keys among which each of them is
members_within : (c : Chain) (ks : List Text) → ((k : Text) → member c k ≡ true → names ks k ≡ true) → length (members c) ≤ length ks
members_within c ks among =
    length-le_from_is_member nat_list_eq_equiv (members c) ks (distinct_kept (member c) (marked (joined_keys c)) (marked_sorted (joined_keys c)))
    (λ k named. among k (kept_passes (member c) k (map (λ e. e.0) (marked (joined_keys c))) named))

-- ---- each member has a line

any_left : (k : Text) (xs ys : List Text) → names xs k ≡ true → names (xs ++ ys) k ≡ true
any_left k xs ys named = list_any-append (same_text k) xs ys ∙ ap (λ s. s || names ys k) named

any_right : (k : Text) (xs ys : List Text) → names ys k ≡ true → names (xs ++ ys) k ≡ true
any_right k xs ys named =
    list_any-append (same_text k) xs ys ∙ elim (names xs k) as (λ s. (s || names ys k) ≡ true) [ true ↦ refl | false ↦ named ]

abbrev identity_keys : List IdentityLine → List Text
identity_keys lines = map (λ (line : IdentityLine). line.key) lines

abbrev member_keys : List MemberLine → List Text
member_keys lines = map (λ (line : MemberLine). line.key) lines

keys_append : (xs ys : List IdentityLine) → identity_keys (xs ++ ys) ≡ identity_keys xs ++ identity_keys ys
keys_append [] ys = refl
keys_append (x ∷ xs) ys = ap (λ ks. x.key ∷ ks) (keys_append xs ys)

both_left : (a b : Bool) → (a && b) ≡ true → a ≡ true
both_left true b h = refl
both_left false b h = h

-- the identity of a line of Joiners has its key
identity_named : (line : MemberLine) (lines : List IdentityLine) → list_any (is_identity_of line) lines ≡ true → names (identity_keys lines) line.key ≡ true
identity_named line [] found = absurd (true≢false (sym found))
identity_named line (i ∷ is) found =
    elim (is_identity_of line i) as (λ s. is_identity_of line i ≡ s → (s || list_any (is_identity_of line) is) ≡ true → names (identity_keys (i ∷ is)) line.key ≡ true) [
      | true ↦ λ this _. ap (λ s. s || names (identity_keys is) line.key) (both_left (same_text line.key i.key) (same_text line.uid i.uid && same_stamp line.identity_stamp i.stamp) this)
      | false ↦ λ _ later. any_right line.key (i.key ∷ []) (identity_keys is) (identity_named line is later)
    ] refl found

joiner_named : (k : Text) (identities : List IdentityLine) (lines more : List MemberLine)
    → AllByRecursion (λ line. list_any (is_identity_of line) identities ≡ true) (lines ++ more)
    → list_any (is_of k) lines ≡ true
    → names (identity_keys identities) k ≡ true
joiner_named k identities [] more each found = absurd (true≢false (sym found))
joiner_named k identities (line ∷ lines) more each found =
    elim (same_text k line.key) as (λ s. same_text k line.key ≡ s → (s || list_any (is_of k) lines) ≡ true → names (identity_keys identities) k ≡ true) [
      | true ↦ λ same _. subst (λ y. names (identity_keys identities) y ≡ true) (sym (same_text_is k line.key same)) (identity_named line identities each.0)
      | false ↦ λ _ later. joiner_named k identities lines more each.1 later
    ] refl found

-- the key of a member has joined with the block, or was a member before
joined : (c : Chain) (b : Block) (k : Text) (ks : List Text)
    → member (b ∷ c) k ≡ true
    → (list_any (is_of k) b.joiners ≡ true → names ks k ≡ true)
    → (member c k ≡ true → names ks k ≡ true)
    → names ks k ≡ true
joined c b k ks is joins was =
    elim (names b.excluded k) as (λ out. (if out then false else if list_any (is_of k) b.joiners then true else member c k) ≡ true → names ks k ≡ true) [
      | true ↦ λ h. absurd (true≢false (sym h))
      | false ↦ λ h. elim (list_any (is_of k) b.joiners) as (λ j. list_any (is_of k) b.joiners ≡ j → (if j then true else member c k) ≡ true → names ks k ≡ true) [
        | true ↦ λ has _. joins has
        | false ↦ λ _ before. was before
      ] refl h
    ] is

-- on a sound chain it is one of Identities
member_named : (c : Chain) → IsSound c → (k : Text) → member c k ≡ true → names (identity_keys (identity_lines c)) k ≡ true
member_named [] sound k is = absurd (true≢false (sym is))
member_named (b ∷ c) sound k is =
    joined c b k (identity_keys (identity_lines (b ∷ c))) is
    (joiner_named k (identity_lines (b ∷ c)) b.joiners (b.actives ++ b.leavers) (sound.0 G82 refl))
    (λ was. subst (λ ks. names ks k ≡ true) (sym (keys_append b.identities (identity_lines c))) (any_right k (identity_keys b.identities) (identity_keys (identity_lines c)) (member_named c sound.1 k was)))

joiners_named : (k : Text) (lines : List MemberLine) → list_any (is_of k) lines ≡ true → names (member_keys lines) k ≡ true
joiners_named k [] found = found
joiners_named k (line ∷ lines) found =
    elim (same_text k line.key) as (λ s. (s || list_any (is_of k) lines) ≡ true → (s || names (member_keys lines) k) ≡ true) [
      | true ↦ λ _. refl
      | false ↦ λ later. joiners_named k lines later
    ] found

-- with a block more it is one of Identities, or one of Joiners of the block
member_with_named : (c : Chain) (b : Block) → IsSound c → (k : Text) → member (b ∷ c) k ≡ true → names (member_keys b.joiners ++ identity_keys (identity_lines c)) k ≡ true
member_with_named c b sound k is =
    joined c b k (member_keys b.joiners ++ identity_keys (identity_lines c)) is
    (λ joins. any_left k (member_keys b.joiners) (identity_keys (identity_lines c)) (joiners_named k b.joiners joins))
    (λ was. any_right k (member_keys b.joiners) (identity_keys (identity_lines c)) (member_named c sound k was))

-- ---- so they are few

identities_are_few : (c : Chain) → IsSound c → length (identity_lines c) ≤ 1000000
identities_are_few [] sound = omega arith
identities_are_few (b ∷ c) sound = sound.0 X06 refl

pub members_are_counted : (c : Chain) (b : Block) → IsSound c → length (members (b ∷ c)) ≤ length b.joiners + 1000000
members_are_counted c b sound =
    let joiners = member_keys b.joiners in
    let identities = identity_keys (identity_lines c) in
    omega (
      arith,
      members_within (b ∷ c) (joiners ++ identities) (member_with_named c b sound),
      length-append joiners identities,
      length-map b.joiners (λ (line : MemberLine). line.key),
      length-map (identity_lines c) (λ (line : IdentityLine). line.key),
      identities_are_few c sound,
    )

pub members_are_few : (c : Chain) (b : Block) → IsSound c → IsShort b → length (members (b ∷ c)) < 2 ^ 21
members_are_few c b sound short = omega (arith, members_are_counted c b sound, size_is_within b, short)
