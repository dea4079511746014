-- There are at most as many members as lines of Identities.
use Rattle.std.proofs.Common.{◌≡◌, ℕ, ◌<◌, ◌≤◌, ◌^◌, Bool, true, false, cond, not, List, [], ◌∷◌, ◌++◌, map, length, refl, sym, ◌∙◌, subst, true≢false, inr, arith}
use Rattle.std.specs.List.{list_any, IsDistinct, AllByRecursion}
use Rattle.std.specs.Cmp.Lexicographic.{nat_list_eq_equiv}
use Rattle.std.proofs.lemmas.List.{length-map}
use Rattle.std.proofs.lemmas.List.Folds.{list_any-append}
use Rattle.std.proofs.lemmas.Map.Made.{length-le_from_is_member}
use Rattle.dubp_atoms.specs.Same.{Text, same_text}
use Rattle.dubp_rules.specs.declared.rule.Rule.TheVariants.{X06}
use Rattle.dubp_block.specs.declared.block.Block.{Block}
use Rattle.dubp_block.specs.declared.block.IdentityLine.{IdentityLine}
use Rattle.dubp_chain.specs.Words.{names, each_once}
use Rattle.dubp_chain.specs.Chains.{Chain}
use Rattle.dubp_chain.specs.Members.{is_of, member, members}
use Rattle.dubp_chain.specs.People.{identity_lines, membership_lines}
use Rattle.dubp_validity.specs.PeopleRules.{IdentitiesAreFew, MembershipsHaveIdentities, is_identity_of}
use Rattle.dubp_validity.specs.Rules.{IsSound}
use Rattle.dubp_people_rules.proofs.OfLists.{and_left, and_right, not_true, or_left, or_right, or_true, in_all, in_any, in_left, any_in, list_any-map}
use Rattle.dubp_people_rules.proofs.OfLists.{same_text_is, members-once}
use Rattle.dubp_people_rules.proofs.OfLists.{last_line-any}
use Rattle.dubp_people_checks.proofs.OfSteps.{some_identity, member_has_entry}
use Rattle.dubp_people_checks.proofs.OfSteps.{member_named}

abbrev of_key : Text → IdentityLine → Bool
of_key k line = same_text k line.key

apart : (k : Text) (ks : List Text) → list_any (same_text k) ks ≡ false → AllByRecursion (λ y. same_text k y ≡ false) ks
apart k [] none = tt
apart k (x ∷ xs) none = (or_left (same_text k x) _ none, apart k xs (or_right (same_text k x) _ none))

pub distinct_of : (ks : List Text) → each_once same_text ks ≡ true → IsDistinct same_text ks
unfolding IsDistinct
distinct_of [] once = tt
distinct_of (k ∷ ks) once =
    let none = not_true (list_any (same_text k) ks) (and_left (not (list_any (same_text k) ks)) (each_once same_text ks) once) in
    (apart k ks none, distinct_of ks (and_right (not (list_any (same_text k) ks)) (each_once same_text ks) once))

-- the members are no more than keys among which they all are
members_within : (c : Chain) (ks : List Text) → ((k : Text) → member c k ≡ true → names ks k ≡ true) → length (members c) ≤ length ks
members_within c ks among =
    length-le_from_is_member nat_list_eq_equiv (members c) ks (distinct_of (members c) (members-once c)) (λ k h. among k (sym (member_named c k) ∙ h))

-- no more than the lines of Identities, where each member has one
members_have_lines : (c : Chain) → ((k : Text) → member c k ≡ true → list_any (of_key k) (identity_lines c) ≡ true) → length (members c) ≤ length (identity_lines c)
members_have_lines c each =
    let keys = members_within c (map (λ (line : IdentityLine). line.key) (identity_lines c)) (λ k h. list_any-map (same_text k) (λ (line : IdentityLine). line.key) (identity_lines c) ∙ each k h) in
    omega (arith, keys, length-map (identity_lines c) (λ (line : IdentityLine). line.key))

-- on a sound chain each has
member_line : (c : Chain) → IsSound c → (k : Text) → member c k ≡ true → list_any (of_key k) (identity_lines c) ≡ true
member_line c sound k is = sym (last_line-any (λ block. block.identities) (of_key k) c) ∙ some_identity c sound k ∙ member_has_entry c k is

-- and with a block whose memberships have identities
module _ (c : Chain) (b : Block) (sound : IsSound c) (have : MembershipsHaveIdentities c b) (k : Text) where
  joiner_line : list_any (is_of k) b.joiners ≡ true → list_any (of_key k) (identity_lines (b ∷ c)) ≡ true
  joiner_line joins =
      let line = any_in (is_of k) b.joiners joins in
      let named = in_all _ (membership_lines b) have line.0 (in_left line.0 b.joiners (b.actives ++ b.leavers) line.1) in
      let identity = any_in (is_identity_of line.0) (identity_lines (b ∷ c)) named in
      in_any (of_key k) (identity_lines (b ∷ c)) identity.0 identity.1
      (subst (λ key. same_text key identity.0.key ≡ true) (sym (same_text_is k line.0.key line.2)) (and_left (same_text line.0.key identity.0.key) _ identity.2))

  staying_line : member c k ≡ true → list_any (of_key k) (identity_lines (b ∷ c)) ≡ true
  staying_line is = list_any-append (of_key k) b.identities (identity_lines c) ∙ or_true _ _ (inr (member_line c sound k is))

  next_member_line : member (b ∷ c) k ≡ true → list_any (of_key k) (identity_lines (b ∷ c)) ≡ true
  next_member_line is = by_cases (names b.excluded k) (list_any (is_of k) b.joiners) (member c k) is joiner_line staying_line
    where
      by_cases : (out inside was : Bool) → cond out false (cond inside true was) ≡ true → (inside ≡ true → list_any (of_key k) (identity_lines (b ∷ c)) ≡ true) → (was ≡ true → list_any (of_key k) (identity_lines (b ∷ c)) ≡ true)
          → list_any (of_key k) (identity_lines (b ∷ c)) ≡ true
      by_cases true inside was is joins stays = absurd (true≢false (sym is))
      by_cases false true was is joins stays = joins refl
      by_cases false false was is joins stays = stays is

below_limit : (n m : ℕ) → n ≤ m → m ≤ 1000000 → n < 2 ^ 21
below_limit n m le few = omega (arith, le, few)

pub members_stay_few : (c : Chain) (b : Block) → IsSound c → IdentitiesAreFew c b → MembershipsHaveIdentities c b → length (members (b ∷ c)) < 2 ^ 21
members_stay_few c b sound few have =
    below_limit (length (members (b ∷ c))) (length (identity_lines (b ∷ c))) (members_have_lines (b ∷ c) (next_member_line c b sound have)) few

pub members_are_few : (c : Chain) → IsSound c → length (members c) < 2 ^ 21
members_are_few [] sound = omega arith
members_are_few (b ∷ c) sound =
    below_limit (length (members (b ∷ c))) (length (identity_lines (b ∷ c))) (members_have_lines (b ∷ c) (member_line (b ∷ c) sound)) (sound.0 X06 refl)
