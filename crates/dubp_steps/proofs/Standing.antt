-- On a sound chain a key has an identity, a membership and a line that entered it, or none of the three. Members have them.
use Rattle.std.proofs.Common.{◌≡◌, Bool, true, false, cond, ◌||◌, [], ◌∷◌, Option, Some, is_some, refl, ap, sym, ◌∙◌, subst, true≢false, inl, inr, append_assoc}
use Rattle.std.specs.Option.{option_or}
use Rattle.std.specs.List.{list_any, flat_map}
use Rattle.std.proofs.lemmas.List.Folds.{list_any-append}
use Rattle.dubp_atoms.specs.Same.{Text, same_text}
use Rattle.dubp_block.specs.declared.block.Block.{Block}
use Rattle.dubp_block.specs.declared.block.IdentityLine.{IdentityLine}
use Rattle.dubp_block.specs.declared.block.MemberLine.{MemberLine}
use Rattle.dubp_rules.specs.declared.rule.Rule.TheVariants.{L10, G80, G82}
use Rattle.dubp_chain.specs.Words.{names, last_of}
use Rattle.dubp_chain.specs.Chains.{Chain}
use Rattle.dubp_chain.specs.Members.{is_of, member}
use Rattle.dubp_chain.specs.People.{Written, last_line, identity, identity_lines, membership, membership_lines}
use Rattle.dubp_validity.specs.PeopleRules.{is_identity_of}
use Rattle.dubp_validity.specs.LocalRules.{joins}
use Rattle.dubp_validity.specs.Rules.{IsSound}
use Rattle.dubp_lists.proofs.Elements.{and_left, or_true, in_all, in_any, any_in}
use Rattle.dubp_lists.proofs.InOrder.{same_text_is}
use Rattle.dubp_lists.proofs.LastLines.{last_any, last_line-any, last_of-append}
use Rattle.dubp_steps.specs.AfterLines.{entering_lines}

-- the last line that entered k, of a block and of a chain
abbrev pub last_entered : Block → Text → Option MemberLine
last_entered b k = last_of (is_of k) (entering_lines b)

abbrev pub entry : Chain → Text → Option (Written MemberLine)
entry c k = last_line entering_lines (is_of k) c

-- whether some line of the chain did
abbrev pub has_entered : Chain → Text → Bool
has_entered c k = list_any (is_of k) (flat_map entering_lines c)

pub entry_any : (c : Chain) (k : Text) → is_some (entry c k) ≡ has_entered c k
entry_any c k = last_line-any entering_lines (is_of k) c

-- the last line of a block: in Leavers, or else an entering one
pub last_moved : (b : Block) (k : Text) → last_of (is_of k) (membership_lines b) ≡ option_or (last_of (is_of k) b.leavers) (last_entered b k)
last_moved b k = ap (last_of (is_of k)) (sym (append_assoc b.joiners b.actives b.leavers)) ∙ last_of-append (is_of k) (entering_lines b) b.leavers

any_moved : (b : Block) (k : Text) → list_any (is_of k) (membership_lines b) ≡ (list_any (is_of k) (entering_lines b) || list_any (is_of k) b.leavers)
any_moved b k = ap (list_any (is_of k)) (sym (append_assoc b.joiners b.actives b.leavers)) ∙ list_any-append (is_of k) (entering_lines b) b.leavers

-- a member has entered
member_entered : (c : Chain) (k : Text) → member c k ≡ true → has_entered c k ≡ true
member_entered [] k is = absurd (true≢false (sym is))
member_entered (b ∷ c) k is =
    list_any-append (is_of k) (entering_lines b) (flat_map entering_lines c)
    ∙ ap (λ r. r || has_entered c k) (list_any-append (is_of k) b.joiners b.actives)
    ∙ by_cases (names b.excluded k) (list_any (is_of k) b.joiners) (list_any (is_of k) b.actives) (member c k) (has_entered c k) is (member_entered c k)
  where
    by_cases : (out inside active was entered : Bool) → cond out false (cond inside true was) ≡ true → (was ≡ true → entered ≡ true) → ((inside || active) || entered) ≡ true
    by_cases true inside active was entered is before = absurd (true≢false (sym is))
    by_cases false true active was entered is before = refl
    by_cases false false active was entered is before = or_true _ _ (inr (before is))

-- who has a line of a membership has entered: who leaves is a member
moved_entered : (c : Chain) → IsSound c → (k : Text) → list_any (is_of k) (flat_map membership_lines c) ≡ true → has_entered c k ≡ true
moved_entered [] sound k is = is
moved_entered (b ∷ c) sound k is =
    list_any-append (is_of k) (entering_lines b) (flat_map entering_lines c)
    ∙ by_cases (list_any (is_of k) (entering_lines b)) (list_any (is_of k) b.leavers) (list_any (is_of k) (flat_map membership_lines c)) (has_entered c k)
    (sym (list_any-append (is_of k) (membership_lines b) (flat_map membership_lines c) ∙ ap (λ r. r || list_any (is_of k) (flat_map membership_lines c)) (any_moved b k)) ∙ is)
    leaver (moved_entered c sound.1 k)
  where
    leaver : list_any (is_of k) b.leavers ≡ true → has_entered c k ≡ true
    leaver leaves =
        let line = any_in (is_of k) b.leavers leaves in
        member_entered c k
        (subst (λ key. member c key ≡ true) (sym (same_text_is k line.0.key line.2))
        (and_left (member c line.0.key) _ (in_all _ b.leavers (sound.0 G80 refl) line.0 line.1)))

    by_cases : (enters leaves moved entered : Bool) → ((enters || leaves) || moved) ≡ true → (leaves ≡ true → entered ≡ true) → (moved ≡ true → entered ≡ true)
        → (enters || entered) ≡ true
    by_cases true leaves moved entered is l m = refl
    by_cases false true moved entered is l m = l refl
    by_cases false false moved entered is l m = m is

-- who has entered has a line of a membership
entered_moved : (c : Chain) (k : Text) → has_entered c k ≡ true → list_any (is_of k) (flat_map membership_lines c) ≡ true
entered_moved [] k is = is
entered_moved (b ∷ c) k is =
    list_any-append (is_of k) (membership_lines b) (flat_map membership_lines c)
    ∙ ap (λ r. r || list_any (is_of k) (flat_map membership_lines c)) (any_moved b k)
    ∙ by_cases (list_any (is_of k) (entering_lines b)) (list_any (is_of k) b.leavers) (list_any (is_of k) (flat_map membership_lines c)) (has_entered c k)
    (sym (list_any-append (is_of k) (entering_lines b) (flat_map entering_lines c)) ∙ is) (entered_moved c k)
  where
    by_cases : (enters leaves moved entered : Bool) → (enters || entered) ≡ true → (entered ≡ true → moved ≡ true) → ((enters || leaves) || moved) ≡ true
    by_cases true leaves moved entered is m = refl
    by_cases false true moved entered is m = refl
    by_cases false false moved entered is m = m is

abbrev of_key : Text → IdentityLine → Bool
of_key k line = same_text k line.key

-- who has entered has an identity
entered_identity : (c : Chain) → IsSound c → (k : Text) → has_entered c k ≡ true → list_any (of_key k) (identity_lines c) ≡ true
entered_identity [] sound k is = is
entered_identity (b ∷ c) sound k is =
    elim (list_any (is_of k) (entering_lines b)) as (λ r. list_any (is_of k) (entering_lines b) ≡ r → (r || has_entered c k) ≡ true → list_any (of_key k) (identity_lines (b ∷ c)) ≡ true) [
      | true ↦ λ e _.
          let line = any_in (is_of k) (entering_lines b) e in
          let moves = any_in (is_of k) (membership_lines b) (any_moved b k ∙ or_true _ _ (inl e)) in
          let identity = any_in (is_identity_of moves.0) (identity_lines (b ∷ c)) (in_all _ (membership_lines b) (sound.0 G82 refl) moves.0 moves.1) in
          in_any (of_key k) (identity_lines (b ∷ c)) identity.0 identity.1
          (subst (λ key. same_text key identity.0.key ≡ true) (sym (same_text_is k moves.0.key moves.2)) (and_left (same_text moves.0.key identity.0.key) _ identity.2))
      | false ↦ λ _ older.
          list_any-append (of_key k) b.identities (identity_lines c) ∙ or_true _ _ (inr (entered_identity c sound.1 k older))
    ] refl (sym (list_any-append (is_of k) (entering_lines b) (flat_map entering_lines c)) ∙ is)

-- who has an identity has entered: each new identity joins
identity_entered : (c : Chain) → IsSound c → (k : Text) → list_any (of_key k) (identity_lines c) ≡ true → has_entered c k ≡ true
identity_entered [] sound k is = is
identity_entered (b ∷ c) sound k is =
    list_any-append (is_of k) (entering_lines b) (flat_map entering_lines c)
    ∙ elim (list_any (of_key k) b.identities) as (λ r. list_any (of_key k) b.identities ≡ r → (r || list_any (of_key k) (identity_lines c)) ≡ true → (list_any (is_of k) (entering_lines b) || has_entered c k) ≡ true) [
      | true ↦ λ e _.
          let line = any_in (of_key k) b.identities e in
          let joiner = any_in (joins line.0) b.joiners (in_all _ b.identities (sound.0 L10 refl) line.0 line.1) in
          or_true _ _ (inl (list_any-append (is_of k) b.joiners b.actives ∙ or_true _ _ (inl (in_any (is_of k) b.joiners joiner.0 joiner.1
          (subst (λ key. same_text key joiner.0.key ≡ true) (sym (same_text_is k line.0.key line.2)) (and_left (same_text line.0.key joiner.0.key) _ joiner.2))))))
      | false ↦ λ _ older. or_true _ _ (inr (identity_entered c sound.1 k older))
    ] refl (sym (list_any-append (of_key k) b.identities (identity_lines c)) ∙ is)

same_truth : (a b : Bool) → (a ≡ true → b ≡ true) → (b ≡ true → a ≡ true) → a ≡ b
same_truth true b there back = sym (there refl)
same_truth false true there back = back refl
same_truth false false there back = refl

pub some_membership : (c : Chain) → IsSound c → (k : Text) → is_some (membership c k) ≡ is_some (entry c k)
some_membership c sound k =
    last_line-any membership_lines (is_of k) c
    ∙ same_truth _ _ (moved_entered c sound k) (entered_moved c k)
    ∙ sym (entry_any c k)

pub some_identity : (c : Chain) → IsSound c → (k : Text) → is_some (identity c k) ≡ is_some (entry c k)
some_identity c sound k =
    last_line-any (λ block. block.identities) (of_key k) c
    ∙ same_truth _ _ (identity_entered c sound k) (entered_identity c sound k)
    ∙ sym (entry_any c k)

pub member_has_entry : (c : Chain) (k : Text) → member c k ≡ true → is_some (entry c k) ≡ true
member_has_entry c k is = entry_any c k ∙ member_entered c k is

-- who enters moves
pub entering_moves : (b : Block) (k : Text) (line : MemberLine) → last_entered b k ≡ Some line → list_any (is_of k) (membership_lines b) ≡ true
entering_moves b k line is =
    any_moved b k ∙ or_true _ _ (inl (sym (last_any (is_of k) (entering_lines b)) ∙ ap is_some is))
