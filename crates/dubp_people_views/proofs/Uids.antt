-- On a sound chain the key with a uid in the index is that of the line of Identities that has it.
use Rattle.std.proofs.Common.{◌≡◌, Bool, true, false, cond, not, ◌||◌, List, [], ◌∷◌, Option, None, Some, refl, sym, ap, subst, ◌∙◌, inl, inr, true≢false}
use Rattle.std.specs.Prelude.{map, find, option_map, is_some, IsTrue}
use Rattle.std.specs.Option.{option_map_or}
use Rattle.std.specs.List.{list_any}
use Rattle.dubp_atoms.specs.Same.{Text, same_text}
use Rattle.dubp_rules.specs.declared.rule.Rule.TheVariants.{L08, G73}
use Rattle.dubp_block.specs.declared.block.IdentityLine.{IdentityLine}
use Rattle.dubp_chain.specs.Words.{names}
use Rattle.dubp_chain.specs.Chains.{Chain}
use Rattle.dubp_chain.specs.Members.{member}
use Rattle.dubp_chain.specs.People.{Written, identity, identity_lines}
use Rattle.dubp_chain.specs.Tables.{IdentityRow as ChainRow}
use Rattle.dubp_validity.specs.Rules.{IsSound}
use Rattle.dubp_lists.proofs.Elements.{IsIn, in_all, in_any, is_false, list_any-map}
use Rattle.dubp_lists.proofs.InOrder.{same_text_is, same_text_own}
use Rattle.dubp_lists.proofs.LastLines.{last_line-any}
use Rattle.dubp_lists.proofs.Once.{Once, once_head, once_tail, once-append, each_once-map}
use Rattle.dubp_iindex.specs.Rows.{key_with}
use Rattle.dubp_iindex.specs.declared.row.IdentityRow.{IdentityRow}
use Rattle.dubp_iindex.proofs.Uids.{key_with-has, key_with-none}
use Rattle.dubp_people_views.specs.OfLeft.{identity_entry, identity_left, identities_left}
use Rattle.dubp_people_views.proofs.OfLeft.{identities-at}
use Rattle.dubp_people_views.proofs.OfLeft.{last_line-in, identity_lines-once}

-- ---- lines of which each stands once by its key, or by its uid

module _ (name : IdentityLine → Text) where
  clash : (z : IdentityLine) (zs : List IdentityLine) (y : IdentityLine) → Once same_text same_text_is same_text_own name (z ∷ zs) → IsIn y zs → name z ≡ name y → ⊥
  clash z zs y once there same =
      true≢false
      (sym (in_any (λ (line : IdentityLine). same_text (name z) (name line)) zs y there (subst (λ t. same_text (name z) t ≡ true) same (same_text_own (name z))))
      ∙ once_head same_text same_text_is same_text_own name z zs once)

  -- two lines of one name are one
  one_of : (lines : List IdentityLine) (x y : IdentityLine) → Once same_text same_text_is same_text_own name lines → IsIn x lines → IsIn y lines → name x ≡ name y → x ≡ y
  one_of [] x y once there there' same = absurd there
  one_of (z ∷ zs) x y once (inl e) (inl e') same = e ∙ sym e'
  one_of (z ∷ zs) x y once (inl e) (inr there') same = absurd (clash z zs y once there' (ap name (sym e) ∙ same))
  one_of (z ∷ zs) x y once (inr there) (inl e') same = absurd (clash z zs x once there (ap name (sym e') ∙ sym same))
  one_of (z ∷ zs) x y once (inr there) (inr there') same = one_of zs x y (once_tail same_text same_text_is same_text_own name z zs once) there there' same

abbrev uid_of : IdentityLine → Text
uid_of line = line.uid

uids-once : (c : Chain) → IsSound c → Once same_text same_text_is same_text_own uid_of (identity_lines c)
uids-once [] s = refl
uids-once (b ∷ c) s =
    once-append same_text same_text_is same_text_own uid_of b.identities (identity_lines c)
    (sym (each_once-map same_text uid_of b.identities) ∙ s.0 L08 refl)
    (uids-once c s.1)
    (λ x y there there'. is_false (same_text x.uid y.uid) (λ same.
    true≢false (sym (list_any-map (same_text x.uid) uid_of (identity_lines c) ∙ in_any (λ (line : IdentityLine). same_text x.uid line.uid) (identity_lines c) y there' same)
    ∙ unnamed (names (map uid_of (identity_lines c)) x.uid) (in_all (λ line. IsTrue (not (names (map uid_of (identity_lines c)) line.uid))) b.identities (s.0 G73 refl) x there))))
  where
    unnamed : (a : Bool) → IsTrue (not a) → a ≡ false
    unnamed true e = sym e
    unnamed false e = refl

-- ---- what is found in a list

find_in : {X : Type 0} (p : X → Bool) (xs : List X) (x : X) → find p xs ≡ Some x → IsIn x xs × (p x ≡ true)
find_in p [] x e = cc
find_in {X} p (y ∷ ys) x e =
    elim (p y) as (λ t. p y ≡ t → cond t (Some y) (find p ys) ≡ Some x → IsIn x (y ∷ ys) × (p x ≡ true)) [
      | true ↦ λ is found. let same : y ≡ x = cc in (inl (sym same), subst (λ (z : X). p z ≡ true) same is)
      | false ↦ λ _ found. let h = find_in p ys x found in (inr h.0, h.1)
    ] refl e

found_any : {X : Type 0} (p : X → Bool) (xs : List X) → is_some (find p xs) ≡ list_any p xs
found_any p [] = refl
found_any p (x ∷ xs) = elim (p x) as (λ b. is_some (cond b (Some x) (find p xs)) ≡ (b || list_any p xs)) [ true ↦ refl | false ↦ found_any p xs ]

-- ---- rows and lines

abbrev row_in : Chain → Text → Written IdentityLine → ChainRow
row_in c k w = record { uid = w.line.uid; stamp = w.line.stamp; sig = w.line.sig; written = w.block.number; is_member = member c k }

row_line : (c : Chain) (k : Text) (row : IdentityRow) → identity_left c k ≡ Some row → (w : Written IdentityLine) × (identity c k ≡ Some w) × (row.uid ≡ w.line.uid)
row_line c k row e = elim (identity c k) as (λ o. identity c k ≡ o → option_map identity_entry (option_map (row_in c k) o) ≡ Some row → (w : Written IdentityLine) × (identity c k ≡ Some w) × (row.uid ≡ w.line.uid)) [
  | None ↦ λ is from. cc
  | Some w ↦ λ is from. (w, is, ap (λ (o : Option IdentityRow). option_map_or (λ (r : IdentityRow). r.uid) o []) (sym from))
] refl e

line_row : (c : Chain) (k : Text) (w : Written IdentityLine) → identity c k ≡ Some w → (row : IdentityRow) × (identity_left c k ≡ Some row) × (row.uid ≡ w.line.uid)
line_row c k w e = rw e (_, refl, refl)

module _ (c : Chain) (sound : IsSound c) (uid : Text) where
  abbrev key_in : Option IdentityLine → Option Text
  key_in found = option_map (λ line. line.key) found

  abbrev has : IdentityLine → Bool
  has line = same_text uid line.uid

  from_key : (k : Text) → key_with uid (identities_left c) ≡ Some k → key_in (find has (identity_lines c)) ≡ Some k
  from_key k is =
      let h = key_with-has (identities_left c) uid k is in
      let w = row_line c k h.0 (sym (identities-at c k) ∙ h.1) in
      let there = last_line-in (λ b. b.identities) (λ line. same_text k line.key) c w.0 w.1 in
      let same : uid ≡ w.0.line.uid = sym h.2 ∙ w.2 in
      elim (find has (identity_lines c)) as (λ o. find has (identity_lines c) ≡ o → key_in o ≡ Some k) [
        | None ↦ λ none.
            absurd (true≢false (sym (in_any has (identity_lines c) w.0.line there.0 (subst (λ t. same_text uid t ≡ true) same (same_text_own uid))) ∙ sym (found_any has (identity_lines c)) ∙ ap is_some none))
        | Some l ↦ λ found.
            let f = find_in has (identity_lines c) l found in
            let one : l ≡ w.0.line = one_of uid_of (identity_lines c) l w.0.line (uids-once c sound) f.0 there.0 (sym (same_text_is uid l.uid f.1) ∙ same) in
            ap Some (ap (λ (line : IdentityLine). line.key) one ∙ sym (same_text_is k w.0.line.key there.1))
      ] refl

  from_none : key_with uid (identities_left c) ≡ None → key_in (find has (identity_lines c)) ≡ None
  from_none is =
      elim (find has (identity_lines c)) as (λ o. find has (identity_lines c) ≡ o → key_in o ≡ None) [
        | None ↦ λ _. refl
        | Some l ↦ λ found. absurd (unfound l (find_in has (identity_lines c) l found))
      ] refl
    where
      unfound : (l : IdentityLine) → IsIn l (identity_lines c) × (has l ≡ true) → ⊥
      unfound l f =
          let some : is_some (identity c l.key) ≡ true =
          last_line-any (λ b. b.identities) (λ line. same_text l.key line.key) c ∙ in_any (λ (line : IdentityLine). same_text l.key line.key) (identity_lines c) l f.0 (same_text_own l.key) in
          elim (identity c l.key) as (λ o. identity c l.key ≡ o → is_some o ≡ true → ⊥) [
            | None ↦ λ _ there. true≢false (sym there)
            | Some w ↦ λ at there.
                let line = last_line-in (λ b. b.identities) (λ line. same_text l.key line.key) c w at in
                let one : l ≡ w.line = one_of (λ (line : IdentityLine). line.key) (identity_lines c) l w.line (identity_lines-once c sound) f.0 line.0 (same_text_is l.key w.line.key line.1) in
                let row = line_row c l.key w at in
                key_with-none (identities_left c) uid is l.key row.0 (identities-at c l.key ∙ row.1) (row.2 ∙ ap uid_of (sym one) ∙ sym (same_text_is uid l.uid f.1))
          ] refl some

  pub key_found : key_with uid (identities_left c) ≡ key_in (find has (identity_lines c))
  key_found =
      elim (key_with uid (identities_left c)) as (λ o. key_with uid (identities_left c) ≡ o → o ≡ key_in (find has (identity_lines c))) [
        | None ↦ λ is. sym (from_none is)
        | Some k ↦ λ is. sym (from_key k is)
      ] refl
