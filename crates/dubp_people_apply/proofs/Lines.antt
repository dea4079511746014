-- The lines of Identities of a block are new on a sound chain, and no two of its keys have one uid.
use Rattle.std.proofs.Common.{◌≡◌, ℕ, Bool, true, false, cond, not, List, [], ◌∷◌, Option, None, Some, refl, sym, ap, subst, ◌∙◌, inl, inr, true≢false}
use Rattle.std.specs.Prelude.{map, option_map, is_some, IsTrue}
use Rattle.std.specs.Option.{option_map_or}
use Rattle.std.specs.List.{list_any}
use Rattle.std.specs.FinMap.{get}
use Rattle.std.proofs.lemmas.Option.{none-some}
use Rattle.dubp_atoms.specs.Same.{Text, same_text}
use Rattle.dubp_rules.specs.declared.rule.Rule.TheVariants.{L08, L09, G73, G74}
use Rattle.dubp_block.specs.declared.block.Block.{Block}
use Rattle.dubp_block.specs.declared.block.IdentityLine.{IdentityLine}
use Rattle.dubp_chain.specs.Words.{names}
use Rattle.dubp_chain.specs.Chains.{Chain}
use Rattle.dubp_chain.specs.Members.{member}
use Rattle.dubp_chain.specs.People.{Written, identity, identity_lines}
use Rattle.dubp_left.specs.OfValidity.{IsSound}
use Rattle.dubp_lists.proofs.Elements.{IsIn, in_all, in_any, list_any-map, is_false}
use Rattle.dubp_lists.proofs.InOrder.{same_text_is, same_text_own}
use Rattle.dubp_lists.proofs.LastLines.{last_line-any}
use Rattle.dubp_lists.proofs.Once.{Once, once_head, once_tail, each_once-map}
use Rattle.dubp_iindex.specs.Rows.{Rows}
use Rattle.dubp_iindex.specs.declared.row.IdentityRow.{IdentityRow}
use Rattle.dubp_chain.specs.Tables as chain
use Rattle.dubp_left.specs.Left.{identity_entry, identities_left}
use Rattle.dubp_left.proofs.Left.{identities-at}
use Rattle.dubp_left.proofs.Lines.{last_line-in}
use Rattle.dubp_people_apply.specs.Writing.{row_of, created, UidsApart, IsNewLine, AreNewLines}
use Rattle.dubp_people_apply.proofs.Changed.{get-put, rows-go_on, all_created_apart, joined_apart, excluded_apart}

not_true : (a : Bool) → IsTrue (not a) → a ≡ false
not_true true e = sym e
not_true false e = refl

abbrev OnceByKey : List IdentityLine → Type 0
OnceByKey xs = Once same_text same_text_is same_text_own (λ (line : IdentityLine). line.key) xs

abbrev OnceByUid : List IdentityLine → Type 0
OnceByUid xs = Once same_text same_text_is same_text_own (λ (line : IdentityLine). line.uid) xs

same_turned : (a b : Text) → same_text a b ≡ false → a ≡ b → ⊥
same_turned a b other same = true≢false (sym (same_text_own a) ∙ ap (same_text a) same ∙ other)

-- a line that none of the rows has is new still behind a line of another key and uid
new_still : (n : ℕ) (rows : Rows) (x line : IdentityLine) → same_text x.key line.key ≡ false → same_text x.uid line.uid ≡ false → IsNewLine rows line → IsNewLine (created n rows x) line
new_still n rows x line key uid new = record {
  key =
      get-put rows x.key (row_of n x) line.key
      ∙ ap (λ b. cond b (Some (row_of n x)) (get rows line.key)) (is_false (same_text line.key x.key) (λ same. same_turned x.key line.key key (sym (same_text_is line.key x.key same))))
      ∙ new.key;
  uid = λ k row e same.
      elim (same_text k x.key) as (λ b. cond b (Some (row_of n x)) (get rows k) ≡ Some row → ⊥) [
        | true ↦ λ f. same_turned x.uid line.uid uid (ap (λ o. option_map_or (λ (r : IdentityRow). r.uid) o x.uid) f ∙ same)
        | false ↦ λ f. new.uid k row f same
      ] (sym (get-put rows x.key (row_of n x) k) ∙ e);
}

lines_new : (n : ℕ) (xs : List IdentityLine) (rows : Rows) → OnceByKey xs → OnceByUid xs → ((line : IdentityLine) → IsIn line xs → IsNewLine rows line) → AreNewLines n rows xs
lines_new n [] rows keys uids new = tt
lines_new n (x ∷ xs) rows keys uids new = (
  new x (inl refl),
  lines_new n xs (created n rows x) (once_tail same_text same_text_is same_text_own (λ (line : IdentityLine). line.key) x xs keys) (once_tail same_text same_text_is same_text_own (λ (line : IdentityLine). line.uid) x xs uids) (λ line there.
      new_still n rows x line
      (apart_of (λ (line : IdentityLine). line.key) (once_head same_text same_text_is same_text_own (λ (line : IdentityLine). line.key) x xs keys) line there)
      (apart_of (λ (line : IdentityLine). line.uid) (once_head same_text same_text_is same_text_own (λ (line : IdentityLine). line.uid) x xs uids) line there)
      (new line (inr there))),
)
  where
    apart_of : (name : IdentityLine → Text) → list_any (λ y. same_text (name x) (name y)) xs ≡ false → (line : IdentityLine) → IsIn line xs → same_text (name x) (name line) ≡ false
    apart_of name none line there = is_false (same_text (name x) (name line)) (λ same. true≢false (sym (in_any (λ y. same_text (name x) (name y)) xs line there same) ∙ none))

-- ---- on a chain

module _ (c : Chain) where
  abbrev chain_row : Text → Written IdentityLine → chain.IdentityRow
  chain_row k w = record { uid = w.line.uid; stamp = w.line.stamp; sig = w.line.sig; written = w.block.number; is_member = member c k }

  -- a row of a uid is that of a line with it
  uid_named : (k : Text) (row : IdentityRow) → get (identities_left c) k ≡ Some row → names (map (λ line. line.uid) (identity_lines c)) row.uid ≡ true
  uid_named k row e = told (identity c k) refl (sym (identities-at c k) ∙ e)
    where
      told : (o : Option (Written IdentityLine)) → identity c k ≡ o
          → option_map identity_entry (option_map (chain_row k) o) ≡ Some row
          → names (map (λ line. line.uid) (identity_lines c)) row.uid ≡ true
      told None at is = cc
      told (Some w) at is =
          let there = last_line-in (λ b. b.identities) (λ line. same_text k line.key) c w at in
          let uid : w.line.uid ≡ row.uid = ap (λ o. option_map_or (λ (r : IdentityRow). r.uid) o w.line.uid) is in
          subst (λ u. names (map (λ line. line.uid) (identity_lines c)) u ≡ true) uid
          (list_any-map (same_text w.line.uid) (λ (line : IdentityLine). line.uid) (identity_lines c) ∙ in_any (λ (line : IdentityLine). same_text w.line.uid line.uid) (identity_lines c) w.line there.0 (same_text_own w.line.uid))

  -- a key that no line has, has no row
  key_named : (k : Text) → names (map (λ line. line.key) (identity_lines c)) k ≡ false → get (identities_left c) k ≡ None
  key_named k none = identities-at c k ∙ told (identity c k) (last_line-any (λ b. b.identities) (λ line. same_text k line.key) c ∙ sym (list_any-map (same_text k) (λ (line : IdentityLine). line.key) (identity_lines c)) ∙ none)
    where
      told : (o : Option (Written IdentityLine)) → is_some o ≡ false
          → option_map identity_entry (option_map (chain_row k) o) ≡ None
      told None e = refl
      told (Some w) e = absurd (true≢false e)

  pub lines-new : (b : Block) → IsSound (b ∷ c) → AreNewLines b.number (identities_left c) b.identities
  lines-new b sound =
      lines_new b.number b.identities (identities_left c)
      (sym (each_once-map same_text (λ (line : IdentityLine). line.key) b.identities) ∙ sound.0 L09 refl)
      (sym (each_once-map same_text (λ (line : IdentityLine). line.uid) b.identities) ∙ sound.0 L08 refl)
      (λ line there. record {
        key = key_named line.key (not_true (names (map (λ line. line.key) (identity_lines c)) line.key) (in_all (λ line. IsTrue (not (names (map (λ old. old.key) (identity_lines c)) line.key))) b.identities (sound.0 G74 refl) line there));
        uid = λ k row e same.
            true≢false (sym (subst (λ u. names (map (λ line. line.uid) (identity_lines c)) u ≡ true) same (uid_named k row e)) ∙ not_true (names (map (λ line. line.uid) (identity_lines c)) line.uid) (in_all (λ line. IsTrue (not (names (map (λ old. old.uid) (identity_lines c)) line.uid))) b.identities (sound.0 G73 refl) line there));
      })

pub uids-apart : (c : Chain) → IsSound c → UidsApart (identities_left c)
uids-apart [] sound = λ k k' row row' e e' same. absurd (none-some row (sym (identities-at [] k) ∙ e))
uids-apart (b ∷ c) sound =
    subst UidsApart (rows-go_on c b sound)
    (excluded_apart b.excluded _ (joined_apart b.joiners _ (all_created_apart b.number b.identities (identities_left c) (lines-new c b sound) (uids-apart c sound.1))))
