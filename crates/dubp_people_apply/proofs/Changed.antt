-- What stands at each key behind the lines of a block, and that no two keys get one uid.
use Rattle.std.proofs.Common.{◌≡◌, ℕ, Bool, true, false, cond, List, [], ◌∷◌, Option, None, Some, refl, sym, ap, subst, ◌∙◌, fold}
use Rattle.std.specs.Prelude.{option_map, if◌then◌else◌}
use Rattle.std.specs.Option.{option_map_or, IfSome}
use Rattle.std.specs.Cmp.Lexicographic.{texts_ties}
use Rattle.std.specs.FinMap.{get, insert, get-insert, same_map}
use Rattle.std.proofs.lemmas.Cmp.{nat_list_cmp_total}
use Rattle.dubp_atoms.specs.Same.{Text, same_text}
use Rattle.dubp_block.specs.declared.block.Block.{Block}
use Rattle.dubp_block.specs.declared.block.IdentityLine.{IdentityLine}
use Rattle.dubp_block.specs.declared.block.MemberLine.{MemberLine}
use Rattle.dubp_chain.specs.Chains.{Chain}
use Rattle.dubp_chain.specs.Tables as chain
use Rattle.dubp_chain.specs.Tables.{identity_row}
use Rattle.dubp_left.specs.OfValidity.{IsSound}
use Rattle.dubp_lists.proofs.InOrder.{same_text_is}
use Rattle.dubp_left.specs.OfSteps.after_lines as lines
use Rattle.dubp_left.specs.OfSteps.{create_line, join_line, exclude_line, identity_after_lines}
use Rattle.dubp_left.proofs.OfSteps.{identity_step}
use Rattle.dubp_iindex.specs.Rows.{Rows, FitsRows}
use Rattle.dubp_iindex.specs.declared.row.IdentityRow.{IdentityRow}
use Rattle.dubp_left.specs.Left.{identity_entry, identities_left}
use Rattle.dubp_left.proofs.Left.{identities-at, texts-apart}
use Rattle.dubp_people_apply.specs.Writing.{row_of, created, row_with, with_member, joined, after_identities, UidsApart, IsNewLine, AreNewLines}

-- ---- at each key

pub get-put : (rows : Rows) (key : Text) (row : IdentityRow) (k : Text) → get (insert rows key row) k ≡ cond (same_text k key) (Some row) (get rows k)
get-put rows key row k = get-insert nat_list_cmp_total rows key row k ∙ ap (λ b. cond b (Some row) (get rows k)) (sym (texts_ties k key))

with_found : (is : Bool) (rows : Rows) (key k : Text) (o : Option IdentityRow) → get rows key ≡ o
    → get (option_map_or (λ row. insert rows key (row_with is row)) o rows) k ≡ cond (same_text k key) (option_map (row_with is) (get rows k)) (get rows k)
with_found is rows key k None e =
    elim (same_text k key) as (λ b. same_text k key ≡ b → get rows k ≡ cond b (option_map (row_with is) (get rows k)) (get rows k)) [
      | true ↦ λ same. let none : get rows k ≡ None = ap (get rows) (same_text_is k key same) ∙ e in rw none refl
      | false ↦ λ other. refl
    ] refl
with_found is rows key k (Some row) e =
    get-put rows key (row_with is row) k
    ∙ elim (same_text k key) as (λ b. same_text k key ≡ b → cond b (Some (row_with is row)) (get rows k) ≡ cond b (option_map (row_with is) (get rows k)) (get rows k)) [
      | true ↦ λ same. let some : get rows k ≡ Some row = ap (get rows) (same_text_is k key same) ∙ e in rw some refl
      | false ↦ λ other. refl
    ] refl

pub get-with : (is : Bool) (rows : Rows) (key k : Text) → get (with_member is rows key) k ≡ cond (same_text k key) (option_map (row_with is) (get rows k)) (get rows k)
get-with is rows key k = with_found is rows key k (get rows key) refl

module _ (k : Text) where
  created-at : (n : ℕ) (xs : List IdentityLine) (rows : Rows) (o : Option chain.IdentityRow) → get rows k ≡ option_map identity_entry o
      → get (fold (created n) rows xs) k ≡ option_map identity_entry (fold (create_line n k) o xs)
  created-at n [] rows o e = e
  created-at n (line ∷ xs) rows o e =
      created-at n xs (created n rows line) (create_line n k o line) (
      get-put rows line.key (row_of n line) k
      ∙ elim (same_text k line.key) as (λ b. cond b (Some (row_of n line)) (get rows k) ≡ option_map identity_entry (if b then Some (lines.created n line) else o)) [
        | true ↦ refl
        | false ↦ e
      ]
      )

  member_told : (is : Bool) (o : Option chain.IdentityRow) → option_map (row_with is) (option_map identity_entry o) ≡ option_map identity_entry (option_map (lines.set_member is) o)
  member_told is None = refl
  member_told is (Some row) = refl

  with-at : (is : Bool) (rows : Rows) (key : Text) (o : Option chain.IdentityRow) → get rows k ≡ option_map identity_entry o
      → get (with_member is rows key) k ≡ option_map identity_entry (if same_text k key then option_map (lines.set_member is) o else o)
  with-at is rows key o e =
      get-with is rows key k
      ∙ elim (same_text k key) as (λ b. cond b (option_map (row_with is) (get rows k)) (get rows k) ≡ option_map identity_entry (if b then option_map (lines.set_member is) o else o)) [
        | true ↦ ap (option_map (row_with is)) e ∙ member_told is o
        | false ↦ e
      ]

  joined-at : (xs : List MemberLine) (rows : Rows) (o : Option chain.IdentityRow) → get rows k ≡ option_map identity_entry o
      → get (fold joined rows xs) k ≡ option_map identity_entry (fold (join_line k) o xs)
  joined-at [] rows o e = e
  joined-at (line ∷ xs) rows o e = joined-at xs (joined rows line) (join_line k o line) (with-at true rows line.key o e)

  excluded-at : (xs : List Text) (rows : Rows) (o : Option chain.IdentityRow) → get rows k ≡ option_map identity_entry o
      → get (fold (with_member false) rows xs) k ≡ option_map identity_entry (fold (exclude_line k) o xs)
  excluded-at [] rows o e = e
  excluded-at (key ∷ xs) rows o e = excluded-at xs (with_member false rows key) (exclude_line k o key) (with-at false rows key o e)

  pub after-at : (b : Block) (rows : Rows) (o : Option chain.IdentityRow) → get rows k ≡ option_map identity_entry o
      → get (after_identities b rows) k ≡ option_map identity_entry (identity_after_lines b k o)
  after-at b rows o e =
      excluded-at b.excluded _ _ (joined-at b.joiners _ _ (created-at b.number b.identities rows o e))

-- the rows of a chain, and what the next block makes of them
pub rows-go_on : (c : Chain) (b : Block) → IsSound (b ∷ c) → after_identities b (identities_left c) ≡ identities_left (b ∷ c)
rows-go_on c b sound =
    same_map nat_list_cmp_total texts-apart _ _ (λ k.
    after-at k b (identities_left c) (identity_row c k) (identities-at c k)
    ∙ ap (option_map identity_entry) (sym (identity_step c b sound k))
    ∙ sym (identities-at (b ∷ c) k))

-- ---- no two keys of one uid

created_apart : (n : ℕ) (rows : Rows) (line : IdentityLine) → IsNewLine rows line → UidsApart rows → UidsApart (created n rows line)
created_apart n rows line new apart k k' row row' e e' same =
    elim (same_text k line.key) as (λ b. same_text k line.key ≡ b → cond b (Some (row_of n line)) (get rows k) ≡ Some row → k ≡ k') [
      | true ↦ λ is f. elim (same_text k' line.key) as (λ b. same_text k' line.key ≡ b → cond b (Some (row_of n line)) (get rows k') ≡ Some row' → k ≡ k') [
        | true ↦ λ is' f'. same_text_is k line.key is ∙ sym (same_text_is k' line.key is')
        | false ↦ λ is' f'. absurd (new.uid k' row' f' (sym same ∙ sym (ap (λ o. option_map_or (λ (r : IdentityRow). r.uid) o line.uid) f)))
      ] refl (sym (get-put rows line.key (row_of n line) k') ∙ e')
      | false ↦ λ is f. elim (same_text k' line.key) as (λ b. same_text k' line.key ≡ b → cond b (Some (row_of n line)) (get rows k') ≡ Some row' → k ≡ k') [
        | true ↦ λ is' f'. absurd (new.uid k row f (same ∙ sym (ap (λ o. option_map_or (λ (r : IdentityRow). r.uid) o line.uid) f')))
        | false ↦ λ is' f'. apart k k' row row' f f' same
      ] refl (sym (get-put rows line.key (row_of n line) k') ∙ e')
    ] refl (sym (get-put rows line.key (row_of n line) k) ∙ e)

pub all_created_apart : (n : ℕ) (xs : List IdentityLine) (rows : Rows) → AreNewLines n rows xs → UidsApart rows → UidsApart (fold (created n) rows xs)
all_created_apart n [] rows new apart = apart
all_created_apart n (line ∷ xs) rows new apart = all_created_apart n xs (created n rows line) new.1 (created_apart n rows line new.0 apart)

-- the uid at a key stays where a member comes or goes
with_uid : (is : Bool) (rows : Rows) (key k : Text) (row : IdentityRow) → get (with_member is rows key) k ≡ Some row → (old : IdentityRow) × (get rows k ≡ Some old) × (old.uid ≡ row.uid)
with_uid is rows key k row e =
    elim (same_text k key) as (λ b. cond b (option_map (row_with is) (get rows k)) (get rows k) ≡ Some row → (old : IdentityRow) × (get rows k ≡ Some old) × (old.uid ≡ row.uid)) [
      | true ↦ λ f. told (get rows k) f
      | false ↦ λ f. (row, f, refl)
    ] (sym (get-with is rows key k) ∙ e)
  where
    told : (o : Option IdentityRow) → option_map (row_with is) o ≡ Some row → (old : IdentityRow) × (o ≡ Some old) × (old.uid ≡ row.uid)
    told None f = cc
    told (Some old) f = (old, refl, ap (λ o. option_map_or (λ (r : IdentityRow). r.uid) o old.uid) f)

pub with_apart : (is : Bool) (rows : Rows) (key : Text) → UidsApart rows → UidsApart (with_member is rows key)
with_apart is rows key apart k k' row row' e e' same =
    let old = with_uid is rows key k row e in
    let old' = with_uid is rows key k' row' e' in
    apart k k' old.0 old'.0 old.1 old'.1 (old.2 ∙ same ∙ sym old'.2)

pub joined_apart : (xs : List MemberLine) (rows : Rows) → UidsApart rows → UidsApart (fold joined rows xs)
joined_apart [] rows apart = apart
joined_apart (line ∷ xs) rows apart = joined_apart xs (joined rows line) (with_apart true rows line.key apart)

pub excluded_apart : (xs : List Text) (rows : Rows) → UidsApart rows → UidsApart (fold (with_member false) rows xs)
excluded_apart [] rows apart = apart
excluded_apart (key ∷ xs) rows apart = excluded_apart xs (with_member false rows key) (with_apart false rows key apart)

-- ---- what the index asks of a row that is put

pub fits_new : (n : ℕ) (rows : Rows) (line : IdentityLine) → IsNewLine rows line → FitsRows rows line.key (row_of n line)
fits_new n rows line new = record {
  others = λ k other e same. absurd (new.uid k other e same);
  own = subst (λ o. IfSome o (λ (old : IdentityRow). old.uid ≡ line.uid)) (sym new.key) tt;
}

pub fits_member : (is : Bool) (rows : Rows) (key : Text) (row : IdentityRow) → UidsApart rows → get rows key ≡ Some row → FitsRows rows key (row_with is row)
fits_member is rows key row apart found = record {
  others = λ k other e same. apart k key other row e found same;
  own = subst (λ o. IfSome o (λ (old : IdentityRow). old.uid ≡ row.uid)) (sym found) refl;
}
