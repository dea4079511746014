-- The first key whose row has a uid, where a row is put.
use Rattle.std.proofs.Common.{◌≡◌, Bool, true, false, cond, [], ◌∷◌, Option, Some, None, refl, sym, ap, subst, ◌∙◌, true≢false}
use Rattle.std.specs.Prelude.{T, find, option_map}
use Rattle.std.specs.Option.{IfSome}
use Rattle.std.specs.Ordering.{is_eq, eq_by_cmp}
use Rattle.std.specs.declared.cmp.Ordering.TheVariants.{Less, Equal, Greater}
use Rattle.std.specs.Cmp.{tied_itself}
use Rattle.std.specs.Cmp.Lexicographic.{nat_list_cmp_total, bytes_decides}
use Rattle.std.specs.FinMap.{entries, entries_sorted, get, insert, put, is_sorted, get-entries, get-insert, entries-insert}
use Rattle.std.specs.FinMap as map
use Rattle.std.specs.FinMap.Entries.{by_order}
use Rattle.std.proofs.lemmas.Option.{none-some, same_Some}
use Rattle.dubp_atoms.specs.Same.{Text, same_text}
use Rattle.dubp_iindex.specs.declared.row.IdentityRow.{IdentityRow}
use Rattle.dubp_iindex.specs.Rows.{Rows, texts, key_with, FitsRows}
use Rattle.dubp_iindex.proofs.Entries.{Entries, texts-apart, front, back, find_first, find_later}

module _ (test : IdentityRow → Bool) where
  abbrev first_key : Entries → Option Text
  first_key es = option_map (λ e. e.0) (find (λ (e : Text × IdentityRow). test e.1) es)

  -- a row passes, and no other key's row
  key_found : (es : Entries) → T (is_sorted texts es) → (key : Text) (row : IdentityRow) → map.find texts key es ≡ Some row → test row ≡ true
      → ((k : Text) (other : IdentityRow) → map.find texts k es ≡ Some other → test other ≡ true → k ≡ key) → first_key es ≡ Some key
  key_found [] sorted key row there passes only = absurd (none-some row there)
  key_found (e ∷ es) sorted key row there passes only =
      elim (test e.1) as (λ b. test e.1 ≡ b → option_map (λ (x : Text × IdentityRow). x.0) (cond b (Some e) (find (λ (x : Text × IdentityRow). test x.1) es)) ≡ Some key) [
        | true ↦ λ is. ap Some (only e.0 e.1 (find_first e es) is)
        | false ↦ λ fails. key_found es (back _ _ sorted) key row
            (elim (eq_by_cmp texts key e.0) as (λ b. cond b (Some e.1) (map.find texts key es) ≡ Some row → map.find texts key es ≡ Some row) [
              | true ↦ λ is. absurd (true≢false (sym passes ∙ ap test (sym (same_Some e.1 row is)) ∙ fails))
              | false ↦ λ is. is
            ] there)
            passes (λ k other found p. only k other (find_later e es (front _ _ sorted) k other found) p)
      ] refl

  -- neither the new row passes nor what stood at its key
  key_other : (key : Text) (row : IdentityRow) → test row ≡ false → (es : Entries) → ((old : IdentityRow) → map.find texts key es ≡ Some old → test old ≡ false)
      → first_key (put texts key row es) ≡ first_key es
  key_other key row fails [] was = ap (λ b. option_map (λ (x : Text × IdentityRow). x.0) (cond b (Some (key, row)) None)) fails
  key_other key row fails (e ∷ es) was =
      elim (texts key e.0) as (λ r. texts key e.0 ≡ r → first_key (by_order r ((key, row) ∷ e ∷ es) ((e.0, row) ∷ es) (e ∷ put texts key row es)) ≡ first_key (e ∷ es)) [
        | Less ↦ λ _. ap (λ b. option_map (λ (x : Text × IdentityRow). x.0) (cond b (Some (key, row)) (find (λ (x : Text × IdentityRow). test x.1) (e ∷ es)))) fails
        | Equal ↦ λ is.
            let old : test e.1 ≡ false = was e.1 (ap (λ r. cond (is_eq r) (Some e.1) (map.find texts key es)) is) in
            ap (λ b. option_map (λ (x : Text × IdentityRow). x.0) (cond b (Some (e.0, row)) (find (λ (x : Text × IdentityRow). test x.1) es))) (fails ∙ sym old)
            ∙ elim (test e.1) as (λ b. test e.1 ≡ b → option_map (λ (x : Text × IdentityRow). x.0) (cond b (Some (e.0, row)) (find (λ (x : Text × IdentityRow). test x.1) es)) ≡ option_map (λ (x : Text × IdentityRow). x.0) (cond b (Some e) (find (λ (x : Text × IdentityRow). test x.1) es))) [
              | true ↦ λ p. absurd (true≢false (sym p ∙ old))
              | false ↦ λ _. refl
            ] refl
        | Greater ↦ λ is.
            let later = key_other key row fails es (λ old found. was old (ap (λ r. cond (is_eq r) (Some e.1) (map.find texts key es)) is ∙ found)) in
            elim (test e.1) as (λ b. option_map (λ (x : Text × IdentityRow). x.0) (cond b (Some e) (find (λ (x : Text × IdentityRow). test x.1) (put texts key row es))) ≡ option_map (λ (x : Text × IdentityRow). x.0) (cond b (Some e) (find (λ (x : Text × IdentityRow). test x.1) es))) [
              | true ↦ refl
              | false ↦ later
            ]
      ] refl

-- ---- the rows

own_uid : (o : Option IdentityRow) (row old : IdentityRow) → o ≡ Some old → IfSome o (λ was. was.uid ≡ row.uid) → old.uid ≡ row.uid
own_uid o row old is own = subst (λ (p : Option IdentityRow). IfSome p (λ was. was.uid ≡ row.uid)) is own

module _ (rows : Rows) (key : Text) (row : IdentityRow) (fits : FitsRows rows key row) where
  found_after : (k : Text) (other : IdentityRow) → get (insert rows key row) k ≡ Some other → other.uid ≡ row.uid → k ≡ key
  found_after k other found same =
      elim (texts k key) as (λ r. texts k key ≡ r → cond (is_eq r) (Some row) (get rows k) ≡ Some other → k ≡ key) [
        | Less ↦ λ _ there. fits.others k other there same
        | Equal ↦ λ e _. texts-apart k key e
        | Greater ↦ λ _ there. fits.others k other there same
      ] refl (sym (get-insert nat_list_cmp_total rows key row k) ∙ found)

  own_row : get (insert rows key row) key ≡ Some row
  own_row = get-insert nat_list_cmp_total rows key row key ∙ ap (λ r. cond (is_eq r) (Some row) (get rows key)) (tied_itself nat_list_cmp_total key)

  pub key_after : (uid : Text) → key_with uid (insert rows key row) ≡ cond (same_text uid row.uid) (Some key) (key_with uid rows)
  key_after uid =
      let test = λ (r : IdentityRow). same_text uid r.uid in
      elim (same_text uid row.uid) as (λ b. same_text uid row.uid ≡ b → key_with uid (insert rows key row) ≡ cond b (Some key) (key_with uid rows)) [
        | true ↦ λ is.
            let uids : uid ≡ row.uid = (bytes_decides uid row.uid).0 is in
            key_found test (entries (insert rows key row)) (entries_sorted (insert rows key row)) key row (sym (get-entries (insert rows key row) key) ∙ own_row) is
            (λ k other found same. found_after k other (get-entries (insert rows key row) k ∙ found) (sym ((bytes_decides uid other.uid).0 same) ∙ uids))
        | false ↦ λ fails.
            ap (first_key test) (entries-insert nat_list_cmp_total rows key row)
            ∙ key_other test key row fails (entries rows) (λ old found.
            ap (same_text uid) (own_uid (get rows key) row old (get-entries rows key ∙ found) fits.own) ∙ fails)
      ] refl

  pub key_stays : (old : IdentityRow) → get rows key ≡ Some old → key_with row.uid rows ≡ Some key
  key_stays old there =
      key_found (λ (r : IdentityRow). same_text row.uid r.uid) (entries rows) (entries_sorted rows) key old (sym (get-entries rows key) ∙ there)
      ((bytes_decides row.uid old.uid).1 (sym (own_uid (get rows key) row old there fits.own)))
      (λ k other found same. fits.others k other (get-entries rows k ∙ found) (sym ((bytes_decides row.uid other.uid).0 same)))

-- ---- what the key of a uid says of the rows, for crates above

module _ (test : IdentityRow → Bool) where
  first_has : (es : Entries) → T (is_sorted texts es) → (k : Text) → first_key test es ≡ Some k → (row : IdentityRow) × (map.find texts k es ≡ Some row) × (test row ≡ true)
  first_has [] sorted k is = absurd (none-some k is)
  first_has (e ∷ es) sorted k is =
      elim (test e.1) as (λ b. test e.1 ≡ b → option_map (λ (x : Text × IdentityRow). x.0) (cond b (Some e) (find (λ (x : Text × IdentityRow). test x.1) es)) ≡ Some k → (row : IdentityRow) × (map.find texts k (e ∷ es) ≡ Some row) × (test row ≡ true)) [
        | true ↦ λ passes here. (e.1, ap (λ q. map.find texts q (e ∷ es)) (sym (same_Some e.0 k here)) ∙ find_first e es, passes)
        | false ↦ λ _ there. let h = first_has es (back _ _ sorted) k there in (h.0, find_later e es (front _ _ sorted) k h.0 h.1, h.2)
      ] refl is

  none_has : (es : Entries) → first_key test es ≡ None → (k : Text) (row : IdentityRow) → map.find texts k es ≡ Some row → test row ≡ true → ⊥
  none_has [] is k row there passes = none-some row there
  none_has (e ∷ es) is k row there passes =
      elim (test e.1) as (λ b. test e.1 ≡ b → option_map (λ (x : Text × IdentityRow). x.0) (cond b (Some e) (find (λ (x : Text × IdentityRow). test x.1) es)) ≡ None → ⊥) [
        | true ↦ λ _ here. none-some e.0 (sym here)
        | false ↦ λ fails later.
            elim (eq_by_cmp texts k e.0) as (λ b. cond b (Some e.1) (map.find texts k es) ≡ Some row → ⊥) [
              | true ↦ λ own. true≢false (sym passes ∙ ap test (sym (same_Some e.1 row own)) ∙ fails)
              | false ↦ λ behind. none_has es later k row behind passes
            ] there
      ] refl is

-- the key has a row of the uid
pub key_with-has : (rows : Rows) (uid k : Text) → key_with uid rows ≡ Some k → (row : IdentityRow) × (get rows k ≡ Some row) × (row.uid ≡ uid)
key_with-has rows uid k is =
    let h = first_has (λ (r : IdentityRow). same_text uid r.uid) (entries rows) (entries_sorted rows) k is in
    (h.0, get-entries rows k ∙ h.1, sym ((bytes_decides uid h.0.uid).0 h.2))

-- no row has the uid
pub key_with-none : (rows : Rows) (uid : Text) → key_with uid rows ≡ None → (k : Text) (row : IdentityRow) → get rows k ≡ Some row → row.uid ≡ uid → ⊥
key_with-none rows uid is k row there same =
    none_has (λ (r : IdentityRow). same_text uid r.uid) (entries rows) is k row (sym (get-entries rows k) ∙ there) ((bytes_decides uid row.uid).1 (sym same))
