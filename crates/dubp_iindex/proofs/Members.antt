-- The members as a list, for crates above: in order, each once, and just the keys that are members.
use Rattle.std.proofs.Common.{◌≡◌, zero, suc, ◌⊎◌, inl, inr, Bool, true, false, cond, List, [], ◌∷◌, Option, Some, None, Contains, map, filter, refl, sym, ap, subst, ◌∙◌, true≢false, arith}
use Rattle.std.specs.Prelude.{T}
use Rattle.std.specs.List.{AllByRecursion}
use Rattle.std.specs.List.Sorted.{IsStrictlySortedBy}
use Rattle.std.specs.Option.{option_map_or}
use Rattle.std.specs.Ordering.{eq_by_cmp}
use Rattle.std.specs.declared.cmp.Ordering.TheVariants.{Less}
use Rattle.std.specs.FinMap.{entries, entries_sorted, get, get-entries, is_sorted}
use Rattle.std.specs.FinMap as finite
use Rattle.std.specs.FinMap.Entries.{below_all}
use Rattle.std.proofs.lemmas.Option.{none-some, same_Some}
use Rattle.dubp_atoms.specs.Same.{Text}
use Rattle.dubp_iindex.specs.declared.row.IdentityRow.{IdentityRow}
use Rattle.dubp_iindex.specs.Rows.{Rows, texts, members, is_member_at}
use Rattle.dubp_iindex.proofs.Entries.{Entries, texts-apart, front, back, is_less, is_equal, find_first, find_later}

abbrev keys : Entries → List Text
keys es = map (λ (e : Text × IdentityRow). e.0) (filter (λ (e : Text × IdentityRow). e.1.member) es)

-- the keys with one more entry before them
abbrev keys_with : Bool → Text × IdentityRow → Entries → List Text
keys_with b e es = map (λ (x : Text × IdentityRow). x.0) (cond b (e ∷ filter (λ (x : Text × IdentityRow). x.1.member) es) (filter (λ (x : Text × IdentityRow). x.1.member) es))

-- ---- in order

below_keys : (x : Text) (es : Entries) → T (below_all texts x es) → AllByRecursion (λ y. texts x y ≡ Less) (keys es)
below_keys x [] below = tt
below_keys x (e ∷ es) below =
    let rest = below_keys x es (back _ _ below) in
    elim e.1.member as (λ b. AllByRecursion (λ y. texts x y ≡ Less) (keys_with b e es)) [ true ↦ (is_less (texts x e.0) (front _ _ below), rest) | false ↦ rest ]

keys_in_order : (es : Entries) → T (is_sorted texts es) → IsStrictlySortedBy texts (keys es)
unfolding IsStrictlySortedBy
keys_in_order [] sorted = tt
keys_in_order (e ∷ es) sorted =
    let rest = keys_in_order es (back _ _ sorted) in
    elim e.1.member as (λ b. IsStrictlySortedBy texts (keys_with b e es)) [ true ↦ (below_keys e.0 es (front _ _ sorted), rest) | false ↦ rest ]

pub members-in_order : (rows : Rows) → IsStrictlySortedBy texts (members rows)
members-in_order rows = keys_in_order (entries rows) (entries_sorted rows)

-- ---- just the members

pub contains_cases : {X : Type 0} (x a : X) (xs : List X) → Contains (x ∷ xs) a → (x ≡ a) ⊎ Contains xs a
contains_cases x a xs (zero, within, e) = inl e
contains_cases x a xs (suc k, within, e) = inr (k, omega arith, e)

pub contains_there : {X : Type 0} (x a : X) (xs : List X) → Contains xs a → Contains (x ∷ xs) a
contains_there x a xs (k, within, e) = (suc k, omega arith, e)

pub contains_none : {X : Type 0} (a : X) → Contains [] a → ⊥
contains_none a (k, within, e) = absurd (omega arith)

listed : (es : Entries) (k : Text) (row : IdentityRow) → finite.find texts k es ≡ Some row → row.member ≡ true → Contains (keys es) k
listed [] k row there is = absurd (none-some row there)
listed (e ∷ es) k row there is =
    elim (eq_by_cmp texts k e.0) as (λ b. eq_by_cmp texts k e.0 ≡ b → cond b (Some e.1) (finite.find texts k es) ≡ Some row → Contains (keys (e ∷ es)) k) [
      | true ↦ λ same own.
          let member : e.1.member ≡ true = ap (λ (r : IdentityRow). r.member) (same_Some e.1 row own) ∙ is in
          subst (λ b. Contains (keys_with b e es) k) (sym member) (0, omega arith, sym (texts-apart k e.0 (is_equal (texts k e.0) same)))
      | false ↦ λ _ behind.
          let rest = listed es k row behind is in
          elim e.1.member as (λ b. Contains (keys_with b e es) k) [ true ↦ contains_there e.0 k (keys es) rest | false ↦ rest ]
    ] refl there

found_behind : (e : Text × IdentityRow) (es : Entries) → T (is_sorted texts (e ∷ es)) → (k : Text) (row : IdentityRow) → finite.find texts k es ≡ Some row → row.member ≡ true
    → (r : IdentityRow) × (finite.find texts k (e ∷ es) ≡ Some r) × (r.member ≡ true)
found_behind e es sorted k row there is = (row, find_later e es (front _ _ sorted) k row there, is)

is_row_of : (es : Entries) → T (is_sorted texts es) → (k : Text) → Contains (keys es) k → (row : IdentityRow) × (finite.find texts k es ≡ Some row) × (row.member ≡ true)
is_row_of [] sorted k there = absurd (contains_none k there)
is_row_of (e ∷ es) sorted k there =
    let later = λ (behind : Contains (keys es) k). let h = is_row_of es (back _ _ sorted) k behind in found_behind e es sorted k h.0 h.1 h.2 in
    elim e.1.member as (λ b. e.1.member ≡ b → Contains (keys_with b e es) k → (row : IdentityRow) × (finite.find texts k (e ∷ es) ≡ Some row) × (row.member ≡ true)) [
      | true ↦ λ is here. elim (contains_cases e.0 k (keys es) here) [
        | inl same ↦ (e.1, ap (λ q. finite.find texts q (e ∷ es)) (sym same) ∙ find_first e es, is)
        | inr behind ↦ later behind
      ]
      | false ↦ λ _ behind. later behind
    ] refl there

is_member_row : (o : Option IdentityRow) → option_map_or (λ (row : IdentityRow). row.member) o false ≡ true → (row : IdentityRow) × (o ≡ Some row) × (row.member ≡ true)
is_member_row None is = absurd (true≢false (sym is))
is_member_row (Some row) is = (row, refl, is)

pub member-listed : (rows : Rows) (k : Text) → is_member_at rows k ≡ true → Contains (members rows) k
member-listed rows k is = let h = is_member_row (get rows k) is in listed (entries rows) k h.0 (sym (get-entries rows k) ∙ h.1) h.2

pub listed-member : (rows : Rows) (k : Text) → Contains (members rows) k → is_member_at rows k ≡ true
listed-member rows k there =
    let h = is_row_of (entries rows) (entries_sorted rows) k there in
    ap (λ o. option_map_or (λ (row : IdentityRow). row.member) o false) (get-entries rows k ∙ h.1) ∙ h.2
