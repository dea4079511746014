-- When two sources are one, and rows whose sources stand once each.
use Rattle.std.proofs.Common.{◌≡◌, true, false, ◌==◌, List, [], ◌∷◌, refl, sym, ap, subst, ◌∙◌, true≢false, inl, inr}
use Rattle.std.specs.Option.{IsSome}
use Rattle.std.specs.Prelude.{find, unwrap_or, cond, Some, None, option_map, ◌||◌}
use Rattle.std.specs.List.{list_any}
use Rattle.std.specs.Cmp.Lexicographic.{bytes_decides}
use Rattle.std.proofs.lemmas.Bool.Decides.{Decides-eqb}
use Rattle.std.proofs.lemmas.Option.{none-some}
use Rattle.dubp_atoms.specs.Same.{Text, same_text}
use Rattle.dubp_cond.specs.declared.source.SourceId.{SourceId}
use Rattle.dubp_cond.specs.declared.source.SourceId.TheVariants.{D, T}
use Rattle.dubp_sindex.specs.declared.rows.SourceRow.{SourceRow}
use Rattle.dubp_sindex.specs.Rows.{Entry, same_source, is_named, row_at, AreRows}
use Rattle.dubp_sindex.proofs.Elements.{and_left, and_right, IsIn, in_any}
use Rattle.dubp_sindex.proofs.Once.{Once, once_tail, once_head, each_once-map}

pub same_text_is : (a b : Text) → same_text a b ≡ true → a ≡ b
same_text_is a b = (bytes_decides a b).0

pub same_text_own : (a : Text) → same_text a a ≡ true
same_text_own a = (bytes_decides a a).1 refl

pub same_source_is : (a b : SourceId) → same_source a b ≡ true → a ≡ b
same_source_is (D k n) (D k' n') e =
    let p = same_text_is k k' (and_left (same_text k k') (n == n') e) in
    let q = (Decides-eqb n n').0 (and_right (same_text k k') (n == n') e) in
    λ i. D (p i) (q i)
same_source_is (T t n) (T t' n') e =
    let p = same_text_is t t' (and_left (same_text t t') (n == n') e) in
    let q = (Decides-eqb n n').0 (and_right (same_text t t') (n == n') e) in
    λ i. T (p i) (q i)
same_source_is (D k n) (T t m) e = absurd (true≢false (sym e))
same_source_is (T t m) (D k n) e = absurd (true≢false (sym e))

pub same_source_own : (a : SourceId) → same_source a a ≡ true
same_source_own (D k n) = rw (same_text_own k, (Decides-eqb n n).1 refl)
same_source_own (T t n) = rw (same_text_own t, (Decides-eqb n n).1 refl)

abbrev pub OnceEach : List Entry → Type 0
OnceEach rows = Once same_source same_source_is same_source_own (λ (e : Entry). e.0) rows

pub once_each : (rows : List Entry) → AreRows rows → OnceEach rows
once_each rows are = sym (each_once-map same_source (λ (e : Entry). e.0) rows) ∙ are.once

pub one_of_name : (rows : List Entry) → OnceEach rows → (x y : Entry) → IsIn x rows → IsIn y rows → same_source x.0 y.0 ≡ true → x ≡ y
one_of_name [] once x y there there' same = absurd there
one_of_name (z ∷ zs) once x y (inl e) (inl f) same = e ∙ sym f
one_of_name (z ∷ zs) once x y (inl e) (inr there) same =
    absurd (true≢false (sym (in_any (λ (other : Entry). same_source z.0 other.0) zs y there (subst (λ (w : Entry). same_source w.0 y.0 ≡ true) e same)) ∙ once_head same_source same_source_is same_source_own (λ (e : Entry). e.0) z zs once))
one_of_name (z ∷ zs) once x y (inr there) (inl f) same =
    let is : x.0 ≡ y.0 = same_source_is x.0 y.0 same in
    let own : same_source z.0 x.0 ≡ true = subst (λ id. same_source z.0 id ≡ true) (sym is) (subst (λ (w : Entry). same_source w.0 y.0 ≡ true) f (same_source_own y.0)) in
    absurd (true≢false (sym (in_any (λ (other : Entry). same_source z.0 other.0) zs x there own) ∙ once_head same_source same_source_is same_source_own (λ (e : Entry). e.0) z zs once))
one_of_name (z ∷ zs) once x y (inr there) (inr there') same = one_of_name zs (once_tail same_source same_source_is same_source_own (λ (e : Entry). e.0) z zs once) x y there there' same

-- the row of a source is one of the list
pub row_there : (id : SourceId) (rows : List Entry) (row : SourceRow) → row_at id rows ≡ Some row → IsIn (id, row) rows
row_there id [] row is = absurd (none-some row is)
row_there id (x ∷ rows) row is =
    elim (same_source id x.0) as (λ k. same_source id x.0 ≡ k → option_map (λ (e : Entry). e.1) (cond k (Some x) (find (is_named id) rows)) ≡ Some row → IsIn (id, row) (x ∷ rows)) [
      | true ↦ λ same found. let name = same_source_is id x.0 same in let value : x.1 ≡ row = ap (λ o. unwrap_or o x.1) found in inl (λ i. (name i, sym value i))
      | false ↦ λ _ found. inr (row_there id rows row found)
    ] refl is

pub row_is_some : (id : SourceId) (rows : List Entry) → list_any (is_named id) rows ≡ true → IsSome (row_at id rows)
row_is_some id [] there = absurd (true≢false (sym there))
row_is_some id (x ∷ rows) there =
    elim (same_source id x.0) as (λ k. (k || list_any (is_named id) rows) ≡ true → IsSome (option_map (λ (e : Entry). e.1) (cond k (Some x) (find (is_named id) rows)))) [
      | true ↦ λ _. refl
      | false ↦ λ later. row_is_some id rows later
    ] there

-- a source without a row is not named
pub no_row : (id : SourceId) (rows : List Entry) → row_at id rows ≡ None → list_any (is_named id) rows ≡ false
no_row id [] none = refl
no_row id (x ∷ rows) none =
    elim (same_source id x.0) as (λ k. option_map (λ (e : Entry). e.1) (cond k (Some x) (find (is_named id) rows)) ≡ None → (k || list_any (is_named id) rows) ≡ false) [
      | true ↦ λ some. absurd (none-some x.1 (sym some))
      | false ↦ λ later. no_row id rows later
    ] none

pub row_none : (id : SourceId) (rows : List Entry) → list_any (is_named id) rows ≡ false → row_at id rows ≡ None
row_none id [] none = refl
row_none id (x ∷ rows) none =
    elim (same_source id x.0) as (λ k. (k || list_any (is_named id) rows) ≡ false → option_map (λ (e : Entry). e.1) (cond k (Some x) (find (is_named id) rows)) ≡ None) [
      | true ↦ λ there. absurd (true≢false there)
      | false ↦ λ later. row_none id rows later
    ] none
