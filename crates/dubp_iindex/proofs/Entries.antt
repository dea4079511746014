-- Entries of rows in the order of their keys: each key once, and what is found at it.
use Rattle.std.proofs.Common.{◌≡◌, ◌&&◌, Bool, true, false, cond, List, [], ◌∷◌, Some, None, refl, sym, ap, ◌∙◌}
use Rattle.std.specs.Prelude.{T}
use Rattle.std.specs.Ordering.{is_lt, is_eq, eq_by_cmp}
use Rattle.std.specs.declared.cmp.Ordering.{Ordering}
use Rattle.std.specs.declared.cmp.Ordering.TheVariants.{Less, Equal, Greater}
use Rattle.std.specs.Cmp.{tied_itself}
use Rattle.std.specs.Cmp.Lexicographic.{nat_list_cmp_total}
use Rattle.std.specs.FinMap.{nat_cmp-IsAntisymmetric, slice_cmp-IsAntisymmetric}
use Rattle.std.specs.FinMap as map
use Rattle.std.specs.FinMap.Entries.{below_all}
use Rattle.std.proofs.lemmas.Option.{none-some}
use Rattle.dubp_atoms.specs.Same.{Text}
use Rattle.dubp_iindex.specs.declared.row.IdentityRow.{IdentityRow}
use Rattle.dubp_iindex.specs.Rows.{texts}

abbrev pub Entries : Type 0
Entries = List (Text × IdentityRow)

pub texts-apart : (x y : Text) → texts x y ≡ Equal → x ≡ y
texts-apart x y e = slice_cmp-IsAntisymmetric nat_cmp-IsAntisymmetric x y e

pub front : (a b : Bool) → T (a && b) → T a
front true b p = tt
front false b p = absurd p

pub back : (a b : Bool) → T (a && b) → T b
back true b p = p
back false b p = absurd p

pub is_equal : (o : Ordering) → is_eq o ≡ true → o ≡ Equal
is_equal Less h = cc
is_equal Equal h = refl
is_equal Greater h = cc

less_only : (o : Ordering) → T (is_lt o) → is_eq o ≡ false
less_only Less h = refl
less_only Equal h = absurd h
less_only Greater h = absurd h

pub find_first : (e : Text × IdentityRow) (es : Entries) → map.find texts e.0 (e ∷ es) ≡ Some e.1
find_first e es = ap (λ r. cond (is_eq r) (Some e.1) (map.find texts e.0 es)) (tied_itself nat_list_cmp_total e.0)

pub find_below : (k : Text) (es : Entries) → T (below_all texts k es) → map.find texts k es ≡ None
find_below k [] below = refl
find_below k (e ∷ es) below =
    ap (λ b. cond b (Some e.1) (map.find texts k es)) (less_only (texts k e.0) (front _ _ below)) ∙ find_below k es (back _ _ below)

-- what is found behind the first entry is found with it
pub find_later : (e : Text × IdentityRow) (es : Entries) → T (below_all texts e.0 es) → (k : Text) (row : IdentityRow) → map.find texts k es ≡ Some row → map.find texts k (e ∷ es) ≡ Some row
find_later e es below k row found =
    elim (eq_by_cmp texts k e.0) as (λ b. eq_by_cmp texts k e.0 ≡ b → cond b (Some e.1) (map.find texts k es) ≡ Some row) [
      | true ↦ λ same. absurd (none-some row (sym (find_below e.0 es below) ∙ ap (λ q. map.find texts q es) (sym (texts-apart k e.0 (is_equal (texts k e.0) same))) ∙ found))
      | false ↦ λ _. found
    ] refl

pub is_less : (o : Ordering) → T (is_lt o) → o ≡ Less
is_less Less h = refl
is_less Equal h = absurd h
is_less Greater h = absurd h
