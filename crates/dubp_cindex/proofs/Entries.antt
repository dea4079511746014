-- The entries of the rows: what stands among them is what the rows have at its pair, and those of one key rise by the other.
use Rattle.std.proofs.Common.{◌≡◌, Bool, true, false, cond, ◌&&◌, List, [], ◌∷◌, Some, refl, ap, sym, ◌∙◌, true≢false, inl, inr}
use Rattle.std.specs.Prelude.{T, ◌⊎◌}
use Rattle.std.specs.List.{AllByRecursion}
use Rattle.std.specs.Ordering.{is_lt, is_eq, ordering_then}
use Rattle.std.specs.declared.cmp.Ordering.{Ordering}
use Rattle.std.specs.declared.cmp.Ordering.TheVariants.{Less, Equal, Greater}
use Rattle.std.specs.FinMap.{entries, entries_sorted, get, find, is_sorted, get-entries}
use Rattle.std.specs.FinMap.Entries.{below_all}
use Rattle.std.proofs.lemmas.Cmp.{tied_itself}
use Rattle.std.proofs.lemmas.Option.{none-some, same_Some}
use Rattle.dubp_atoms.specs.Same.{Text}
use Rattle.dubp_cindex.specs.declared.row.CertRow.{CertRow}
use Rattle.dubp_cindex.specs.Orders.{text_cmp, pair_cmp}
use Rattle.dubp_cindex.specs.Rows.{Rows, Entry, live_to, live_from}
use Rattle.dubp_cindex.proofs.Texts.{is_equal, is_less, pair_total, pair_exact, same_text_is, text_itself}
use Rattle.dubp_cindex.proofs.Walked.{IsIn, Climbs}

truth : (b : Bool) → T b → b ≡ true
truth true h = refl
truth false h = absurd h

front : (a b : Bool) → T (a && b) → T a
front true b p = tt
front false b p = absurd p

back : (a b : Bool) → T (a && b) → T b
back true b p = p
back false b p = absurd p

pub first_true : (a b : Bool) → (a && b) ≡ true → a ≡ true
first_true true b h = refl
first_true false b h = h

pub second_true : (a b : Bool) → (a && b) ≡ true → b ≡ true
second_true true b h = h
second_true false b h = absurd (true≢false (sym h))

pub both_true : (a b : Bool) → a ≡ true → b ≡ true → (a && b) ≡ true
both_true a b p q = (λ i. p i && q i)

-- what is found stands there
pub found_in : (q : Text × Text) (r : CertRow) (es : List Entry) → find pair_cmp q es ≡ Some r → IsIn (q, r) es
found_in q r [] h = absurd (none-some r h)
found_in q r (e ∷ es) h =
    elim (is_eq (pair_cmp q e.0)) as (λ b. is_eq (pair_cmp q e.0) ≡ b → cond b (Some e.1) (find pair_cmp q es) ≡ Some r → (e ≡ (q, r)) ⊎ IsIn (q, r) es) [
      | true ↦ λ t f. inl (λ i. (sym (pair_exact q e.0 (is_equal _ t)) i, same_Some e.1 r f i))
      | false ↦ λ t f. inr (found_in q r es f)
    ] refl h

below_in : (k : Text × Text) (x : Entry) (es : List Entry) → T (below_all pair_cmp k es) → IsIn x es → pair_cmp k x.0 ≡ Less
below_in k x [] h there = absurd there
below_in k x (e ∷ es) h (inl same) = ap (λ (z : Entry). pair_cmp k z.0) (sym same) ∙ is_less _ (truth _ (front _ _ h))
below_in k x (e ∷ es) h (inr there) = below_in k x es (back _ _ h) there

-- what stands there is found
pub in_found : (x : Entry) (es : List Entry) → T (is_sorted pair_cmp es) → IsIn x es → find pair_cmp x.0 es ≡ Some x.1
in_found x [] h there = absurd there
in_found x (e ∷ es) h (inl same) = ap (λ b. cond b (Some e.1) (find pair_cmp x.0 es)) (ap (λ (z : Entry). is_eq (pair_cmp x.0 z.0)) same ∙ ap is_eq (tied_itself pair_total x.0)) ∙ ap (λ (z : Entry). Some z.1) same
in_found x (e ∷ es) h (inr there) =
    elim (is_eq (pair_cmp x.0 e.0)) as (λ b. is_eq (pair_cmp x.0 e.0) ≡ b → cond b (Some e.1) (find pair_cmp x.0 es) ≡ Some x.1) [
      | true ↦ λ t. absurd (true≢false (sym (ap is_lt (sym (ap (λ k. pair_cmp e.0 k) (pair_exact x.0 e.0 (is_equal _ t))) ∙ below_in e.0 x es (front _ _ h) there)) ∙ ap is_lt (tied_itself pair_total e.0)))
      | false ↦ λ t. in_found x es (back _ _ h) there
    ] refl

-- the same of the rows
pub got_in : (rows : Rows) (q : Text × Text) (r : CertRow) → get rows q ≡ Some r → IsIn (q, r) (entries rows)
got_in rows q r h = found_in q r (entries rows) (sym (get-entries rows q) ∙ h)

pub in_got : (rows : Rows) (x : Entry) → IsIn x (entries rows) → get rows x.0 ≡ Some x.1
in_got rows x there = get-entries rows x.0 ∙ in_found x (entries rows) (entries_sorted rows) there

-- the live rows to a key rise by issuer, and those from one by receiver
by_first : (x y : Text × Text) → x.1 ≡ y.1 → pair_cmp x y ≡ Less → text_cmp x.0 y.0 ≡ Less
by_first x y same h =
    let tie : text_cmp x.1 y.1 ≡ Equal = ap (text_cmp x.1) (sym same) ∙ text_itself x.1 in
    then_less (text_cmp x.0 y.0) (text_cmp x.1 y.1) tie h
  where
    then_less : (r s : Ordering) → s ≡ Equal → ordering_then r s ≡ Less → r ≡ Less
    then_less Less s e h = refl
    then_less Equal s e h = sym e ∙ h
    then_less Greater s e h = h

by_second : (x y : Text × Text) → x.0 ≡ y.0 → pair_cmp x y ≡ Less → text_cmp x.1 y.1 ≡ Less
by_second x y same h =
    let tie : text_cmp x.0 y.0 ≡ Equal = ap (text_cmp x.0) (sym same) ∙ text_itself x.0 in
    ap (λ r. ordering_then r (text_cmp x.1 y.1)) (sym tie) ∙ h

to_below : (key : Text) (e : Entry) (es : List Entry) → live_to key e ≡ true → T (below_all pair_cmp e.0 es) → AllByRecursion (λ (x : Entry). live_to key x ≡ true → text_cmp e.0.0 x.0.0 ≡ Less) es
to_below key e [] p h = tt
to_below key e (x ∷ es) p h = (
  λ q. by_first e.0 x.0 (sym (same_text_is key e.0.1 (first_true _ _ p)) ∙ same_text_is key x.0.1 (first_true _ _ q)) (is_less _ (truth _ (front _ _ h))),
  to_below key e es p (back _ _ h),
)

pub to_climbs : (key : Text) (es : List Entry) → T (is_sorted pair_cmp es) → Climbs (live_to key) (λ (e : Entry). e.0.0) es
to_climbs key [] h = tt
to_climbs key (e ∷ es) h = (λ p. to_below key e es p (front _ _ h), to_climbs key es (back _ _ h))

from_below : (key : Text) (e : Entry) (es : List Entry) → live_from key e ≡ true → T (below_all pair_cmp e.0 es) → AllByRecursion (λ (x : Entry). live_from key x ≡ true → text_cmp e.0.1 x.0.1 ≡ Less) es
from_below key e [] p h = tt
from_below key e (x ∷ es) p h = (
  λ q. by_second e.0 x.0 (sym (same_text_is key e.0.0 (first_true _ _ p)) ∙ same_text_is key x.0.0 (first_true _ _ q)) (is_less _ (truth _ (front _ _ h))),
  from_below key e es p (back _ _ h),
)

pub from_climbs : (key : Text) (es : List Entry) → T (is_sorted pair_cmp es) → Climbs (live_from key) (λ (e : Entry). e.0.1) es
from_climbs key [] h = tt
from_climbs key (e ∷ es) h = (λ p. from_below key e es p (front _ _ h), from_climbs key es (back _ _ h))
