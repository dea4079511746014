-- Rows behind rows: what is made in turn is new each time, and what stands then are rows.
use Rattle.std.proofs.Common.{◌≡◌, ℕ, suc, zero, ◌+◌, ◌^◌, ◌<◌, ◌≤◌, true, false, not, List, [], ◌∷◌, ◌++◌, map, length, sum_by, cond, take, drop, get_or, inl, refl, ap, sym, ◌∙◌, subst, append_assoc, append-nil, length-append, arith}
use Rattle.std.specs.Prelude.{unwrap_or, Some}
use Rattle.std.specs.List.{list_any, AllByRecursion, enumerate_from}
use Rattle.std.proofs.lemmas.List.{length-take-le, take_all, take_more, get_or-map}
use Rattle.std.proofs.lemmas.List.Folds.{list_any-append}
use Rattle.std.proofs.lemmas.List.Sums.{sum_by-cons, sum_by-append}
use Rattle.dubp_atoms.specs.Same.{Text, same_text}
use Rattle.dubp_cond.specs.Conditions.{cond_text}
use Rattle.dubp_cond.specs.Tree.{CondTree}
use Rattle.dubp_sindex.specs.declared.rows.SourceRow.{SourceRow}
use Rattle.dubp_cond.specs.declared.source.SourceId.{SourceId}
use Rattle.dubp_cond.specs.declared.output.Output.{Output}
use Rattle.dubp_chain.specs.Money.{Source, output_source, dividend_source}
use Rattle.dubp_sindex.specs.Rows.{Entry, units_of_entry, same_source, is_named, each_once, Rises, IsBelow, IsInRange, AreRows, IsNewRow}
use Rattle.dubp_sindex.proofs.Elements.{and_left, and_right, not_true, or_left, or_right, all_append, in_any, in_right}
use Rattle.dubp_sindex.proofs.Sources.{same_source_is, same_source_own, same_text_own}
use Rattle.dubp_sindex.specs.Numbering.{number_of, with_text}
use Rattle.dubp_money_steps.specs.Left.{account_in, entry_of, entries_of, HasTexts, IsSmall}
use Rattle.dubp_money_steps.proofs.Numbering.{account_stays}
use Rattle.dubp_money.specs.Texts.{Grows}
use Rattle.dubp_money.specs.Making.{CanFollow, with_made, dividends_to, source_of}
use Rattle.dubp_money.specs.declared.making.NewSource.{NewSource}
use Rattle.dubp_money.specs.declared.paying.Payment.{Payment}
use Rattle.dubp_money.proofs.Growing.{has_more}
use Rattle.dubp_money.proofs.Units.{units_made}

-- ---- lists

pub map-both : {X Y : Type 0} (f : X → Y) (xs ys : List X) → map f (xs ++ ys) ≡ map f xs ++ map f ys
map-both f [] ys = refl
map-both f (x ∷ xs) ys = ap (λ l. f x ∷ l) (map-both f xs ys)

-- the element at a place, with what stands before and behind it
pub split_at : {X : Type 0} (xs : List X) (i : ℕ) (x : X) → i < length xs → x ≡ get_or xs i x → xs ≡ take i xs ++ x ∷ drop (suc i) xs
split_at [] i x within is = absurd (omega (arith, within))
split_at (y ∷ ys) zero x within is = ap (λ z. z ∷ ys) (sym is)
split_at (y ∷ ys) (suc i) x within is = ap (λ l. y ∷ l) (split_at ys i x (omega (arith, within)) is)

entries-append : (account : Text → ℕ) (n : ℕ) (xs ys : List Source) → entries_of account (enumerate_from n (xs ++ ys)) ≡ entries_of account (enumerate_from n xs) ++ entries_of account (enumerate_from (n + length xs) ys)
entries-append account n [] ys = ap (λ m. entries_of account (enumerate_from m ys)) (omega arith)
entries-append account n (x ∷ xs) ys = ap (λ l. entry_of account (n, x) ∷ l) (entries-append account (n + 1) xs ys ∙ ap (λ m. entries_of account (enumerate_from (n + 1) xs) ++ entries_of account (enumerate_from m ys)) (omega arith))

pub names-entries : (account : Text → ℕ) (n : ℕ) (xs : List Source) → map (λ (e : Entry). e.0) (entries_of account (enumerate_from n xs)) ≡ map (λ (s : Source). s.id) xs
names-entries account n [] = refl
names-entries account n (x ∷ xs) = ap (λ l. x.id ∷ l) (names-entries account (n + 1) xs)

-- ---- the parts of rows

pub once_first : (xs ys : List SourceId) → each_once same_source (xs ++ ys) ≡ true → each_once same_source xs ≡ true
once_first [] ys once = refl
once_first (x ∷ xs) ys once =
    let here : list_any (same_source x) (xs ++ ys) ≡ false = not_true _ (and_left (not (list_any (same_source x) (xs ++ ys))) _ once) in
    let none : list_any (same_source x) xs ≡ false = or_left (list_any (same_source x) xs) (list_any (same_source x) ys) (sym (list_any-append (same_source x) xs ys) ∙ here) in
    rw none (once_first xs ys (and_right (not (list_any (same_source x) (xs ++ ys))) _ once))

rises_first : (xs ys : List Entry) → Rises (xs ++ ys) → Rises xs
rises_first [] ys rises = tt
rises_first (x ∷ xs) ys rises = (first xs rises.0, rises_first xs ys rises.1)
  where
    first : (zs : List Entry) → IsBelow x.1.order (zs ++ ys) → IsBelow x.1.order zs
    first [] below = tt
    first (z ∷ zs) below = (below.0, first zs below.1)

all_first : (P : Entry → Type 0) (xs ys : List Entry) → AllByRecursion P (xs ++ ys) → AllByRecursion P xs
all_first P [] ys all = tt
all_first P (x ∷ xs) ys all = (all.0, all_first P xs ys all.1)

all_middle : (P : Entry → Type 0) (xs : List Entry) (e : Entry) (ys : List Entry) → AllByRecursion P (xs ++ e ∷ ys) → P e
all_middle P [] e ys all = all.0
all_middle P (x ∷ xs) e ys all = all_middle P xs e ys all.1

rows_first : (xs ys : List Entry) → AreRows (xs ++ ys) → AreRows xs
rows_first xs ys are = record {
  once = once_first (map (λ (e : Entry). e.0) xs) (map (λ (e : Entry). e.0) ys) (ap (each_once same_source) (sym (map-both (λ (e : Entry). e.0) xs ys)) ∙ are.once);
  rises = rises_first xs ys are.rises;
  in_range = all_first IsInRange xs ys are.in_range;
}

pub same_flip : (a b : SourceId) → same_source a b ≡ same_source b a
same_flip a b =
    elim (same_source a b) as (λ r. same_source a b ≡ r → r ≡ same_source b a) [
      | true ↦ λ e. sym (subst (λ k. same_source k a ≡ true) (same_source_is a b e) (same_source_own a))
      | false ↦ λ e. elim (same_source b a) as (λ r. same_source b a ≡ r → false ≡ r) [ true ↦ λ h. sym e ∙ subst (λ k. same_source k b ≡ true) (same_source_is b a h) (same_source_own b) | false ↦ λ _. refl ] refl
    ] refl

unnamed_in : (xs : List Entry) (e : Entry) (ys : List Entry) → each_once same_source (map (λ (x : Entry). x.0) (xs ++ e ∷ ys)) ≡ true → list_any (is_named e.0) xs ≡ false
unnamed_in [] e ys once = refl
unnamed_in (x ∷ xs) e ys once =
    let names = map (λ (z : Entry). z.0) (xs ++ e ∷ ys) in
    let here : list_any (same_source x.0) names ≡ false = not_true _ (and_left (not (list_any (same_source x.0) names)) _ once) in
    let other : same_source e.0 x.0 ≡ false = same_flip e.0 x.0 ∙ middle xs here in
    rw other (unnamed_in xs e ys (and_right (not (list_any (same_source x.0) names)) _ once))
  where
    middle : (zs : List Entry) → list_any (same_source x.0) (map (λ (z : Entry). z.0) (zs ++ e ∷ ys)) ≡ false → same_source x.0 e.0 ≡ false
    middle [] none = or_left (same_source x.0 e.0) _ none
    middle (z ∷ zs) none = middle zs (or_right (same_source x.0 z.0) _ none)

behind_in : (xs : List Entry) (e : Entry) (ys : List Entry) → Rises (xs ++ e ∷ ys) → AllByRecursion (λ (x : Entry). x.1.order < e.1.order) xs
behind_in [] e ys rises = tt
behind_in (x ∷ xs) e ys rises = (all_middle (λ z. x.1.order < z.1.order) xs e ys rises.0, behind_in xs e ys rises.1)

new_row : (xs : List Entry) (e : Entry) (ys : List Entry) → AreRows (xs ++ e ∷ ys) → sum_by units_of_entry (xs ++ e ∷ ys) < 2 ^ 128 → IsNewRow xs e
new_row xs e ys are fits = record {
  unnamed = unnamed_in xs e ys are.once;
  behind = behind_in xs e ys are.rises;
  in_range = all_middle IsInRange xs e ys are.in_range;
  fits = omega (arith, fits, sum_by-append units_of_entry xs (e ∷ ys), sum_by-cons units_of_entry e ys);
}

-- ---- all that is made

in_range_made : (account : Text → ℕ) (n : ℕ) (made : List Source) → AllByRecursion IsSmall made → n + length made ≤ 2 ^ 63 → AllByRecursion IsInRange (entries_of account (enumerate_from n made))
in_range_made account n [] small few = tt
in_range_made account n (s ∷ ss) small few = ((small.0.0, small.0.1, omega (arith, few)), in_range_made account (n + 1) ss small.1 (omega (arith, few)))

above_made : (account : Text → ℕ) (k n : ℕ) (made : List Source) → k < n → IsBelow k (entries_of account (enumerate_from n made))
above_made account k n [] below = tt
above_made account k n (s ∷ ss) below = (below, above_made account k (n + 1) ss (omega (arith, below)))

rises_made : (account : Text → ℕ) (n : ℕ) (made : List Source) → Rises (entries_of account (enumerate_from n made))
rises_made account n [] = tt
rises_made account n (s ∷ ss) = (above_made account n (n + 1) ss (omega arith), rises_made account (n + 1) ss)

rises_behind : (account : Text → ℕ) (rows : List Entry) (n : ℕ) (made : List Source) → Rises rows → AllByRecursion (λ (e : Entry). e.1.order < n) rows → Rises (rows ++ entries_of account (enumerate_from n made))
rises_behind account [] n made rises behind = rises_made account n made
rises_behind account (x ∷ rows) n made rises behind = (
  all_append (λ (e : Entry). x.1.order < e.1.order) rows (entries_of account (enumerate_from n made)) rises.0 (above_made account x.1.order n made behind.0),
  rises_behind account rows n made rises.1 behind.1,
)

rows_made : (account : Text → ℕ) (rows : List Entry) (n : ℕ) (made : List Source) → AreRows rows → CanFollow rows n made → AreRows (rows ++ entries_of account (enumerate_from n made))
rows_made account rows n made are can = record {
  once =
      ap (each_once same_source) (map-both (λ (e : Entry). e.0) rows (entries_of account (enumerate_from n made)) ∙ ap (λ l. map (λ (e : Entry). e.0) rows ++ l) (names-entries account n made))
      ∙ can.apart;
  rises = rises_behind account rows n made are.rises can.behind;
  in_range = all_append IsInRange rows (entries_of account (enumerate_from n made)) are.in_range (in_range_made account n made can.small can.few);
}

-- what can be made stays rows
pub with_made-rows : (texts : List Text) (rows : List Entry) (n : ℕ) (made : List Source) → AreRows rows → CanFollow rows n made → AreRows (with_made texts rows n made)
with_made-rows texts rows n made are can = rows_made (account_in texts) rows n made are can

-- ---- one more in turn

made_split : (texts : List Text) (rows : List Entry) (n : ℕ) (xs : List Source) (s : Source) (ys : List Source)
    → with_made texts rows n (xs ++ s ∷ ys) ≡ with_made texts rows n xs ++ entry_of (account_in texts) (n + length xs, s) ∷ entries_of (account_in texts) (enumerate_from (n + length xs + 1) ys)
made_split texts rows n xs s ys =
    ap (λ l. rows ++ l) (entries-append (account_in texts) n xs (s ∷ ys))
    ∙ sym (append_assoc rows (entries_of (account_in texts) (enumerate_from n xs)) (entries_of (account_in texts) (enumerate_from (n + length xs) (s ∷ ys))))

-- a turn: some are made, s is next
pub record IsNext (made : List Source) (i : ℕ) (s : Source) : Type 0 where
  pub split : made ≡ take i made ++ s ∷ drop (suc i) made
  pub more : take (i + 1) made ≡ take i made ++ s ∷ []
  pub count : length (take i made) ≡ i

module _ (texts : List Text) (rows : List Entry) (n : ℕ) (made : List Source) (i : ℕ) (s : Source) (next : IsNext made i s) (are : AreRows rows) (can : CanFollow rows n made) where
  cut : with_made texts rows n made
      ≡ with_made texts rows n (take i made) ++ entry_of (account_in texts) (n + length (take i made), s) ∷ entries_of (account_in texts) (enumerate_from (n + length (take i made) + 1) (drop (suc i) made))
  cut = ap (with_made texts rows n) next.split ∙ made_split texts rows n (take i made) s (drop (suc i) made)

  whole : AreRows (with_made texts rows n (take i made) ++ entry_of (account_in texts) (n + length (take i made), s) ∷ entries_of (account_in texts) (enumerate_from (n + length (take i made) + 1) (drop (suc i) made)))
  whole = subst AreRows cut (rows_made (account_in texts) rows n made are can)

  pub rows_so_far : AreRows (with_made texts rows n (take i made))
  rows_so_far = rows_first (with_made texts rows n (take i made)) _ whole

  pub next_is_new : IsNewRow (with_made texts rows n (take i made)) (entry_of (account_in texts) (n + i, s))
  next_is_new = subst (λ k. IsNewRow (with_made texts rows n (take i made)) (entry_of (account_in texts) (n + k, s))) next.count (new_row (with_made texts rows n (take i made)) _ _ whole (subst (λ l. sum_by units_of_entry l < 2 ^ 128) cut (omega (arith, units_made texts rows n made, can.fits))))

-- its place is in range
pub place_next : (rows : List Entry) (n : ℕ) (made : List Source) (i : ℕ) (s : Source) → IsNext made i s → CanFollow rows n made → n + i ≤ 2 ^ 63
place_next rows n made i s next can = omega (arith, can.few, ap length next.split, length-append (take i made) (s ∷ drop (suc i) made), next.count)

pub made_more : (texts : List Text) (rows : List Entry) (n : ℕ) (made : List Source) (i : ℕ) (s : Source) → IsNext made i s
    → with_made texts rows n (take i made) ++ entry_of (account_in texts) (n + i, s) ∷ [] ≡ with_made texts rows n (take (i + 1) made)
made_more texts rows n made i s next =
    ap (λ k. with_made texts rows n (take i made) ++ entry_of (account_in texts) (n + k, s) ∷ []) (sym next.count)
    ∙ sym (made_split texts rows n (take i made) s [])
    ∙ ap (with_made texts rows n) (sym next.more)

-- ---- more texts

entries-more : (texts texts' : List Text) → Grows texts texts' → (n : ℕ) (made : List Source) → HasTexts texts made → entries_of (account_in texts') (enumerate_from n made) ≡ entries_of (account_in texts) (enumerate_from n made)
entries-more texts texts' g n [] has = refl
entries-more texts texts' g n (s ∷ ss) has =
    let same : account_in texts' (cond_text s.cond) ≡ account_in texts (cond_text s.cond) = ap (λ l. account_in l (cond_text s.cond)) g.1 ∙ account_stays texts g.0 (cond_text s.cond) has.0 in
    λ i. (s.id, record { amount = s.amount; base = s.base; account = same i; made_at = s.time; order = n }) ∷ entries-more texts texts' g (n + 1) ss has.1 i

pub with_made-more : (texts texts' : List Text) → Grows texts texts' → (rows : List Entry) (n : ℕ) (made : List Source) → HasTexts texts made → with_made texts' rows n made ≡ with_made texts rows n made
with_made-more texts texts' g rows n made has = ap (λ l. rows ++ l) (entries-more texts texts' g n made has)

-- ---- a turn

-- with s the texts may grow; what was made keeps its numbers
pub made_next : (Has Has' : List Entry → Type 0) (texts texts' : List Text) → Grows texts texts' → (rows : List Entry) (n : ℕ) (made : List Source) (i : ℕ) (s : Source) → IsNext made i s
    → AreRows rows → CanFollow rows n made → HasTexts texts (take i made) → Has (with_made texts rows n (take i made))
    → ((xs : List Entry) → AreRows xs → Has xs → IsNewRow xs (entry_of (account_in texts') (n + i, s)) → Has' (xs ++ entry_of (account_in texts') (n + i, s) ∷ []))
    → Has' (with_made texts' rows n (take (i + 1) made))
made_next Has Has' texts texts' g rows n made i s next are can known has make =
    let same : with_made texts' rows n (take i made) ≡ with_made texts rows n (take i made) = with_made-more texts texts' g rows n (take i made) known in
    let e = entry_of (account_in texts') (n + i, s) in
    subst Has' (ap (λ l. l ++ e ∷ []) (sym same) ∙ made_more texts' rows n made i s next)
    (make (with_made texts rows n (take i made)) (rows_so_far texts rows n made i s next are can) has (subst (λ l. IsNewRow l e) same (next_is_new texts' rows n made i s next are can)))

pub has_next : (texts texts' : List Text) → Grows texts texts' → (made : List Source) (i : ℕ) (s : Source) → IsNext made i s → HasTexts texts (take i made)
    → list_any (same_text (cond_text s.cond)) texts' ≡ true → HasTexts texts' (take (i + 1) made)
has_next texts texts' g made i s next known there =
    subst (HasTexts texts') (sym next.more)
    (all_append (λ x. list_any (same_text (cond_text x.cond)) texts' ≡ true) (take i made) (s ∷ []) (has_more texts texts' g (take i made) known) (there, tt))

pub nothing_made : (texts : List Text) (rows : List Entry) (n : ℕ) (made : List Source) → with_made texts rows n (take 0 made) ≡ rows
nothing_made texts rows n made = append-nil rows

-- ---- the outputs of a transaction, in turn

next_at : (made : List Source) (i : ℕ) (s : Source) → i < length made → s ≡ get_or made i s → IsNext made i s
next_at made i s within is = record {
  split = split_at made i s within is;
  more = take_more made i s within ∙ ap (λ x. take i made ++ x ∷ []) (sym is);
  count = length-take-le i made (omega (arith, within));
}

numbered_at : {X : Type 0} (n : ℕ) (xs : List X) (k : ℕ) (d : X) → k < length xs → get_or (enumerate_from n xs) k (n + k, d) ≡ (n + k, get_or xs k d)
numbered_at n [] k d within = absurd (omega (arith, within))
numbered_at n (x ∷ xs) zero d within = let same : n ≡ n + 0 = omega arith in ap (λ m. (m, x)) same
numbered_at n (x ∷ xs) (suc k) d within =
    subst (λ m. get_or (enumerate_from (n + 1) xs) k (m, d) ≡ (m, get_or xs k d)) (omega arith) (numbered_at (n + 1) xs k d (omega (arith, within)))

pub outputs-length : (time : ℕ) (hash : Text) (n : ℕ) (os : List Output) → length (map (output_source time hash) (enumerate_from n os)) ≡ length os
outputs-length time hash n [] = refl
outputs-length time hash n (o ∷ os) = ap suc (outputs-length time hash (n + 1) os)

enumerate-length : {X : Type 0} (n : ℕ) (xs : List X) → length (enumerate_from n xs) ≡ length xs
enumerate-length n [] = refl
enumerate-length n (x ∷ xs) = ap suc (enumerate-length (n + 1) xs)

pub output_next : (time : ℕ) (hash : Text) (outputs : List Output) (i : ℕ) (o : Output) → i < length outputs → o ≡ get_or outputs i o
    → IsNext (map (output_source time hash) (enumerate_from 0 outputs)) i (output_source time hash (i, o))
output_next time hash outputs i o within is =
    next_at (map (output_source time hash) (enumerate_from 0 outputs)) i (output_source time hash (i, o)) (omega (arith, within, outputs-length time hash 0 outputs))
    (sym (get_or-map (output_source time hash) (enumerate_from 0 outputs) i (i, o) (output_source time hash (i, o)) (omega (arith, within, enumerate-length 0 outputs))
    ∙ ap (output_source time hash) (at ∙ ap (λ x. (i, x)) (sym is))))
  where
    at : get_or (enumerate_from 0 outputs) i (i, o) ≡ (i, get_or outputs i o)
    at = let same : 0 + i ≡ i = omega arith in subst (λ m. get_or (enumerate_from 0 outputs) i (m, o) ≡ (m, get_or outputs i o)) same (numbered_at 0 outputs i o within)

pub outputs_all : (time : ℕ) (hash : Text) (outputs : List Output) (i : ℕ) → length outputs ≤ i → take i (map (output_source time hash) (enumerate_from 0 outputs)) ≡ map (output_source time hash) (enumerate_from 0 outputs)
outputs_all time hash outputs i past = take_all i (map (output_source time hash) (enumerate_from 0 outputs)) (omega (arith, past, outputs-length time hash 0 outputs))

-- the records of what is made, in turn
pub put_made : {Y : Type 0} (f : Source → Y) (old now new : List Y) (made : List Source) (i : ℕ) (s : Source) → IsNext made i s
    → now ≡ old ++ map f (take i made) → new ≡ now ++ f s ∷ [] → new ≡ old ++ map f (take (i + 1) made)
put_made f old now new made i s next was put =
    put ∙ ap (λ l. l ++ f s ∷ []) was ∙ append_assoc old (map f (take i made)) (f s ∷ [])
    ∙ ap (λ l. old ++ l) (sym (map-both f (take i made) (s ∷ [])) ∙ ap (map f) (sym next.more))

-- ---- dividends, in turn

pub dividends-length : (p : Payment) (keys : List Text) → length (dividends_to p keys) ≡ length keys
dividends-length p [] = refl
dividends-length p (k ∷ keys) = ap suc (dividends-length p keys)

pub dividend_next : (p : Payment) (keys : List Text) (i : ℕ) (k : Text) → i < length keys → k ≡ get_or keys i k → IsNext (dividends_to p keys) i (dividend_source p.time p.number p.amount p.base k)
dividend_next p keys i k within is =
    let pay = dividend_source p.time p.number p.amount p.base in
    next_at (map pay keys) i (pay k) (omega (arith, within, dividends-length p keys))
    (sym (get_or-map pay keys i k (pay k) within ∙ ap pay (sym is)))

-- ---- a text that gets a number

pub has_text : (texts : List Text) (t : Text) → list_any (same_text t) (with_text texts t) ≡ true
has_text texts t =
    elim (list_any (same_text t) texts) as (λ r. list_any (same_text t) texts ≡ r → list_any (same_text t) (cond r texts (texts ++ t ∷ [])) ≡ true) [
      | true ↦ λ there. there
      | false ↦ λ _. in_any (same_text t) (texts ++ t ∷ []) t (in_right t texts (t ∷ []) (inl refl)) (same_text_own t)
    ] refl

pub account_found : (texts : List Text) (t : Text) (n : ℕ) → number_of texts t ≡ Some n → account_in texts t ≡ n
account_found texts t n is = ap (λ o. unwrap_or o 0) is

-- a row whose account is the number of its condition is the row of the source
pub row_made : (Has : List Entry → Type 0) (rows : List Entry) (source : NewSource) (cond : CondTree) (texts : List Text) (account : ℕ) (row : SourceRow)
    → account_in texts (cond_text cond) ≡ account → row ≡ record { amount = source.amount; base = source.base; account = account; made_at = source.made_at; order = source.order }
    → (IsNewRow rows (source.id, row) → Has (rows ++ (source.id, row) ∷ []))
    → IsNewRow rows (entry_of (account_in texts) (source.order, source_of source cond)) → Has (rows ++ entry_of (account_in texts) (source.order, source_of source cond) ∷ [])
row_made Has rows source cond texts account row same is made new =
    let row_is : row ≡ record { amount = source.amount; base = source.base; account = account_in texts (cond_text cond); made_at = source.made_at; order = source.order } =
    is ∙ (λ i. record { amount = source.amount; base = source.base; account = sym same i; made_at = source.made_at; order = source.order }) in
    let entry : (source.id, row) ≡ entry_of (account_in texts) (source.order, source_of source cond) = λ i. (source.id, row_is i) in
    subst (λ e. Has (rows ++ e ∷ [])) entry (made (subst (IsNewRow rows) (sym entry) new))
