-- The output of an earlier transaction of the block that an input spends, by the place of its hash.
use Rattle.std.proofs.Common.{◌≡◌, ℕ, zero, suc, ◌+◌, ◌<◌, Bool, true, false, cond, not, IsTrue, ◌&&◌, ◌==◌, List, [], ◌∷◌, Option, Some, None, option_map, map, take, length, nat_lt, refl, ap, sym, ◌∙◌, subst, arith, true≢false}
use Rattle.std.specs.Prelude.{find, slice_get, position, if◌then◌else◌}
use Rattle.std.specs.Option.{option_or}
use Rattle.std.specs.List.{list_any, flat_map, enumerate_from, position_or_len}
use Rattle.std.proofs.lemmas.Bool.Decides.{Decides-eqb, Decides-ltb}
use Rattle.std.proofs.lemmas.List.Folds.{find-append}
use Rattle.dubp_atoms.specs.Same.{Text, same_text}
use Rattle.dubp_cond.specs.Tree.{CondTree}
use Rattle.dubp_cond.specs.declared.source.SourceId.TheVariants.{D, T}
use Rattle.dubp_cond.specs.declared.source.SourceId.{SourceId}
use Rattle.dubp_cond.specs.declared.source.Input.{Input}
use Rattle.dubp_cond.specs.declared.output.Output.{Output}
use Rattle.dubp_cond.specs.declared.tx.Tx.{Tx}
use Rattle.dubp_docs.specs.Spelling.{tx_hash}
use Rattle.dubp_block.specs.declared.block.Block.{Block}
use Rattle.dubp_chain.specs.Words.{each_once}
use Rattle.dubp_chain.specs.Money.{Source, output_source, outputs_made, hashes_in}
use Rattle.dubp_validity.specs.MoneyRules.{is_spent_by, spent}
use Rattle.dubp_lists.proofs.Elements.{and_left, and_right, not_true, or_left, or_right, is_false}
use Rattle.dubp_lists.proofs.InOrder.{same_text_is, same_text_own}
use Rattle.dubp_money_rules.specs.Spending.{AreNumbered, made_before, seen_in, time_in, seen_output, time_of_output, output_of, output_at, output_named}

text_flip : (a b : Text) → same_text a b ≡ same_text b a
text_flip a b =
    elim (same_text a b) as (λ r. same_text a b ≡ r → r ≡ same_text b a) [
      | true ↦ λ e. sym (subst (λ k. same_text k a ≡ true) (same_text_is a b e) (same_text_own a))
      | false ↦ λ e. elim (same_text b a) as (λ r. same_text b a ≡ r → false ≡ r) [ true ↦ λ h. sym e ∙ subst (λ k. same_text k b ≡ true) (same_text_is b a h) (same_text_own b) | false ↦ λ _. refl ] refl
    ] refl

same_number : (n m : ℕ) → n ≡ m → (n == m) ≡ true
same_number n m e = (Decides-eqb n m).1 e

other_number : (n m : ℕ) → m < n → (n == m) ≡ false
other_number n m below = is_false (n == m) (λ e. let same : n ≡ m = (Decides-eqb n m).0 e in omega (arith, same, below))

other_above : (n m : ℕ) → n < m → (n == m) ≡ false
other_above n m below = is_false (n == m) (λ e. let same : n ≡ m = (Decides-eqb n m).0 e in omega (arith, same, below))

less_suc : (a b : ℕ) → nat_lt (suc a) (suc b) ≡ nat_lt a b
less_suc a b =
    elim (nat_lt a b) as (λ r. nat_lt a b ≡ r → nat_lt (suc a) (suc b) ≡ r) [
      | true ↦ λ e. let below : a < b = (Decides-ltb a b).0 e in (Decides-ltb (suc a) (suc b)).1 (omega (arith, below))
      | false ↦ λ e. is_false (nat_lt (suc a) (suc b)) (λ h. let below : suc a < suc b = (Decides-ltb (suc a) (suc b)).0 h in true≢false (sym ((Decides-ltb a b).1 (omega (arith, below))) ∙ e))
    ] refl

pick : (f : Bool) (s : Source) → (if f then Some (s.time, s.cond) else None) ≡ seen_in (cond f (Some s) None)
pick true s = refl
pick false s = refl

module _ (t : ℕ) (amount base : ℕ) (h : Text) where
  abbrev asks : ℕ → Input
  asks p = record { amount = amount; base = base; source = T h p }

  abbrev found : Text → ℕ → List Output → ℕ → Option Source
  found hash n os p = find (is_spent_by (asks p)) (map (output_source t hash) (enumerate_from n os))

  not_made : (hash : Text) (n : ℕ) (os : List Output) (p : ℕ) → same_text hash h ≡ false → found hash n os p ≡ None
  not_made hash n [] p other = refl
  not_made hash n (o ∷ os) p other = rw other (not_made hash (n + 1) os p other)

  not_behind : (hash : Text) (n : ℕ) (os : List Output) (p : ℕ) → same_text hash h ≡ true → p < n → found hash n os p ≡ None
  not_behind hash n [] p same below = refl
  not_behind hash n (o ∷ os) p same below =
      let later = not_behind hash (n + 1) os p same (omega (arith, below)) in
      rw (same, other_number n p below) later

  made_here : (hash : Text) (n q p : ℕ) (os : List Output) → same_text hash h ≡ true → p ≡ n + q → seen_output t (asks p) (slice_get os q) ≡ seen_in (found hash n os p)
  made_here hash n q p [] same at = refl
  made_here hash n zero p (o ∷ os) same at =
      let is : n ≡ p = omega (arith, at) in
      let none = not_behind hash (n + 1) os p same (omega (arith, at)) in
      rw (same, same_number n p is, none) (pick (o.amount == amount && o.base == base) (output_source t hash (n, o)))
  made_here hash n (suc q) p (o ∷ os) same at =
      let later = made_here hash (n + 1) q p os same (omega (arith, at)) in
      rw (same, other_above n p (omega (arith, at))) later

  module _ (currency : Text) where
    abbrev hashes : List Tx → List Text
    hashes txs = map (tx_hash currency) txs

    abbrev before : List Tx → ℕ → List Source
    before txs i = flat_map (outputs_made t currency) (take i txs)

    none_of_hash : (txs : List Tx) (i p : ℕ) → list_any (same_text h) (hashes txs) ≡ false → find (is_spent_by (asks p)) (before txs i) ≡ None
    none_of_hash [] zero p none = refl
    none_of_hash [] (suc i) p none = refl
    none_of_hash (tx ∷ txs) zero p none = refl
    none_of_hash (tx ∷ txs) (suc i) p none =
        let other : same_text (tx_hash currency tx) h ≡ false = text_flip (tx_hash currency tx) h ∙ or_left (same_text h (tx_hash currency tx)) (list_any (same_text h) (hashes txs)) none in
        find-append (is_spent_by (asks p)) (outputs_made t currency tx) (before txs i)
        ∙ ap (λ o. option_or o (find (is_spent_by (asks p)) (before txs i))) (not_made (tx_hash currency tx) 0 tx.outputs p other)
        ∙ none_of_hash txs i p (or_right (same_text h (tx_hash currency tx)) (list_any (same_text h) (hashes txs)) none)

    first_place : (x : Text) (xs : List Text) → same_text h x ≡ true → position (same_text h) (x ∷ xs) ≡ Some 0
    first_place x xs e =
        let at : position_or_len (same_text h) (x ∷ xs) ≡ 0 = rw e refl in
        ap (λ k. cond (nat_lt k (length (x ∷ xs))) (Some k) None) at ∙ ap (λ r. cond r (Some 0) None) ((Decides-ltb 0 (length (x ∷ xs))).1 (omega arith))

    later_place : (x : Text) (xs : List Text) → same_text h x ≡ false → position (same_text h) (x ∷ xs) ≡ option_map suc (position (same_text h) xs)
    later_place x xs e =
        let k = position_or_len (same_text h) xs in
        let at : position_or_len (same_text h) (x ∷ xs) ≡ suc k = rw e (omega arith) in
        ap (λ k. cond (nat_lt k (length (x ∷ xs))) (Some k) None) at
        ∙ ap (λ r. cond r (Some (suc k)) None) (less_suc k (length xs))
        ∙ elim (nat_lt k (length xs)) as (λ r. cond r (Some (suc k)) None ≡ option_map suc (cond r (Some k) None)) [ true ↦ refl | false ↦ refl ]

    none_before : (txs : List Tx) (o : Option ℕ) (p : ℕ) → output_at txs 0 o p ≡ None
    none_before txs None p = refl
    none_before txs (Some n) p = ap (λ r. cond r (output_of (slice_get txs n) p) None) (is_false (nat_lt n 0) (λ e. let below : n < 0 = (Decides-ltb n 0).0 e in omega (arith, below)))

    one_less : (tx : Tx) (txs : List Tx) (i : ℕ) (o : Option ℕ) (p : ℕ) → output_at (tx ∷ txs) (suc i) (option_map suc o) p ≡ output_at txs i o p
    one_less tx txs i None p = refl
    one_less tx txs i (Some n) p = ap (λ r. cond r (output_of (slice_get txs n) p) None) (less_suc n i)

    none_behind : (o : Option Source) → option_or o None ≡ o
    none_behind None = refl
    none_behind (Some s) = refl

    found_before : (txs : List Tx) (i p : ℕ) → each_once same_text (hashes txs) ≡ true
        → seen_output t (asks p) (output_at txs i (position (same_text h) (hashes txs)) p) ≡ seen_in (find (is_spent_by (asks p)) (before txs i))
    found_before [] zero p once = refl
    found_before [] (suc i) p once = refl
    found_before (tx ∷ txs) zero p once = ap (seen_output t (asks p)) (none_before (tx ∷ txs) (position (same_text h) (hashes (tx ∷ txs))) p)
    found_before (tx ∷ txs) (suc i) p once =
        let hash = tx_hash currency tx in
        let unlike : list_any (same_text hash) (hashes txs) ≡ false = not_true _ (and_left (not (list_any (same_text hash) (hashes txs))) _ once) in
        let rest = each_once same_text (hashes txs) in
        let later = found_before txs i p (and_right (not (list_any (same_text hash) (hashes txs))) rest once) in
        let split = find-append (is_spent_by (asks p)) (outputs_made t currency tx) (before txs i) in
        elim (same_text h hash) as (λ r. same_text h hash ≡ r → seen_output t (asks p) (output_at (tx ∷ txs) (suc i) (position (same_text h) (hashes (tx ∷ txs))) p) ≡ seen_in (find (is_spent_by (asks p)) (before (tx ∷ txs) (suc i)))) [
          | true ↦ λ e.
              let is : h ≡ hash = same_text_is h hash e in
              let none = none_of_hash txs i p (subst (λ k. list_any (same_text k) (hashes txs) ≡ false) (sym is) unlike) in
              ap (λ o. seen_output t (asks p) (output_at (tx ∷ txs) (suc i) o p)) (first_place hash (hashes txs) e)
              ∙ ap (λ r. seen_output t (asks p) (cond r (slice_get tx.outputs p) None)) ((Decides-ltb 0 (suc i)).1 (omega arith))
              ∙ made_here hash 0 p p tx.outputs (text_flip hash h ∙ e) (omega arith)
              ∙ sym (ap seen_in (split ∙ ap (option_or (found hash 0 tx.outputs p)) none ∙ none_behind (found hash 0 tx.outputs p)))
          | false ↦ λ e.
              ap (λ o. seen_output t (asks p) (output_at (tx ∷ txs) (suc i) o p)) (later_place hash (hashes txs) e)
              ∙ ap (seen_output t (asks p)) (one_less tx txs i (position (same_text h) (hashes txs)) p)
              ∙ later
              ∙ sym (ap seen_in (split ∙ ap (λ o. option_or o (find (is_spent_by (asks p)) (before txs i))) (not_made hash 0 tx.outputs p (text_flip hash h ∙ e))))
        ] refl

module _ (t : ℕ) (amount base : ℕ) (key : Text) (number : ℕ) where
  abbrev asks_dividend : Input
  asks_dividend = record { amount = amount; base = base; source = D key number }

  no_dividend : (hash : Text) (n : ℕ) (os : List Output) → find (is_spent_by asks_dividend) (map (output_source t hash) (enumerate_from n os)) ≡ None
  no_dividend hash n [] = refl
  no_dividend hash n (o ∷ os) = no_dividend hash (n + 1) os

  none_made : (currency : Text) (txs : List Tx) → find (is_spent_by asks_dividend) (flat_map (outputs_made t currency) txs) ≡ None
  none_made currency [] = refl
  none_made currency (tx ∷ txs) =
      find-append (is_spent_by asks_dividend) (outputs_made t currency tx) (flat_map (outputs_made t currency) txs)
      ∙ ap (λ o. option_or o (find (is_spent_by asks_dividend) (flat_map (outputs_made t currency) txs))) (no_dividend (tx_hash currency tx) 0 tx.outputs)
      ∙ none_made currency txs

abbrev pub Tells : ℕ → Block → ℕ → Input → List Text → Type 0
Tells t b i input keys = seen_output t input (output_named keys b.transactions i input.source) ≡ seen_in (spent (made_before t b i) input)

named : (t : ℕ) (b : Block) (i amount base : ℕ) (id : SourceId) → IsTrue (each_once same_text (hashes_in b)) → Tells t b i (record { amount = amount; base = base; source = id }) (hashes_in b)
named t b i amount base (D key number) once = sym (ap seen_in (none_made t amount base key number b.currency (take i b.transactions)))
named t b i amount base (T h p) once = found_before t amount base h b.currency b.transactions i p once

pub seen_named : (t : ℕ) (b : Block) (i : ℕ) (input : Input) (keys : List Text) → AreNumbered keys b → Tells t b i input keys
seen_named t b i input keys numbered = subst (Tells t b i input) (sym numbered.are) (named t b i input.amount input.base input.source numbered.once)

pub time_named : (t : ℕ) (b : Block) (i : ℕ) (input : Input) (keys : List Text) → AreNumbered keys b → time_of_output t input (output_named keys b.transactions i input.source) ≡ time_in (spent (made_before t b i) input)
time_named t b i input keys numbered = time_of_seen (output_named keys b.transactions i input.source) ∙ ap (option_map (λ (v : ℕ × CondTree). v.0)) (seen_named t b i input keys numbered) ∙ seen_time (spent (made_before t b i) input)
  where
    time_of_seen : (o : Option Output) → time_of_output t input o ≡ option_map (λ (v : ℕ × CondTree). v.0) (seen_output t input o)
    time_of_seen None = refl
    time_of_seen (Some o) = elim (o.amount == input.amount && o.base == input.base) as (λ r. (if r then Some t else None) ≡ option_map (λ (v : ℕ × CondTree). v.0) (if r then Some (t, o.cond) else None)) [ true ↦ refl | false ↦ refl ]

    seen_time : (o : Option Source) → option_map (λ (v : ℕ × CondTree). v.0) (seen_in o) ≡ time_in o
    seen_time None = refl
    seen_time (Some s) = refl
