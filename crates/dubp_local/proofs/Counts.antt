-- How many elements of a list have each number, counted one element after the other.
use Rattle.std.proofs.Common.{◌≡◌, ℕ, ◌+◌, ◌<◌, ◌==◌, true, false, List, count_by, get_or, set, take, length, refl, ap, sym, ◌∙◌, subst, arith, get_or-set_other, get_or-set_same, true≢false}
use Rattle.std.proofs.Math.ListN.{length-set}
use Rattle.std.proofs.lemmas.List.Sums.{count_by_more_yes, count_by_more_no}
use Rattle.std.proofs.lemmas.Bool.Decides.{Decides-eqb}

module _ {X : Type 0} (number : X → ℕ) (limit : ℕ) where
  pub record Counts (xs : List X) (j : ℕ) (counts : List ℕ) : Type 0 where
    pub long : length counts ≡ limit
    pub each : (i : ℕ) → i < limit → get_or counts i 0 ≡ count_by (λ x. number x == i) (take j xs)

  pub counts_one_more : (xs : List X) (j : ℕ) (x : X) (counts : List ℕ) → j < length xs → x ≡ get_or xs j x → Counts xs j counts
      → number x < limit → Counts xs (j + 1) (set counts (number x) (get_or counts (number x) 0 + 1))
  counts_one_more xs j x counts lt at before within = record {
    long = length-set counts (number x) _ ∙ before.long;
    each = λ i small.
        let fits : number x < length counts = omega arith in
        elim (number x == i) as (λ b. (number x == i) ≡ b → get_or (set counts (number x) (get_or counts (number x) 0 + 1)) i 0 ≡ count_by (λ y. number y == i) (take (j + 1) xs)) [
          | true ↦ λ e.
              let here : number x ≡ i = (Decides-eqb (number x) i).0 e in
              let passes : (number (get_or xs j x) == i) ≡ true = subst (λ y. (number y == i) ≡ true) at e in
              subst (λ k. get_or (set counts (number x) (get_or counts (number x) 0 + 1)) k 0 ≡ get_or counts k 0 + 1) here (get_or-set_same counts (number x) _ 0 fits)
              ∙ ap (λ n. n + 1) (before.each i small)
              ∙ sym (count_by_more_yes (λ y. number y == i) xs j x lt passes)
          | false ↦ λ e.
              let other : number x ≡ i → ⊥ = λ same. true≢false (sym ((Decides-eqb (number x) i).1 same) ∙ e) in
              let fails : (number (get_or xs j x) == i) ≡ false = subst (λ y. (number y == i) ≡ false) at e in
              get_or-set_other counts (number x) i _ 0 (λ same. other (sym same)) ∙ before.each i small ∙ sym (count_by_more_no (λ y. number y == i) xs j x lt fails)
        ] refl;
  }

  -- an element whose number is past the limit changes nothing
  pub counts_past : (xs : List X) (j : ℕ) (x : X) (counts : List ℕ) → j < length xs → x ≡ get_or xs j x → Counts xs j counts
      → (number x < limit → ⊥) → Counts xs (j + 1) counts
  counts_past xs j x counts lt at before past = record {
    long = before.long;
    each = λ i small.
        let apart : number x ≡ i → ⊥ = λ same. past (subst (λ n. n < limit) (sym same) small) in
        let fails : (number (get_or xs j x) == i) ≡ false =
        subst (λ y. (number y == i) ≡ false) at
        (elim (number x == i) as (λ b. (number x == i) ≡ b → b ≡ false) [ true ↦ λ e. absurd (apart ((Decides-eqb (number x) i).0 e)) | false ↦ λ _. refl ] refl) in
        before.each i small ∙ sym (count_by_more_no (λ y. number y == i) xs j x lt fails);
  }
