-- The greatest block of an issuer's rows to others than one, by a walk over them.
use Rattle.std.proofs.Common.{◌≡◌, ℕ, ◌≤◌, true, false, cond, Option, Some, None, refl, ap, sym, ◌∙◌, subst, true≢false, inl, inr, arith}
use Rattle.std.specs.Prelude.{IfSome, IsSomeAnd, is_some, ◌⊎◌, nat_lt, List}
use Rattle.std.specs.Ordering.{is_lt, ordering_reverse}
use Rattle.std.specs.declared.cmp.Ordering.TheVariants.{Less, Equal, Greater}
use Rattle.std.specs.Cmp.Lexicographic.{nat_list_cmp_total}
use Rattle.dubp_atoms.specs.Same.{Text, same_text}
use Rattle.dubp_undo.specs.MovingTable.{get}
use Rattle.dubp_cindex.specs.declared.row.CertRow.{CertRow}
use Rattle.dubp_cindex.specs.Orders.{text_cmp, Place, place_cmp, less, is_above}
use Rattle.dubp_cindex.specs.Following.{Follows}
use Rattle.dubp_cindex.specs.Putting.{IsGreatestBesides}
use Rattle.dubp_cindex.proofs.Texts.{text_exact, same_text_is, same_text_own}

-- so far: of the rows up to a key
pub record IsGreatestUpTo (rows : Text → Option CertRow) (to : Text) (least : ℕ) (after : Option Text) (n : ℕ) : Type 0 where
  pub above_least : least ≤ n
  pub bound : (y : Text) → (y ≡ to → ⊥) → is_above after y ≡ false → IfSome (rows y) (λ r. r.written ≤ n)
  pub stands : (n ≡ least) ⊎ ((y : Text) × (y ≡ to → ⊥) × IsSomeAnd (rows y) (λ r. r.written ≡ n))

-- two keys neither of which is before the other are one
neither : (x y : Text) → less x y ≡ false → less y x ≡ false → x ≡ y
neither x y p q =
    text_exact x y (elim (text_cmp x y) as (λ r. is_lt r ≡ false → is_lt (ordering_reverse r) ≡ false → r ≡ Equal) [
      | Less ↦ λ e _. absurd (true≢false e)
      | Equal ↦ λ _ _. refl
      | Greater ↦ λ _ e. absurd (true≢false e)
    ] p (sym (ap is_lt (nat_list_cmp_total.antisymm y x)) ∙ q))

if_more : (o : Option CertRow) (n m : ℕ) → n ≤ m → IfSome o (λ r. r.written ≤ n) → IfSome o (λ r. r.written ≤ m)
if_more None n m le h = tt
if_more (Some r) n m le h = omega (arith, le, h)

module _ (m : List (Place × CertRow)) (from to : Text) (least : ℕ) where
  abbrev rows_of : Text → Option CertRow
  rows_of y = get place_cmp m (from, Some y)

  -- one row more, which counts where it is not to the key that is left out
  more : (after : Option Text) (n k : ℕ) (a : Text) (row : CertRow) → Follows m from after (Some (a, row)) → IsGreatestUpTo rows_of to least after n → n ≤ k → ((a ≡ to → ⊥) → row.written ≤ k)
      → ((k ≡ n) ⊎ ((a ≡ to → ⊥) × (row.written ≡ k))) → IsGreatestUpTo rows_of to least (Some a) k
  more after n k a row f is le own one = record {
    above_least = omega (arith, is.above_least, le);
    bound = λ y other h. elim (is_above after y) as (λ b. is_above after y ≡ b → IfSome (rows_of y) (λ r. r.written ≤ k)) [
      | false ↦ λ t. if_more (rows_of y) n k le (is.bound y other t)
      | true ↦ λ t. elim (rows_of y) as (λ o. rows_of y ≡ o → IfSome o (λ r. r.written ≤ k)) [
        | None ↦ λ _. tt
        | Some r ↦ λ e.
            let same : a ≡ y = neither a y h (f.2 y t (ap is_some e)) in
            let here : IfSome (rows_of y) (λ q. q.written ≤ k) = subst (λ z. IfSome (rows_of z) (λ (q : CertRow). q.written ≤ k)) same (subst (λ o. IfSome o (λ (q : CertRow). q.written ≤ k)) (sym f.0) (own (λ z. other (sym same ∙ z)))) in
            subst (λ o. IfSome o (λ (q : CertRow). q.written ≤ k)) e here
      ] refl
    ] refl;
    stands = elim one [
      | inl e ↦ elim is.stands [
        | inl l ↦ inl (e ∙ l)
        | inr s ↦ inr (s.0, s.1, subst (λ z. IsSomeAnd (rows_of s.0) (λ (r : CertRow). r.written ≡ z)) (sym e) s.2)
      ]
      | inr s ↦ inr (a, s.0, subst (λ o. IsSomeAnd o (λ (r : CertRow). r.written ≡ k)) (sym f.0) s.1)
    ];
  }

  pub greatest-more : (after : Option Text) (n k : ℕ) (a : Text) (row : CertRow) → Follows m from after (Some (a, row)) → IsGreatestUpTo rows_of to least after n
      → k ≡ cond (same_text a to) n (cond (nat_lt n row.written) row.written n) → IsGreatestUpTo rows_of to least (Some a) k
  greatest-more after n k a row f is e =
      elim (same_text a to) as (λ b. same_text a to ≡ b → k ≡ cond b n (cond (nat_lt n row.written) row.written n) → IsGreatestUpTo rows_of to least (Some a) k) [
        | true ↦ λ t h. more after n k a row f is (omega (arith, h)) (λ other. absurd (other (same_text_is a to t))) (inl h)
        | false ↦ λ t h.
            let other : a ≡ to → ⊥ = λ z. true≢false (sym (same_text_own a) ∙ ap (same_text a) z ∙ t) in
            elim (nat_lt n row.written) as (λ c. nat_lt n row.written ≡ c → k ≡ cond c row.written n → IsGreatestUpTo rows_of to least (Some a) k) [
              | true ↦ λ c g. more after n k a row f is (grind (arith, c, g)) (λ _. omega (arith, g)) (inr (other, sym g))
              | false ↦ λ c g. more after n k a row f is (omega (arith, g)) (λ _. grind (arith, c, g)) (inl g)
            ] refl h
      ] refl e

  pub greatest-none : IsGreatestUpTo rows_of to least None least
  greatest-none = record { above_least = omega arith; bound = λ y other h. absurd (true≢false h); stands = inl refl }

  pub greatest-all : (after : Option Text) (n : ℕ) → Follows m from after None → IsGreatestUpTo rows_of to least after n → IsGreatestBesides rows_of to least n
  greatest-all after n f is = record {
    above_least = is.above_least;
    bound = λ y other. elim (is_above after y) as (λ b. is_above after y ≡ b → IfSome (rows_of y) (λ (r : CertRow). r.written ≤ n)) [
      | false ↦ λ t. is.bound y other t
      | true ↦ λ t. subst (λ o. IfSome o (λ (r : CertRow). r.written ≤ n)) (sym (f y t)) tt
    ] refl;
    stands = is.stands;
  }
