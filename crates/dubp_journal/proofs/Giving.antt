-- A key whose slot holds nothing, and that no change names, is given up.
use Rattle.std.proofs.Common.{◌≡◌, ℕ, Bool, true, false, cond, List, get_or, set, Option, Some, None, IsSome, refl, sym, ap, subst, ◌∙◌, inl, inr}
use Rattle.std.specs.declared.cmp.Ordering.{Ordering}
use Rattle.std.specs.Cmp.{IsTotalOrder, eq_by_cmp_equiv}
use Rattle.std.specs.BTreeMap.{is_at}
use Rattle.std.proofs.lemmas.Bool.{cases_eq}
use Rattle.std.proofs.lemmas.List.{length-set, get_or-set_same, get_or-set_other}
use Rattle.dubp_journal.specs.Slots.{Finds, IsDead, GivesUp}
use Rattle.dubp_journal.proofs.Live.{slot_within}

module _ {K : Type 0} {cmp : K → K → Ordering} (o : IsTotalOrder cmp) {slot_of : K → Option ℕ} {keys : List (Option K)} (f : Finds cmp slot_of keys) (i : ℕ) (k : K) (at : get_or keys i None ≡ Some k) (slot_of' : K → Option ℕ) (removed : (q : K) → slot_of' q ≡ cond (is_at (cmp k) q) None (slot_of q)) where
  found_i : slot_of k ≡ Some i
  found_i = f.found i k at

  found_else : (j : ℕ) (q : K) → (j ≡ i → ⊥) → slot_of q ≡ Some j → (b : Bool) → is_at (cmp k) q ≡ b → slot_of' q ≡ Some j
  found_else j q off e true s = (let a = f.alike k q s in let b = found_i in let same : j ≡ i = cc in absurd (off same))
  found_else j q off e false s = removed q ∙ rw s e

  found_left : (j : ℕ) (q : K) → get_or (set keys i None) j None ≡ Some q → slot_of' q ≡ Some j
  found_left j q is = elim (cases_eq j i) [
    | inl here ↦ (let gone = get_or-set_same keys i None None (slot_within f k i found_i) in absurd (cc))
    | inr off ↦ found_else j q off (f.found j q (sym (get_or-set_other keys i j None None off) ∙ is)) (is_at (cmp k) q) refl
  ]

  has_left : (q : K) (j : ℕ) → slot_of' q ≡ Some j → (b : Bool) → is_at (cmp k) q ≡ b → (l : K) × (get_or (set keys i None) j None ≡ Some l) × (is_at (cmp q) l ≡ true)
  has_left q j e true s = (let none : None ≡ Some j = sym (ap (λ b. cond b None (slot_of q)) s) ∙ sym (removed q) ∙ e in absurd (cc))
  has_left q j e false s =
      let was : slot_of q ≡ Some j = sym (ap (λ b. cond b None (slot_of q)) s) ∙ sym (removed q) ∙ e in
      let h = f.has q j was in
      elim (cases_eq j i) [
        | inl same ↦ (
            let mine : h.0 ≡ k = (let x = h.1 in cc) in
            let yes : is_at (cmp k) q ≡ true = (eq_by_cmp_equiv o).symm k q ∙ subst (λ x. is_at (cmp q) x ≡ true) mine h.2 in
            absurd (cc))
        | inr off ↦ (h.0, get_or-set_other keys i j None None off ∙ h.1, h.2)
      ]

  alike_left : (q l : K) → is_at (cmp q) l ≡ true → slot_of' q ≡ slot_of' l
  alike_left q l s =
      let eq = eq_by_cmp_equiv o in
      let test : is_at (cmp k) q ≡ is_at (cmp k) l = eq.symm k q ∙ eq.congr q l k s ∙ eq.symm l k in
      removed q ∙ rw (test, f.alike q l s) (sym (removed l))

  only_left : (q : K) (b : Bool) → is_at (cmp k) q ≡ b → IsSome (slot_of' q) → IsSome (slot_of q)
  only_left q true e some = (let none : IsSome (cond true None (slot_of q)) = subst (λ b. IsSome (cond b None (slot_of q))) e (subst (λ x. IsSome x) (removed q) some) in absurd (cc))
  only_left q false e some = subst (λ b. IsSome (cond b None (slot_of q))) e (subst (λ x. IsSome x) (removed q) some)

  -- one key is given up
  pub gives_up_one : {V : Type 0} (uses : List ℕ) (slots : List (Option V)) → IsDead uses slots i → GivesUp cmp uses slots keys slot_of (set keys i None) slot_of'
  gives_up_one uses slots dead = record {
    finds = record { found = found_left; has = λ q j e. has_left q j e (is_at (cmp k) q) refl; alike = alike_left };
    same_length = length-set keys i None;
    others = λ x. elim (cases_eq x i) [
      | inl same ↦ inr (rw same dead)
      | inr off ↦ inl (get_or-set_other keys i x None None off)
    ];
    dead = λ x none. elim (cases_eq x i) [
      | inl same ↦ inr (rw same dead)
      | inr off ↦ inl (sym (get_or-set_other keys i x None None off) ∙ none)
    ];
    only = λ q some. only_left q (is_at (cmp k) q) refl some;
  }

-- one after the other
pub gives_up_none : {K V : Type 0} {cmp : K → K → Ordering} {slot_of : K → Option ℕ} (uses : List ℕ) (slots : List (Option V)) (keys : List (Option K)) → Finds cmp slot_of keys → GivesUp cmp uses slots keys slot_of keys slot_of
gives_up_none uses slots keys f = record { finds = f; same_length = refl; others = λ x. inl refl; dead = λ i none. inl none; only = λ q some. some }

pub gives_up_more : {K V : Type 0} {cmp : K → K → Ordering} {uses : List ℕ} {slots : List (Option V)} {keys keys' keys'' : List (Option K)} {s s' s'' : K → Option ℕ} → GivesUp cmp uses slots keys s keys' s' → GivesUp cmp uses slots keys' s' keys'' s'' → GivesUp cmp uses slots keys s keys'' s''
gives_up_more a b = record {
  finds = b.finds;
  same_length = b.same_length ∙ a.same_length;
  others = λ x. elim (b.others x) [
    | inl same ↦ elim (a.others x) [ inl was ↦ inl (same ∙ was) | inr dead ↦ inr dead ]
    | inr dead ↦ inr dead
  ];
  dead = λ i none. elim (b.dead i none) [ inl was ↦ a.dead i was | inr dead ↦ inr dead ];
  only = λ q some. a.only q (b.only q some);
}
