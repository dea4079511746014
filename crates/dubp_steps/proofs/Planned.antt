-- When an entry is planned, waits and is taken, at plain numbers.
use Rattle.std.proofs.Common.{◌≡◌, ℕ, ◌≤◌, Bool, true, false, not, ◌&&◌, ◌==◌, refl, ap, sym, ◌∙◌, subst, true≢false, arith, nat_le, nat_lt, leb-true, le-leb, ltb-true, lt-ltb}
use Rattle.std.proofs.lemmas.Bool.{leb-false, le-ltb}
use Rattle.std.proofs.lemmas.Bool.Decides.{Decides-eqb}
use Rattle.dubp_steps.specs.AfterLines.{is_planned}

-- the two tests are each other's opposite
pub not_le : (a b : ℕ) → not (nat_le a b) ≡ nat_lt b a
not_le a b =
    elim (nat_le a b) as (λ r. nat_le a b ≡ r → not r ≡ nat_lt b a) [
      | true ↦ λ e. sym (le-ltb b a (leb-true a b e))
      | false ↦ λ e. sym (lt-ltb b a (leb-false a b e))
    ] refl

pub not_lt : (a b : ℕ) → not (nat_lt a b) ≡ nat_le b a
not_lt a b = ap not (sym (not_le b a)) ∙ twice (nat_le b a)
  where
    twice : (x : Bool) → not (not x) ≡ x
    twice true = refl
    twice false = refl

pub same_number : (n : ℕ) → (n == n) ≡ true
same_number n = (Decides-eqb n n).1 refl

pub le_later : (a s t : ℕ) → s ≤ t → nat_le a s ≡ true → nat_le a t ≡ true
le_later a s t rises is = let h = leb-true _ _ is in le-leb _ _ (omega (arith, rises, h))

pub lt_earlier : (a s t : ℕ) → s ≤ t → nat_lt t a ≡ true → nat_lt s a ≡ true
lt_earlier a s t rises is = let h = ltb-true _ _ is in lt-ltb _ _ (omega (arith, rises, h))

-- what is planned comes later
pub planned_later : (now end at : ℕ) → is_planned now end at ≡ (is_planned now end at && nat_lt now at)
planned_later now end at =
    elim (end == at) as (λ r. (end == at) ≡ r → (nat_lt now end && r) ≡ ((nat_lt now end && r) && nat_lt now at)) [
      | true ↦ λ e. subst (λ x. (nat_lt now end && true) ≡ ((nat_lt now end && true) && nat_lt now x)) ((Decides-eqb end at).0 e) (same (nat_lt now end))
      | false ↦ λ _. none (nat_lt now end) (nat_lt now at)
    ] refl
  where
    same : (x : Bool) → (x && true) ≡ ((x && true) && x)
    same true = refl
    same false = refl

    none : (x y : Bool) → (x && false) ≡ ((x && false) && y)
    none true y = refl
    none false y = refl

-- what was planned at an earlier time stays where it is later than the time now
pub planned_stays : (t now end at : ℕ) → t ≤ now → is_planned now end at ≡ (is_planned t end at && nat_lt now at)
planned_stays t now end at rises =
    elim (end == at) as (λ r. (end == at) ≡ r → (nat_lt now end && r) ≡ ((nat_lt t end && r) && nat_lt now at)) [
      | true ↦ λ e. subst (λ x. (nat_lt now end && true) ≡ ((nat_lt t end && true) && nat_lt now x)) ((Decides-eqb end at).0 e) (same (nat_lt now end) (nat_lt t end) (lt_earlier end t now rises))
      | false ↦ λ _. none (nat_lt now end) (nat_lt t end) (nat_lt now at)
    ] refl
  where
    same : (x y : Bool) → (x ≡ true → y ≡ true) → (x && true) ≡ ((y && true) && x)
    same true true then = refl
    same true false then = absurd (true≢false (sym (then refl)))
    same false true then = refl
    same false false then = refl

    none : (x y z : Bool) → (x && false) ≡ ((y && false) && z)
    none true true z = refl
    none true false z = refl
    none false true z = refl
    none false false z = refl

-- what is planned later than now is not taken now
pub planned_not_taken : (now end : ℕ) → (is_planned now end end && nat_le end now) ≡ false
planned_not_taken now end = ap (λ x. (nat_lt now end && (end == end)) && x) (sym (not_lt now end)) ∙ apart (nat_lt now end) (end == end)
  where
    apart : (x y : Bool) → ((x && y) && not x) ≡ false
    apart true true = refl
    apart true false = refl
    apart false y = refl

-- an end that was to come and that the time has reached
pub planned_taken : (t now end : ℕ) → (is_planned t end end && nat_le end now) ≡ (not (nat_le end t) && nat_le end now)
planned_taken t now end =
    ap (λ x. (nat_lt t end && x) && nat_le end now) (same_number end)
    ∙ ap (λ x. (x && true) && nat_le end now) (sym (not_le end t))
    ∙ whole (not (nat_le end t)) (nat_le end now)
  where
    whole : (x y : Bool) → ((x && true) && y) ≡ (x && y)
    whole true y = refl
    whole false y = refl

pub planned_at_end : (t end : ℕ) → is_planned t end end ≡ nat_lt t end
planned_at_end t end = ap (λ x. nat_lt t end && x) (same_number end) ∙ whole (nat_lt t end)
  where
    whole : (x : Bool) → (x && true) ≡ x
    whole true = refl
    whole false = refl

pub planned_at : (t end at : ℕ) → is_planned t end at ≡ true → end ≡ at
planned_at t end at e = (Decides-eqb end at).0 (right (nat_lt t end) (end == at) e)
  where
    right : (x y : Bool) → (x && y) ≡ true → y ≡ true
    right true y e = e
    right false y e = absurd (true≢false (sym e))
