-- The walk over what falls due up to the time of the block, entry after entry.
use Rattle.std.proofs.Common.{◌≡◌, ℕ, ◌<◌, ◌≤◌, ◌⊎◌, inl, inr, true, false, ◌||◌, Option, is_some, refl, sym, subst, ◌∙◌, true≢false, nat_lt, ltb-true, ltb-false, arith}
use Rattle.std.specs.Ordering.{is_gt}
use Rattle.std.specs.declared.cmp.Ordering.{Ordering}
use Rattle.std.specs.declared.cmp.Ordering.TheVariants.{Less, Equal, Greater}
use Rattle.dubp_atoms.specs.Same.{Text}
use Rattle.dubp_chain.specs.Chains.{Chain}
use Rattle.dubp_expiry.specs.DueOrder.{entry_cmp}
use Rattle.dubp_expiry.specs.Entries.{Has, IsBehind, IsNextDue, NoneIsDue}
use Rattle.dubp_expiry.specs.declared.due.Due.{Due}
use Rattle.dubp_expiry.specs.declared.due.Behind.{Behind}
use Rattle.dubp_expiry.specs.declared.due.Behind.TheVariants.{Time, Entry}
use Rattle.dubp_expiry.proofs.Order.{entry_exact}
use Rattle.dubp_lists.proofs.Elements.{or_true}
use Rattle.dubp_left.specs.Left.{queue_left}
use Rattle.dubp_people_distance.specs.declared.certified.Certified.{Certified}
use Rattle.dubp_people_distance.specs.Ends.{is_end_of_due}

-- the ends of each entry up to the place are known
pub record IsWalked (c : Chain) (place : Behind) (known : Text → Option Certified) : Type 0 where
  pub ends : (time : ℕ) (due : Due) → Has (queue_left c) (time, due) → 0 < time → (IsBehind place (time, due) → ⊥) → (k : Text) → is_end_of_due k due ≡ true → is_some (known k) ≡ true

is_behind : (place : Behind) (e : ℕ × Due) → IsBehind place e ⊎ (IsBehind place e → ⊥)
is_behind (Time time) e = elim (nat_lt time e.0) as (λ t. nat_lt time e.0 ≡ t → (time < e.0) ⊎ (time < e.0 → ⊥)) [
  | true ↦ λ h. inl (ltb-true time e.0 h)
  | false ↦ λ h. inr (λ lt. let le = ltb-false time e.0 h in omega (arith, lt, le))
] refl
is_behind (Entry time due) e = by (entry_cmp (time, due) e) refl
  where
    by : (o : Ordering) → entry_cmp (time, due) e ≡ o → (entry_cmp (time, due) e ≡ Less) ⊎ (entry_cmp (time, due) e ≡ Less → ⊥)
    by Less h = inl h
    by Equal h = inr (λ l. apart (sym h ∙ l))
      where
        apart : Equal ≡ Less → ⊥
        apart x = absurd cc
    by Greater h = inr (λ l. apart (sym h ∙ l))
      where
        apart : Greater ≡ Less → ⊥
        apart x = absurd cc

tied : (o : Ordering) → is_gt o ≡ false → (o ≡ Less → ⊥) → o ≡ Equal
tied Less e not_less = absurd (not_less refl)
tied Equal e not_less = refl
tied Greater e not_less = absurd (true≢false e)

module _ (c : Chain) where
  pub walk_starts : (known : Text → Option Certified) → IsWalked c (Time 0) known
  walk_starts known = record { ends = λ time due there later past. absurd (past later) }

  pub walk_goes_on : (place : Behind) (now t : ℕ) (d : Due) (known new : Text → Option Certified) → IsNextDue (queue_left c) (IsBehind place) now (t, d)
      → ((k : Text) → is_some (new k) ≡ (is_some (known k) || is_end_of_due k d)) → IsWalked c place known → IsWalked c (Entry t d) new
  walk_goes_on place now t d known new next has walk = record {
    ends = λ time due there later past k end.
        has k ∙ elim (is_behind place (time, due)) [
          | inl behind ↦
              let same = entry_exact (t, d) (time, due) (tied (entry_cmp (t, d) (time, due)) (next.least (time, due) there behind) past) in
              or_true (is_some (known k)) (is_end_of_due k d) (inr (subst (λ (e : ℕ × Due). is_end_of_due k e.1 ≡ true) (sym same) end))
          | inr before ↦ or_true (is_some (known k)) (is_end_of_due k d) (inl (walk.ends time due there later before k end))
        ];
  }

  pub walk_ends : (place : Behind) (now : ℕ) (known : Text → Option Certified) → NoneIsDue (queue_left c) (IsBehind place) now → IsWalked c place known
      → (time : ℕ) (due : Due) → Has (queue_left c) (time, due) → 0 < time → time ≤ now → (k : Text) → is_end_of_due k due ≡ true → is_some (known k) ≡ true
  walk_ends place now known none walk time due there later reached k end =
      walk.ends time due there later (λ behind. let late = none (time, due) there behind in omega (arith, late, reached)) k end
