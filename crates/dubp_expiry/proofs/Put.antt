-- The table is that of a state with an entry more, or with one less, where the entry is set or taken out.
use Rattle.std.proofs.Common.{◌≡◌, ℕ, zero, suc, ◌+◌, ◌-◌, ◌≤◌, true, false, cond, List, [], ◌∷◌, Option, Some, None, is_some, refl, sym, ap, ◌∙◌, subst, true≢false, arith}
use Rattle.std.specs.FinMap as map
use Rattle.std.specs.FinMap.{FinMap, get-empty, get-insert, get-remove, insert, remove, same_map, from_entries, len, len-remove, empty_of_len, contains_key}
use Rattle.std.specs.Ordering.{nat_cmp, ordering_then, is_eq, eq_by_cmp}
use Rattle.std.specs.declared.cmp.Ordering.{Ordering}
use Rattle.std.specs.declared.cmp.Ordering.TheVariants.{Less, Equal, Greater}
use Rattle.dubp_undo.specs.Definition.{IsAt}
use Rattle.dubp_undo.specs.MovingTable.{Puts, get}
use Rattle.dubp_undo.proofs.Maps.{get_map, puts_remove}
use Rattle.dubp_expiry.specs.DueOrder.{due_cmp, entry_cmp, derived_cmp}
use Rattle.dubp_expiry.specs.Entries.{Place, Queued, queued, Has, entry_at, place_cmp, how_many}
use Rattle.dubp_expiry.specs.declared.due.Due.{Due}
use Rattle.dubp_expiry.proofs.Order.{derived_is, entry_total, entry_exact, place_total, place_exact}

abbrev pub Table : Type 0
Table = List (Place × Unit {0})

pub empty_at : (m : Table) → m ≡ [] → IsAt (place_cmp derived_cmp) entry_at m []
empty_at m e = rw e nothing
  where
    nothing : (k : Place) → None ≡ entry_at [] k
    nothing (time, None) = refl
    nothing (time, Some due) = sym (get-empty entry_cmp (time, due))

never : (r : Ordering) → is_eq (ordering_then r Less) ≡ false
never Less = refl
never Equal = refl
never Greater = refl

module _ (m : Table) (s : List Queued) (time : ℕ) (due : Due) (is : IsAt (place_cmp derived_cmp) entry_at m s) where
  -- an entry that is there, put once more
  pub planned_before : (t : List Queued) → Has (queued s) (time, due) → IsAt (place_cmp derived_cmp) entry_at m (insert (queued s) (time, due) tt ∷ t)
  planned_before t has = subst (λ (q : Queued). IsAt (place_cmp derived_cmp) entry_at m (q ∷ t)) (sym same) is
    where
      unit : (o : Option (Unit {0})) → is_some o ≡ true → Some tt ≡ o
      unit None e = absurd (true≢false (sym e))
      unit (Some tt) e = refl

      same : insert (queued s) (time, due) tt ≡ queued s
      same = same_map entry_total entry_exact _ _ (λ q. get-insert entry_total (queued s) (time, due) tt q
          ∙ elim (eq_by_cmp entry_cmp q (time, due)) as (λ r. eq_by_cmp entry_cmp q (time, due) ≡ r → cond r (Some tt) (map.get (queued s) q) ≡ map.get (queued s) q) [
            | true ↦ λ e. unit _ (ap (λ x. contains_key (queued s) x) (entry_exact q (time, due) (equal _ e)) ∙ has)
            | false ↦ λ e. refl
          ] refl)
        where
          equal : (r : Ordering) → is_eq r ≡ true → r ≡ Equal
          equal Less e = absurd (true≢false (sym e))
          equal Equal e = refl
          equal Greater e = absurd (true≢false (sym e))

  -- an entry that is not there, taken out once more
  pub cancelled_before : (t : List Queued) → contains_key (queued s) (time, due) ≡ false → IsAt (place_cmp derived_cmp) entry_at m (remove (queued s) (time, due) ∷ t)
  cancelled_before t none = subst (λ (q : Queued). IsAt (place_cmp derived_cmp) entry_at m (q ∷ t)) (sym same) is
    where
      nothing : (o : Option (Unit {0})) → is_some o ≡ false → None ≡ o
      nothing None e = refl
      nothing (Some tt) e = absurd (true≢false e)

      same : remove (queued s) (time, due) ≡ queued s
      same = same_map entry_total entry_exact _ _ (λ q. get-remove entry_total (queued s) (time, due) q
          ∙ elim (eq_by_cmp entry_cmp q (time, due)) as (λ r. eq_by_cmp entry_cmp q (time, due) ≡ r → cond r None (map.get (queued s) q) ≡ map.get (queued s) q) [
            | true ↦ λ e. nothing _ (ap (λ x. contains_key (queued s) x) (entry_exact q (time, due) (equal _ e)) ∙ none)
            | false ↦ λ e. refl
          ] refl)
        where
          equal : (r : Ordering) → is_eq r ≡ true → r ≡ Equal
          equal Less e = absurd (true≢false (sym e))
          equal Equal e = refl
          equal Greater e = absurd (true≢false (sym e))

  -- where the key is set, each place has what the new state has
  changed : (n : Table) (v : Option (Unit {0})) (new : Queued) (t : List Queued) → Puts (place_cmp due_cmp) m n (time, Some due) v → IsAt (place_cmp due_cmp) entry_at m s
      → ((q : ℕ × Due) → map.get new q ≡ cond (eq_by_cmp entry_cmp q (time, due)) v (map.get (queued s) q)) → IsAt (place_cmp due_cmp) entry_at n (new ∷ t)
  changed n v new t puts at gets (at_time, None) = puts (at_time, None) ∙ ap (λ r. cond r v (get (place_cmp due_cmp) m (at_time, None))) (never (nat_cmp at_time time)) ∙ at (at_time, None)
  changed n v new t puts at gets (at_time, Some other) =
      puts (at_time, Some other) ∙ ap (cond (eq_by_cmp entry_cmp (at_time, other) (time, due)) v) (at (at_time, Some other)) ∙ sym (gets (at_time, other))

  pub planned : (n : Table) (t : List Queued) → Puts (place_cmp derived_cmp) m n (time, Some due) (Some tt) → IsAt (place_cmp derived_cmp) entry_at n (insert (queued s) (time, due) tt ∷ t)
  planned n t puts =
      subst (λ D. IsAt (place_cmp D) entry_at n (insert (queued s) (time, due) tt ∷ t)) (sym derived_is)
      (changed n (Some tt) _ t (subst (λ D. Puts (place_cmp D) m n (time, Some due) (Some tt)) derived_is puts) (subst (λ D. IsAt (place_cmp D) entry_at m s) derived_is is) (get-insert entry_total (queued s) (time, due) tt))

  pub cancelled : (n : Table) (t : List Queued) → Puts (place_cmp derived_cmp) m n (time, Some due) None → IsAt (place_cmp derived_cmp) entry_at n (remove (queued s) (time, due) ∷ t)
  cancelled n t puts =
      subst (λ D. IsAt (place_cmp D) entry_at n (remove (queued s) (time, due) ∷ t)) (sym derived_is)
      (changed n None _ t (subst (λ D. Puts (place_cmp D) m n (time, Some due) None) derived_is puts) (subst (λ D. IsAt (place_cmp D) entry_at m s) derived_is is) (get-remove entry_total (queued s) (time, due)))

  -- and an entry that was there is one of the table's no more
  pub one_fewer : (n : Table) → Puts (place_cmp derived_cmp) m n (time, Some due) None → Has (queued s) (time, due) → how_many n + 1 ≡ how_many m
  one_fewer n puts has =
      let less : from_entries {R = place_cmp due_cmp} n ≡ remove (from_entries m) (time, Some due) =
      puts_remove place_total place_exact m n (time, Some due) (subst (λ D. Puts (place_cmp D) m n (time, Some due) None) derived_is puts) in
      let there : contains_key (from_entries {R = place_cmp due_cmp} m) (time, Some due) ≡ true =
      ap is_some (get_map place_total m (time, Some due) ∙ subst (λ D. IsAt (place_cmp D) entry_at m s) derived_is is (time, Some due)) ∙ has in
      let count : how_many n ≡ how_many m - 1 = ap len less ∙ len-remove place_total (from_entries m) (time, Some due) ∙ ap (λ b. cond b (how_many m - 1) (how_many m)) there in
      let some : 1 ≤ how_many m = some_entry (how_many m) refl there in
      omega (arith, count, some)
    where
      some_entry : (l : ℕ) → how_many m ≡ l → contains_key (from_entries {R = place_cmp due_cmp} m) (time, Some due) ≡ true → 1 ≤ l
      some_entry zero e there =
          absurd (true≢false (sym there ∙ ap (λ (f : FinMap (place_cmp due_cmp) (Unit {0})). contains_key f (time, Some due)) (empty_of_len (from_entries m) e) ∙ ap is_some (get-empty (place_cmp due_cmp) (time, Some due))))
      some_entry (suc l) e there = omega arith
