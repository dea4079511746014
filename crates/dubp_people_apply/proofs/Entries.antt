-- What a call on the queue leaves in it, in the words of the definitions on chains.
use Rattle.std.proofs.Common.{◌≡◌, ℕ, ◌+◌, ◌*◌, ◌<◌, ◌≤◌, ◌^◌, Bool, true, false, cond, not, ◌||◌, ◌&&◌, ◌==◌, List, [], ◌∷◌, Option, Some, None, option_map, is_some, refl, ap, sym, ◌∙◌, subst, true≢false, arith, lt-ltb}
use Rattle.std.specs.Prelude.{IfSome}
use Rattle.std.specs.Option.{option_map_or}
use Rattle.std.specs.declared.cmp.Ordering.{Ordering}
use Rattle.std.specs.declared.cmp.Ordering.TheVariants.{Less, Equal, Greater}
use Rattle.std.specs.Ordering.{nat_cmp, is_eq, eq_by_cmp}
use Rattle.std.specs.Cmp.{tied_then}
use Rattle.std.specs.FinMap.{get, get-insert, get-remove, insert, remove, nat_cmp-IsAntisymmetric}
use Rattle.std.proofs.lemmas.Bool.{le-ltb}
use Rattle.std.proofs.lemmas.Bool.Decides.{Decides-eqb}
use Rattle.std.proofs.lemmas.Cmp.{tied_itself, nat_cmp_total}
use Rattle.dubp_atoms.specs.Same.{Text}
use Rattle.dubp_chain.specs.Tables.{MembershipRow, CertificationRow}
use Rattle.dubp_chain.specs.Tables as chain
use Rattle.dubp_mindex.specs.declared.member.MemberRow.{MemberRow}
use Rattle.dubp_cindex.specs.declared.row.CertRow.{CertRow}
use Rattle.dubp_expiry.specs.DueOrder.{due_cmp, entry_cmp}
use Rattle.dubp_expiry.specs.Entries.{Queued, queued}
use Rattle.dubp_expiry.specs.declared.due.Due.{Due as DueValue}
use Rattle.dubp_expiry.specs.declared.due.Due.TheVariants.{Membership, Revocation, Certification}
use Rattle.dubp_expiry.proofs.Order.{entry_total}
use Rattle.dubp_left.specs.Left.{due_of, member_entry, cert_entry}
use Rattle.dubp_steps.specs.AfterLines.{enter_entry, certify_entry}
use Rattle.dubp_steps.specs.Loops.{same_due, is_entry, with_entry, without_entry, with_later, without_ends, without_end}
use Rattle.dubp_steps.proofs.Rising.{same_truth, text_tied, pair_tied}
use Rattle.dubp_steps.proofs.Lines.{entering_replans, certifying_replans}
use Rattle.dubp_people_apply.specs.Held.{Waiting, HasEntries}
use Rattle.dubp_people_apply.specs.Lines.{EndsAreSmall, EndIsSmall, IsReplaced, IsReplacedPair}

-- ---- when two entries are one

due_tied : (d e : DueValue) → is_eq (due_cmp d e) ≡ same_due (due_of d) (due_of e)
due_tied (Membership k) (Membership l) = text_tied k l
due_tied (Membership k) (Revocation l) = refl
due_tied (Membership k) (Certification x y) = refl
due_tied (Revocation k) (Membership l) = refl
due_tied (Revocation k) (Revocation l) = text_tied k l
due_tied (Revocation k) (Certification x y) = refl
due_tied (Certification x y) (Membership l) = refl
due_tied (Certification x y) (Revocation l) = refl
due_tied (Certification x y) (Certification z w) = pair_tied x y (z, w)

same_number : (t at : ℕ) → is_eq (nat_cmp t at) ≡ (at == t)
same_number t at = same_truth _ _ (λ e. (Decides-eqb at t).1 (sym (nat_cmp-IsAntisymmetric t at (equal _ e)))) (λ e. subst (λ x. is_eq (nat_cmp t x) ≡ true) (sym ((Decides-eqb at t).0 e)) (ap is_eq (tied_itself nat_cmp_total t)))
  where
    equal : (r : Ordering) → is_eq r ≡ true → r ≡ Equal
    equal Less e = absurd (true≢false (sym e))
    equal Equal e = refl
    equal Greater e = absurd (true≢false (sym e))

pub entry_tied : (time : ℕ) (due : DueValue) (t : ℕ) (d : DueValue) → eq_by_cmp entry_cmp (t, d) (time, due) ≡ is_entry time (due_of due) t (due_of d)
entry_tied time due t d = sym (tied_then (nat_cmp t time) (due_cmp d due)) ∙ (λ i. same_number t time i && due_tied d due i)

-- ---- one entry less, one more, and the same by other words

module _ {At New : List Queued → Type 0} (time : ℕ) (due : DueValue) (waiting : Waiting) where
  pub taken_out : ((s t : List Queued) → At s → New (remove (queued s) (time, due) ∷ t)) → HasEntries At waiting → HasEntries New (without_entry time (due_of due) waiting)
  taken_out at has = record {
    state = remove (queued has.state) (time, due) ∷ [];
    at = at has.state [] has.at;
    has = λ t d.
        ap is_some (get-remove entry_total (queued has.state) (time, due) (t, d))
        ∙ ap (λ r. is_some (cond r None (get (queued has.state) (t, d)))) (entry_tied time due t d)
        ∙ by (is_entry time (due_of due) t (due_of d)) (get (queued has.state) (t, d))
        ∙ ap (λ x. not (is_entry time (due_of due) t (due_of d)) && x) (has.has t d);
  }
    where
      by : {X : Type 0} (r : Bool) (o : Option X) → is_some (cond r None o) ≡ (not r && is_some o)
      by true o = refl
      by false o = refl

  pub put_in : ((s t : List Queued) → At s → New (insert (queued s) (time, due) tt ∷ t)) → HasEntries At waiting → HasEntries New (with_entry time (due_of due) waiting)
  put_in at has = record {
    state = insert (queued has.state) (time, due) tt ∷ [];
    at = at has.state [] has.at;
    has = λ t d.
        ap is_some (get-insert entry_total (queued has.state) (time, due) tt (t, d))
        ∙ ap (λ r. is_some (cond r (Some tt) (get (queued has.state) (t, d)))) (entry_tied time due t d)
        ∙ by (is_entry time (due_of due) t (due_of d)) (get (queued has.state) (t, d))
        ∙ ap (λ x. is_entry time (due_of due) t (due_of d) || x) (has.has t d);
  }
    where
      by : (r : Bool) (o : Option (Unit {0})) → is_some (cond r (Some tt) o) ≡ (r || is_some o)
      by true o = refl
      by false o = refl

module _ {At : List Queued → Type 0} where
  pub has_same : (q r : Waiting) → ((time : ℕ) (due : chain.Due) → q time due ≡ r time due) → HasEntries At q → HasEntries At r
  has_same q r same has = subst (HasEntries At) (λ i time due. same time due i) has

  pub is_later : (now time : ℕ) (due : DueValue) (waiting : Waiting) → now < time → HasEntries At (with_entry time (due_of due) waiting) → HasEntries At (with_later now time (due_of due) waiting)
  is_later now time due waiting later has = subst (λ x. HasEntries At (cond x (with_entry time (due_of due) waiting) waiting)) (sym (lt-ltb now time later)) has

  pub is_over : (now time : ℕ) (due : DueValue) (waiting : Waiting) → time ≤ now → HasEntries At waiting → HasEntries At (with_later now time (due_of due) waiting)
  is_over now time due waiting over has = subst (λ x. HasEntries At (cond x (with_entry time (due_of due) waiting) waiting)) (sym (le-ltb now time over)) has

-- ---- the ends of a row

pub none_out : {At : List Queued → Type 0} (row : Option MemberRow) (before : Option MembershipRow) (lasting : ℕ) (key : Text) (waiting : Waiting) → row ≡ None → row ≡ option_map member_entry before
    → HasEntries At waiting → HasEntries At (without_ends lasting key before waiting)
none_out row None lasting key waiting none is has = has
none_out row (Some r) lasting key waiting none is has = absurd (true≢false (ap is_some (sym is ∙ none)))

module _ {A B C : List Queued → Type 0} (lasting : ℕ) (key : Text) (waiting : Waiting) where
  pub ends_out : (row : MemberRow) (o : Option MemberRow) (before : Option MembershipRow) (expiry revocation : ℕ) → o ≡ Some row → o ≡ option_map member_entry before → IfSome before (EndsAreSmall lasting)
      → (row.made + lasting < 2 ^ 64 → expiry ≡ row.made + lasting) → (row.made + 2 * lasting < 2 ^ 64 → revocation ≡ row.made + 2 * lasting)
      → ((w : Waiting) → HasEntries A w → HasEntries B (without_entry expiry (chain.Due.Membership key) w))
      → ((w : Waiting) → HasEntries B w → HasEntries C (without_entry revocation (chain.Due.Revocation key) w))
      → HasEntries A waiting → HasEntries C (without_ends lasting key before waiting)
  ends_out row o None expiry revocation some is small first second left right has = absurd (true≢false (ap is_some (sym some ∙ is)))
  ends_out row o (Some r) expiry revocation some is small first second left right has =
      let same : row.made ≡ r.made = ap (λ o. option_map_or (λ (m : MemberRow). m.made) o 0) (sym some ∙ is) in
      let e : expiry ≡ r.made + lasting = first (omega (arith, same, small)) ∙ ap (λ n. n + lasting) same in
      let v : revocation ≡ r.made + 2 * lasting = second (omega (arith, same, small)) ∙ ap (λ n. n + 2 * lasting) same in
      subst (λ (p : ℕ × ℕ). HasEntries C (without_entry p.1 (chain.Due.Revocation key) (without_entry p.0 (chain.Due.Membership key) waiting))) (λ i. (e i, v i))
      (right _ (left waiting has))

module _ {A B C D : List Queued → Type 0} (now lasting made : ℕ) (key : Text) (waiting : Waiting) where
  pub replanned : (row : Option MemberRow) (before : Option MembershipRow) (expiry revocation : ℕ) → IsReplaced lasting made key row before waiting
      → (made + lasting < 2 ^ 64 → expiry ≡ made + lasting) → (made + 2 * lasting < 2 ^ 64 → revocation ≡ made + 2 * lasting)
      → ((w : Waiting) (o : Option MembershipRow) → row ≡ option_map member_entry o → IfSome o (EndsAreSmall lasting) → HasEntries A w → HasEntries B (without_ends lasting key o w))
      → ((w : Waiting) → HasEntries B w → HasEntries C (with_later now expiry (chain.Due.Membership key) w))
      → ((w : Waiting) → HasEntries C w → HasEntries D (with_later now revocation (chain.Due.Revocation key) w))
      → HasEntries A waiting → HasEntries D (λ time due. enter_entry now lasting made key time due (waiting time due))
  replanned row before expiry revocation replaced first second out left right has =
      let small = replaced.new_small in
      let e : expiry ≡ made + lasting = first (omega (arith, small)) in
      let v : revocation ≡ made + 2 * lasting = second small in
      has_same _ _ (entering_replans now lasting made key before waiting replaced.ends)
      (subst (λ (p : ℕ × ℕ). HasEntries D (with_later now p.1 (chain.Due.Revocation key) (with_later now p.0 (chain.Due.Membership key) (without_ends lasting key before waiting)))) (λ i. (e i, v i))
      (right _ (left _ (out waiting before replaced.is replaced.small has))))

-- ---- the end of a certification

pub none_out_pair : {At : List Queued → Type 0} (row : Option CertRow) (before : Option CertificationRow) (lasting : ℕ) (from to : Text) (waiting : Waiting) → row ≡ None → row ≡ option_map cert_entry before
    → HasEntries At waiting → HasEntries At (without_end lasting from to before waiting)
none_out_pair row None lasting from to waiting none is has = has
none_out_pair row (Some r) lasting from to waiting none is has = absurd (true≢false (ap is_some (sym is ∙ none)))

module _ {A B : List Queued → Type 0} (lasting : ℕ) (from to : Text) (waiting : Waiting) where
  pub end_out : (row : CertRow) (o : Option CertRow) (before : Option CertificationRow) (end : ℕ) → o ≡ Some row → o ≡ option_map cert_entry before → IfSome before (EndIsSmall lasting)
      → (row.made + lasting < 2 ^ 64 → end ≡ row.made + lasting)
      → ((w : Waiting) → HasEntries A w → HasEntries B (without_entry end (chain.Due.Certification from to) w))
      → HasEntries A waiting → HasEntries B (without_end lasting from to before waiting)
  end_out row o None end some is small at out has = absurd (true≢false (ap is_some (sym some ∙ is)))
  end_out row o (Some r) end some is small at out has =
      let same : row.made ≡ r.made = ap (λ o. option_map_or (λ (m : CertRow). m.made) o 0) (sym some ∙ is) in
      let e : end ≡ r.made + lasting = at (omega (arith, same, small)) ∙ ap (λ n. n + lasting) same in
      subst (λ (n : ℕ). HasEntries B (without_entry n (chain.Due.Certification from to) waiting)) e (out waiting has)

module _ {A B C : List Queued → Type 0} (now lasting made : ℕ) (from to : Text) (waiting : Waiting) where
  pub replanned_pair : (row : Option CertRow) (before : Option CertificationRow) (end : ℕ) → IsReplacedPair lasting made from to row before waiting
      → (made + lasting < 2 ^ 64 → end ≡ made + lasting)
      → ((w : Waiting) (o : Option CertificationRow) → row ≡ option_map cert_entry o → IfSome o (EndIsSmall lasting) → HasEntries A w → HasEntries B (without_end lasting from to o w))
      → ((w : Waiting) → HasEntries B w → HasEntries C (with_later now end (chain.Due.Certification from to) w))
      → HasEntries A waiting → HasEntries C (λ time due. certify_entry now lasting made from to time due (waiting time due))
  replanned_pair row before end replaced at out plan has =
      has_same _ _ (certifying_replans now lasting made from to before waiting replaced.ends)
      (subst (λ (n : ℕ). HasEntries C (with_later now n (chain.Due.Certification from to) (without_end lasting from to before waiting))) (at replaced.new_small)
      (plan _ (out waiting before replaced.is replaced.small has)))
