-- What a line of Certifications makes of the rows and of the queue.
use Rattle.std.proofs.Common.{◌≡◌, ℕ, ◌+◌, ◌<◌, ◌^◌, Bool, true, false, cond, ◌&&◌, List, [], ◌∷◌, Option, Some, None, option_map, is_some, nat_lt, take, length, get_or, refl, ap, sym, ◌∙◌, subst, true≢false}
use Rattle.std.specs.Prelude.{IfSome, fold}
use Rattle.std.specs.Option.{option_map_or}
use Rattle.std.specs.FinMap.{get, get-insert, insert, empty}
use Rattle.std.proofs.lemmas.List.Sums.{fold_more}
use Rattle.dubp_atoms.specs.Same.{Text, same_text}
use Rattle.dubp_moving.specs.States.{newest}
use Rattle.dubp_block.specs.declared.block.Block.{Block}
use Rattle.dubp_block.specs.declared.block.CertLine.{CertLine}
use Rattle.dubp_chain.specs.Chains.{Chain}
use Rattle.dubp_chain.specs.Tables.{CertificationRow}
use Rattle.dubp_steps.proofs.OfLists.{same_text_is}
use Rattle.dubp_steps.proofs.OfLists.{and_left, and_right}
use Rattle.dubp_cindex.specs.Rows.{Rows}
use Rattle.dubp_cindex.specs.declared.row.CertRow.{CertRow}
use Rattle.dubp_expiry.specs.Entries.{Queued}
use Rattle.dubp_left.specs.Left.{cert_entry}
use Rattle.dubp_left.specs.Next.{IsWritten}
use Rattle.dubp_left.specs.declared.next.Next.{Next}
use Rattle.dubp_steps.specs.AfterLines.{now_of, cert_lasting, certification_time, certified_row, certify_line, certify_entry, certify_queue}
use Rattle.dubp_steps.proofs.Rising.{pair_tied, pair_total}
use Rattle.dubp_steps.proofs.Lines.{each_line_stands}
use Rattle.dubp_people_apply.specs.Held.{Certifications, Waiting, HasCertifications, HasEntries}
use Rattle.dubp_people_apply.specs.Lines.{EndIsSmall, IsReplacedPair, StandsCertified}
use Rattle.dubp_people_apply.proofs.Small.{certifying_small}

-- ---- a row that is put

module _ {M N : List Rows → Type 0} (rows : Certifications) (from to : Text) where
  pub put_pair : (new : CertRow) (row : CertificationRow) → new ≡ cert_entry row → ((s t : List Rows) → M s → N (insert (newest empty s) (from, to) new ∷ t))
      → HasCertifications M rows → HasCertifications N (λ x y. cond (same_text x from && same_text y to) (Some row) (rows x y))
  put_pair new row is put has = record {
    state = insert (newest empty has.state) (from, to) new ∷ [];
    at = put has.state [] has.at;
    has = λ x y.
        get-insert pair_total (newest empty has.state) (from, to) new (x, y)
        ∙ (λ i. cond (pair_tied x y (from, to) i) (Some (is i)) (has.has x y i))
        ∙ by (same_text x from && same_text y to) (rows x y);
  }
    where
      by : (r : Bool) (o : Option CertificationRow) → cond r (Some (cert_entry row)) (option_map cert_entry o) ≡ option_map cert_entry (cond r (Some row) o)
      by true o = refl
      by false o = refl

pub looked_pair : {M : List Rows → Type 0} {rows : Certifications} (row : Option CertRow) (from to : Text) → HasCertifications M rows → ((s : List Rows) → M s → row ≡ get (newest empty s) (from, to)) → row ≡ option_map cert_entry (rows from to)
looked_pair row from to has look = look has.state has.at ∙ has.has from to

-- ---- a row that is changed, where there is one

unmapped : (o : Option CertificationRow) → option_map cert_entry o ≡ None → o ≡ None
unmapped None e = refl
unmapped (Some r) e = absurd (true≢false (ap is_some e))

mapped : (o : Option CertificationRow) (before : CertRow) → option_map cert_entry o ≡ Some before → (r : CertificationRow) × ((o ≡ Some r) × (before ≡ cert_entry r))
mapped None before e = absurd (true≢false (sym (ap is_some e)))
mapped (Some r) before e = (r, (refl, ap (λ o. option_map_or (λ (m : CertRow). m) o before) (sym e)))

module _ (f : CertificationRow → CertificationRow) (from to : Text) (rows : Certifications) where
  abbrev pub changed_pair : Certifications
  changed_pair x y = cond (same_text x from && same_text y to) (option_map f (rows x y)) (rows x y)

  -- the pair is this one
  there_at : (x y : Text) → (same_text x from && same_text y to) ≡ true → rows x y ≡ rows from to
  there_at x y e = λ i. rows (same_text_is x from (and_left _ (same_text y to) e) i) (same_text_is y to (and_right (same_text x from) _ e) i)

  pub pair_changes_none : {M : List Rows → Type 0} (row : Option CertRow) → row ≡ None → ((s : List Rows) → M s → row ≡ get (newest empty s) (from, to)) → HasCertifications M rows → HasCertifications M changed_pair
  pair_changes_none {M = M} row none look has = subst (HasCertifications M) (λ i x y. stays x y i) has
    where
      missing : rows from to ≡ None
      missing = unmapped _ (sym (looked_pair row from to has look) ∙ none)

      stays : (x y : Text) → rows x y ≡ changed_pair x y
      stays x y =
          elim (same_text x from && same_text y to) as (λ r. (same_text x from && same_text y to) ≡ r → rows x y ≡ cond r (option_map f (rows x y)) (rows x y)) [
            | true ↦ λ e. let none = there_at x y e ∙ missing in none ∙ sym (ap (option_map f) none)
            | false ↦ λ _. refl
          ] refl

  pair_changed : {M N : List Rows → Type 0} (r : CertificationRow) (new : CertRow) → rows from to ≡ Some r → new ≡ cert_entry (f r) → ((s t : List Rows) → M s → N (insert (newest empty s) (from, to) new ∷ t))
      → HasCertifications M rows → HasCertifications N changed_pair
  pair_changed {N = N} r new there is put has = subst (HasCertifications N) (λ i x y. same x y i) (put_pair rows from to new (f r) is put has)
    where
      same : (x y : Text) → cond (same_text x from && same_text y to) (Some (f r)) (rows x y) ≡ changed_pair x y
      same x y =
          elim (same_text x from && same_text y to) as (λ t. (same_text x from && same_text y to) ≡ t → cond t (Some (f r)) (rows x y) ≡ cond t (option_map f (rows x y)) (rows x y)) [
            | true ↦ λ e. sym (ap (option_map f) (there_at x y e ∙ there))
            | false ↦ λ _. refl
          ] refl

  pub pair_changes_some : {M N : List Rows → Type 0} (g : CertRow → CertRow) → ((r : CertificationRow) → g (cert_entry r) ≡ cert_entry (f r)) → (row : Option CertRow) (before : CertRow) → row ≡ Some before
      → ((s : List Rows) → M s → row ≡ get (newest empty s) (from, to)) → ((s t : List Rows) → M s → N (insert (newest empty s) (from, to) (g before) ∷ t)) → HasCertifications M rows → HasCertifications N changed_pair
  pair_changes_some g same row before some look put has =
      let r = mapped (rows from to) before (sym (looked_pair row from to has look) ∙ some) in
      pair_changed r.0 (g before) r.1.0 (ap g r.1.1 ∙ same r.0) put has

-- ---- a line of Certifications

module _ {M N : List Rows → Type 0} {Q R : List Queued → Type 0} (c : Chain) (b : Block) (line : CertLine) (rows : Certifications) (waiting : Waiting) where
  pub certified : (next : Next) (made end : ℕ) (row : Option CertRow) → IsWritten c b next → made ≡ certification_time c b line → (made + next.params.sig_validity < 2 ^ 64 → end ≡ made + next.params.sig_validity)
      → ((s : List Rows) → M s → row ≡ get (newest empty s) (line.from, line.to))
      → ((w : Waiting) (o : Option CertificationRow) → IsReplacedPair next.params.sig_validity made line.from line.to row o w → HasEntries Q w
      → HasEntries R (λ time due. certify_entry next.time next.params.sig_validity made line.from line.to time due (w time due)))
      → ((s t : List Rows) → M s → N (insert (newest empty s) (line.from, line.to) (record { made = made; written = b.number; live = nat_lt next.time end }) ∷ t))
      → StandsCertified c b M Q rows waiting → StandsCertified c b N R (λ x y. certify_line c b x y (rows x y) line) (λ time due. certify_queue c b time due (waiting time due) line)
  certified next made end row written made_is end_is look plan put stands =
      let lasting_is : next.params.sig_validity ≡ cert_lasting c b = ap (λ p. p.sig_validity) written.is_next.params in
      let now_is : next.time ≡ now_of c b = written.is_next.time in
      let small : certification_time c b line + cert_lasting c b < 2 ^ 64 = certifying_small c b written.sound line in
      let end_same : end ≡ certification_time c b line + cert_lasting c b =
      end_is (subst (λ (p : ℕ × ℕ). p.0 + p.1 < 2 ^ 64) (λ i. (sym made_is i, sym lasting_is i)) small) ∙ (λ i. made_is i + lasting_is i) in
      let row_is : row ≡ option_map cert_entry (rows line.from line.to) = looked_pair row line.from line.to stands.rows look in
      let replaced : IsReplacedPair next.params.sig_validity made line.from line.to row (rows line.from line.to) waiting =
      subst (λ (p : ℕ × ℕ). IsReplacedPair p.0 p.1 line.from line.to row (rows line.from line.to) waiting) (λ i. (sym lasting_is i, sym made_is i))
      (record { is = row_is; ends = stands.ends line.from line.to; small = stands.small line.from line.to; new_small = small }) in
      record {
        rows = put_pair rows line.from line.to _ (certified_row c b line) (λ i. record { made = made_is i; written = b.number; live = nat_lt (now_is i) (end_same i) }) put stands.rows;
        queue = subst (λ (p : ℕ × (ℕ × ℕ)). HasEntries R (λ time due. certify_entry p.0 p.1.0 p.1.1 line.from line.to time due (waiting time due))) (λ i. (now_is i, (lasting_is i, made_is i)))
            (plan waiting (rows line.from line.to) replaced stands.queue);
        ends = λ x y. (each_line_stands (cert_lasting c b) waiting).certifies x y (rows x y) (stands.ends x y) (now_of c b) line.from line.to (certified_row c b line);
        small = λ x y. elim (same_text x line.from && same_text y line.to) as (λ r. IfSome (cond r (Some (certified_row c b line)) (rows x y)) (EndIsSmall (cert_lasting c b))) [ true ↦ small | false ↦ stands.small x y ];
      }

-- ---- the section, line after line

module _ {M : List Rows → Type 0} {Q : List Queued → Type 0} (c : Chain) (b : Block) (rows : Certifications) (waiting : Waiting) where
  pub one_pair_more : (lines : List CertLine) (i : ℕ) (line : CertLine) → i < length lines → line ≡ get_or lines i line
      → StandsCertified c b M Q (λ x y. certify_line c b x y (fold (certify_line c b x y) (rows x y) (take i lines)) line) (λ time due. certify_queue c b time due (fold (certify_queue c b time due) (waiting time due) (take i lines)) line)
      → StandsCertified c b M Q (λ x y. fold (certify_line c b x y) (rows x y) (take (i + 1) lines)) (λ time due. fold (certify_queue c b time due) (waiting time due) (take (i + 1) lines))
  one_pair_more lines i line within is stands =
      subst (λ (p : Certifications × Waiting). StandsCertified c b M Q p.0 p.1)
      (λ j. (
        λ x y. (ap (certify_line c b x y (fold (certify_line c b x y) (rows x y) (take i lines))) is ∙ sym (fold_more (certify_line c b x y) (rows x y) lines i line within)) j,
        λ time due. (ap (certify_queue c b time due (fold (certify_queue c b time due) (waiting time due) (take i lines))) is ∙ sym (fold_more (certify_queue c b time due) (waiting time due) lines i line within)) j,
      )) stands
