-- A pair that no line of the block names, and whose end is not up to the time of the block, is live with the block where it was before.
use Rattle.std.proofs.Common.{◌≡◌, ℕ, ◌+◌, ◌<◌, ◌≤◌, inl, inr, Bool, true, false, ◌&&◌, ◌∷◌, Option, Some, None, is_some, refl, sym, ap, ◌∙◌, true≢false, nat_lt, ltb-true, ltb-false, arith}
use Rattle.std.specs.Option.{option_map_or}
use Rattle.std.specs.List.{list_any}
use Rattle.std.proofs.lemmas.Bool.Decides.{Decides-eqb}
use Rattle.dubp_atoms.specs.Same.{Text, same_text}
use Rattle.dubp_block.specs.declared.block.Block.{Block}
use Rattle.dubp_block.specs.declared.block.CertLine.{CertLine}
use Rattle.dubp_chain.specs.Words.{last_of}
use Rattle.dubp_chain.specs.Chains.{Chain, params}
use Rattle.dubp_chain.specs.Heads.{time_of}
use Rattle.dubp_chain.specs.People.{Written}
use Rattle.dubp_chain.specs.Live.{certification, live, live_at, made_of}
use Rattle.dubp_chain.specs.Tables.{CertificationRow, certification_row, is_queued}
use Rattle.dubp_chain.specs.Tables as chain
use Rattle.dubp_expiry.specs.Entries.{Has}
use Rattle.dubp_expiry.specs.declared.due.Due.{Due}
use Rattle.dubp_expiry.specs.declared.due.Due.TheVariants.{Certification}
use Rattle.dubp_lists.proofs.Elements.{and_left, and_right, or_true, is_false, any_in, in_any}
use Rattle.dubp_lists.proofs.InOrder.{same_text_own}
use Rattle.dubp_lists.proofs.LastLines.{last_any, time_of-rises}
use Rattle.dubp_left.specs.Left.{queue_left}
use Rattle.dubp_left.proofs.Looked.{some-shown}
use Rattle.dubp_left.proofs.Queued.{queue-at}
use Rattle.dubp_left.specs.OfSteps.{now_of, cert_lasting, certification_time, of_pair, is_planned}
use Rattle.dubp_left.specs.OfSteps.{waits_for_end}
use Rattle.dubp_left.proofs.OfSteps.{live_at_is_of_row, live_step}
use Rattle.dubp_left.proofs.OfSteps.{certifications_fit}
use Rattle.dubp_left.proofs.OfSteps.{live_is_of_row}
use Rattle.dubp_left.proofs.OfSteps.{planned_later}
use Rattle.dubp_left.proofs.OfSteps.{queued_certification}
use Rattle.dubp_left.specs.OfSteps.{is_end}
use Rattle.dubp_lists.proofs.OneMore.{text_flip}
use Rattle.dubp_people_distance.specs.declared.certified.Certified.{Certified}
use Rattle.dubp_people_distance.specs.Certified.{OthersAreKept}
use Rattle.dubp_people_distance.specs.Ends.{is_end_of_line, is_end_of_due}

none_of : {X : Type 0} (o : Option X) → is_some o ≡ false → o ≡ None
none_of None e = refl
none_of (Some x) e = absurd (true≢false e)

-- live, and not at its end
goes_on : (l : Bool) (end now : ℕ) → (l ≡ true → end ≤ now → ⊥) → (l && nat_lt now end) ≡ l
goes_on false end now later = refl
goes_on true end now later = elim (nat_lt now end) as (λ t. nat_lt now end ≡ t → t ≡ true) [
  | true ↦ λ _. refl
  | false ↦ λ e. absurd (later refl (ltb-false now end e))
] refl

both : (s t : Bool) → s ≡ true → t ≡ true → (s && t) ≡ true
both s t h k = cc

module _ (c : Chain) (b : Block) (x y : Text) where
  abbrev now : ℕ
  now = now_of c b

  abbrev lasting : ℕ
  lasting = (params c).sig_validity

  of_row : (o : Option CertificationRow) → ((at : ℕ) → option_map_or (waits_for_end lasting at) o false ≡ true → at ≤ now → ⊥)
      → option_map_or (λ (row : CertificationRow). row.is_live && nat_lt now (row.made + lasting)) o false ≡ option_map_or (λ (row : CertificationRow). row.is_live) o false
  of_row None later = refl
  of_row (Some row) later =
      goes_on row.is_live (row.made + lasting) now (λ alive end. later (row.made + lasting) (both row.is_live _ alive ((Decides-eqb (row.made + lasting) (row.made + lasting)).1 refl)) end)

  pub pair_kept : list_any (of_pair x y) b.certifications ≡ false → ((at : ℕ) → is_queued c at (chain.Due.Certification x y) ≡ true → at ≤ now_of c b → ⊥) → live (b ∷ c) x y ≡ live c x y
  pair_kept none later =
      live_step c b x y
      ∙ ap (λ (o : Option CertLine). option_map_or (λ line. nat_lt (now_of c b) (certification_time c b line + cert_lasting c b)) o (live_at (now_of c b) c x y)) (none_of (last_of (of_pair x y) b.certifications) (last_any (of_pair x y) b.certifications ∙ none))
      ∙ live_at_is_of_row c (now_of c b) (time_of-rises b c) x y
      ∙ of_row (certification_row c x y) (λ at waits. later at (certifications_fit c at x y ∙ waits))
      ∙ sym (live_is_of_row c x y)

-- what is queued for the end of a certification comes later than 0
queued_later : (c : Chain) (at : ℕ) (x y : Text) → is_queued c at (chain.Due.Certification x y) ≡ true → 0 < at
queued_later c at x y e = by (certification c x y) (sym (queued_certification c at x y) ∙ e)
  where
    by : (w : Option (Written CertLine)) → option_map_or (λ w. is_planned (time_of c) (made_of w + (params c).sig_validity) at) w false ≡ true → 0 < at
    by None e = absurd (true≢false (sym e))
    by (Some w) e =
        let later = ltb-true (time_of c) at (and_right (is_planned (time_of c) (made_of w + (params c).sig_validity) at) _ (sym (planned_later (time_of c) (made_of w + (params c).sig_validity) at) ∙ e)) in
        omega (arith, later)

line_has_ends : (x y : Text) (line : CertLine) → of_pair x y line ≡ true → (is_end line.from line.to x ≡ true) × (is_end line.from line.to y ≡ true)
line_has_ends x y line e = (
  or_true (same_text line.from x) (same_text line.to x) (inl (text_flip line.from x ∙ and_left (same_text x line.from) (same_text y line.to) e)),
  or_true (same_text line.from y) (same_text line.to y) (inr (text_flip line.to y ∙ and_right (same_text x line.from) (same_text y line.to) e)),
)

-- where the ends of lines and of what falls due are known, the block changes nothing of the others
module _ (c : Chain) (b : Block) (known : Text → Option Certified)
    (of_lines : (k : Text) → list_any (is_end_of_line k) b.certifications ≡ true → is_some (known k) ≡ true)
    (of_dues : (time : ℕ) (due : Due) → Has (queue_left c) (time, due) → 0 < time → time ≤ now_of c b → (k : Text) → is_end_of_due k due ≡ true → is_some (known k) ≡ true) where
  unnamed : (k x y : Text) → known k ≡ None → ((line : CertLine) → of_pair x y line ≡ true → is_end_of_line k line ≡ true) → list_any (of_pair x y) b.certifications ≡ false
  unnamed k x y e end = is_false (list_any (of_pair x y) b.certifications) (λ named.
      let h = any_in (of_pair x y) b.certifications named in
      true≢false (sym (of_lines k (in_any (is_end_of_line k) b.certifications h.0 h.1 (end h.0 h.2))) ∙ ap is_some e))

  undue : (k x y : Text) → known k ≡ None → is_end x y k ≡ true → (at : ℕ) → is_queued c at (chain.Due.Certification x y) ≡ true → at ≤ now_of c b → ⊥
  undue k x y e end at queued reached =
      let there : Has (queue_left c) (at, Certification x y) = ap is_some (queue-at c (at, Certification x y)) ∙ some-shown (is_queued c at (chain.Due.Certification x y)) ∙ queued in
      true≢false (sym (of_dues at (Certification x y) there (queued_later c at x y queued) reached k end) ∙ ap is_some e)

  pub others_kept : OthersAreKept c b known
  others_kept k e = record {
    from = λ a. pair_kept c b a k (unnamed k a k e (λ line h. (line_has_ends a k line h).1)) (undue k a k e (or_true (same_text a k) (same_text k k) (inr (same_text_own k))));
    to = λ a. pair_kept c b k a (unnamed k k a e (λ line h. (line_has_ends k a line h).0)) (undue k k a e (or_true (same_text k k) (same_text a k) (inl (same_text_own k))));
  }
