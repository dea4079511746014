-- The records that no line names: of whose entry is taken, and of who is at an end with the line that begins it anew.
use Rattle.std.proofs.Common.{◌≡◌, ◌↔◌, ℕ, ◌+◌, ◌*◌, Bool, true, false, cond, not, ◌||◌, ◌&&◌, List, ◌∷◌, Option, Some, None, option_map, is_some, unwrap_or, map, filter, refl, ap, sym, ◌∙◌, subst, true≢false, nat_le, nat_lt, inl, inr, ◌⊎◌}
use Rattle.std.specs.Prelude.{IsTrue}
use Rattle.std.specs.Option.{option_or, option_map_or}
use Rattle.std.specs.List.{list_any}
use Rattle.std.proofs.lemmas.Map.Views.{any-filter_same}
use Rattle.dubp_atoms.specs.Same.{Text, same_text}
use Rattle.dubp_block.specs.declared.block.Block.{Block}
use Rattle.dubp_block.specs.declared.block.IdentityLine.{IdentityLine}
use Rattle.dubp_block.specs.declared.block.MemberLine.{MemberLine}
use Rattle.dubp_block.specs.declared.block.RevokedLine.{RevokedLine}
use Rattle.dubp_block.specs.declared.block.CertLine.{CertLine}
use Rattle.dubp_rules.specs.declared.rule.Rule.TheVariants.{L13, G77}
use Rattle.dubp_validity.specs.declared.record.Record.TheVariants.{Expire, ExpireRev, CertExpire}
use Rattle.dubp_chain.specs.Words.{names, last_of, in_order}
use Rattle.dubp_chain.specs.Chains.{Chain, params}
use Rattle.dubp_chain.specs.Members.{is_of}
use Rattle.dubp_chain.specs.Heads.{time_of}
use Rattle.dubp_chain.specs.People.{Written, written_in, identity, identity_lines, membership_lines, revoked_by_line, revoked, expired, is_reached}
use Rattle.dubp_validity.specs.LocalRules.{revoked_keys, RevokedStandOnce}
use Rattle.dubp_chain.specs.Live.{certification, made_of, live, certified_pairs}
use Rattle.dubp_validity.specs.Records.{identity_keys, is_revoked_by_time, receivers_of, pairs_in_order, membership_time}
use Rattle.dubp_chain.specs.Tables.Due.{Membership, Revocation, Certification}
use Rattle.dubp_validity.specs.Rules.{IsSound}
use Rattle.dubp_lists.proofs.Elements.{and_left, and_right, or_left, or_right, not_true, is_false, IsIn, in_all, in_any, any_in, in_map, kept_in, any_of_flat_map, list_any-map}
use Rattle.dubp_lists.proofs.InOrder.{same_text_is, same_text_own, names_in_order, in_order-in}
use Rattle.dubp_lists.proofs.LastLines.{last_line-any}
use Rattle.dubp_steps.specs.AfterLines.{now_of, lasting, cert_lasting, of_pair, certification_time, is_planned}
use Rattle.dubp_steps.specs.Taken.{is_taken, Expires, RevokedInTime, Ends}
use Rattle.dubp_steps.specs.Ordered.{has_pair}
use Rattle.dubp_steps.specs.Steps.{ExpiryRecordsAre, RevocationRecordsAre, EndedRecordsAre}
use Rattle.dubp_steps.proofs.Standing.{last_entered, entry, some_identity, entering_moves}
use Rattle.dubp_steps.proofs.Planned.{not_le, not_lt, planned_taken, planned_later, planned_at}
use Rattle.dubp_steps.proofs.Sections.{has_revoked, planned_expiry, planned_revocation, planned_end, queue_membership, queue_revocation, queue_certification}
use Rattle.dubp_steps.proofs.Queue.{made_at, queued_membership, queued_revocation, queued_certification, same_params, same_params_certified, entering_is_not_revoked}
use Rattle.dubp_steps.proofs.Rising.{same_truth, same_keys, same_pairs, filtered_keys_rise, filtered_pairs_rise}
use Rattle.dubp_steps.proofs.Lives.{is_pair, live_some}

-- what is taken, at plain numbers

-- what is planned is not taken
pub planned_untaken : (now end at : ℕ) → (is_planned now end at && nat_le at now) ≡ true → ⊥
planned_untaken now end at e =
    let planned = and_left (is_planned now end at) (nat_le at now) e in
    let later = and_right (is_planned now end at) (nat_lt now at) (sym (planned_later now end at) ∙ planned) in
    let reached = and_right (is_planned now end at) (nat_le at now) e in
    true≢false (sym reached ∙ sym (not_lt now at) ∙ ap not later)

-- what waited since an earlier time is taken at its end, where the time has reached that
abbrev IsReachedNow : ℕ → ℕ → ℕ → Bool
IsReachedNow t now end = not (nat_le end t) && nat_le end now

taken_reached : (t now end at : ℕ) → (is_planned t end at && nat_le at now) ≡ true → IsReachedNow t now end ≡ true
taken_reached t now end at e =
    let same = planned_at t end at (and_left (is_planned t end at) (nat_le at now) e) in
    sym (planned_taken t now end) ∙ subst (λ x. (is_planned t end x && nat_le x now) ≡ true) (sym same) e

swap : (x y : Bool) → (x && y) ≡ (y && x)
swap true true = refl
swap true false = refl
swap false true = refl
swap false false = refl

never : {X : Type 0} → false ≡ true → X
never e = absurd (true≢false (sym e))

-- in the two directions
abbrev pub Says : Type 0 → Bool → Type 0
Says P q = (P → q ≡ true) × (q ≡ true → P)

-- the end of a membership

abbrev pub expires_now : Chain → Block → Text → Bool
expires_now c b k = expired (b ∷ c) k && not (expired c k)

expiry_cases : (c : Chain) (b : Block) (t m m' : ℕ) (was : Bool) (last : Option MemberLine) (e : Option (Written MemberLine))
    → was ≡ option_map_or (λ at. nat_le at t) (option_map (λ a. a + m) (made_at e)) false
    → ((v : Written MemberLine) → e ≡ Some v → m' ≡ m)
    → Says
    ((option_map_or (λ line. nat_le (membership_time c b line + m') (now_of c b) && not was) last false ≡ true)
    ⊎ ((at : ℕ) × ((option_map_or (λ line. is_planned (now_of c b) (membership_time c b line + m') at) last (option_map_or (λ a. is_planned t (a + m) at) (made_at e) false) && nat_le at (now_of c b)) ≡ true)))
    (option_map_or (λ at. nat_le at (now_of c b)) (option_map (λ a. a + m') (made_at (option_or (option_map (written_in b c) last) e))) false && not was)
expiry_cases c b t m m' was (Some line) e is same =
    (λ p. elim p [ inl h ↦ h | inr taken ↦ absurd (planned_untaken (now_of c b) (membership_time c b line + m') taken.0 taken.1) ], λ q. inl q)
expiry_cases c b t m m' was None None is same =
    (λ p. elim p [ inl h ↦ never h | inr taken ↦ never taken.1 ], λ q. never q)
expiry_cases c b t m m' was None (Some v) is same =
    let made = unwrap_or (made_at (Some v)) 0 in
    let goal : (nat_le (made + m') (now_of c b) && not was) ≡ IsReachedNow t (now_of c b) (made + m) =
    (λ i. nat_le (made + same v refl i) (now_of c b) && not (is i)) ∙ swap (nat_le (made + m) (now_of c b)) (not (nat_le (made + m) t)) in (
      λ p. elim p [ inl h ↦ never h | inr taken ↦ goal ∙ taken_reached t (now_of c b) (made + m) taken.0 taken.1 ],
      λ q. inr (made + m, planned_taken t (now_of c b) (made + m) ∙ sym goal ∙ q),
    )

queue_expiry : (c : Chain) (b : Block) → IsSound c → (at : ℕ) (k : Text)
    → is_taken c b at (Membership k)
    ≡ (option_map_or (λ line. is_planned (now_of c b) (membership_time c b line + lasting c b) at) (last_entered b k) (option_map_or (λ a. is_planned (time_of c) (a + (params c).ms_validity) at) (made_at (entry c k)) false) && nat_le at (now_of c b))
queue_expiry c b sound at k =
    ap (λ q. q && nat_le at (now_of c b)) (queue_membership c b at k ∙ ap (λ q. option_map_or (planned_expiry c b at) (last_entered b k) q) (queued_membership c sound at k))

pub expires_says : (c : Chain) (b : Block) → IsSound (b ∷ c) → (k : Text) → Says (Expires c b k) (expires_now c b k)
expires_says c b sound k =
    let by = expiry_cases c b (time_of c) (params c).ms_validity (lasting c b) (expired c k) (last_entered b k) (entry c k) refl (λ v is. ap (λ p. p.ms_validity) (same_params c b k v is)) in (
      λ p. by.0 (elim p [ inl h ↦ inl h | inr taken ↦ inr (taken.0, sym (queue_expiry c b sound.1 taken.0 k) ∙ taken.1) ]),
      λ q. elim (by.1 q) [ inl h ↦ inl h | inr taken ↦ inr (taken.0, queue_expiry c b sound.1 taken.0 k ∙ taken.1) ],
    )

-- the end by time of who is not revoked

revocation_cases : (c : Chain) (b : Block) (t m m' : ℕ) (has by_line was : Bool) (last : Option MemberLine) (e : Option (Written MemberLine))
    → was ≡ option_map_or (λ at. nat_le at t) (option_map (λ a. a + m) (made_at e)) false
    → ((v : Written MemberLine) → e ≡ Some v → m' ≡ m)
    → ((line : MemberLine) → last ≡ Some line → (has ≡ false) × (by_line ≡ false) × (was ≡ false))
    → Says
    ((option_map_or (λ line. nat_le (membership_time c b line + m') (now_of c b)) last false ≡ true)
    ⊎ ((at : ℕ) × ((cond has false (option_map_or (λ line. is_planned (now_of c b) (membership_time c b line + m') at) last (not by_line && option_map_or (λ a. is_planned t (a + m) at) (made_at e) false)) && nat_le at (now_of c b)) ≡ true)))
    (((has || by_line) || option_map_or (λ at. nat_le at (now_of c b)) (option_map (λ a. a + m') (made_at (option_or (option_map (written_in b c) last) e))) false) && (not (by_line || was) && not has))
revocation_cases c b t m m' true by_line was (Some line) e is same free = absurd (true≢false (free line refl).0)
revocation_cases c b t m m' false true was (Some line) e is same free = absurd (true≢false (free line refl).1)
revocation_cases c b t m m' false false true (Some line) e is same free = absurd (true≢false (free line refl).2)
revocation_cases c b t m m' false false false (Some line) e is same free =
    let end = membership_time c b line + m' in (
      λ p. elim p [ inl h ↦ ap (λ x. x && (true && true)) h | inr taken ↦ absurd (planned_untaken (now_of c b) end taken.0 taken.1) ],
      λ q. inl (and_left (nat_le end (now_of c b)) (true && true) q),
    )
revocation_cases c b t m m' true by_line was None e is same free =
    (λ p. elim p [ inl h ↦ never h | inr taken ↦ never taken.1 ], λ q. never (and_right (not (by_line || was)) false q))
revocation_cases c b t m m' false true was None e is same free =
    (λ p. elim p [ inl h ↦ never h | inr taken ↦ never taken.1 ], λ q. never q)
revocation_cases c b t m m' false false was None None is same free =
    (λ p. elim p [ inl h ↦ never h | inr taken ↦ never taken.1 ], λ q. never q)
revocation_cases c b t m m' false false was None (Some v) is same free =
    let made = unwrap_or (made_at (Some v)) 0 in
    let goal : (nat_le (made + m') (now_of c b) && (not was && true)) ≡ IsReachedNow t (now_of c b) (made + m) =
    (λ i. nat_le (made + same v refl i) (now_of c b) && (not (is i) && true)) ∙ ends (nat_le (made + m) (now_of c b)) (not (nat_le (made + m) t)) in (
      λ p. elim p [ inl h ↦ never h | inr taken ↦ goal ∙ taken_reached t (now_of c b) (made + m) taken.0 taken.1 ],
      λ q. inr (made + m, planned_taken t (now_of c b) (made + m) ∙ sym goal ∙ q),
    )
  where
    ends : (x y : Bool) → (x && (y && true)) ≡ (y && x)
    ends true true = refl
    ends true false = refl
    ends false true = refl
    ends false false = refl

queue_revoked : (c : Chain) (b : Block) → IsSound c → (at : ℕ) (k : Text)
    → is_taken c b at (Revocation k)
    ≡ (cond (has_revoked b k) false (option_map_or (λ line. is_planned (now_of c b) (membership_time c b line + 2 * lasting c b) at) (last_entered b k) (not (revoked_by_line c k) && option_map_or (λ a. is_planned (time_of c) (a + 2 * (params c).ms_validity) at) (made_at (entry c k)) false)) && nat_le at (now_of c b))
queue_revoked c b sound at k =
    ap (λ q. q && nat_le at (now_of c b))
    (queue_revocation c b at k ∙ ap (λ q. cond (has_revoked b k) false (option_map_or (planned_revocation c b at) (last_entered b k) q)) (queued_revocation c sound at k))

-- nobody whom a line revokes enters
not_revoked_here : (b : Block) → RevokedStandOnce b → (k : Text) (line : MemberLine) → last_entered b k ≡ Some line → has_revoked b k ≡ false
not_revoked_here b rule k line is =
    is_false (has_revoked b k) (λ has.
    let revoked = any_in (λ (line : RevokedLine). same_text k line.key) b.revoked has in
    let key : k ≡ revoked.0.key = same_text_is k revoked.0.key revoked.2 in
    let none = not_true _ (in_all (λ key. IsTrue (not (list_any (is_of key) (membership_lines b)))) (revoked_keys b) rule.1 revoked.0.key (in_map (λ (line : RevokedLine). line.key) b.revoked revoked.0 revoked.1)) in
    true≢false (sym (subst (λ key. list_any (is_of key) (membership_lines b) ≡ true) key (entering_moves b k line is)) ∙ none))

pub revoked_says : (c : Chain) (b : Block) → IsSound (b ∷ c) → (k : Text) → Says (RevokedInTime c b k) (is_revoked_by_time c b k)
revoked_says c b sound k =
    let by = revocation_cases c b (time_of c) (2 * (params c).ms_validity) (2 * lasting c b) (has_revoked b k) (revoked_by_line c k) (is_reached c (option_map (λ a. a + 2 * (params c).ms_validity) (made_at (entry c k)))) (last_entered b k) (entry c k) refl
    (λ v is. ap (λ p. 2 * p.ms_validity) (same_params c b k v is))
    (λ line is. let free = entering_is_not_revoked c b (sound.0 G77 refl) k line is in
    (not_revoked_here b (sound.0 L13 refl) k line is, or_left (revoked_by_line c k) _ free, or_right (revoked_by_line c k) _ free)) in
    let named : names (map (λ (line : RevokedLine). line.key) b.revoked) k ≡ has_revoked b k = list_any-map (same_text k) (λ (line : RevokedLine). line.key) b.revoked in (
      λ p. (λ i. revoked (b ∷ c) k && (not (revoked c k) && not (named i))) ∙ by.0 (elim p [ inl h ↦ inl h | inr taken ↦ inr (taken.0, sym (queue_revoked c b sound.1 taken.0 k) ∙ taken.1) ]),
      λ q. elim (by.1 ((λ i. revoked (b ∷ c) k && (not (revoked c k) && not (sym named i))) ∙ q)) [ inl h ↦ inl h | inr taken ↦ inr (taken.0, queue_revoked c b sound.1 taken.0 k ∙ taken.1) ],
    )

-- the end of a certification

abbrev pub ends_now : Chain → Block → Text × Text → Bool
ends_now c b p = live c p.0 p.1 && not (live (b ∷ c) p.0 p.1)

end_cases : (c : Chain) (b : Block) (t m m' : ℕ) (was : Bool) (last : Option CertLine) (e : Option (Written CertLine))
    → was ≡ option_map_or (λ w. nat_lt t (made_of w + m)) e false
    → ((v : Written CertLine) → e ≡ Some v → m' ≡ m)
    → Says
    ((option_map_or (λ line. nat_le (certification_time c b line + m') (now_of c b) && was) last false ≡ true)
    ⊎ ((at : ℕ) × ((option_map_or (λ line. is_planned (now_of c b) (certification_time c b line + m') at) last (option_map_or (λ w. is_planned t (made_of w + m) at) e false) && nat_le at (now_of c b)) ≡ true)))
    (was && not (option_map_or (λ w. nat_lt (now_of c b) (made_of w + m')) (option_or (option_map (written_in b c) last) e) false))
end_cases c b t m m' was (Some line) e is same =
    let end = certification_time c b line + m' in
    let goal : (was && not (nat_lt (now_of c b) end)) ≡ (nat_le end (now_of c b) && was) = ap (λ x. was && x) (not_lt (now_of c b) end) ∙ swap was (nat_le end (now_of c b)) in
    (λ p. elim p [ inl h ↦ goal ∙ h | inr taken ↦ absurd (planned_untaken (now_of c b) end taken.0 taken.1) ], λ q. inl (sym goal ∙ q))
end_cases c b t m m' was None None is same =
    (λ p. elim p [ inl h ↦ never h | inr taken ↦ never taken.1 ], λ q. never (sym (ap (λ x. x && true) is) ∙ q))
end_cases c b t m m' was None (Some v) is same =
    let end = made_of v + m in
    let goal : (was && not (nat_lt (now_of c b) (made_of v + m'))) ≡ IsReachedNow t (now_of c b) end =
    (λ i. is i && not (nat_lt (now_of c b) (made_of v + same v refl i))) ∙ (λ i. sym (not_le end t) i && not_lt (now_of c b) end i) in (
      λ p. elim p [ inl h ↦ never h | inr taken ↦ goal ∙ taken_reached t (now_of c b) end taken.0 taken.1 ],
      λ q. inr (end, planned_taken t (now_of c b) end ∙ sym goal ∙ q),
    )

queue_ended : (c : Chain) (b : Block) (at : ℕ) (x y : Text)
    → is_taken c b at (Certification x y)
    ≡ (option_map_or (λ line. is_planned (now_of c b) (certification_time c b line + cert_lasting c b) at) (last_of (of_pair x y) b.certifications) (option_map_or (λ w. is_planned (time_of c) (made_of w + (params c).sig_validity) at) (certification c x y) false) && nat_le at (now_of c b))
queue_ended c b at x y =
    ap (λ q. q && nat_le at (now_of c b))
    (queue_certification c b at x y ∙ ap (λ q. option_map_or (planned_end c b at) (last_of (of_pair x y) b.certifications) q) (queued_certification c at x y))

pub ends_says : (c : Chain) (b : Block) (x y : Text) → Says (Ends c b x y) (ends_now c b (x, y))
ends_says c b x y =
    let by = end_cases c b (time_of c) (params c).sig_validity (cert_lasting c b) (live c x y) (last_of (of_pair x y) b.certifications) (certification c x y) refl (λ v is. ap (λ p. p.sig_validity) (same_params_certified c b x y v is)) in (
      λ p. by.0 (elim p [ inl h ↦ inl h | inr taken ↦ inr (taken.0, sym (queue_ended c b taken.0 x y) ∙ taken.1) ]),
      λ q. elim (by.1 q) [ inl h ↦ inl h | inr taken ↦ inr (taken.0, queue_ended c b taken.0 x y ∙ taken.1) ],
    )

-- the records

-- a filter of the identities, where the test finds none but identities
abbrev of_key : Text → IdentityLine → Bool
of_key k line = same_text k line.key

filter_named : (p : Text → Bool) (c : Chain) (k : Text) → (p k ≡ true → is_some (identity c k) ≡ true) → names (filter p (identity_keys c)) k ≡ p k
filter_named p c k has =
    any-filter_same (same_text k) p (p k) (λ x same. ap p (sym (same_text_is k x same))) (identity_keys c)
    ∙ whole (p k) (names (identity_keys c) k)
    (λ is. names_in_order k (map (λ line. line.key) (identity_lines c))
    (list_any-map (same_text k) (λ (line : IdentityLine). line.key) (identity_lines c) ∙ sym (last_line-any (λ block. block.identities) (of_key k) c) ∙ has is))
  where
    whole : (x y : Bool) → (x ≡ true → y ≡ true) → (x && y) ≡ x
    whole true y then = then refl
    whole false y then = refl

-- who is expired has an identity
reached_some : (c : Chain) → IsSound c → (k : Text) (m : ℕ) → is_reached c (option_map (λ a. a + m) (made_at (entry c k))) ≡ true → is_some (identity c k) ≡ true
reached_some c sound k m is = some_identity c sound k ∙ by (entry c k) is
  where
    by : (e : Option (Written MemberLine)) → is_reached c (option_map (λ a. a + m) (made_at e)) ≡ true → is_some e ≡ true
    by None is = is
    by (Some v) is = refl

both_ways : {P : Type 0} {a q : Bool} → (IsTrue a ↔ P) → Says P q → a ≡ q
both_ways {P} {a} {q} given says = same_truth a q (λ is. says.0 (given.0 is)) (λ is. given.1 (says.1 is))

pub expiry_named : (c : Chain) (b : Block) → IsSound (b ∷ c) → (k : Text) → names (filter (expires_now c b) (identity_keys (b ∷ c))) k ≡ expires_now c b k
expiry_named c b sound k = filter_named (expires_now c b) (b ∷ c) k (λ is. reached_some (b ∷ c) sound k (lasting c b) (and_left (expired (b ∷ c) k) _ is))

pub expiry_records_are : ExpiryRecordsAre
expiry_records_are c b sound ks rise each =
    ap (map Expire)
    (same_keys ks (filter (expires_now c b) (identity_keys (b ∷ c))) rise (filtered_keys_rise (expires_now c b) (map (λ line. line.key) (identity_lines (b ∷ c))))
    (λ k. both_ways (each k) (expires_says c b sound k) ∙ sym (expiry_named c b sound k)))

-- a pair that has a line stands among the pairs in order
pair_in_order : (x y : Text) (pairs : List (Text × Text)) → list_any (is_pair x y) pairs ≡ true → list_any (is_pair x y) (pairs_in_order pairs) ≡ true
pair_in_order x y pairs found =
    let h = any_in (is_pair x y) pairs found in
    let from = and_left (same_text x h.0.0) (same_text y h.0.1) h.2 in
    let to = and_right (same_text x h.0.0) (same_text y h.0.1) h.2 in
    let issuer = h.0.0 in
    let receives : IsIn h.0.1 (receivers_of pairs issuer) =
    in_order-in h.0.1 (map (λ p. p.1) (filter (λ p. same_text issuer p.0) pairs))
    (in_map (λ (p : Text × Text). p.1) (filter (λ p. same_text issuer p.0) pairs) h.0
    (kept_in (λ (p : Text × Text). same_text issuer p.0) pairs h.0 h.1 (same_text_own issuer))) in
    any_of_flat_map (is_pair x y) (λ a. map (λ b. (a, b)) (receivers_of pairs a)) (in_order (map (λ p. p.0) pairs)) issuer
    (in_order-in issuer (map (λ p. p.0) pairs) (in_map (λ (p : Text × Text). p.0) pairs h.0 h.1))
    (in_any (is_pair x y) (map (λ b. (issuer, b)) (receivers_of pairs issuer)) (issuer, h.0.1)
    (in_map (λ (b : Text). (issuer, b)) (receivers_of pairs issuer) h.0.1 receives) (rw (from, to) refl))

pub ended_named : (c : Chain) (b : Block) (x y : Text) → has_pair (filter (ends_now c b) (pairs_in_order (certified_pairs c))) x y ≡ ends_now c b (x, y)
ended_named c b x y =
    any-filter_same (is_pair x y) (ends_now c b) (ends_now c b (x, y)) same (pairs_in_order (certified_pairs c))
    ∙ whole (ends_now c b (x, y)) (list_any (is_pair x y) (pairs_in_order (certified_pairs c)))
    (λ e. pair_in_order x y (certified_pairs c) (live_some c x y (and_left (live c x y) (not (live (b ∷ c) x y)) e)))
  where
    same : (p : Text × Text) → is_pair x y p ≡ true → ends_now c b p ≡ ends_now c b (x, y)
    same p is =
        let from = same_text_is x p.0 (and_left (same_text x p.0) (same_text y p.1) is) in
        let to = same_text_is y p.1 (and_right (same_text x p.0) (same_text y p.1) is) in
        λ i. ends_now c b (sym from i, sym to i)

    whole : (g h : Bool) → (g ≡ true → h ≡ true) → (g && h) ≡ g
    whole true h then = then refl
    whole false h then = refl

pub ended_records_are : EndedRecordsAre
ended_records_are c b ps rise each =
    ap (map (λ (p : Text × Text). CertExpire p.0 p.1))
    (same_pairs ps (filter (ends_now c b) (pairs_in_order (certified_pairs c))) rise (filtered_pairs_rise (ends_now c b) (certified_pairs c))
    (λ x y. both_ways (each x y) (ends_says c b x y) ∙ sym (ended_named c b x y)))

-- who is revoked by time has an identity: no line of b names it, and it was not revoked before
pub revocation_named : (c : Chain) (b : Block) → IsSound (b ∷ c) → (k : Text) → names (filter (is_revoked_by_time c b) (identity_keys (b ∷ c))) k ≡ is_revoked_by_time c b k
revocation_named c b sound k = filter_named (is_revoked_by_time c b) (b ∷ c) k has
  where
    by : (has by_line now was : Bool) → (((has || by_line) || now) && (not (by_line || was) && not has)) ≡ true → now ≡ true
    by true by_line now was e = never (and_right (not (by_line || was)) false e)
    by false true now was e = never e
    by false false now was e = and_left now (not was && true) e

    has : is_revoked_by_time c b k ≡ true → is_some (identity (b ∷ c) k) ≡ true
    has is =
        reached_some (b ∷ c) sound k (2 * lasting c b)
        (by (has_revoked b k) (revoked_by_line c k)
        (is_reached (b ∷ c) (option_map (λ a. a + 2 * lasting c b) (made_at (entry (b ∷ c) k))))
        (is_reached c (option_map (λ a. a + 2 * (params c).ms_validity) (made_at (entry c k))))
        (sym (ap (λ r. revoked (b ∷ c) k && (not (revoked c k) && not r)) (list_any-map (same_text k) (λ (line : RevokedLine). line.key) b.revoked)) ∙ is))

pub revocation_records_are : RevocationRecordsAre
revocation_records_are c b sound ks rise each =
    ap (map ExpireRev)
    (same_keys ks (filter (is_revoked_by_time c b) (identity_keys (b ∷ c))) rise (filtered_keys_rise (is_revoked_by_time c b) (map (λ line. line.key) (identity_lines (b ∷ c))))
    (λ k. both_ways (each k) (revoked_says c b sound k) ∙ sym (revocation_named c b sound k)))
