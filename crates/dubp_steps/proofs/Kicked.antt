-- Who is to be excluded, by rows; and that it stays for a key that nothing touches.
use Rattle.std.proofs.Common.{◌≡◌, ℕ, ◌+◌, ◌*◌, ◌≤◌, Bool, true, false, cond, not, ◌||◌, ◌&&◌, List, [], ◌∷◌, Option, Some, None, option_map, is_some, unwrap_or, map, refl, ap, sym, ◌∙◌, true≢false, nat_le, nat_lt}
use Rattle.std.specs.Option.{option_or, option_map_or}
use Rattle.std.specs.List.{list_any}
use Rattle.std.proofs.lemmas.List.Folds.{list_any-append}
use Rattle.std.proofs.lemmas.Map.Views.{any-filter_same}
use Rattle.dubp_atoms.specs.Same.{Text, same_text}
use Rattle.dubp_block.specs.OfParams.{Params}
use Rattle.dubp_block.specs.declared.block.Block.{Block}
use Rattle.dubp_block.specs.declared.block.IdentityLine.{IdentityLine}
use Rattle.dubp_block.specs.declared.block.MemberLine.{MemberLine}
use Rattle.dubp_block.specs.declared.block.RevokedLine.{RevokedLine}
use Rattle.dubp_block.specs.declared.block.CertLine.{CertLine}
use Rattle.dubp_chain.specs.Words.{names, last_of, in_order}
use Rattle.dubp_chain.specs.Chains.{Chain, params}
use Rattle.dubp_chain.specs.Members.{is_of, member, members, joined_keys}
use Rattle.dubp_chain.specs.Heads.{time_of}
use Rattle.dubp_chain.specs.People.{Written, written_in, identity, membership, leaving, revoked, is_reached}
use Rattle.dubp_chain.specs.Live.{live, received, is_kicked}
use Rattle.dubp_chain.specs.Tables.{CertificationRow, certification_row, is_queued, is_to_be_excluded}
use Rattle.dubp_chain.specs.Tables.Due.{Membership, Certification}
use Rattle.dubp_validity.specs.Rules.{IsSound}
use Rattle.dubp_lists.proofs.Elements.{or_left, or_right, is_false, list_any-map}
use Rattle.dubp_lists.proofs.InOrder.{same_text_is, names_in_order}
use Rattle.dubp_steps.specs.AfterLines.{now_of, lasting, cert_lasting, entering_lines, of_pair, is_planned, certified_row}
use Rattle.dubp_steps.specs.Taken.{is_taken, IsTaken, ended_by_time, kicked_by}
use Rattle.dubp_steps.specs.Steps.{KickedIsOfRows, KickedStays}
use Rattle.dubp_steps.proofs.Standing.{last_entered, entry, some_identity, some_membership, member_has_entry}
use Rattle.dubp_lists.proofs.LastLines.{last_any, time_of-rises}
use Rattle.dubp_steps.proofs.Planned.{le_later, planned_taken}
use Rattle.dubp_steps.proofs.Sections.{has_revoked, planned_expiry, queue_membership, certification_after_lines-is}
use Rattle.dubp_steps.proofs.Queue.{made_at, queued_membership, same_params}
use Rattle.dubp_steps.proofs.Lives.{live_is_of_row, same_received}
use Rattle.dubp_steps.proofs.Rows.{identity_with, row_with, time_entered, taken_made, old_is, certification_step}

-- a member stands among those who joined
member_joined : (c : Chain) (k : Text) → member c k ≡ true → names (joined_keys c) k ≡ true
member_joined [] k is = is
member_joined (b ∷ c) k is =
    list_any-append (same_text k) (map (λ line. line.key) b.joiners) (joined_keys c)
    ∙ ap (λ r. r || names (joined_keys c) k) (list_any-map (same_text k) (λ (line : MemberLine). line.key) b.joiners)
    ∙ by_cases (names b.excluded k) (list_any (is_of k) b.joiners) (member c k) (names (joined_keys c) k) is (member_joined c k)
  where
    by_cases : (out inside was joined : Bool) → cond out false (cond inside true was) ≡ true → (was ≡ true → joined ≡ true) → (inside || joined) ≡ true
    by_cases true inside was joined is before = absurd (true≢false (sym is))
    by_cases false true was joined is before = refl
    by_cases false false was joined is before = before is

-- the members are those keys
pub member_named : (c : Chain) (k : Text) → names (members c) k ≡ member c k
member_named c k =
    any-filter_same (same_text k) (member c) (member c k) (λ x same. ap (member c) (sym (same_text_is k x same))) (in_order (joined_keys c))
    ∙ whole (member c k) (names (in_order (joined_keys c)) k) (λ is. names_in_order k (joined_keys c) (member_joined c k is))
  where
    whole : (m there : Bool) → (m ≡ true → there ≡ true) → (m && there) ≡ m
    whole true there then = then refl
    whole false there then = refl

-- the members that are kicked
pub excluded_is : (c : Chain) (k : Text) → is_to_be_excluded c k ≡ (member c k && is_kicked c k)
excluded_is c k =
    any-filter_same (same_text k) (is_kicked c) (is_kicked c k) (λ x same. ap (is_kicked c) (sym (same_text_is k x same))) (members c)
    ∙ ap (λ r. is_kicked c k && r) (member_named c k)
    ∙ swap (is_kicked c k) (member c k)
  where
    swap : (x y : Bool) → (x && y) ≡ (y && x)
    swap true true = refl
    swap true false = refl
    swap false true = refl
    swap false false = refl

kicked_cases : (time ms count qty : ℕ) (p : Params) → p.ms_validity ≡ ms → p.sig_qty ≡ qty
    → (m rev leaves : Bool) (id : Option (Written IdentityLine)) (w e : Option (Written MemberLine))
    → (m ≡ true → is_some e ≡ true) → is_some id ≡ is_some e → is_some w ≡ is_some e
    → (m && (rev || (option_map_or (λ at. nat_le at time) (option_map (λ at. at + ms) (made_at e)) false || nat_lt count qty)))
    ≡ kicked_by p time count (option_map (identity_with m) id) (option_map (row_with e leaves rev) w)
kicked_cases time ms count qty p s q false rev leaves None w e has same_id same_w = refl
kicked_cases time ms count qty p s q false rev leaves (Some i) w e has same_id same_w = refl
kicked_cases time ms count qty p s q true rev leaves id w None has same_id same_w = absurd (true≢false (sym (has refl)))
kicked_cases time ms count qty p s q true rev leaves None w (Some e) has same_id same_w = absurd (true≢false (sym same_id))
kicked_cases time ms count qty p s q true rev leaves (Some i) None (Some e) has same_id same_w = absurd (true≢false (sym same_w))
kicked_cases time ms count qty p s q true rev leaves (Some i) (Some w) (Some e) has same_id same_w =
    (λ n. rev || (nat_le (unwrap_or (made_at (Some e)) 0 + sym s n) time || nat_lt count (sym q n)))

pub kicked_is_of_rows : KickedIsOfRows
kicked_is_of_rows c sound k =
    excluded_is c k
    ∙ kicked_cases (time_of c) (params c).ms_validity (received c k) (params c).sig_qty (params c) refl refl (member c k) (revoked c k) (leaving c k) (identity c k) (membership c k) (entry c k)
    (member_has_entry c k) (some_identity c sound k) (some_membership c sound k)

-- a key that nothing touches

enters_none : (b : Block) (k : Text) → list_any (is_of k) (entering_lines b) ≡ false → last_entered b k ≡ None
enters_none b k e = none (last_entered b k) (last_any (is_of k) (entering_lines b) ∙ e)
  where
    none : (o : Option MemberLine) → is_some o ≡ false → o ≡ None
    none None e = refl
    none (Some x) e = absurd (true≢false e)

-- a certification to a key that no line certifies
to_none : (b : Block) (x k : Text) → list_any (λ line. same_text k line.to) b.certifications ≡ false → last_of (of_pair x k) b.certifications ≡ None
to_none b x k e = none (last_of (of_pair x k) b.certifications) (last_any (of_pair x k) b.certifications ∙ none_of b.certifications e)
  where
    none : (o : Option CertLine) → is_some o ≡ false → o ≡ None
    none None e = refl
    none (Some x) e = absurd (true≢false e)

    none_of : (lines : List CertLine) → list_any (λ line. same_text k line.to) lines ≡ false → list_any (of_pair x k) lines ≡ false
    none_of [] e = refl
    none_of (line ∷ lines) e =
        let here = or_left (same_text k line.to) _ e in
        let rest = none_of lines (or_right (same_text k line.to) _ e) in
        rw (here, rest) (both (same_text x line.from))
      where
        both : (a : Bool) → ((a && false) || false) ≡ false
        both true = refl
        both false = refl

-- what was to come and is not taken is still to come
not_taken : (t now end : ℕ) → t ≤ now → ((not (nat_le end t) && nat_le end now) ≡ false) → nat_le end now ≡ nat_le end t
not_taken t now end rises e = by (nat_le end t) (nat_le end now) (le_later end t now rises) e
  where
    by : (was is : Bool) → (was ≡ true → is ≡ true) → (not was && is) ≡ false → is ≡ was
    by true is then e = then refl
    by false is then e = e

abbrev is_live_row : Option CertificationRow → Bool
is_live_row row = option_map_or (λ (row : CertificationRow). row.is_live) row false

live_stays : (c : Chain) (b : Block) (x k : Text) → last_of (of_pair x k) b.certifications ≡ None → (IsTaken c b (Certification x k) → ⊥) → live (b ∷ c) x k ≡ live c x k
live_stays c b x k none untaken =
    live_is_of_row (b ∷ c) x k
    ∙ ap is_live_row (certification_step c b x k ∙ ap (option_map (ended_by_time c b x k)) (certification_after_lines-is c b x k (certification_row c x k) ∙ ap (λ last. option_map_or (λ line. Some (certified_row c b line)) last (certification_row c x k)) none))
    ∙ by_row (certification_row c x k)
    ∙ sym (live_is_of_row c x k)
  where
    whole : (l : Bool) → (l && not false) ≡ l
    whole true = refl
    whole false = refl

    by_row : (row : Option CertificationRow) → is_live_row (option_map (ended_by_time c b x k) row) ≡ is_live_row row
    by_row None = refl
    by_row (Some r) =
        ap (λ taken. r.is_live && not taken) (is_false (is_taken c b (r.made + cert_lasting c b) (Certification x k)) (λ e. untaken (r.made + cert_lasting c b, e)))
        ∙ whole r.is_live

-- its membership ends no sooner
expired_stays : (c : Chain) (b : Block) → IsSound c → (k : Text) → last_entered b k ≡ None → (v : Written MemberLine) → entry c k ≡ Some v → (IsTaken c b (Membership k) → ⊥)
    → nat_le (time_entered (Some v) + lasting c b) (now_of c b) ≡ nat_le (time_entered (Some v) + lasting c b) (time_of c)
expired_stays c b sound k none v is untaken =
    let t = time_of c in
    let now = now_of c b in
    let end = time_entered (Some v) + lasting c b in
    let same : time_entered (Some v) + (params c).ms_validity ≡ end = ap (λ p. time_entered (Some v) + p.ms_validity) (sym (same_params c b k v is)) in
    let taken : is_taken c b end (Membership k) ≡ (is_planned t end end && nat_le end now) =
    ap (λ q. q && nat_le end now)
    (queue_membership c b end k
    ∙ ap (λ last. option_map_or (planned_expiry c b end) last (is_queued c end (Membership k))) none
    ∙ queued_membership c sound end k
    ∙ ap (λ e. option_map_or (λ m. is_planned t (m + (params c).ms_validity) end) (made_at e) false) is
    ∙ ap (λ x. is_planned t x end) same) in
    not_taken t now end (time_of-rises b c) (sym (planned_taken t now end) ∙ sym taken ∙ is_false _ (λ e. untaken (end, e)))

pub kicked_stays : KickedStays
kicked_stays c b sound k untouched =
    excluded_is (b ∷ c) k
    ∙ ap (λ m. m && is_kicked (b ∷ c) k) member_stays
    ∙ elim (member c k) as (λ m. member c k ≡ m → (m && is_kicked (b ∷ c) k) ≡ (m && is_kicked c k)) [
      | true ↦ λ e. of_entry (entry c k) refl (member_has_entry c k e)
      | false ↦ λ _. refl
    ] refl
    ∙ sym (excluded_is c k)
  where
    none : last_entered b k ≡ None
    none = enters_none b k untouched.enters

    member_stays : member (b ∷ c) k ≡ member c k
    member_stays =
        let joiners : list_any (is_of k) b.joiners ≡ false = or_left _ (list_any (is_of k) b.actives) (sym (list_any-append (is_of k) b.joiners b.actives) ∙ untouched.enters) in
        (λ i. cond (untouched.excluded i) false (cond (joiners i) true (member c k)))

    revoked_stays : (v : Written MemberLine) → entry c k ≡ Some v → revoked (b ∷ c) k ≡ revoked c k
    revoked_stays v is =
        let by_line : has_revoked b k ≡ false = sym (list_any-map (same_text k) (λ (line : RevokedLine). line.key) b.revoked) ∙ untouched.revoked in
        let taken : taken_made c b k (time_entered (Some v)) ≡ false = is_false _ (λ e. untouched.ends (time_entered (Some v) + 2 * lasting c b, e)) in
        sym (old_is c b sound k none v is) ∙ (λ i. cond (by_line i) true (revoked c k) || taken i) ∙ whole (revoked c k)
      where
        whole : (r : Bool) → (r || false) ≡ r
        whole true = refl
        whole false = refl

    received_stays : received (b ∷ c) k ≡ received c k
    received_stays = same_received (b ∷ c) c k (λ a. live_stays c b a k (to_none b a k untouched.certified) (untouched.loses a))

    of_entry : (e : Option (Written MemberLine)) → entry c k ≡ e → is_some e ≡ true → is_kicked (b ∷ c) k ≡ is_kicked c k
    of_entry None is there = absurd (true≢false (sym there))
    of_entry (Some v) is there =
        let p : params (b ∷ c) ≡ params c = same_params c b k v is in
        (λ i. revoked_stays v is i || (is_reached (b ∷ c) (option_map (λ at. at + lasting c b) (made_at (option_or (option_map (written_in b c) (none i)) (is i)))) || nat_lt (received_stays i) (p i).sig_qty))
        ∙ ap (λ r. revoked c k || (r || nat_lt (received c k) (params c).sig_qty)) (expired_stays c b sound.1 k none v is untouched.expires)
        ∙ (λ i. revoked c k || (nat_le (time_entered (Some v) + (p i).ms_validity) (time_of c) || nat_lt (received c k) (params c).sig_qty))
        ∙ (λ i. revoked c k || (is_reached c (option_map (λ at. at + (params c).ms_validity) (made_at (sym is i))) || nat_lt (received c k) (params c).sig_qty))
