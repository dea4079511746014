-- What is said of the row of the registry at a key, or of a pair, is said of its last line in the chain.
use Rattle.std.proofs.Common.{◌≡◌, ◌↔◌, ℕ, ◌+◌, ◌<◌, ◌≤◌, Bool, false, ◌&&◌, IsTrue, List, [], ◌∷◌, Option, None, Some, refl, sym, ap, subst, ◌∙◌, true≢false}
use Rattle.std.specs.Prelude.{option_map, map, is_some, ⊤, nat_lt}
use Rattle.std.specs.Option.{option_map_or, MatchOption, IsSomeAnd}
use Rattle.std.specs.List.{AllByRecursion}
use Rattle.dubp_atoms.specs.Same.{Text, same_text}
use Rattle.dubp_block.specs.declared.block.Block.{Block}
use Rattle.dubp_block.specs.declared.block.IdentityLine.{IdentityLine}
use Rattle.dubp_block.specs.declared.block.MemberLine.{MemberLine}
use Rattle.dubp_block.specs.declared.block.RevokedLine.{RevokedLine}
use Rattle.dubp_block.specs.declared.block.CertLine.{CertLine}
use Rattle.dubp_params.specs.declared.params.Params.{Params}
use Rattle.dubp_chain.specs.Words.{names}
use Rattle.dubp_chain.specs.Chains.{Chain, params}
use Rattle.dubp_chain.specs.Members.{is_of, member}
use Rattle.dubp_chain.specs.Heads.{time_of}
use Rattle.dubp_chain.specs.People.{Written, written_time, identity, identity_lines, membership, membership_lines, leaving, revoked}
use Rattle.dubp_chain.specs.Live.{certification, last_from, made_of, live_at, live}
use Rattle.dubp_chain.specs.Tables as chain
use Rattle.dubp_validity.specs.PeopleRules.{HasWaited, IssuersWaited, IsRenewal, LiveIsRenewed, LivePairsAreRenewed}
use Rattle.dubp_verdict.specs.Verdicts.{Verdicts}
use Rattle.dubp_iindex.specs.declared.row.IdentityRow.{IdentityRow}
use Rattle.dubp_mindex.specs.declared.member.MemberRow.{MemberRow}
use Rattle.dubp_lists.proofs.LastLines.{time_of-rises, last_line-any}
use Rattle.dubp_lists.proofs.Elements.{list_any-map, all_more}
use Rattle.dubp_registry.proofs.OfLeft.{live_at_is_of_row}
use Rattle.dubp_registry.specs.OfLeft.{identity_entry, identity_left, member_entry, membership_left, cert_entry, certification_left}
use Rattle.dubp_registry.specs.OfLeft.{time_numbered}
use Rattle.dubp_registry.specs.OfLeft.{IsAsked}
use Rattle.dubp_registry.specs.OfLeft.{Next}
use Rattle.dubp_registry.proofs.OfLeft.{written-time}
use Rattle.dubp_people_rules.specs.Lines.{IsPast, IsMembershipNewer, IsNewerThan, IsApart, IsMembershipApart, HasIssuerWaited, IsRevocationSigned, IsSignedRevocation, IsRowRenewed, MayFollow, MayFollowLast, is_live_then}

-- two sentences that hold of the same lines hold of the same lists
pub all_alike : {X : Type 0} (P Q : X → Type 0) → ((x : X) → P x ↔ Q x) → (xs : List X) → AllByRecursion P xs ↔ AllByRecursion Q xs
all_alike P Q alike xs = (all_more P Q (λ x. (alike x).0) xs, all_more Q P (λ x. (alike x).1) xs)

pub both : {A B C : Type 0} → (A ↔ B) → (B ↔ C) → A ↔ C
both f g = (λ a. g.0 (f.0 a), λ z. f.1 (g.1 z))

-- ---- identities

-- a key has an identity where it stands among the keys of the lines
pub identity-names : (c : Chain) (k : Text) → is_some (identity c k) ≡ names (map (λ line. line.key) (identity_lines c)) k
identity-names c k = last_line-any (λ b. b.identities) (λ line. same_text k line.key) c ∙ sym (list_any-map (same_text k) (λ (line : IdentityLine). line.key) (identity_lines c))

abbrev identity_of : Chain → Text → Written IdentityLine → chain.IdentityRow
identity_of c k w = record { uid = w.line.uid; stamp = w.line.stamp; sig = w.line.sig; written = w.block.number; is_member = member c k }

some_told : (P : IdentityRow → Type 0) (c : Chain) (k : Text) (o : Option (Written IdentityLine)) (answer : Bool)
    → (IsTrue answer ↔ IsSomeAnd (option_map identity_entry (option_map (identity_of c k) o)) P) → IsTrue answer ↔ IsSomeAnd o (λ w. P (identity_entry (identity_of c k w)))
some_told P c k None answer says = says
some_told P c k (Some w) answer says = says

pub signed-told : (v : Verdicts) (c : Chain) (b : Block) (line : RevokedLine) (row : Option IdentityRow) (answer : Bool) → row ≡ identity_left c line.key
    → (IsTrue answer ↔ IsSomeAnd row (IsSignedRevocation v b.currency line)) → IsTrue answer ↔ IsRevocationSigned v c b line
signed-told v c b line row answer is says =
    some_told (IsSignedRevocation v b.currency line) c line.key (identity c line.key) answer
    (subst (λ r. IsTrue answer ↔ IsSomeAnd r (IsSignedRevocation v b.currency line)) is says)

-- ---- memberships

newer : (c : Chain) (line : MemberLine) (made : ℕ) (leaving revoked : Bool) (o : Option (Written MemberLine)) (answer : Bool)
    → (IsTrue answer ↔ MatchOption (option_map member_entry (option_map (λ (w : Written MemberLine). record { last_number = w.line.stamp.number; made = made; written = w.block.number; is_leaving = leaving; is_revoked = revoked }) o)) ⊤ (IsNewerThan line))
    → IsTrue answer ↔ MatchOption o ⊤ (λ last. last.line.stamp.number < line.stamp.number)
newer c line made leaving revoked None answer says = says
newer c line made leaving revoked (Some w) answer says = says

pub newer-told : (c : Chain) (line : MemberLine) (row : Option MemberRow) (answer : Bool) → row ≡ membership_left c line.key
    → (IsTrue answer ↔ MatchOption row ⊤ (IsNewerThan line)) → IsTrue answer ↔ IsMembershipNewer c line
newer-told c line row answer is says =
    newer c line _ _ _ (membership c line.key) answer (subst (λ r. IsTrue answer ↔ MatchOption r ⊤ (IsNewerThan line)) is says)

-- ---- how long ago a line was written

past-there : (c : Chain) (now wait number time : ℕ) → time_numbered c number ≡ Some time → IsPast c now wait number ↔ (time + wait ≤ now)
past-there c now wait number time e =
    (λ h. subst (λ o. IsSomeAnd o (λ at. at + wait ≤ now)) e h, λ h. subst (λ o. IsSomeAnd o (λ at. at + wait ≤ now)) (sym e) h)

waited : {Line : Type 0} (c : Chain) (now wait : ℕ) (o : Option (Written Line)) → ((w : Written Line) → o ≡ Some w → time_numbered c w.block.number ≡ Some (written_time w))
    → MatchOption (option_map (λ w. w.block.number) o) ⊤ (IsPast c now wait) ↔ MatchOption o ⊤ (HasWaited now wait)
waited c now wait None there = (λ h. h, λ h. h)
waited c now wait (Some w) there = past-there c now wait w.block.number (written_time w) (there w refl)

module _ (c : Chain) (b : Block) (next : Next) (asked : IsAsked c b next) where
  -- what holds of the time and of the parameters that stand to be judged holds of those of the chain with the block
  pub at_next : (P : ℕ → Params → Type 0) → P next.time next.params → P (time_of (b ∷ c)) (params (b ∷ c))
  at_next P h = subst (λ t. P t (params (b ∷ c))) asked.is_next.time (subst (P next.time) asked.is_next.params h)

  apart-told : (line : MemberLine) → IsMembershipApart c next line ↔ IsApart c b line
  apart-told line =
      at_next (λ t p. IsMembershipApart c next line ↔ MatchOption (membership c line.key) ⊤ (HasWaited t p.ms_window))
      (waited c next.time next.params.ms_window (membership c line.key) (λ w e. written-time membership_lines (is_of line.key) c asked.sound w e))

  pub all-apart : (lines : List MemberLine) → AllByRecursion (IsMembershipApart c next) lines ↔ AllByRecursion (IsApart c b) lines
  all-apart lines = all_alike (IsMembershipApart c next) (IsApart c b) apart-told lines

  issuer-told : (line : CertLine) → HasIssuerWaited c next line ↔ MatchOption (last_from c line.from) ⊤ (HasWaited (time_of (b ∷ c)) (params (b ∷ c)).sig_period)
  issuer-told line =
      at_next (λ t p. HasIssuerWaited c next line ↔ MatchOption (last_from c line.from) ⊤ (HasWaited t p.sig_period))
      (waited c next.time next.params.sig_period (last_from c line.from)
      (λ w e. written-time (λ (block : Block). block.certifications) (λ (other : CertLine). same_text line.from other.from) c asked.sound w e))

  pub all-issuers-waited : AllByRecursion (HasIssuerWaited c next) b.certifications ↔ IssuersWaited c b
  all-issuers-waited = all_alike (HasIssuerWaited c next) _ issuer-told b.certifications

-- ---- certifications

-- with a certification in the chain, its parameters are those of the chain with the block
same_params : (c : Chain) (b : Block) (x y : Text) (w : Written CertLine) → certification c x y ≡ Some w → params (b ∷ c) ≡ params c
same_params [] b x y w e = cc
same_params (a ∷ c) b x y w e = refl

abbrev cert_of : Chain → Text → Text → Written CertLine → chain.CertificationRow
cert_of c x y w = record { made = made_of w; written = w.block.number; is_live = live c x y }

module _ (c : Chain) (b : Block) (line : CertLine) (next : Next) (asked : IsAsked c b next) where
  there : (w : Written CertLine) → certification c line.from line.to ≡ Some w → time_numbered c w.block.number ≡ Some (written_time w)
  there w e = written-time (λ (block : Block). block.certifications) (λ (other : CertLine). same_text line.from other.from && same_text line.to other.to) c asked.sound w e

  window : next.params.ms_window ≡ (params (b ∷ c)).ms_window
  window = ap (λ p. p.ms_window) asked.is_next.params

  renewal : (w : Written CertLine) → certification c line.from line.to ≡ Some w → IsRowRenewed c b next line (cert_entry (cert_of c line.from line.to w)) ↔ IsRenewal c b line w
  renewal w e =
      let past = past-there c next.time next.params.ms_window w.block.number (written_time w) (there w e) in (
        λ h. record {
          version = h.0;
          waited = subst (λ t. HasWaited t (params (b ∷ c)).ms_window w) asked.is_next.time (subst (λ n. HasWaited next.time n w) window (past.0 h.1));
          newer = h.2;
        },
        λ r. (r.version, past.1 (subst (λ n. HasWaited next.time n w) (sym window) (subst (λ t. HasWaited t (params (b ∷ c)).ms_window w) (sym asked.is_next.time) r.waited)), r.newer),
      )

  -- whether the pair is live at the time, by the row
  lasting : (w : Written CertLine) → certification c line.from line.to ≡ Some w → is_live_then next (cert_entry (cert_of c line.from line.to w)) ≡ live_at (time_of (b ∷ c)) c line.from line.to
  lasting w e =
      let rises : time_of c ≤ next.time = subst (λ t. time_of c ≤ t) (sym asked.is_next.time) (time_of-rises b c) in
      let law = live_at_is_of_row c next.time rises line.from line.to in
      let row : chain.certification_row c line.from line.to ≡ Some (cert_of c line.from line.to w) = ap (option_map (cert_of c line.from line.to)) e in
      let validity : next.params.sig_validity ≡ (params c).sig_validity = ap (λ p. p.sig_validity) (asked.is_next.params ∙ same_params c b line.from line.to w e) in
      ap (λ n. live c line.from line.to && nat_lt next.time (made_of w + n)) validity
      ∙ sym (ap (λ r. option_map_or (λ (row : chain.CertificationRow). row.is_live && nat_lt next.time (row.made + (params c).sig_validity)) r false) row)
      ∙ sym law ∙ ap (λ t. live_at t c line.from line.to) asked.is_next.time

  none_lives : (t : ℕ) → certification c line.from line.to ≡ None → live_at t c line.from line.to ≡ false
  none_lives t e = ap (λ o. option_map_or (λ w. nat_lt t (made_of w + (params c).sig_validity)) o false) e

  renewed-told : MayFollowLast c b next line ↔ LiveIsRenewed c b line
  renewed-told =
      elim (certification c line.from line.to) as (λ o. certification c line.from line.to ≡ o → MayFollowLast c b next line ↔ (IsTrue (live_at (time_of (b ∷ c)) c line.from line.to) → IsSomeAnd o (IsRenewal c b line))) [
        | None ↦ λ e.
            let none : certification_left c (line.from, line.to) ≡ None = ap (λ o. option_map cert_entry (option_map (cert_of c line.from line.to) o)) e in
            (λ _ lives. absurd (true≢false (sym lives ∙ none_lives (time_of (b ∷ c)) e)), λ _. subst (MayFollow c b next line) (sym none) tt)
        | Some w ↦ λ e.
            let some : certification_left c (line.from, line.to) ≡ Some (cert_entry (cert_of c line.from line.to w)) = ap (λ o. option_map cert_entry (option_map (cert_of c line.from line.to) o)) e in
            let same = lasting w e in
            let says = renewal w e in (
              λ holds lives. says.0 (subst (MayFollow c b next line) some holds (same ∙ lives)),
              λ each. subst (MayFollow c b next line) (sym some) (λ lives. says.1 (each (sym same ∙ lives))),
            )
      ] refl

pub all-renewed : (c : Chain) (b : Block) (next : Next) → IsAsked c b next → AllByRecursion (MayFollowLast c b next) b.certifications ↔ LivePairsAreRenewed c b
all-renewed c b next asked = all_alike (MayFollowLast c b next) (LiveIsRenewed c b) (λ line. renewed-told c b line next asked) b.certifications
