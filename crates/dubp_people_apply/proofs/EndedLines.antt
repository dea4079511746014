-- Who is at an end with a line of the block.
use Rattle.std.proofs.Common.{◌≡◌, ℕ, ◌+◌, ◌*◌, ◌<◌, ◌^◌, Bool, true, false, not, ◌&&◌, ◌||◌, List, [], ◌∷◌, Option, Some, None, option_map, is_some, nat_le, refl, ap, sym, ◌∙◌, subst, true≢false, arith}
use Rattle.std.specs.Prelude.{IfSome, fold, ◌++◌}
use Rattle.std.specs.Option.{option_map_or}
use Rattle.std.proofs.lemmas.List.Sums.{fold-append}
use Rattle.dubp_atoms.specs.Same.{Text}
use Rattle.dubp_block.specs.declared.block.Block.{Block}
use Rattle.dubp_block.specs.declared.block.MemberLine.{MemberLine}
use Rattle.dubp_block.specs.declared.block.CertLine.{CertLine}
use Rattle.dubp_chain.specs.Chains.{Chain, params}
use Rattle.dubp_chain.specs.Heads.{time_of}
use Rattle.dubp_chain.specs.People.{expired}
use Rattle.dubp_chain.specs.Live.{live}
use Rattle.dubp_chain.specs.Tables.{MembershipRow, membership_row, CertificationRow, certification_row}
use Rattle.dubp_validity.specs.Records.{membership_time}
use Rattle.dubp_validity.specs.Rules.{IsSound}
use Rattle.dubp_mindex.specs.declared.member.MemberRow.{MemberRow}
use Rattle.dubp_cindex.specs.declared.row.CertRow.{CertRow}
use Rattle.dubp_cindex.specs.Rows.{lives}
use Rattle.dubp_left.specs.Left.{membership_left, cert_entry}
use Rattle.dubp_left.specs.Next.{IsWritten}
use Rattle.dubp_left.specs.declared.next.Next.{Next}
use Rattle.dubp_steps.specs.AfterLines.{now_of, lasting, cert_lasting, certification_time}
use Rattle.dubp_steps.proofs.Counts.{expired_is_of_row}
use Rattle.dubp_steps.proofs.Lives.{live_is_of_row}
use Rattle.dubp_people_apply.specs.Lines.{EndsAreSmall}
use Rattle.dubp_people_apply.specs.Taking.{IsSince}
use Rattle.dubp_people_apply.proofs.Small.{memberships_small, entering_small, certifying_small}
use Rattle.dubp_people_apply.proofs.MemberLines.{unmapped, mapped}

-- ---- whether a membership was over before

pub over_none : (c : Chain) (b : Block) (k : Text) (row : Option MemberRow) → IsSound (b ∷ c) → row ≡ None → row ≡ membership_left c k → false ≡ expired c k
over_none c b k row sound none is = sym (expired_is_of_row c sound.1 k ∙ ap (λ o. option_map_or (λ (r : MembershipRow). nat_le (r.made + (params c).ms_validity) (time_of c)) o false) (unmapped _ (sym is ∙ none)))

pub over_some : (c : Chain) (b : Block) (k : Text) (since : Option ℕ) (long : ℕ) (o : Option MemberRow) (row : MemberRow) (end : ℕ) → IsSound (b ∷ c) → IsSince c since → long ≡ lasting c b → o ≡ Some row → o ≡ membership_left c k
    → (row.made + long < 2 ^ 64 → end ≡ row.made + long) → option_map_or (nat_le end) since false ≡ expired c k
over_some [] b k since long o row end sound is_since is_long some is at = absurd (true≢false (ap is_some (sym some ∙ is)))
over_some (a ∷ d) b k since long o row end sound is_since is_long some is at =
    let r = mapped (membership_row (a ∷ d) k) row (sym is ∙ some) in
    let made_is : row.made ≡ r.0.made = ap (λ (m : MemberRow). m.made) r.1.1 in
    let small : r.0.made + 2 * lasting (a ∷ d) b < 2 ^ 64 = subst (λ o. IfSome o (EndsAreSmall (lasting (a ∷ d) b))) r.1.0 (memberships_small (a ∷ d) b sound k) in
    let fits : row.made + long < 2 ^ 64 = subst (λ (p : ℕ × ℕ). p.0 + p.1 < 2 ^ 64) (λ i. (sym made_is i, sym is_long i)) (half r.0.made (lasting (a ∷ d) b) small) in
    let e : end ≡ r.0.made + lasting (a ∷ d) b = at fits ∙ (λ i. made_is i + is_long i) in
    ap (λ t. option_map_or (nat_le end) t false) is_since
    ∙ ap (λ n. nat_le n (time_of (a ∷ d))) e
    ∙ sym (expired_is_of_row (a ∷ d) sound.1 k ∙ ap (λ o. option_map_or (λ (r : MembershipRow). nat_le (r.made + (params (a ∷ d)).ms_validity) (time_of (a ∷ d))) o false) r.1.0)
  where
    half : (m l : ℕ) → m + 2 * l < 2 ^ 64 → m + l < 2 ^ 64
    half m l h = omega (arith, h)

-- ---- what joins a set

pub joins : (same test is new : Bool) → test ≡ true → new ≡ (same || is) → new ≡ ((same && test) || is)
joins true test is new passes more = more ∙ ap (λ t. t || is) (sym passes)
joins false test is new passes more = more

pub stays_out : (same test is : Bool) → test ≡ false → is ≡ ((same && test) || is)
stays_out true test is fails = ap (λ t. t || is) (sym fails)
stays_out false test is fails = refl

pub fails_right : (a b : Bool) → b ≡ false → (a && b) ≡ false
fails_right true b fails = fails
fails_right false b fails = refl

-- ---- the tests of a line

module _ (c : Chain) (b : Block) (next : Next) (written : IsWritten c b next) where
  pub over_test : (line : MemberLine) (made end : ℕ) (over : Bool) → made ≡ membership_time c b line → (made + next.params.ms_validity < 2 ^ 64 → end ≡ made + next.params.ms_validity) → over ≡ expired c line.key
      → (nat_le (membership_time c b line + lasting c b) (now_of c b) && not (expired c line.key)) ≡ (nat_le end next.time && not over)
  over_test line made end over made_is at over_is =
      let long : next.params.ms_validity ≡ lasting c b = ap (λ p. p.ms_validity) written.is_next.params in
      let fits : made + next.params.ms_validity < 2 ^ 64 = subst (λ (p : ℕ × ℕ). p.0 + p.1 < 2 ^ 64) (λ i. (sym made_is i, sym long i)) (half (membership_time c b line) (lasting c b) (entering_small c b written.sound line)) in
      λ i. nat_le ((sym (at fits ∙ (λ j. made_is j + long j))) i) (sym written.is_next.time i) && not (sym over_is i)
    where
      half : (m l : ℕ) → m + 2 * l < 2 ^ 64 → m + l < 2 ^ 64
      half m l h = omega (arith, h)

  pub revoked_test : (line : MemberLine) (made end : ℕ) → made ≡ membership_time c b line → (made + 2 * next.params.ms_validity < 2 ^ 64 → end ≡ made + 2 * next.params.ms_validity)
      → nat_le (membership_time c b line + 2 * lasting c b) (now_of c b) ≡ nat_le end next.time
  revoked_test line made end made_is at =
      let long : next.params.ms_validity ≡ lasting c b = ap (λ p. p.ms_validity) written.is_next.params in
      let fits : made + 2 * next.params.ms_validity < 2 ^ 64 = subst (λ (p : ℕ × ℕ). p.0 + 2 * p.1 < 2 ^ 64) (λ i. (sym made_is i, sym long i)) (entering_small c b written.sound line) in
      λ i. nat_le ((sym (at fits ∙ (λ j. made_is j + 2 * long j))) i) (sym written.is_next.time i)

  pub ended_test : (line : CertLine) (made end : ℕ) (row : Option CertRow) → made ≡ certification_time c b line → (made + next.params.sig_validity < 2 ^ 64 → end ≡ made + next.params.sig_validity)
      → row ≡ option_map cert_entry (certification_row c line.from line.to)
      → (nat_le (certification_time c b line + cert_lasting c b) (now_of c b) && live c line.from line.to) ≡ (nat_le end next.time && lives row)
  ended_test line made end row made_is at row_is =
      let long : next.params.sig_validity ≡ cert_lasting c b = ap (λ p. p.sig_validity) written.is_next.params in
      let fits : made + next.params.sig_validity < 2 ^ 64 = subst (λ (p : ℕ × ℕ). p.0 + p.1 < 2 ^ 64) (λ i. (sym made_is i, sym long i)) (certifying_small c b written.sound line) in
      λ i. nat_le ((sym (at fits ∙ (λ j. made_is j + long j))) i) (sym written.is_next.time i) && (live_is_of_row c line.from line.to ∙ told (certification_row c line.from line.to) ∙ ap lives (sym row_is)) i
    where
      told : (o : Option CertificationRow) → option_map_or (λ (r : CertificationRow). r.is_live) o false ≡ lives (option_map cert_entry o)
      told None = refl
      told (Some r) = refl

-- ---- two sections, one behind the other

pub both_sections : {X : Type 0} (f : Bool → X → Bool) (xs ys joiners actives : List X) (empty first second : Bool) → xs ≡ joiners → ys ≡ actives → empty ≡ false → first ≡ fold f empty xs → second ≡ fold f first ys
    → second ≡ fold f false (joiners ++ actives)
both_sections f xs ys joiners actives empty first second j a none one two =
    two ∙ (λ i. fold f (one i) (a i)) ∙ (λ i. fold f (fold f (none i) (j i)) actives) ∙ sym (fold-append f false joiners actives)

pub one_section : {X : Type 0} (f : Bool → X → Bool) (xs lines : List X) (empty first : Bool) → xs ≡ lines → empty ≡ false → first ≡ fold f empty xs → first ≡ fold f false lines
one_section f xs lines empty first is none one = one ∙ (λ i. fold f (none i) (is i))
