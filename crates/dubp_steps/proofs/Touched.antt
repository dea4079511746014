-- Whether a key is to be excluded changes only where a record of the block touches it.
use Rattle.std.proofs.Common.{◌≡◌, Bool, true, false, cond, ◌||◌, ◌&&◌, List, [], ◌∷◌, ◌++◌, unwrap_or, map, filter, refl, ap, sym, ◌∙◌, true≢false, inr}
use Rattle.std.specs.List.{list_any, flat_map}
use Rattle.std.proofs.lemmas.List.Folds.{list_any-append}
use Rattle.dubp_atoms.specs.Same.{Text, same_text}
use Rattle.dubp_block.specs.declared.block.Block.{Block}
use Rattle.dubp_block.specs.declared.block.IdentityLine.{IdentityLine}
use Rattle.dubp_block.specs.declared.block.MemberLine.{MemberLine}
use Rattle.dubp_block.specs.declared.block.RevokedLine.{RevokedLine}
use Rattle.dubp_block.specs.declared.block.CertLine.{CertLine}
use Rattle.dubp_validity.specs.declared.record.Record.{Record}
use Rattle.dubp_validity.specs.declared.record.Record.TheVariants.{Create, Enter, Exit, Join, Active, Leave, Revoke, Expire, ExpireRev, Cert, CertExpire}
use Rattle.dubp_chain.specs.Words.{names, in_order}
use Rattle.dubp_chain.specs.Chains.{Chain, params}
use Rattle.dubp_chain.specs.Members.{is_of, member, members, joined_keys}
use Rattle.dubp_chain.specs.Made.{certification_made}
use Rattle.dubp_chain.specs.Live.{received, is_kicked, kick, certified_pairs}
use Rattle.dubp_validity.specs.Records.{membership_time, line_records, expiry_records, revocation_records, ended_records, identity_keys, is_revoked_by_time, pairs_in_order}
use Rattle.dubp_chain.specs.Tables.{identity_row, membership_row, is_to_be_excluded}
use Rattle.dubp_validity.specs.Rules.{IsSound}
use Rattle.dubp_lists.proofs.Elements.{and_right, filter_twice, or_left, or_right, in_any, any_in, list_any-map}
use Rattle.dubp_steps.specs.AfterLines.{now_of}
use Rattle.dubp_steps.specs.Taken.{kicked_by}
use Rattle.dubp_steps.specs.Ordered.{keys_rise}
use Rattle.dubp_steps.specs.Steps.{IsUntouched, touches, people_records, KickedByRecords, KickIsTable, MembersAreTable}
use Rattle.dubp_steps.proofs.Kicked.{member_named, kicked_is_of_rows, kicked_stays}
use Rattle.dubp_steps.proofs.Ends.{expires_now, ends_now, expiry_named, revocation_named, ended_named, expires_says, revoked_says, ends_says}
use Rattle.dubp_steps.proofs.Rising.{same_keys, filtered_keys_rise}
use Rattle.dubp_steps.proofs.Lives.{is_pair}

-- what the records of each section touch

any_mapped : {X : Type 0} (p : Record → Bool) (of : X → Record) (q : X → Bool) → ((x : X) → p (of x) ≡ q x) → (xs : List X) → list_any p (map of xs) ≡ list_any q xs
any_mapped p of q same [] = refl
any_mapped p of q same (x ∷ xs) = λ i. same x i || any_mapped p of q same xs i

any_joined : (c : Chain) (b : Block) (k : Text) (lines : List MemberLine)
    → list_any (touches k) (flat_map (λ (line : MemberLine). Enter line.key ∷ Join line.key (membership_time c b line) ∷ []) lines) ≡ list_any (is_of k) lines
any_joined c b k [] = refl
any_joined c b k (line ∷ lines) = ap (λ r. same_text k line.key || r) (any_joined c b k lines)

no_lines : (k : Text) (c : Chain) (b : Block) → list_any (touches k) (line_records c b) ≡ false
    → (list_any (is_of k) b.joiners ≡ false) × (list_any (is_of k) b.actives ≡ false) × (list_any (λ (line : RevokedLine). same_text k line.key) b.revoked ≡ false)
    × (names b.excluded k ≡ false) × (list_any (λ (line : CertLine). same_text k line.to) b.certifications ≡ false)
no_lines k c b none =
    let p = touches k in
    let identities = map (λ (line : IdentityLine). Create line.key line.uid line.stamp) b.identities in
    let joiners = flat_map (λ (line : MemberLine). Enter line.key ∷ Join line.key (membership_time c b line) ∷ []) b.joiners in
    let actives = map (λ (line : MemberLine). Active line.key (membership_time c b line)) b.actives in
    let leavers = map (λ (line : MemberLine). Leave line.key (membership_time c b line)) b.leavers in
    let revoked = map (λ (line : RevokedLine). Revoke line.key) b.revoked in
    let excluded = map Exit b.excluded in
    let certifications = map (λ (line : CertLine). Cert line.from line.to (unwrap_or (certification_made c b line) 0)) b.certifications in
    let r1 = behind p identities _ none in
    let r2 = behind p joiners _ r1 in
    let r3 = behind p actives _ r2 in
    let r4 = behind p leavers _ r3 in
    let r5 = behind p revoked _ r4 in
    let r6 = behind p excluded certifications r5 in (
      sym (any_joined c b k b.joiners) ∙ before p joiners _ r1,
      sym (any_mapped p (λ (line : MemberLine). Active line.key (membership_time c b line)) (is_of k) (λ line. refl) b.actives) ∙ before p actives _ r2,
      sym (any_mapped p (λ (line : RevokedLine). Revoke line.key) (λ line. same_text k line.key) (λ line. refl) b.revoked) ∙ before p revoked _ r4,
      sym (any_mapped p Exit (same_text k) (λ key. refl) b.excluded) ∙ before p excluded certifications r5,
      sym (any_mapped p (λ (line : CertLine). Cert line.from line.to (unwrap_or (certification_made c b line) 0)) (λ line. same_text k line.to) (λ line. refl) b.certifications) ∙ r6,
    )
  where
    before : (p : Record → Bool) (xs ys : List Record) → list_any p (xs ++ ys) ≡ false → list_any p xs ≡ false
    before p xs ys none = or_left (list_any p xs) (list_any p ys) (sym (list_any-append p xs ys) ∙ none)

    behind : (p : Record → Bool) (xs ys : List Record) → list_any p (xs ++ ys) ≡ false → list_any p ys ≡ false
    behind p xs ys none = or_right (list_any p xs) (list_any p ys) (sym (list_any-append p xs ys) ∙ none)

-- a key that no record touches is touched by nothing
pub untouched : (c : Chain) (b : Block) → IsSound (b ∷ c) → (k : Text) → list_any (touches k) (people_records c b) ≡ false → IsUntouched c b k
untouched c b sound k none =
    let p = touches k in
    let ends = or_right (list_any p (line_records c b)) _ (sym (list_any-append p (line_records c b) _) ∙ none) in
    let lines = no_lines k c b (or_left _ (list_any p (expiry_records c b ++ (revocation_records c b ++ ended_records c b))) (sym (list_any-append p (line_records c b) _) ∙ none)) in
    let expiry = or_left (list_any p (expiry_records c b)) _ (sym (list_any-append p (expiry_records c b) _) ∙ ends) in
    let later = or_right (list_any p (expiry_records c b)) _ (sym (list_any-append p (expiry_records c b) _) ∙ ends) in
    let revocation = or_left (list_any p (revocation_records c b)) _ (sym (list_any-append p (revocation_records c b) _) ∙ later) in
    let ended = or_right (list_any p (revocation_records c b)) (list_any p (ended_records c b)) (sym (list_any-append p (revocation_records c b) _) ∙ later) in
    record {
      enters = list_any-append (is_of k) b.joiners b.actives ∙ (λ i. lines.0 i || lines.1 i);
      revoked = list_any-map (same_text k) (λ (line : RevokedLine). line.key) b.revoked ∙ lines.2;
      excluded = lines.3;
      certified = lines.4;
      expires = λ taken.
          true≢false
          (sym ((expires_says c b sound k).0 (inr taken)) ∙ sym (expiry_named c b sound k)
          ∙ sym (any_mapped p Expire (same_text k) (λ key. refl) (filter (expires_now c b) (identity_keys (b ∷ c)))) ∙ expiry);
      ends = λ taken.
          true≢false
          (sym ((revoked_says c b sound k).0 (inr taken)) ∙ sym (revocation_named c b sound k)
          ∙ sym (any_mapped p ExpireRev (same_text k) (λ key. refl) (filter (is_revoked_by_time c b) (identity_keys (b ∷ c)))) ∙ revocation);
      loses = λ a taken.
          let pairs = filter (ends_now c b) (pairs_in_order (certified_pairs c)) in
          let found = any_in (is_pair a k) pairs (ended_named c b a k ∙ (ends_says c b a k).0 (inr taken)) in
          true≢false
          (sym (in_any (λ (q : Text × Text). same_text k q.1) pairs found.0 found.1 (and_right (same_text a found.0.0) (same_text k found.0.1) found.2))
          ∙ sym (any_mapped p (λ (q : Text × Text). CertExpire q.0 q.1) (λ q. same_text k q.1) (λ q. refl) pairs) ∙ ended);
    }

pub kicked_by_records : KickedByRecords
kicked_by_records c b sound k =
    let by = kicked_by (params (b ∷ c)) (now_of c b) (received (b ∷ c) k) (identity_row (b ∷ c) k) (membership_row (b ∷ c) k) in
    elim (list_any (touches k) (people_records c b)) as (λ r. list_any (touches k) (people_records c b) ≡ r → is_to_be_excluded (b ∷ c) k ≡ cond r by (is_to_be_excluded c k)) [
      | true ↦ λ _. kicked_is_of_rows (b ∷ c) sound k
      | false ↦ λ none. kicked_stays c b sound k (untouched c b sound k none)
    ] refl

-- the table as a list

pub kick_is_table : KickIsTable
kick_is_table c ks rise each =
    same_keys ks (kick c) rise
    (ap keys_rise (filter_twice (is_kicked c) (member c) (in_order (joined_keys c))) ∙ filtered_keys_rise (λ k. member c k && is_kicked c k) (joined_keys c))
    each

pub members_are_table : MembersAreTable
members_are_table c ks rise each = same_keys ks (members c) rise (filtered_keys_rise (member c) (joined_keys c)) (λ k. each k ∙ sym (member_named c k))
