-- Who has to be excluded by the lines of a block and by the records of its ends has to be by all its records of people: one section after
-- the other.
use Rattle.std.proofs.Common.{◌≡◌, Bool, List, [], ◌∷◌, ◌++◌, map, fold, unwrap_or, refl, sym, ap, ◌∙◌}
use Rattle.std.specs.List.{flat_map}
use Rattle.std.proofs.lemmas.List.Sums.{fold-append}
use Rattle.std.proofs.lemmas.List.Folds.{fold-map, fold_stays}
use Rattle.dubp_atoms.specs.Same.{Text, same_text}
use Rattle.dubp_block.specs.declared.block.Block.{Block}
use Rattle.dubp_block.specs.declared.block.MemberLine.{MemberLine}
use Rattle.dubp_block.specs.declared.block.RevokedLine.{RevokedLine}
use Rattle.dubp_block.specs.declared.block.CertLine.{CertLine}
use Rattle.dubp_chain.specs.Chains.{Chain, params}
use Rattle.dubp_chain.specs.Heads.{time_of}
use Rattle.dubp_chain.specs.Live.{received}
use Rattle.dubp_chain.specs.Made.{certification_made}
use Rattle.dubp_chain.specs.Tables.{identity_row, membership_row, is_to_be_excluded}
use Rattle.dubp_validity.specs.declared.record.Record.{Record}
use Rattle.dubp_validity.specs.declared.record.Record.TheVariants.{Create, Enter, Exit, Join, Active, Leave, Revoke, Cert}
use Rattle.dubp_validity.specs.Records.{membership_time}
use Rattle.dubp_validity.specs.Rules.{IsSound}
use Rattle.dubp_people_apply.specs.Ends.{end_records}
use Rattle.dubp_people_apply.specs.OfSteps.{people_records, touches, kicked_by, kicked_record}
use Rattle.dubp_people_apply.proofs.OfSteps.{kicked_fold}
use Rattle.dubp_people.specs.Exclusion.{noted_anew}

module _ {X R : Type 0} (f : R → X → R) where
  fold_flat_map : {Y : Type 0} (g : Y → List X) (z : R) (ys : List Y) → fold f z (flat_map g ys) ≡ fold (λ z y. fold f z (g y)) z ys
  fold_flat_map g z [] = refl
  fold_flat_map g z (y ∷ ys) = fold-append f z (g y) (flat_map g ys) ∙ fold_flat_map g (fold f z (g y)) ys

  sections : (a j t l r x n e : List X) (z : R) → fold f z ((a ++ (j ++ (t ++ (l ++ (r ++ (x ++ n)))))) ++ e) ≡ fold f (fold f (fold f (fold f (fold f (fold f (fold f (fold f z a) j) t) l) r) x) n) e
  sections a j t l r x n e z =
      fold-append f z (a ++ (j ++ (t ++ (l ++ (r ++ (x ++ n)))))) e
      ∙ ap (λ s. fold f s e)
      (fold-append f z a (j ++ (t ++ (l ++ (r ++ (x ++ n)))))
      ∙ fold-append f (fold f z a) j (t ++ (l ++ (r ++ (x ++ n))))
      ∙ fold-append f (fold f (fold f z a) j) t (l ++ (r ++ (x ++ n)))
      ∙ fold-append f (fold f (fold f (fold f z a) j) t) l (r ++ (x ++ n))
      ∙ fold-append f (fold f (fold f (fold f (fold f z a) j) t) l) r (x ++ n)
      ∙ fold-append f (fold f (fold f (fold f (fold f (fold f z a) j) t) l) r) x n)

module _ (c : Chain) (b : Block) (k : Text) where
  abbrev pub now : Bool
  now = kicked_by (params (b ∷ c)) (time_of (b ∷ c)) (received (b ∷ c) k) (identity_row (b ∷ c) k) (membership_row (b ∷ c) k)

  abbrev by : Bool → Record → Bool
  by = kicked_record c b k

  lines_then_ends : (z : Bool) → fold by z (people_records c b)
      ≡ fold (noted_anew now (touches k)) (fold (noted_anew now (λ (line : CertLine). same_text k line.to)) (fold (noted_anew now (same_text k)) (fold (noted_anew now (λ (line : RevokedLine). same_text k line.key))
      (fold (noted_anew now (λ (line : MemberLine). same_text k line.key)) (fold (noted_anew now (λ (line : MemberLine). same_text k line.key)) z b.joiners) b.actives) b.revoked) b.excluded) b.certifications) (end_records c b)
  lines_then_ends z =
      sections by (map (λ line. Create line.key line.uid line.stamp) b.identities) (flat_map (λ line. Enter line.key ∷ Join line.key (membership_time c b line) ∷ []) b.joiners)
      (map (λ line. Active line.key (membership_time c b line)) b.actives) (map (λ line. Leave line.key (membership_time c b line)) b.leavers) (map (λ line. Revoke line.key) b.revoked) (map Exit b.excluded)
      (map (λ line. Cert line.from line.to (unwrap_or (certification_made c b line) 0)) b.certifications) (end_records c b) z
      ∙ (λ i. fold by (certified (excluded (revoked (left (active (joined (created z i) i) i) i) i) i) i) (end_records c b))
    where
      created : (z : Bool) → fold by z (map (λ line. Create line.key line.uid line.stamp) b.identities) ≡ z
      created z = fold-map by (λ line. Create line.key line.uid line.stamp) z b.identities ∙ fold_stays (λ z line. by z (Create line.key line.uid line.stamp)) z (λ line. refl) b.identities

      joined : (z : Bool) → fold by z (flat_map (λ line. Enter line.key ∷ Join line.key (membership_time c b line) ∷ []) b.joiners) ≡ fold (noted_anew now (λ (line : MemberLine). same_text k line.key)) z b.joiners
      joined z = fold_flat_map by (λ line. Enter line.key ∷ Join line.key (membership_time c b line) ∷ []) z b.joiners

      active : (z : Bool) → fold by z (map (λ line. Active line.key (membership_time c b line)) b.actives) ≡ fold (noted_anew now (λ (line : MemberLine). same_text k line.key)) z b.actives
      active z = fold-map by (λ line. Active line.key (membership_time c b line)) z b.actives

      left : (z : Bool) → fold by z (map (λ line. Leave line.key (membership_time c b line)) b.leavers) ≡ z
      left z = fold-map by (λ line. Leave line.key (membership_time c b line)) z b.leavers ∙ fold_stays (λ z line. by z (Leave line.key (membership_time c b line))) z (λ line. refl) b.leavers

      revoked : (z : Bool) → fold by z (map (λ line. Revoke line.key) b.revoked) ≡ fold (noted_anew now (λ (line : RevokedLine). same_text k line.key)) z b.revoked
      revoked z = fold-map by (λ line. Revoke line.key) z b.revoked

      excluded : (z : Bool) → fold by z (map Exit b.excluded) ≡ fold (noted_anew now (same_text k)) z b.excluded
      excluded z = fold-map by Exit z b.excluded

      certified : (z : Bool) → fold by z (map (λ line. Cert line.from line.to (unwrap_or (certification_made c b line) 0)) b.certifications) ≡ fold (noted_anew now (λ (line : CertLine). same_text k line.to)) z b.certifications
      certified z = fold-map by (λ line. Cert line.from line.to (unwrap_or (certification_made c b line) 0)) z b.certifications

  -- what is noted behind each section, and behind the ends
  pub all_renewed : (is : Bool) (joiners actives : List MemberLine) (revoked : List RevokedLine) (excluded : List Text) (certifications : List CertLine) (ended : List Record) (z z1 z2 z3 z4 z5 z6 : Bool)
      → IsSound (b ∷ c) → is ≡ now → joiners ≡ b.joiners → actives ≡ b.actives → revoked ≡ b.revoked → excluded ≡ b.excluded → certifications ≡ b.certifications → ended ≡ end_records c b → z ≡ is_to_be_excluded c k
      → z1 ≡ fold (noted_anew is (λ (line : MemberLine). same_text k line.key)) z joiners
      → z2 ≡ fold (noted_anew is (λ (line : MemberLine). same_text k line.key)) z1 actives
      → z3 ≡ fold (noted_anew is (λ (line : RevokedLine). same_text k line.key)) z2 revoked
      → z4 ≡ fold (noted_anew is (same_text k)) z3 excluded
      → z5 ≡ fold (noted_anew is (λ (line : CertLine). same_text k line.to)) z4 certifications
      → z6 ≡ fold (noted_anew is (touches k)) z5 ended
      → z6 ≡ is_to_be_excluded (b ∷ c) k
  all_renewed is joiners actives revoked excluded certifications ended z z1 z2 z3 z4 z5 z6 sound is_now j a r x n e was e1 e2 e3 e4 e5 e6 =
      e6
      ∙ ap (λ z. fold (noted_anew is (touches k)) z ended)
      (e5 ∙ ap (λ z. fold (noted_anew is (λ (line : CertLine). same_text k line.to)) z certifications)
      (e4 ∙ ap (λ z. fold (noted_anew is (same_text k)) z excluded)
      (e3 ∙ ap (λ z. fold (noted_anew is (λ (line : RevokedLine). same_text k line.key)) z revoked)
      (e2 ∙ ap (λ z. fold (noted_anew is (λ (line : MemberLine). same_text k line.key)) z actives) e1))))
      ∙ (λ i. fold (noted_anew (is_now i) (touches k)) (fold (noted_anew (is_now i) (λ (line : CertLine). same_text k line.to)) (fold (noted_anew (is_now i) (same_text k)) (fold (noted_anew (is_now i) (λ (line : RevokedLine). same_text k line.key))
      (fold (noted_anew (is_now i) (λ (line : MemberLine). same_text k line.key)) (fold (noted_anew (is_now i) (λ (line : MemberLine). same_text k line.key)) (was i) (j i)) (a i)) (r i)) (x i)) (n i)) (e i))
      ∙ sym (lines_then_ends (is_to_be_excluded c k))
      ∙ kicked_fold c b sound k
