-- The records of a block's lines are the same on a longer chain that the block is one of: what is in its window was made on a block
-- before it.
use Rattle.std.proofs.Common.{◌≡◌, ◌⊎◌, ◌+◌, ◌<◌, ◌≤◌, List, [], ◌∷◌, ◌++◌, map, length, unwrap_or, refl, sym, ap, ◌∙◌, append_assoc, subst, inl, inr, arith}
use Rattle.std.specs.List.{flat_map, AllByRecursion}
use Rattle.dubp_rules.specs.declared.rule.Rule.TheVariants.{G51, G64, L03}
use Rattle.dubp_block.specs.declared.block.Block.{Block}
use Rattle.dubp_block.specs.declared.block.MemberLine.{MemberLine}
use Rattle.dubp_block.specs.declared.block.CertLine.{CertLine}
use Rattle.dubp_chain.specs.Chains.{Chain, params}
use Rattle.dubp_chain.specs.Heads.{time_of}
use Rattle.dubp_chain.specs.Made.{made, certification_made}
use Rattle.dubp_validity.specs.PeopleRules.{IsInWindow}
use Rattle.dubp_validity.specs.Records.{membership_time, line_records}
use Rattle.dubp_validity.specs.declared.record.Record.TheVariants.{Create, Enter, Exit, Join, Active, Leave, Revoke, Cert}
use Rattle.dubp_validity.specs.Rules.{IsSound}
use Rattle.dubp_rows.proofs.Longer.{sound_below, made_before, certified_before}

module _ {X : Type 0} (P : X → Type 0) where
  all_front : (xs ys : List X) → AllByRecursion P (xs ++ ys) → AllByRecursion P xs
  all_front [] ys all = tt
  all_front (x ∷ xs) ys all = (all.0, all_front xs ys all.1)

  all_behind : (xs ys : List X) → AllByRecursion P (xs ++ ys) → AllByRecursion P ys
  all_behind [] ys all = all
  all_behind (x ∷ xs) ys all = all_behind xs ys all.1

module _ {X Y : Type 0} (P : X → Type 0) where
  map_alike : (f g : X → Y) → ((x : X) → P x → f x ≡ g x) → (xs : List X) → AllByRecursion P xs → map f xs ≡ map g xs
  map_alike f g same [] all = refl
  map_alike f g same (x ∷ xs) all = λ i. same x all.0 i ∷ map_alike f g same xs all.1 i

  flat_map_alike : (f g : X → List Y) → ((x : X) → P x → f x ≡ g x) → (xs : List X) → AllByRecursion P xs → flat_map f xs ≡ flat_map g xs
  flat_map_alike f g same [] all = refl
  flat_map_alike f g same (x ∷ xs) all = λ i. same x all.0 i ++ flat_map_alike f g same xs all.1 i

-- the block stands on a chain that has a block, and the longer chain ends with it or goes on from it
module _ (d : Chain) (b x : Block) (c : Chain) (sound : IsSound (d ++ b ∷ x ∷ c)) where
  abbrev InTime : MemberLine → Type 0
  InTime line = IsInWindow (time_of (b ∷ x ∷ c)) (params (b ∷ x ∷ c)).ms_window (made (x ∷ c) b line.stamp)

  abbrev IsEarlier : CertLine → Type 0
  IsEarlier line = (line.number < b.number) ⊎ ((line.number ≡ 0) × (b.number ≡ 0))

  kept : IsSound (b ∷ x ∷ c)
  kept = sound_below d (b ∷ x ∷ c) sound

  -- the same chain, as one that goes on from the one below the block
  whole : (d ++ b ∷ []) ++ x ∷ c ≡ d ++ b ∷ x ∷ c
  whole = append_assoc d (b ∷ []) (x ∷ c)

  sound_whole : IsSound ((d ++ b ∷ []) ++ x ∷ c)
  sound_whole = subst IsSound (sym whole) sound

  same_membership : (line : MemberLine) → InTime line → membership_time (d ++ b ∷ x ∷ c) b line ≡ membership_time (x ∷ c) b line
  same_membership line in_time =
      ap (λ l. unwrap_or (made l b line.stamp) 0) (sym whole)
      ∙ ap (λ at. unwrap_or at 0) (made_before (λ m. time_of (b ∷ x ∷ c) ≤ m + (params (b ∷ x ∷ c)).ms_window) (d ++ b ∷ []) x c b line.stamp sound_whole in_time)

  same_certification : (line : CertLine) → IsEarlier line → unwrap_or (certification_made (d ++ b ∷ x ∷ c) b line) 0 ≡ unwrap_or (certification_made (x ∷ c) b line) 0
  same_certification line earlier =
      ap (λ l. unwrap_or (certification_made l b line) 0) (sym whole) ∙ ap (λ at. unwrap_or at 0) (certified_before (d ++ b ∷ []) x c b line within sound_whole)
    where
      number : b.number ≡ length (x ∷ c)
      number = kept.0 G51 refl

      within : line.number < length (x ∷ c)
      within = elim earlier [ inl lt ↦ omega (arith, lt, number) | inr zero ↦ absurd (omega (arith, zero.1, number)) ]

  pub lines_alike : line_records (d ++ b ∷ x ∷ c) b ≡ line_records (x ∷ c) b
  lines_alike =
      let all = kept.0 G64 refl in
      let behind = all_behind InTime b.joiners (b.actives ++ b.leavers) all in
      let joined = flat_map_alike InTime (λ line. Enter line.key ∷ Join line.key (membership_time (d ++ b ∷ x ∷ c) b line) ∷ []) (λ line. Enter line.key ∷ Join line.key (membership_time (x ∷ c) b line) ∷ []) (λ line in_time. ap (λ m. Enter line.key ∷ Join line.key m ∷ []) (same_membership line in_time)) b.joiners (all_front InTime b.joiners (b.actives ++ b.leavers) all) in
      let renewed = map_alike InTime (λ line. Active line.key (membership_time (d ++ b ∷ x ∷ c) b line)) (λ line. Active line.key (membership_time (x ∷ c) b line)) (λ line in_time. ap (Active line.key) (same_membership line in_time)) b.actives (all_front InTime b.actives b.leavers behind) in
      let left = map_alike InTime (λ line. Leave line.key (membership_time (d ++ b ∷ x ∷ c) b line)) (λ line. Leave line.key (membership_time (x ∷ c) b line)) (λ line in_time. ap (Leave line.key) (same_membership line in_time)) b.leavers (all_behind InTime b.actives b.leavers behind) in
      let certified = map_alike IsEarlier (λ line. Cert line.from line.to (unwrap_or (certification_made (d ++ b ∷ x ∷ c) b line) 0)) (λ line. Cert line.from line.to (unwrap_or (certification_made (x ∷ c) b line) 0)) (λ line earlier. ap (Cert line.from line.to) (same_certification line earlier)) b.certifications (kept.0 L03 refl) in
      λ i. map (λ line. Create line.key line.uid line.stamp) b.identities ++ (joined i ++ (renewed i ++ (left i ++ (map (λ line. Revoke line.key) b.revoked ++ (map Exit b.excluded ++ certified i)))))

-- the first block stands on the empty chain
pub first_lines : (d c : Chain) (b : Block) → IsSound (d ++ b ∷ c) → b.number ≡ 0 → line_records [] b ≡ line_records c b
first_lines d [] b sound zero = refl
first_lines d (x ∷ c) b sound zero =
    let number : b.number ≡ length (x ∷ c) = (sound_below d (b ∷ x ∷ c) sound).0 G51 refl in
    absurd (omega (arith, number, zero))

pub later_lines : (d c : Chain) (b : Block) → IsSound (d ++ b ∷ c) → (b.number ≡ 0 → ⊥) → line_records (d ++ b ∷ c) b ≡ line_records c b
later_lines d [] b sound later = absurd (later ((sound_below d (b ∷ []) sound).0 G51 refl))
later_lines d (x ∷ c) b sound later = lines_alike d b x c sound
