-- What is told of an identity is what the chain says.
use Rattle.std.proofs.Common.{◌≡◌, ℕ, ◌+◌, ◌<◌, ◌^◌, Bool, true, false, List, [], ◌∷◌, Option, None, Some, refl, sym, ap, ◌∙◌, true≢false, arith}
use Rattle.std.specs.Prelude.{option_map, unwrap_or, is_some, codes}
use Rattle.std.specs.Option.{option_map_or}
use Rattle.std.specs.Fmt.{decimal}
use Rattle.dubp_atoms.specs.Same.{Text, same_text}
use Rattle.dubp_block.specs.declared.block.IdentityLine.{IdentityLine}
use Rattle.dubp_block.specs.declared.block.MemberLine.{MemberLine}
use Rattle.dubp_chain.specs.Chains.{Chain}
use Rattle.dubp_chain.specs.Members.{member}
use Rattle.dubp_chain.specs.People.{Written, identity, membership, membership_made, expiry}
use Rattle.dubp_chain.specs.Live.{received, stock}
use Rattle.dubp_chain.specs.Tables as chain
use Rattle.dubp_chain.specs.Tables.{membership_row}
use Rattle.dubp_validity.specs.Rules.{IsSound}
use Rattle.dubp_replay.specs.Answers.{identity_values, standing}
use Rattle.dubp_lists.proofs.InOrder.{same_text_is}
use Rattle.dubp_people_views.proofs.OfSteps.{entry, some_membership}
use Rattle.dubp_people_views.specs.OfFacts.{first_at}
use Rattle.dubp_people_views.specs.OfFacts.{First}
use Rattle.dubp_iindex.specs.declared.row.IdentityRow.{IdentityRow}
use Rattle.dubp_people_views.specs.OfLeft.{identity_entry, identity_left, member_entry, membership_left}
use Rattle.dubp_people_views.proofs.OfLeft.{last_line-in}
use Rattle.dubp_people_views.specs.Views.{expiry_of, state_of, state_text}
use Rattle.dubp_people_views.specs.declared.identities.IdentityState.{IdentityState}
use Rattle.dubp_people_views.proofs.Small.{membership_small, params_short}

-- ---- the state

pub revoked_state : (r m l : Bool) → r ≡ true → codes "REVOKED" ≡ state_of r m l
revoked_state true m l e = refl
revoked_state false m l e = absurd (true≢false (sym e))

pub out_state : (r m l : Bool) → r ≡ false → m ≡ false → codes "OUT" ≡ state_of r m l
out_state true m l e f = absurd (true≢false e)
out_state false true l e f = absurd (true≢false f)
out_state false false l e f = refl

pub leaving_state : (r m l : Bool) → r ≡ false → m ≡ true → l ≡ true → codes "LEAVING" ≡ state_of r m l
leaving_state true m l e f g = absurd (true≢false e)
leaving_state false false l e f g = absurd (true≢false (sym f))
leaving_state false true false e f g = absurd (true≢false (sym g))
leaving_state false true true e f g = refl

pub member_state : (r m l : Bool) → r ≡ false → m ≡ true → l ≡ false → codes "MEMBER" ≡ state_of r m l
member_state true m l e f g = absurd (true≢false e)
member_state false false l e f g = absurd (true≢false (sym f))
member_state false true true e f g = absurd (true≢false g)
member_state false true false e f g = refl

-- ---- when the membership ends

ends : (first : First) (row_of : Written MemberLine → chain.MembershipRow) (w : Option (Written MemberLine)) (made : Option ℕ) → ((x : Written MemberLine) → (row_of x).made ≡ unwrap_or made 0)
    → is_some w ≡ is_some made → unwrap_or made 0 < 2 ^ 40 → first.params.ms_validity < 2 ^ 40
    → expiry_of (option_map member_entry (option_map row_of w)) (Some first) ≡ unwrap_or (option_map (λ at. at + first.params.ms_validity) made) 0
ends first row_of None None made_is same small short = refl
ends first row_of (Some x) None made_is same small short = absurd (true≢false same)
ends first row_of None (Some m) made_is same small short = absurd (true≢false (sym same))
ends first row_of (Some x) (Some m) made_is same small short = let e = made_is x in omega (arith, e, small, short)

some_map : {X Y : Type 0} (f : X → Y) (o : Option X) → is_some (option_map f o) ≡ is_some o
some_map f None = refl
some_map f (Some x) = refl

pub expiry_told : (c : Chain) → IsSound c → (k : Text) → expiry_of (membership_left c k) (first_at c tt) ≡ unwrap_or (expiry c k) 0
expiry_told [] sound k = refl
expiry_told (b ∷ d) sound k =
    let c : Chain = b ∷ d in
    ends _ _ (membership c k) (membership_made c k) (λ x. refl) (some_membership c sound k ∙ sym (some_map _ (entry c k))) (membership_small c sound k) (params_short c sound).memberships

-- ---- the whole

module _ (c : Chain) (k : Text) where
  abbrev row_in : Written IdentityLine → chain.IdentityRow
  row_in w = record { uid = w.line.uid; stamp = w.line.stamp; sig = w.line.sig; written = w.block.number; is_member = member c k }

  pub no_identity : None ≡ identity_left c k → None ≡ option_map (identity_values c) (identity c k)
  no_identity e = elim (identity c k) as (λ o. None ≡ option_map identity_entry (option_map row_in o) → None ≡ option_map (identity_values c) o) [
    | None ↦ λ _. refl
    | Some w ↦ λ from. absurd (true≢false (ap is_some (sym from)))
  ] e

  pub identity_told : (row : IdentityRow) (state : IdentityState) (expires gained given : ℕ) → Some row ≡ identity_left c k → state_text state ≡ standing c k → expires ≡ unwrap_or (expiry c k) 0 → gained ≡ received c k → given ≡ stock c k
      → Some (k ∷ row.uid ∷ decimal row.written ∷ state_text state ∷ decimal expires ∷ decimal gained ∷ decimal given ∷ []) ≡ option_map (identity_values c) (identity c k)
  identity_told row state expires gained given e state_is expires_is gained_is given_is =
      elim (identity c k) as (λ o. identity c k ≡ o → Some row ≡ option_map identity_entry (option_map row_in o)
      → Some (k ∷ row.uid ∷ decimal row.written ∷ state_text state ∷ decimal expires ∷ decimal gained ∷ decimal given ∷ []) ≡ option_map (identity_values c) o) [
        | None ↦ λ _ from. absurd (true≢false (ap is_some from))
        | Some w ↦ λ is from.
            let key : k ≡ w.line.key = same_text_is k w.line.key (last_line-in (λ b. b.identities) (λ line. same_text k line.key) c w is).1 in
            let uid : row.uid ≡ w.line.uid = ap (λ (o : Option IdentityRow). option_map_or (λ (r : IdentityRow). r.uid) o []) from in
            let written : row.written ≡ w.block.number = ap (λ (o : Option IdentityRow). option_map_or (λ (r : IdentityRow). r.written) o 0) from in
            let states = state_is ∙ ap (standing c) key in
            let ends_at = expires_is ∙ ap (λ q. unwrap_or (expiry c q) 0) key in
            let gains = gained_is ∙ ap (received c) key in
            let gives = given_is ∙ ap (stock c) key in
            λ i. Some (key i ∷ uid i ∷ decimal (written i) ∷ states i ∷ decimal (ends_at i) ∷ decimal (gains i) ∷ decimal (gives i) ∷ [])
      ] refl e
