-- How near a key is to the sentries, from what a walk over the members and a search find.
use Rattle.std.proofs.Common.{◌≡◌, ◌↔◌, ℕ, zero, suc, ◌+◌, ◌*◌, ◌^◌, ◌≤◌, Bool, true, false, cond, IsTrue, List, [], ◌∷◌, Option, None, Some, length, filter, refl, sym, ap, subst, ◌∙◌, true≢false, arith}
use Rattle.std.specs.Prelude.{⊤, IsSome, IsSomeAnd, find, is_some, nat_le, option_map, unwrap_or}
use Rattle.std.specs.List.{range_with_len}
use Rattle.std.specs.Option.{MatchOption, option_map_or}
use Rattle.std.proofs.Math.Nat.{pow-zero}
use Rattle.dubp_atoms.specs.Same.{Text}
use Rattle.dubp_atoms.specs.Walks.{IsCountOf, Reaches, d_sen_of, has_issued_and_received, others}
use Rattle.dubp_params.specs.Ranges.{IsInRange}
use Rattle.dubp_params.specs.declared.params.Params.{Params}
use Rattle.dubp_rules.specs.declared.rule.Rule.TheVariants.{X02}
use Rattle.dubp_block.specs.declared.block.IdentityLine.{IdentityLine}
use Rattle.dubp_chain.specs.Chains.{Chain, no_params, params}
use Rattle.dubp_chain.specs.Distance.{sentries}
use Rattle.dubp_chain.specs.Live.{live_pairs}
use Rattle.dubp_chain.specs.Members.{member, members}
use Rattle.dubp_chain.specs.People.{Written, identity}
use Rattle.dubp_chain.specs.Tables as chain
use Rattle.dubp_validity.specs.Rules.{IsSound}
use Rattle.dubp_people_views.specs.OfFacts.{first_at}
use Rattle.dubp_people_views.specs.OfFacts.{First}
use Rattle.dubp_iindex.specs.declared.row.IdentityRow.{IdentityRow}
use Rattle.dubp_people_views.specs.OfLeft.{identity_entry, identity_left}
use Rattle.dubp_people_views.proofs.Few.{members_are_few}
use Rattle.dubp_people_views.specs.Nearness.{IsDistanceOf, IsSearchable}
use Rattle.dubp_people_views.specs.declared.distances.DistanceView.{DistanceView}

-- ---- the steps and the members of a sound chain

steps_first : (n : Type 0) (o : Option Params) → MatchOption o ⊤ (λ p. IsInRange p × n) → (unwrap_or o no_params).step_max ≤ 16
steps_first n None h = omega arith
steps_first n (Some p) h = h.0.step_max.1

sound_steps : (c : Chain) → IsSound c → (params c).step_max ≤ 16
sound_steps [] sound = omega arith
sound_steps (b ∷ []) sound = steps_first _ b.params (sound.0 X02 refl)
sound_steps (b ∷ a ∷ c) sound = sound_steps (a ∷ c) sound.1

pub sound_searchable : (c : Chain) → IsSound c → IsSearchable c
sound_searchable c sound = record { few_steps = sound_steps c sound; few_members = members_are_few c sound }

-- ---- who has an identity, and the parameters

module _ (c : Chain) (k : Text) where
  abbrev row_in : Written IdentityLine → chain.IdentityRow
  row_in w = record { uid = w.line.uid; stamp = w.line.stamp; sig = w.line.sig; written = w.block.number; is_member = member c k }

  pub some_row : (row : IdentityRow) → Some row ≡ identity_left c k → IsSome (identity c k)
  some_row row e = elim (identity c k) as (λ o. Some row ≡ option_map identity_entry (option_map row_in o) → IsSome o) [
    | None ↦ λ from. absurd (true≢false (ap is_some from))
    | Some w ↦ λ _. refl
  ] e

pub first_params : (c : Chain) (first : First) → Some first ≡ first_at c tt → first.params ≡ params c
first_params [] first e = absurd (true≢false (ap is_some e))
first_params (b ∷ c) first e = ap (λ (o : Option First). option_map_or (λ (f : First). f.params) o no_params) e

-- ---- how many certifications a sentry has where no step is allowed

find_zero : (p : ℕ → Bool) (b : Bool) → ((d : ℕ) → p d ≡ b) → (n : ℕ) → unwrap_or (find p (range_with_len 0 n)) 0 ≡ 0
find_zero p b same zero = refl
find_zero p true same (suc n) = ap (λ (t : Bool). unwrap_or (cond t (Some 0) (find p (range_with_len (0 + 1) n))) 0) (same 0)
find_zero p false same (suc n) = ap (λ (o : Option ℕ). unwrap_or o 0) (none (range_with_len 0 (suc n)))
  where
    none : (xs : List ℕ) → find p xs ≡ None
    none [] = refl
    none (x ∷ xs) = ap (λ (t : Bool). cond t (Some x) (find p xs)) (same x) ∙ none xs

pub d_sen_of-none : (n : ℕ) → 0 ≡ d_sen_of n 0
d_sen_of-none n = sym (find_zero (λ d. nat_le n (d ^ 0)) (nat_le n 1) (λ d. ap (nat_le n) (pow-zero d)) (n + 1))

-- ---- what is found

module _ (c : Chain) (k : Text) where
  pub distance_told : (p : Params) (least count : ℕ) (keys : List Text) (d : DistanceView) → p ≡ params c → count ≡ length (members c) → least ≡ d_sen_of count p.step_max
      → keys ≡ filter (has_issued_and_received (live_pairs c) least) (members c) → IsCountOf (λ s. Reaches (members c) (live_pairs c) p.step_max s k) (others keys k) d.reached → d.sentries ≡ length (others keys k)
      → (IsTrue d.passes ↔ (p.xpercent.mantissa * d.sentries ≤ d.reached * 10 ^ p.xpercent.places)) → IsDistanceOf c k d
  distance_told p least count keys d is all least_is found counted others_are near =
      let at : least ≡ d_sen_of (length (members c)) (params c).step_max = least_is ∙ (λ i. d_sen_of (all i) (is i).step_max) in
      let among : keys ≡ sentries c = found ∙ ap (λ n. filter (has_issued_and_received (live_pairs c) n) (members c)) at in
      record {
        reached =
            subst (λ (q : Params). IsCountOf (λ s. Reaches (members c) (live_pairs c) q.step_max s k) (others (sentries c) k) d.reached) is
            (subst (λ ks. IsCountOf (λ s. Reaches (members c) (live_pairs c) p.step_max s k) (others ks k) d.reached) among counted);
        sentries = others_are ∙ ap (λ ks. length (others ks k)) among;
        passes = subst (λ (q : Params). IsTrue d.passes ↔ (q.xpercent.mantissa * d.sentries ≤ d.reached * 10 ^ q.xpercent.places)) is near;
      }

  -- a chain is never one with more steps or members than are searched
  pub distance_found : (found : Option DistanceView) → IsSome (identity c k) → IsSomeAnd found (IsDistanceOf c k) → MatchOption found (identity c k ≡ None) (λ d. IsSome (identity c k) × IsDistanceOf c k d)
  distance_found None there is = absurd is
  distance_found (Some d) there is = (there, is)
