-- On a sound chain times are below 2^40, so that what ends does so below 2^64.
use Rattle.std.proofs.Common.{◌≡◌, ℕ, ◌<◌, ◌^◌, Bool, true, false, cond, ◌&&◌, ◌==◌, List, [], ◌∷◌, ◌++◌, Option, Some, None, option_map, unwrap_or, refl, subst, arith}
use Rattle.std.specs.Prelude.{⊤, IfSome, find}
use Rattle.std.specs.Option.{option_or, MatchOption}
use Rattle.dubp_atoms.specs.Same.{Text, same_text, same_stamp, empty_stamp}
use Rattle.dubp_atoms.specs.declared.stamp.Stamp.{Stamp}
use Rattle.dubp_params.specs.declared.params.Params.{Params}
use Rattle.dubp_params.specs.Ranges.{IsInRange}
use Rattle.dubp_rules.specs.declared.rule.Rule.TheVariants.{X02, X07, G57}
use Rattle.dubp_block.specs.declared.block.Block.{Block}
use Rattle.dubp_block.specs.declared.block.CertLine.{CertLine}
use Rattle.dubp_chain.specs.declared.head.Head.{Head}
use Rattle.dubp_chain.specs.HeadStamp.{head_stamp}
use Rattle.dubp_chain.specs.Words.{last_of}
use Rattle.dubp_chain.specs.Chains.{Chain, params, no_params}
use Rattle.dubp_chain.specs.Members.{is_of}
use Rattle.dubp_chain.specs.Heads.{heads_of, time_of}
use Rattle.dubp_chain.specs.Made.{made, certification_made}
use Rattle.dubp_chain.specs.People.{Written, written_in, last_line, membership_made}
use Rattle.dubp_chain.specs.Live.{certification, made_of}
use Rattle.dubp_validity.specs.Rules.{IsSound}

-- ---- times of blocks

abbrev AreSmall : List Head → Type 0
AreSmall [] = ⊤
AreSmall (h ∷ hs) = (h.median_time < 2 ^ 40) × AreSmall hs

heads_small : (c : Chain) → IsSound c → AreSmall (heads_of c)
heads_small [] s = tt
heads_small (b ∷ c) s = (let same : b.median_time ≡ time_of (b ∷ c) = s.0 G57 refl in let small = (s.0 X07 refl).median_time in omega (arith, same, small), heads_small c s.1)

found_small : (p : Head → Bool) (hs : List Head) → AreSmall hs → unwrap_or (option_map (λ h. h.median_time) (find p hs)) 0 < 2 ^ 40
found_small p [] small = omega arith
found_small p (h ∷ hs) small =
    elim (p h) as (λ r. unwrap_or (option_map (λ h. h.median_time) (cond r (Some h) (find p hs))) 0 < 2 ^ 40) [ true ↦ small.0 | false ↦ found_small p hs small.1 ]

made_small : (c : Chain) (b : Block) → IsSound (b ∷ c) → (stamp : Stamp) → unwrap_or (made c b stamp) 0 < 2 ^ 40
made_small [] b s stamp =
    elim (same_stamp empty_stamp stamp) as (λ r. unwrap_or (cond r (Some b.median_time) None) 0 < 2 ^ 40) [ true ↦ (s.0 X07 refl).median_time | false ↦ omega arith ]
made_small (a ∷ c) b s stamp = found_small (λ h. same_stamp stamp (head_stamp h)) (heads_of (a ∷ c)) (heads_small (a ∷ c) s.1)

certified_small : (c : Chain) (b : Block) → IsSound (b ∷ c) → (line : CertLine) → unwrap_or (certification_made c b line) 0 < 2 ^ 40
certified_small [] b s line = (s.0 X07 refl).median_time
certified_small (a ∷ c) b s line = found_small (λ h. h.number == line.number) (heads_of (a ∷ c)) (heads_small (a ∷ c) s.1)

-- ---- how long memberships and certifications last

pub record AreShort (p : Params) : Type 0 where
  pub memberships : p.ms_validity < 2 ^ 40
  pub certifications : p.sig_validity < 2 ^ 40

short_first : (n : Type 0) (o : Option Params) → MatchOption o ⊤ (λ p. IsInRange p × n) → AreShort (unwrap_or o no_params)
short_first n None h = record { memberships = omega arith; certifications = omega arith }
short_first n (Some p) h = record { memberships = h.0.ms_validity.1; certifications = h.0.sig_validity.1 }

pub params_short : (c : Chain) → IsSound c → AreShort (params c)
params_short [] s = record { memberships = omega arith; certifications = omega arith }
params_short (b ∷ []) s = short_first _ b.params (s.0 X02 refl)
params_short (b ∷ a ∷ c) s = params_short (a ∷ c) s.1

-- ---- what was made last

module _ {Line : Type 0} (lines : Block → List Line) (test : Line → Bool) (value : Written Line → ℕ) (each : (c : Chain) (b : Block) → IsSound (b ∷ c) → (line : Line) → value (written_in b c line) < 2 ^ 40) where
  last_small : (c : Chain) → IsSound c → IfSome (last_line lines test c) (λ w. value w < 2 ^ 40)
  last_small [] s = tt
  last_small (b ∷ c) s =
      elim (last_of test (lines b)) as (λ o. IfSome (option_or (option_map (written_in b c) o) (last_line lines test c)) (λ w. value w < 2 ^ 40)) [
        | None ↦ last_small c s.1
        | Some line ↦ each c b s line
      ]

small_value : {X : Type 0} (value : X → ℕ) (o : Option X) → IfSome o (λ w. value w < 2 ^ 40) → unwrap_or (option_map value o) 0 < 2 ^ 40
small_value value None h = omega arith
small_value value (Some w) h = h

pub membership_small : (c : Chain) → IsSound c → (k : Text) → unwrap_or (membership_made c k) 0 < 2 ^ 40
membership_small c s k =
    small_value _ _ (last_small (λ d. d.joiners ++ d.actives) (is_of k) (λ v. unwrap_or (made v.before v.block v.line.stamp) 0) (λ d a sound line. made_small d a sound line.stamp) c s)

some_value : {X : Type 0} (value : X → ℕ) (o : Option X) (w : X) → o ≡ Some w → IfSome o (λ w. value w < 2 ^ 40) → value w < 2 ^ 40
some_value value o w is h = subst (λ o. IfSome o (λ w. value w < 2 ^ 40)) is h

pub certification_small : (c : Chain) → IsSound c → (x y : Text) (w : Written CertLine) → certification c x y ≡ Some w → made_of w < 2 ^ 40
certification_small c s x y w is =
    some_value made_of (certification c x y) w is
    (last_small (λ d. d.certifications) (λ line. same_text x line.from && same_text y line.to) made_of (λ d a sound line. certified_small d a sound line) c s)
