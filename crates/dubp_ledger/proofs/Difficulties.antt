-- What the heads of a chain and its parameters say of the difficulty of a key.
use Rattle.std.proofs.Common.{◌≡◌, ◌<◌, List, [], ◌∷◌, length, Option, Some, None, false, refl, ap, subst, ◌∙◌, arith}
use Rattle.dubp_atoms.specs.Same.{Text}
use Rattle.dubp_params.specs.declared.params.Params.{Params}
use Rattle.dubp_params.specs.Ranges.{IsInRange}
use Rattle.dubp_chain.specs.declared.head.Head.{Head}
use Rattle.dubp_chain.specs.Chains.{Chain, params}
use Rattle.dubp_chain.specs.Heads.{difficulty, difficulty_of}
use Rattle.dubp_chain.specs.Members.{member}
use Rattle.dubp_people_and_money.specs.OfFacts.{First}
use Rattle.dubp_people_and_money.specs.OfFacts.{first_at}
use Rattle.dubp_head.specs.HeadsStates.{HeadsState, AreOver}
use Rattle.dubp_head.specs.Following.{AreHeads}
use Rattle.dubp_head.specs.NextHead.{difficulty_for}
use Rattle.dubp_people_and_money.specs.OfKept.{IsKnown}
use Rattle.dubp_people_and_money.proofs.OfKept.{length_heads}
use Rattle.dubp_people_and_money.specs.OfKept.{AreParamsOf}
use Rattle.dubp_rules.specs.declared.rule.Rule.{Rule}
use Rattle.dubp_rules.specs.declared.rule.Rule.TheVariants.{X01, P01}
use Rattle.dubp_rules.specs.First.{IsFirst}
use Rattle.dubp_rules.proofs.FirstLaws.{IsFirst_from_FirstOf, FirstOf_from_IsFirst, FirstOf_append_none}

-- what a difficulty over these heads asks for
pub record MayCount (heads : HeadsState) (p : Params) : Type 0 where
  pub valid : IsInRange p
  pub over : AreOver heads p
  pub follow : AreHeads p heads.list
  pub some : 0 < length heads.list

pub may_count : (c : Chain) (heads : HeadsState) (f : First) → IsKnown c heads → Some f ≡ first_at c tt → MayCount heads f.params
may_count [] heads f known is = absurd cc
may_count (b ∷ c) heads f known is =
    let same : params (b ∷ c) ≡ f.params = cc in
    record {
      valid = subst IsInRange same known.steered;
      over = subst (AreOver heads) same known.over;
      follow = subst (λ p. AreHeads p heads.list) same known.follow;
      some = omega (arith, ap length known.are, length_heads (b ∷ c));
    }

over_heads : (c : Chain) (hs : List Head) (k : Text) → 0 < length hs → Some (difficulty_for (params c) hs 0 k) ≡ difficulty_of c hs k
over_heads c [] k some = absurd (omega (arith, some))
over_heads c (h ∷ hs) k some = refl

pub difficulty_is : (c : Chain) (heads : HeadsState) (f : First) (k : Text) → IsKnown c heads → Some f ≡ first_at c tt → Some (difficulty_for f.params heads.list 0 k) ≡ difficulty c k
difficulty_is [] heads f k known is = absurd cc
difficulty_is (b ∷ c) heads f k known is =
    let same : f.params ≡ params (b ∷ c) = cc in
    let some : 0 < length heads.list = (may_count (b ∷ c) heads f known is).some in
    ap (λ p. Some (difficulty_for p heads.list 0 k)) same
    ∙ over_heads (b ∷ c) heads.list k some
    ∙ ap (λ hs. difficulty_of (b ∷ c) hs k) known.are

pub nobody : (c : Chain) (k : Text) → None ≡ first_at c tt → member c k ≡ false
nobody [] k is = refl
nobody (b ∷ c) k is = absurd cc

-- the parameters that the facts tell are those of the chain
pub params_here : (c : Chain) (heads : HeadsState) (f : First) → IsKnown c heads → Some f ≡ first_at c tt → AreParamsOf (Some f.params) c
params_here [] heads f known is = absurd cc
params_here (b ∷ c) heads f known is = let same : f.params ≡ params (b ∷ c) = cc in same

pub no_params_here : (c : Chain) → None ≡ first_at c tt → AreParamsOf None c
no_params_here [] is = refl
no_params_here (b ∷ c) is = absurd cc

-- the rules on raw bytes hold of a block
pub before_the_rest : (Hold : Rule → Type 0) (rules : List Rule) (found : Option Rule) → Hold X01 → Hold P01 → IsFirst Hold rules found → IsFirst Hold (X01 ∷ P01 ∷ rules) found
before_the_rest Hold rules found x p f =
    IsFirst_from_FirstOf Hold (X01 ∷ P01 ∷ rules) found (FirstOf_append_none Hold (X01 ∷ P01 ∷ []) rules found (x, (p, tt)) (FirstOf_from_IsFirst Hold rules found f))
