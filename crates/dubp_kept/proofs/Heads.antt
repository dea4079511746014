-- What the rules up to those on the header say of the next block of a chain, and what its head keeps.
use Rattle.std.proofs.Common.{◌≡◌, ◌↔◌, inl, ℕ, ◌≤◌, ◌<◌, ◌^◌, List, [], ◌∷◌, length, Option, Some, None, refl, ap, sym, ◌∙◌, subst, arith, unwrap_or}
use Rattle.std.specs.List.{AllByRecursion}
use Rattle.std.specs.Option.{MatchOption}
use Rattle.dubp_params.specs.declared.params.Params.{Params}
use Rattle.dubp_params.specs.Ranges.{IsInRange}
use Rattle.dubp_block.specs.declared.block.Block.{Block}
use Rattle.dubp_block.specs.Text.{IsBlock, IsFirstParams, block_text}
use Rattle.dubp_block.proofs.Sizes.{size_is_within}
use Rattle.dubp_rules.specs.declared.rule.Rule.{Rule}
use Rattle.dubp_rules.specs.declared.rule.Rule.TheVariants.{G51, G62}
use Rattle.dubp_rules.specs.First.{IsFirst}
use Rattle.dubp_verdict.specs.Verdicts.{Verdicts}
use Rattle.dubp_chain.specs.declared.head.Head.{Head}
use Rattle.dubp_chain.specs.Chains.{Chain, params, no_params}
use Rattle.dubp_chain.specs.Heads.{heads_of, next_head}
use Rattle.dubp_validity.specs.LocalRules.{NumbersAreSmall, ParamsAreInRange}
use Rattle.dubp_validity.specs.Rules.{Holds, longest_block}
use Rattle.dubp_kept.specs.OfLocal.{AreParamsOf, Asked, local_rules}
use Rattle.dubp_kept.specs.OfLocal.{Signed, Unsigned}
use Rattle.dubp_head.specs.HeadsStates.{HeadsState, AreOver}
use Rattle.dubp_head.specs.Following.{LimitHolds, limit_rules, KeepsLimits, BeginsLow, MayFollow, AreHeads}
use Rattle.dubp_head.specs.NextHead.{HeaderHolds, header_rules, stated_rules}
use Rattle.dubp_head.specs.Laws.{HeaderOn, LimitOn, head_with, members_with}
use Rattle.dubp_head.proofs.SameRules.{is_first_same, limits_are_rules, header_is_rules}
use Rattle.dubp_kept.specs.KeptChain.{IsKnown, IsSteered, stated_params}
use Rattle.dubp_kept.specs.Parts.{opening_rules, early_rules}
use Rattle.dubp_kept.specs.Asking.{Asks, asked_header}
use Rattle.dubp_kept.specs.Judged.{HeadFits, IsToJudge}
use Rattle.dubp_kept.proofs.Orders.{all_front, all_behind}
use Rattle.dubp_kept.proofs.Asking.{header_asked}
use Rattle.dubp_kept.proofs.Early.{early_hold}
use Rattle.dubp_kept.proofs.Chains.{length_heads}

-- what the rules up to G51 say of the block
module _ (asked : Asked) (v : Verdicts) (c : Chain) (b : Block) (all : AllByRecursion (Asks asked v c b) opening_rules) where
  in_range : ParamsAreInRange b
  in_range = all.1.1.0

  small : NumbersAreSmall b
  small = all.1.1.1.0

  number : b.number ≡ length c
  number = (all_behind (Asks asked v c b) local_rules (G51 ∷ []) all.1.1).0

first_params : (b : Block) → IsBlock b → b.number ≡ 0 → (p : Params) × (b.params ≡ Some p)
first_params b text zero = by b.params refl text.params
  where
    by : (o : Option Params) → b.params ≡ o → IsFirstParams b.number o → (p : Params) × (b.params ≡ Some p)
    by (Some p) e h = (p, e)
    by None e h = absurd (h zero)

-- those of the chain with the block are there, and are in range
stated_with : (asked : Asked) (v : Verdicts) (c : Chain) (b : Block) → IsBlock b → AllByRecursion (Asks asked v c b) opening_rules → IsSteered c → AreParamsOf (stated_params c) c → AreParamsOf (stated_params (b ∷ c)) (b ∷ c) × IsInRange (params (b ∷ c))
stated_with asked v [] b text all steered is =
    let first = first_params b text (number asked v [] b all) in
    let range : MatchOption (Some first.0) Unit (λ p. IsInRange p × (b.pow_min ≤ 1023)) = subst (λ o. MatchOption o Unit (λ p. IsInRange p × (b.pow_min ≤ 1023))) first.1 (in_range asked v [] b all) in
    let as_params : Some first.0 ≡ b.params = sym first.1 in
    (subst (λ o. AreParamsOf o (b ∷ [])) as_params (ap (λ o. unwrap_or o no_params) as_params), subst IsInRange (ap (λ o. unwrap_or o no_params) as_params) range.0)
stated_with asked v (a ∷ c) b text all steered is = (with_more (stated_params (a ∷ c)) is, steered)
  where
    with_more : (o : Option Params) → AreParamsOf o (a ∷ c) → AreParamsOf o (b ∷ a ∷ c)
    with_more None none = absurd cc
    with_more (Some p) is = is

begins_low : (asked : Asked) (v : Verdicts) (c : Chain) (b : Block) → IsBlock b → AllByRecursion (Asks asked v c b) opening_rules → BeginsLow (heads_of c) b
begins_low asked v [] b text all =
    let first = first_params b text (number asked v [] b all) in
    let range : MatchOption (Some first.0) Unit (λ p. IsInRange p × (b.pow_min ≤ 1023)) = subst (λ o. MatchOption o Unit (λ p. IsInRange p × (b.pow_min ≤ 1023))) first.1 (in_range asked v [] b all) in
    range.1
begins_low asked v (a ∷ c) b text all = tt

may_follow : (asked : Asked) (v : Verdicts) (c : Chain) (b : Block) (n : ℕ) → IsBlock b → length (block_text b) ≤ longest_block → n < 2 ^ 21 → AllByRecursion (Asks asked v c b) opening_rules → MayFollow n (heads_of c) b
may_follow asked v c b n text short few all = record {
  text = text;
  size = omega (arith, size_is_within b, short);
  number = number asked v c b all ∙ sym (length_heads c);
  small = small asked v c b all;
  low = begins_low asked v c b text all;
  few = few;
}

-- heads are over the same parameters with one block more
heads_with : (c : Chain) (b : Block) (hs : List Head) → hs ≡ heads_of c → AreHeads (params c) hs → AreHeads (params (b ∷ c)) hs
heads_with [] b [] e are = tt
heads_with [] b (h ∷ hs) e are = absurd cc
heads_with (a ∷ c) b hs e are = are

over_by : (c : Chain) (b : Block) (heads : HeadsState) → IsKnown c heads → AreOver heads (params (b ∷ c))
over_by [] b heads known = inl known.are
over_by (a ∷ c) b heads known = known.over

-- the parameters that are stated are those of the chain with the block
params_are : (c : Chain) (b : Block) (p : Params) → AreParamsOf (stated_params (b ∷ c)) (b ∷ c) → Some p ≡ stated_params (b ∷ c) → p ≡ params (b ∷ c)
params_are c b p are is = subst (λ o. AreParamsOf o (b ∷ c)) (sym is) are

-- what is said of the head is what the rules that are asked say
asked_header_is : (asked : Asked) (v : Verdicts) (c : Chain) (b : Block) → AllByRecursion (λ r. HeaderOn c b r ↔ Holds v c b r) (asked_header asked)
asked_header_is Signed v c b = header_is_rules v c b
asked_header_is Unsigned v c b = all_front (λ r. HeaderOn c b r ↔ Holds v c b r) stated_rules (G62 ∷ []) (header_is_rules v c b)

-- what the calls on heads ask of the heads and of the block, and what they say, as rules of the table
module _ (asked : Asked) (v : Verdicts) (c : Chain) (b : Block) (heads : HeadsState) (p : Params) (known : IsKnown c heads) (text : IsBlock b) (all : AllByRecursion (Asks asked v c b) opening_rules) (is : Some p ≡ stated_params (b ∷ c)) where
  stated_now : AreParamsOf (stated_params (b ∷ c)) (b ∷ c) × IsInRange (params (b ∷ c))
  stated_now = stated_with asked v c b text all known.steered known.stated

  pub same_params : p ≡ params (b ∷ c)
  same_params = params_are c b p stated_now.0 is

  pub range_with : IsInRange p
  range_with = subst IsInRange (sym same_params) stated_now.1

  pub over_with : AreOver heads p
  over_with = subst (AreOver heads) (sym same_params) (over_by c b heads known)

  pub are_heads_with : AreHeads p heads.list
  are_heads_with = subst (λ q. AreHeads q heads.list) (sym same_params) (heads_with c b heads.list known.are known.follow)

  pub may_follow_with : (n : ℕ) → length (block_text b) ≤ longest_block → n < 2 ^ 21 → MayFollow n heads.list b
  may_follow_with n short few = subst (λ hs. MayFollow n hs b) (sym known.are) (may_follow asked v c b n text short few all)

  module _ (n : ℕ) (count : n ≡ members_with c b) where
    on_chain : (P : Params → ℕ → List Head → Type 0) → P p n heads.list → P (params (b ∷ c)) (members_with c b) (heads_of c)
    on_chain P x =
        subst (λ m. P (params (b ∷ c)) m (heads_of c)) count
        (subst (λ q. P q n (heads_of c)) same_params (subst (P p n) known.are x))

    pub limit_found : (rule : Rule) → IsFirst (LimitHolds p n heads.list b) limit_rules (Some rule) → IsFirst (Holds v c b) limit_rules (Some rule)
    limit_found rule f =
        (is_first_same (LimitOn c b) (Holds v c b) limit_rules (Some rule) (limits_are_rules v c b)).0
        (on_chain (λ q m hs. IsFirst (LimitHolds q m hs b) limit_rules (Some rule)) f)

    pub limits_hold : KeepsLimits p n heads.list b → IsFirst (Holds v c b) limit_rules None
    limits_hold k =
        let kept_here = on_chain (λ q m hs. KeepsLimits q m hs b) k in
        (kept_here.x03, (kept_here.x04, (kept_here.x08, tt)))

    head_here : (h : Head) → h ≡ next_head p n heads.list b → h ≡ head_with c b
    head_here h e = on_chain (λ q m hs. h ≡ next_head q m hs b) e

    pub header_found : (h : Head) (answer : Option Rule) → h ≡ next_head p n heads.list b → IsFirst (HeaderHolds p heads.list h b) (asked_header asked) answer → IsFirst (Asks asked v c b) header_rules answer
    header_found h answer e f =
        header_asked v c b asked answer
        ((is_first_same (HeaderOn c b) (Holds v c b) (asked_header asked) answer (asked_header_is asked v c b)).0
        (subst (λ x. IsFirst (HeaderHolds (params (b ∷ c)) (heads_of c) x b) (asked_header asked) answer) (head_here h e)
        (on_chain (λ q m hs. IsFirst (HeaderHolds q hs h b) (asked_header asked) answer) f)))

    -- the head that was made, and what it keeps
    pub head_fits : (h : Head) → h ≡ next_head p n heads.list b → MayFollow n heads.list b → KeepsLimits p n heads.list b → HeadFits c b h
    head_fits h e may within = record {
      follows = record {
        block = b;
        count = members_with c b;
        may = on_chain (λ q m hs. MayFollow m hs b) may;
        limits = on_chain (λ q m hs. KeepsLimits q m hs b) within;
        is = head_here h e;
      };
      steered = stated_now.1;
      stated = stated_now.0;
    }

    pub to_judge : (h : Head) → h ≡ next_head p n heads.list b → IsFirst (Asks asked v c b) early_rules None → IsToJudge c b h p
    to_judge h e early = record {
      sound = known.sound;
      blocks = known.blocks;
      block = text;
      head = sym (ap Some (head_here h e));
      same = same_params;
      before = early_hold asked v c b early;
    }

pub members_by : (p : Params) (n : ℕ) (hs : List Head) (b : Block) (h : Head) → h ≡ next_head p n hs b → h.members ≡ n
members_by p n [] b h is = ap (λ x. x.members) is
members_by p n (g ∷ hs) b h is = ap (λ x. x.members) is
