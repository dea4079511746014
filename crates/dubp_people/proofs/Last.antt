-- The newest head of a chain is that of its last number.
use Rattle.std.proofs.Common.{◌≡◌, ℕ, suc, ◌+◌, List, [], ◌∷◌, length, Option, Some, None, refl, sym, ap, ◌∙◌, arith}
use Rattle.std.specs.Prelude.{option_map}
use Rattle.std.proofs.lemmas.Bool.{eq-eqb}
use Rattle.dubp_rules.specs.declared.rule.Rule.TheVariants.{G51}
use Rattle.dubp_chain.specs.declared.head.Head.{Head}
use Rattle.dubp_chain.specs.Chains.{Chain, params}
use Rattle.dubp_chain.specs.Members.{members}
use Rattle.dubp_chain.specs.Heads.{heads_of, head_of, next_head}
use Rattle.dubp_validity.specs.Rules.{IsSound}
use Rattle.dubp_registry.proofs.OfFacts.{next-number}
use Rattle.dubp_registry.specs.OfLeft.{time_numbered}

pub last-time : (c : Chain) → IsSound c → (n : ℕ) → n + 1 ≡ length c → time_numbered c n ≡ option_map (λ h. h.median_time) (head_of c)
last-time [] sound n e = absurd (omega (arith, e))
last-time (a ∷ c) sound n e =
    let number : a.number ≡ length c = sound.0 G51 refl in
    let head : Head = next_head (params (a ∷ c)) (length (members (a ∷ c))) (heads_of c) a in
    let own : head.number ≡ a.number = next-number (params (a ∷ c)) (length (members (a ∷ c))) (heads_of c) a in
    rw (eq-eqb head.number n (omega (arith, own, number, e))) refl

pub no-time : (c : Chain) → length c ≡ 0 → None ≡ option_map (λ (h : Head). h.median_time) (head_of c)
no-time [] e = refl
no-time (a ∷ c) e = absurd (omega (arith, e))
