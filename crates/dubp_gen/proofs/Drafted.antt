-- What is drafted behind a chain that has blocks.
use Rattle.std.proofs.Common.{◌≡◌, ℕ, [], ◌∷◌, length, Option, Some, ap, ◌∙◌}
use Rattle.std.specs.Prelude.{option_map, slice_get}
use Rattle.dubp_atoms.specs.declared.stamp.Stamp.{Stamp}
use Rattle.dubp_cond.specs.declared.source.Input.{Input}
use Rattle.dubp_block.specs.Text.{stamp_of}
use Rattle.dubp_chain.specs.Chains.{Chain}
use Rattle.dubp_drafts.specs.Drafting.{draft_of, given_of, payer}
use Rattle.dubp_gen.specs.Generated.{first_source, next_draft, next_given, number_at}

same_of_four : {A B C D E : Type 0} (f : A → B → C → D → E) {a p : A} {b q : B} {c r : C} {d s : D} → a ≡ p → b ≡ q → c ≡ r → d ≡ s → f a b c d ≡ f p q r s
same_of_four f {a} {p} {b} {q} {c} {r} {d} {s} i j k l =
    ap (λ x. f x b c d) i ∙ ap (λ x. f p x c d) j ∙ ap (λ x. f p q x d) k ∙ ap (λ x. f p q r x) l

stamp_is : {A : Type 0} (x y : A) → Some x ≡ Some y → x ≡ y
stamp_is x y e = cc

pub drafted : (start : ℕ) (c : Chain) (n x : ℕ) (s : Stamp) (source : Option Input) → Some s ≡ option_map stamp_of (slice_get c 0) → n ≡ length c → x ≡ number_at start (length c)
    → source ≡ first_source c (payer x) → draft_of n x s source ≡ next_draft start c
drafted start [] n x s source last is number from = absurd cc
drafted start (a ∷ c) n x s source last is number from =
    same_of_four draft_of is number (stamp_is s (stamp_of a) last) (from ∙ ap (λ y. first_source (a ∷ c) (payer y)) number)

pub drafted_given : (start : ℕ) (c : Chain) (n x : ℕ) (s : Stamp) (source : Option Input) → Some s ≡ option_map stamp_of (slice_get c 0) → n ≡ length c → x ≡ number_at start (length c)
    → source ≡ first_source c (payer x) → given_of n x s source ≡ next_given start c
drafted_given start [] n x s source last is number from = absurd cc
drafted_given start (a ∷ c) n x s source last is number from =
    same_of_four given_of is number (stamp_is s (stamp_of a) last) (from ∙ ap (λ y. first_source (a ∷ c) (payer y)) number)
