-- Whether a key is near enough, by the number reached, and the lines of Joiners and Actives; and that all are where there are no parameters.
use Rattle.std.proofs.Common.{◌≡◌, ◌↔◌, ℕ, ◌+◌, ◌*◌, ◌^◌, ◌<◌, ◌≤◌, inl, inr, Bool, true, false, ◌&&◌, IsTrue, List, [], ◌∷◌, ◌++◌, length, get_or, refl, sym, ap, subst, ◌∙◌, true≢false, arith}
use Rattle.std.specs.Prelude.{count_by}
use Rattle.std.specs.List.{AllByRecursion}
use Rattle.dubp_atoms.specs.Same.{Text, same_text}
use Rattle.dubp_atoms.specs.Walks.{IsCountOf, Reaches, others}
use Rattle.dubp_block.specs.declared.block.Block.{Block}
use Rattle.dubp_block.specs.declared.block.MemberLine.{MemberLine}
use Rattle.dubp_chain.specs.Chains.{Chain, params, no_params}
use Rattle.dubp_chain.specs.Distance.{IsNear, IsReached, Passes, sentries, sentry_count}
use Rattle.dubp_chain.specs.Live.{live_pairs}
use Rattle.dubp_chain.specs.Members.{member, members}
use Rattle.dubp_params.specs.declared.params.Params.{Params}
use Rattle.dubp_lists.proofs.Elements.{all_append, all_from_in, and_left, and_right}
use Rattle.dubp_lists.proofs.InOrder.{same_text_is, same_text_own}
use Rattle.dubp_left.specs.OfValidity.{ComersPass}
use Rattle.dubp_lists.proofs.Rests.{Rests, rests_all, rests_fails}
use Rattle.dubp_left.proofs.Webs.{listed_member, member_listed}
use Rattle.dubp_people_distance.specs.Stated.{AreStated, HaveSteps}
use Rattle.dubp_people_distance.specs.Webs.{HasPassed}

both : (s t : Bool) → s ≡ true → t ≡ true → (s && t) ≡ true
both s t h k = cc

-- ---- the number reached

-- two tests that both decide P count alike
same_count : {X : Type 0} (P : X → Type 0) (xs : List X) (n m : ℕ) → IsCountOf P xs n → IsCountOf P xs m → n ≡ m
same_count {X = X} P xs n m one other = one.2 ∙ counts xs ∙ sym other.2
  where
    agree : (x : X) → one.0 x ≡ other.0 x
    agree x = elim (one.0 x) as (λ t. one.0 x ≡ t → t ≡ other.0 x) [
      | true ↦ λ e. sym ((other.1 x).1 ((one.1 x).0 e))
      | false ↦ λ e. elim (other.0 x) as (λ t. other.0 x ≡ t → false ≡ t) [
        | true ↦ λ f. absurd (true≢false (sym ((one.1 x).1 ((other.1 x).0 f)) ∙ e))
        | false ↦ λ _. refl
      ] refl
    ] refl

    counts : (ys : List X) → count_by one.0 ys ≡ count_by other.0 ys
    counts ys = ap (λ (t : X → Bool). count_by t ys) (λ i. λ x. agree x i)

module _ (d : Chain) where
  -- what was found of a key says whether it passes
  pub passes_told : (line : MemberLine) (p : Params) (keys : List Text) (reached count : ℕ) (answer : Bool) → p ≡ params d → keys ≡ sentries d
      → IsCountOf (λ s. Reaches (members d) (live_pairs d) p.step_max s line.key) (others keys line.key) reached → count ≡ length (others keys line.key)
      → (IsTrue answer ↔ (p.xpercent.mantissa * count ≤ reached * 10 ^ p.xpercent.places)) → IsTrue answer ↔ HasPassed d line
  unfolding HasPassed
  passes_told line p keys reached count answer is among counted all says =
      let found : IsReached d line.key reached =
      subst (λ (q : Params). IsCountOf (λ s. Reaches (members d) (live_pairs d) q.step_max s line.key) (others (sentries d) line.key) reached) is
      (subst (λ ks. IsCountOf (λ s. Reaches (members d) (live_pairs d) p.step_max s line.key) (others ks line.key) reached) among counted) in
      let near : IsTrue answer ↔ IsNear d reached (sentry_count d line.key) =
      subst (λ n. IsTrue answer ↔ IsNear d reached n) (all ∙ ap (λ ks. length (others ks line.key)) among)
      (subst (λ (q : Params). IsTrue answer ↔ (q.xpercent.mantissa * count ≤ reached * 10 ^ q.xpercent.places)) is says) in (
        λ h. record { reached = reached; counted = found; near = near.0 h },
        λ passes. near.1 (subst (λ n. IsNear d n (sentry_count d line.key))
            (same_count (λ s. Reaches (members d) (live_pairs d) (params d).step_max s line.key) (others (sentries d) line.key) passes.reached reached passes.counted found) passes.near),
      )

-- ---- the lines

module _ {X : Type 0} (P : X → Type 0) (xs : List X) (i : ℕ) where
  pub fails_all : (x : X) (answer : Bool) → i < length xs → x ≡ get_or xs i x → (IsTrue answer ↔ P x) → answer ≡ false → Rests P xs i → IsTrue false ↔ AllByRecursion P xs
  fails_all x answer lt at says fails rests = (
    λ h. absurd (true≢false (sym h)),
    λ every. absurd (rests_fails P xs i x lt at (λ holds. true≢false (sym (says.1 holds) ∙ fails)) rests every),
  )

  pub passes_all : length xs ≤ i → Rests P xs i → IsTrue true ↔ AllByRecursion P xs
  passes_all end rests = (λ h. rests_all P xs i end rests, λ every. refl)

module _ (c : Chain) (b : Block) where
  pub all_told : (answer : Bool) → (IsTrue answer ↔ AllByRecursion (HasPassed (b ∷ c)) (b.joiners ++ b.actives)) → IsTrue answer ↔ ComersPass c b
  unfolding HasPassed
  all_told answer says = says

  module _ (P : MemberLine → Type 0) where
    all_front : (xs ys : List MemberLine) → AllByRecursion P (xs ++ ys) → AllByRecursion P xs
    all_front [] ys all = tt
    all_front (x ∷ xs) ys all = (all.0, all_front xs ys all.1)

    all_behind : (xs ys : List MemberLine) → AllByRecursion P (xs ++ ys) → AllByRecursion P ys
    all_behind [] ys all = all
    all_behind (x ∷ xs) ys all = all_behind xs ys all.1

  pub joiners_fail : (x : Bool) (lines : List MemberLine) → lines ≡ b.joiners → (IsTrue x ↔ AllByRecursion (HasPassed (b ∷ c)) lines) → x ≡ false → IsTrue false ↔ ComersPass c b
  joiners_fail x lines e says fails =
      all_told false (
        λ h. absurd (true≢false (sym h)),
        λ all. absurd (true≢false (sym (says.1 (subst (AllByRecursion (HasPassed (b ∷ c))) (sym e) (all_front (HasPassed (b ∷ c)) b.joiners b.actives all))) ∙ fails)),
      )

  pub actives_say : (x y : Bool) (xs ys : List MemberLine) → xs ≡ b.joiners → ys ≡ b.actives → (IsTrue x ↔ AllByRecursion (HasPassed (b ∷ c)) xs) → (IsTrue y ↔ AllByRecursion (HasPassed (b ∷ c)) ys)
      → x ≡ true → IsTrue y ↔ ComersPass c b
  actives_say x y xs ys d e first second passes =
      let P = HasPassed (b ∷ c) in
      all_told y (
        λ h. all_append P b.joiners b.actives (subst (AllByRecursion P) d (first.0 passes)) (subst (AllByRecursion P) e (second.0 h)),
        λ all. second.1 (subst (AllByRecursion P) (sym e) (all_behind P b.joiners b.actives all)),
      )

  -- where there is no line, all pass
  pub none_come : b.joiners ≡ [] → b.actives ≡ [] → IsTrue true ↔ ComersPass c b
  none_come d e =
      all_told true (λ _. subst (λ ls. AllByRecursion (HasPassed (b ∷ c)) (ls ++ b.actives)) (sym d) (subst (λ ls. AllByRecursion (HasPassed (b ∷ c)) ls) (sym e) tt), λ _. refl)

-- ---- no parameters: every key passes

module _ (d : Chain) (none : params d ≡ no_params) (k : Text) where
  abbrev test : Text → Bool
  test q = member d q && same_text k q

  -- in no step a member reaches itself alone
  itself : (q : Text) → IsTrue (test q) ↔ Reaches (members d) (live_pairs d) 0 q k
  itself q = (
    λ h. ([], omega arith, (member_listed d (members d) refl q (and_left (member d q) (same_text k q) h), sym (same_text_is k q (and_right (member d q) (same_text k q) h)))),
    back,
  )
    where
      back : Reaches (members d) (live_pairs d) 0 q k → IsTrue (test q)
      back ([], short, there) = both (member d q) (same_text k q) (listed_member d (members d) refl q there.0) (subst (λ z. same_text k z ≡ true) (sym there.1) (same_text_own k))
      back (a ∷ path, short, there) = absurd (omega (arith, short))

  reached_none : (xs : List Text) → IsCountOf (λ q. Reaches (members d) (live_pairs d) (params d).step_max q k) xs (count_by test xs)
  reached_none xs = subst (λ (p : Params). IsCountOf (λ q. Reaches (members d) (live_pairs d) p.step_max q k) xs (count_by test xs)) (sym none) (test, itself, refl)

  near_none : (n m : ℕ) → IsNear d n m
  near_none n m = subst (λ (p : Params). p.xpercent.mantissa * m ≤ n * 10 ^ p.xpercent.places) (sym none) (omega arith)

  passes_unasked : Passes d k
  passes_unasked = record {
    reached = count_by test (others (sentries d) k);
    counted = reached_none (others (sentries d) k);
    near = near_none (count_by test (others (sentries d) k)) (sentry_count d k);
  }

pub all_unasked : (c : Chain) (b : Block) → params (b ∷ c) ≡ no_params → IsTrue true ↔ ComersPass c b
all_unasked c b none = (λ _. all_from_in (λ (line : MemberLine). Passes (b ∷ c) line.key) (b.joiners ++ b.actives) (λ line _. passes_unasked (b ∷ c) none line.key), λ _. refl)

no_steps : (p : Params) → AreStated p → p.step_max ≡ 0 → p ≡ no_params
no_steps p (inl steps) none = let low = steps.0 in absurd (omega (arith, low, none))
no_steps p (inr e) none = e

pub unasked_told : (c : Chain) (b : Block) (p : Params) → AreStated p → p ≡ params (b ∷ c) → p.step_max ≡ 0 → IsTrue true ↔ ComersPass c b
unasked_told c b p stated value none = all_unasked c b (sym value ∙ no_steps p stated none)

pub have_steps : (p : Params) → AreStated p → (p.step_max ≡ 0 → ⊥) → HaveSteps p
have_steps p (inl steps) some = steps
have_steps p (inr e) some = absurd (some (ap (λ (q : Params). q.step_max) e))
