-- Clearing by balances: of what stands before it, the conditions that have too little lose all, and the others keep all.
use Rattle.std.proofs.Common.{◌≡◌, ℕ, Bool, true, false, cond, not, ◌&&◌, ◌||◌, List, [], ◌∷◌, ◌++◌, filter, sum_by, refl, ap, sym, ◌∙◌, subst, true≢false, inl, inr}
use Rattle.std.proofs.lemmas.List.Elements.{filter_agree}
use Rattle.std.proofs.lemmas.List.Folds.{list_any-append}
use Rattle.dubp_atoms.specs.Same.{Text, same_text}
use Rattle.dubp_cond.specs.Conditions.{cond_text}
use Rattle.dubp_block.specs.declared.block.Block.{Block}
use Rattle.dubp_chain.specs.Chains.{Chain}
use Rattle.dubp_chain.specs.Money.{Source, same_source, units_of, used, among, is_left, made_sources, cleared_by, cleared, unspent, sources_of}
use Rattle.dubp_laws.proofs.OfLists.{is_false, IsIn, in_any, any_in, in_filter, kept_in, filter_on, filter_twice}
use Rattle.dubp_laws.proofs.OfLists.{same_text_is}
use Rattle.dubp_laws.proofs.Sources.{same_source_is, same_source_own, SourcesApart, sources_tail, sources_head, sources-filter}
use Rattle.dubp_laws.proofs.Spending.{Pays}
use Rattle.dubp_money_steps.specs.Steps.{rest, limit_of, is_small, ClearsByBalance}

-- ---- of sources that stand once each, two of one name are one

one_of_name : (xs : List Source) → SourcesApart xs → (x y : Source) → IsIn x xs → IsIn y xs → same_source x.id y.id ≡ true → x ≡ y
one_of_name [] apart x y there there' same = absurd there
one_of_name (z ∷ zs) apart x y (inl e) (inl f) same = e ∙ sym f
one_of_name (z ∷ zs) apart x y (inl e) (inr there) same =
    absurd (true≢false (sym (in_any (λ other. same_source z.id other.id) zs y there (subst (λ (w : Source). same_source w.id y.id ≡ true) e same)) ∙ sources_head z zs apart))
one_of_name (z ∷ zs) apart x y (inr there) (inl f) same =
    let is : x.id ≡ y.id = same_source_is x.id y.id same in
    let own : same_source z.id x.id ≡ true = subst (λ id. same_source z.id id ≡ true) (sym is) (subst (λ (w : Source). same_source w.id y.id ≡ true) f (same_source_own y.id)) in
    absurd (true≢false (sym (in_any (λ other. same_source z.id other.id) zs x there own) ∙ sources_head z zs apart))
one_of_name (z ∷ zs) apart x y (inr there) (inr there') same = one_of_name zs (sources_tail z zs apart) x y there there' same

-- so what is among those that pass a test passes it
pub among_passed : (p : Source → Bool) (xs : List Source) → SourcesApart xs → (s : Source) → IsIn s xs → among (filter p xs) s ≡ p s
among_passed p xs apart s there =
    elim (p s) as (λ r. p s ≡ r → among (filter p xs) s ≡ r) [
      | true ↦ λ passes. in_any (λ other. same_source s.id other.id) (filter p xs) s (kept_in p xs s there passes) (same_source_own s.id)
      | false ↦ λ fails. is_false (among (filter p xs) s) (λ found.
          let h = any_in (λ other. same_source s.id other.id) (filter p xs) found in
          let k = in_filter p xs h.0 h.1 in
          true≢false (sym k.1 ∙ ap p (sym (one_of_name xs apart s h.0 there k.0 h.2)) ∙ fails))
    ] refl

-- ---- a test that says the same of all that another lets pass keeps all of them or none

pub filter_whole : {X : Type 0} (p q : X → Bool) (k : Bool) → ((x : X) → p x ≡ true → q x ≡ k) → (xs : List X) → filter p (filter q xs) ≡ cond k (filter p xs) []
filter_whole p q k same [] = none k
  where
    none : (k : Bool) → filter p (filter q []) ≡ cond k (filter p []) []
    none true = refl
    none false = refl
filter_whole p q k same (x ∷ xs) =
    elim (p x) as (λ r. p x ≡ r → filter p (cond (q x) (x ∷ filter q xs) (filter q xs)) ≡ cond k (cond r (x ∷ filter p xs) (filter p xs)) []) [
      | true ↦ λ passes. subst (λ s. filter p (cond s (x ∷ filter q xs) (filter q xs)) ≡ cond k (x ∷ filter p xs) []) (sym (same x passes)) (here k passes (filter_whole p q k same xs))
      | false ↦ λ fails. there (q x) fails (filter_whole p q k same xs)
    ] refl
  where
    here : (k : Bool) → p x ≡ true → filter p (filter q xs) ≡ cond k (filter p xs) [] → filter p (cond k (x ∷ filter q xs) (filter q xs)) ≡ cond k (x ∷ filter p xs) []
    here true passes later = rw passes (ap (λ l. x ∷ l) later)
    here false passes later = later

    there : (r : Bool) → p x ≡ false → filter p (filter q xs) ≡ cond k (filter p xs) [] → filter p (cond r (x ∷ filter q xs) (filter q xs)) ≡ cond k (filter p xs) []
    there true fails later = rw fails later
    there false fails later = later

-- ---- the rest without what b clears

pub split_gone : (u a s : Bool) → (not u && not (a || s)) ≡ ((not u && not a) && not s)
split_gone true a s = refl
split_gone false true s = refl
split_gone false false s = refl

unspent-step : (c : Chain) (b : Block) → unspent (b ∷ c) ≡ filter (λ s. not (among (cleared_by c b (cleared c)) s)) (rest c b)
unspent-step c b =
    let small = cleared_by c b (cleared c) in
    filter_agree (is_left (b ∷ c) (cleared c ++ small)) (λ s. is_left (b ∷ c) (cleared c) s && not (among small s))
    (λ s. ap (λ x. not (used (b ∷ c) s) && not x) (list_any-append (λ other. same_source s.id other.id) (cleared c) small)
    ∙ split_gone (used (b ∷ c) s) (among (cleared c) s) (among small s)) (made_sources (b ∷ c))
    ∙ sym (filter_twice (λ s. not (among small s)) (is_left (b ∷ c) (cleared c)) (made_sources (b ∷ c)))

module _ (c : Chain) (b : Block) (p : Pays c b) where
  limit : ℕ
  limit = limit_of (b ∷ c)

  small : Source → Bool
  small s = is_small (limit_of (b ∷ c)) (rest c b) (cond_text s.cond)

  left_is : unspent (b ∷ c) ≡ filter (λ s. not (is_small (limit_of (b ∷ c)) (rest c b) (cond_text s.cond))) (rest c b)
  left_is =
      unspent-step c b
      ∙ filter_on (λ s. not (among (cleared_by c b (cleared c)) s)) (λ s. not (is_small (limit_of (b ∷ c)) (rest c b) (cond_text s.cond))) (rest c b)
      (λ s there. ap not (among_passed (λ s. is_small (limit_of (b ∷ c)) (rest c b) (cond_text s.cond)) (rest c b) (sources-filter (is_left (b ∷ c) (cleared c)) (made_sources (b ∷ c)) p.once) s there))

  sources_kept : (text : Text) → sources_of (b ∷ c) text ≡ cond (not (is_small (limit_of (b ∷ c)) (rest c b) text)) (filter (λ s. same_text text (cond_text s.cond)) (rest c b)) []
  sources_kept text =
      ap (filter (λ s. same_text text (cond_text s.cond))) left_is
      ∙ filter_whole (λ s. same_text text (cond_text s.cond)) (λ s. not (is_small (limit_of (b ∷ c)) (rest c b) (cond_text s.cond))) (not (is_small (limit_of (b ∷ c)) (rest c b) text))
      (λ s same. ap (λ t. not (is_small (limit_of (b ∷ c)) (rest c b) t)) (sym (same_text_is text (cond_text s.cond) same))) (rest c b)

  pub clears_by_balance : ClearsByBalance c b
  clears_by_balance = record {
    cleared = refl;
    left = left_is;
    balances = λ text. ap (sum_by units_of) (sources_kept text) ∙ sum_all (is_small (limit_of (b ∷ c)) (rest c b) text) (filter (λ s. same_text text (cond_text s.cond)) (rest c b));
    sources = λ text. sources_kept text ∙ swap (is_small (limit_of (b ∷ c)) (rest c b) text) (filter (λ s. same_text text (cond_text s.cond)) (rest c b));
  }
    where
      sum_all : (r : Bool) (xs : List Source) → sum_by units_of (cond (not r) xs []) ≡ cond r 0 (sum_by units_of xs)
      sum_all true xs = refl
      sum_all false xs = refl

      swap : (r : Bool) (xs : List Source) → cond (not r) xs [] ≡ cond r [] xs
      swap true xs = refl
      swap false xs = refl
