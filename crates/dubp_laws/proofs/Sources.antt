-- When two sources are one, sources that stand once each, and what clearing some of them leaves.
use Rattle.std.proofs.Common.{◌≡◌, ◌+◌, Bool, true, false, not, ◌==◌, List, [], ◌∷◌, ◌++◌, filter, sum_by, refl, sym, true≢false}
use Rattle.std.proofs.lemmas.Bool.Decides.{Decides-eqb}
use Rattle.dubp_cond.specs.declared.source.SourceId.{SourceId}
use Rattle.dubp_cond.specs.declared.source.SourceId.TheVariants.{D, T}
use Rattle.dubp_atoms.specs.Same.{same_text}
use Rattle.dubp_chain.specs.Money.{Source, same_source, units_of, among}
use Rattle.dubp_lists.proofs.Elements.{and_left, and_right, IsIn, all_from_in, in_filter}
use Rattle.dubp_lists.proofs.Once.{Once, once_tail, once_head, once-filter, once-append, apart, sum_of_one}
use Rattle.dubp_lists.proofs.InOrder.{same_text_is, same_text_own}
use Rattle.dubp_lists.proofs.Sums.{sum_named, AreApart}

pub same_source_is : (a b : SourceId) → same_source a b ≡ true → a ≡ b
same_source_is (D k n) (D k' n') e =
    let p = same_text_is k k' (and_left (same_text k k') (n == n') e) in
    let q = (Decides-eqb n n').0 (and_right (same_text k k') (n == n') e) in
    λ i. D (p i) (q i)
same_source_is (T t n) (T t' n') e =
    let p = same_text_is t t' (and_left (same_text t t') (n == n') e) in
    let q = (Decides-eqb n n').0 (and_right (same_text t t') (n == n') e) in
    λ i. T (p i) (q i)
same_source_is (D k n) (T t m) e = absurd (true≢false (sym e))
same_source_is (T t m) (D k n) e = absurd (true≢false (sym e))

pub same_source_own : (a : SourceId) → same_source a a ≡ true
same_source_own (D k n) = rw (same_text_own k, (Decides-eqb n n).1 refl)
same_source_own (T t n) = rw (same_text_own t, (Decides-eqb n n).1 refl)

-- no source stands twice
abbrev pub SourcesApart : List Source → Type 0
SourcesApart sources = Once same_source same_source_is same_source_own (λ (s : Source). s.id) sources

pub sources_tail : (x : Source) (xs : List Source) → SourcesApart (x ∷ xs) → SourcesApart xs
sources_tail = once_tail same_source same_source_is same_source_own (λ (s : Source). s.id)

pub sources_head : (x : Source) (xs : List Source) → SourcesApart (x ∷ xs) → among xs x ≡ false
sources_head = once_head same_source same_source_is same_source_own (λ (s : Source). s.id)

pub sources-filter : (p : Source → Bool) (xs : List Source) → SourcesApart xs → SourcesApart (filter p xs)
sources-filter = once-filter same_source same_source_is same_source_own (λ (s : Source). s.id)

pub sources-append : (xs ys : List Source) → SourcesApart xs → SourcesApart ys
    → ((x y : Source) → IsIn x xs → IsIn y ys → same_source x.id y.id ≡ false) → SourcesApart (xs ++ ys)
sources-append = once-append same_source same_source_is same_source_own (λ (s : Source). s.id)

pub sum_of_source : (xs : List Source) (s : Source) → SourcesApart xs → IsIn s xs → sum_by units_of (filter (λ x. same_source x.id s.id) xs) ≡ units_of s
sum_of_source = sum_of_one same_source same_source_is same_source_own (λ (s : Source). s.id) units_of

-- of sources that stand once each, those that some of them leave and those are all
pub sum_small : (p : Source → Bool) (rest : List Source) → SourcesApart rest
    → sum_by units_of (filter (λ s. not (among (filter p rest) s)) rest) + sum_by units_of (filter p rest) ≡ sum_by units_of rest
sum_small p rest o =
    sum_named units_of (λ (i s : Source). same_source s.id i.id) units_of (filter p rest) rest
    (are_apart (filter p rest) (sources-filter p rest o))
    (all_from_in _ (filter p rest) (λ i there. sum_of_source rest i o (in_filter p rest i there).0))
  where
    are_apart : (xs : List Source) → SourcesApart xs → AreApart units_of (λ (i s : Source). same_source s.id i.id) units_of xs
    are_apart [] o = tt
    are_apart (x ∷ xs) o = (
      λ s same. apart same_source same_source_is same_source_own (λ (s : Source). s.id) (λ (s : Source). s.id) s x xs same (sources_head x xs o),
      are_apart xs (sources_tail x xs o),
    )
