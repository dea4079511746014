-- The order of what falls due, of entries and of places in the table: each is total, and only equals tie.
use Rattle.std.proofs.Common.{◌≡◌, ℕ, List, [], Option, Some, None, refl, ap, subst}
use Rattle.std.specs.Cmp.{IsTotalOrder}
use Rattle.std.specs.Cmp.Lexicographic.{options_total}
use Rattle.std.specs.FinMap.{IsAntisymmetric}
use Rattle.std.specs.Option.{option_cmp}
use Rattle.std.specs.Ordering.{nat_cmp, ordering_then}
use Rattle.std.specs.declared.cmp.Ordering.{Ordering}
use Rattle.std.specs.declared.cmp.Ordering.TheVariants.{Less, Equal, Greater}
use Rattle.std.proofs.lemmas.Cmp.{nat_cmp_total, nat_list_cmp_total, on_total, then_total}
use Rattle.std.proofs.lemmas.Map.Lookups.{exact_bytes, exact_pairs, exact_unsigned}
use Rattle.dubp_expiry.specs.DueOrder.{due_cmp, entry_cmp, key_cmp, derived_cmp}
use Rattle.dubp_expiry.specs.Entries.{place_cmp}
use Rattle.dubp_expiry.specs.declared.due.Due.{Due}
use Rattle.dubp_expiry.specs.declared.due.Due.TheVariants.{Membership, Revocation, Certification}

-- a due by its rank and two keys, of which the second is empty where there is one
abbrev Ranked : Type 0
Ranked = ℕ × (List ℕ × List ℕ)

abbrev ranked : Due → Ranked
ranked (Membership key) = (0, (key, []))
ranked (Revocation key) = (1, (key, []))
ranked (Certification from to) = (2, (from, to))

abbrev ranked_cmp : Ranked → Ranked → Ordering
ranked_cmp x y = ordering_then (nat_cmp x.0 y.0) (ordering_then (key_cmp x.1.0 y.1.0) (key_cmp x.1.1 y.1.1))

then_equal : (r : Ordering) → ordering_then r Equal ≡ r
then_equal Less = refl
then_equal Equal = refl
then_equal Greater = refl

due_ranked : (d e : Due) → ranked_cmp (ranked d) (ranked e) ≡ due_cmp d e
due_ranked (Membership k) (Membership l) = then_equal (key_cmp k l)
due_ranked (Membership k) (Revocation l) = refl
due_ranked (Membership k) (Certification x y) = refl
due_ranked (Revocation k) (Membership l) = refl
due_ranked (Revocation k) (Revocation l) = then_equal (key_cmp k l)
due_ranked (Revocation k) (Certification x y) = refl
due_ranked (Certification x y) (Membership l) = refl
due_ranked (Certification x y) (Revocation l) = refl
due_ranked (Certification x y) (Certification z w) = refl

ranked_total : IsTotalOrder ranked_cmp
ranked_total = then_total (on_total (λ (x : Ranked). x.0) nat_cmp_total) (then_total (on_total (λ (x : Ranked). x.1.0) nat_list_cmp_total) (on_total (λ (x : Ranked). x.1.1) nat_list_cmp_total))

pub due_total : IsTotalOrder due_cmp
due_total = subst (λ (R : Due → Due → Ordering). IsTotalOrder R) (λ i d e. due_ranked d e i) (on_total ranked ranked_total)

pub due_exact : IsAntisymmetric due_cmp
due_exact (Membership k) (Membership l) h = ap Membership (exact_bytes k l h)
due_exact (Membership k) (Revocation l) h = cc
due_exact (Membership k) (Certification x y) h = cc
due_exact (Revocation k) (Membership l) h = cc
due_exact (Revocation k) (Revocation l) h = ap Revocation (exact_bytes k l h)
due_exact (Revocation k) (Certification x y) h = cc
due_exact (Certification x y) (Membership l) h = cc
due_exact (Certification x y) (Revocation l) h = cc
due_exact (Certification x y) (Certification z w) h = ap (λ (p : List ℕ × List ℕ). Certification p.0 p.1) (exact_pairs key_cmp key_cmp exact_bytes exact_bytes (x, y) (z, w) h)

pub entry_total : IsTotalOrder entry_cmp
entry_total = then_total (on_total (λ (x : ℕ × Due). x.0) nat_cmp_total) (on_total (λ (x : ℕ × Due). x.1) due_total)

pub entry_exact : IsAntisymmetric entry_cmp
entry_exact = exact_pairs nat_cmp due_cmp exact_unsigned due_exact

option_exact : IsAntisymmetric (option_cmp due_cmp)
option_exact None None h = refl
option_exact None (Some e) h = cc
option_exact (Some d) None h = cc
option_exact (Some d) (Some e) h = ap Some (due_exact d e h)

pub place_total : IsTotalOrder (place_cmp due_cmp)
place_total = then_total (on_total (λ (x : ℕ × Option Due). x.0) nat_cmp_total) (on_total (λ (x : ℕ × Option Due). x.1) (options_total due_total))

pub place_exact : IsAntisymmetric (place_cmp due_cmp)
place_exact = exact_pairs nat_cmp (option_cmp due_cmp) exact_unsigned option_exact

-- the order that the code derives is the one of the definitions
pub derived_at : (d e : Due) → derived_cmp d e ≡ due_cmp d e
derived_at (Membership k) (Membership l) = refl
derived_at (Membership k) (Revocation l) = refl
derived_at (Membership k) (Certification x y) = refl
derived_at (Revocation k) (Membership l) = refl
derived_at (Revocation k) (Revocation l) = refl
derived_at (Revocation k) (Certification x y) = refl
derived_at (Certification x y) (Membership l) = refl
derived_at (Certification x y) (Revocation l) = refl
derived_at (Certification x y) (Certification z w) = refl

pub derived_is : derived_cmp ≡ due_cmp
derived_is = λ i d e. derived_at d e i
