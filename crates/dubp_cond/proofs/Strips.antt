-- What std's `strip_prefix` gives.
use Rattle.std.proofs.Common.{◌≡◌, ◌≢◌, ℕ, ◌+◌, true, false, List, ◌++◌, length, take, drop, Option, Some, None, MatchOption, option_map, nat_eq, Bor, refl}
use lib.Pointwise.{pointwise}
use Rattle.std.proofs.lemmas.Bool.Decides.{Decides-eqb}
use Rattle.std.proofs.lemmas.Slice.Eq.{strip_prefix_is}
use Rattle.dubp_cond.specs.Separated.{after}
use Rattle.dubp_cond.proofs.Readers.{after_found, after_again}

after_none : (p s : List ℕ) → ((rest : List ℕ) → s ≢ p ++ rest) → (o : Option (List ℕ)) → after p s ≡ o → after p s ≡ None
after_none p s h None e = e
after_none p s h (Some rest) e = absurd (h rest (after_found p s rest e))

after_is : (p s : List ℕ) (r : Option (Bor (List ℕ))) → MatchOption r ((rest : List ℕ) → s ≢ p ++ rest) (λ x. s ≡ p ++ x.now) → after p s ≡ option_map (λ x. x.now) r
after_is p s None h = after_none p s h (after p s) refl
after_is p s (Some x) h = rw h (after_again p x.now)

pub stripped : (s p : List ℕ) (r : Option (Bor (List ℕ))) → MatchOption r (pointwise nat_eq (take (length p) s) p ≡ false) (λ x. (pointwise nat_eq (take (length p) s) p ≡ true) × (x.now ≡ drop (length p) s) × (length x.now + length p ≡ length s)) →
    after p s ≡ option_map (λ x. x.now) r
stripped s p r h = after_is p s r (strip_prefix_is Decides-eqb s p r h)
