-- The names of sources are compared alike in the index and on a chain.
use Rattle.std.proofs.Common.{◌≡◌, Bool, not, ◌&&◌, List, [], ◌∷◌, refl, ap, ◌∙◌}
use Rattle.std.specs.List.{list_any}
use Rattle.dubp_cond.specs.declared.source.SourceId.{SourceId}
use Rattle.dubp_cond.specs.declared.source.SourceId.TheVariants.{D, T}
use Rattle.dubp_chain.specs.Words as chain
use Rattle.dubp_chain.specs.Money.{same_source}
use Rattle.dubp_sindex.specs.Rows as rows

pub same_name : (a b : SourceId) → rows.same_source a b ≡ same_source a b
same_name (D key block) (D key' block') = refl
same_name (T tx index) (T tx' index') = refl
same_name (D key block) (T tx index) = refl
same_name (T tx index) (D key block) = refl

pub same_names : rows.same_source ≡ same_source
same_names = λ i a b. same_name a b i

each_once-is : {X : Type 0} (same : X → X → Bool) (xs : List X) → rows.each_once same xs ≡ chain.each_once same xs
each_once-is same [] = refl
each_once-is same (x ∷ xs) = ap (λ r. not (list_any (same x) xs) && r) (each_once-is same xs)

pub each_once-same : (names : List SourceId) → rows.each_once rows.same_source names ≡ chain.each_once same_source names
each_once-same names = ap (λ same. rows.each_once same names) same_names ∙ each_once-is same_source names
