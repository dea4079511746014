-- Transactions that are taken together are those that a pass takes one after another.
use Rattle.std.proofs.Common.{◌≡◌, Bool, true, false, not, cond, List, [], ◌∷◌, ◌++◌, append-nil, None, refl, sym, ap, subst, ◌∙◌, append_assoc}
use Rattle.std.specs.List.{AllByRecursion, list_any}
use Rattle.dubp_docs.specs.declared.doc.Doc.{Doc}
use Rattle.dubp_docs.specs.declared.doc.Doc.TheVariants.{Transaction}
use Rattle.dubp_pool.specs.Pools.{AreApart, doc_hash, has_hash}
use Rattle.dubp_forging.specs.Forged.{Adds, Forging, IsTried, Passes, is_in}
use Rattle.dubp_forging_laws.specs.Laws.{FewerTransactionsFit, IsTransaction}
use Rattle.dubp_forge.specs.Runs.{outside}
use Rattle.dubp_forge.proofs.Marks.{first_of_two, is_in-other, same_turned, second_of_two}

-- what is outside of a draft is outside of it with another document too
outside_same : (docs : List Doc) (d : Doc) (rest : List Doc) → list_any (has_hash (doc_hash d)) rest ≡ false → outside (docs ++ d ∷ []) rest ≡ outside docs rest
outside_same docs d [] e = refl
outside_same docs d (x ∷ rest) e =
    ap (λ b. cond (not b) (x ∷ outside (docs ++ d ∷ []) rest) (outside (docs ++ d ∷ []) rest)) (is_in-other docs d x (same_turned (doc_hash x) (doc_hash d) ∙ first_of_two (has_hash (doc_hash d) x) _ e))
    ∙ ap (λ l. cond (not (is_in docs x)) (x ∷ l) l) (outside_same docs d rest (second_of_two (has_hash (doc_hash d) x) _ e))

adds_transaction : (f : Forging) (docs : List Doc) (d : Doc) → IsTransaction d → Adds f docs d (docs ++ d ∷ [])
adds_transaction f docs (Transaction d) is = refl
adds_transaction f docs d is = absurd is

module _ (fits : FewerTransactionsFit) (f : Forging) (tail new : List Doc) where
  pub passes_run : (rest docs : List Doc) → AreApart rest → AllByRecursion IsTransaction (outside docs rest) → IsTried f (docs ++ outside docs rest) None
      → Passes f tail (docs ++ outside docs rest) new → Passes f (rest ++ tail) docs new
  passes_run [] docs apart all tried on = subst (λ x. Passes f tail x new) (append-nil docs) on
  passes_run (d ∷ rest) docs apart all tried on = by_place (λ from. passes_run rest from apart.1) (is_in docs d) refl all tried on
    where
      by_place : ((from : List Doc) → AllByRecursion IsTransaction (outside from rest) → IsTried f (from ++ outside from rest) None → Passes f tail (from ++ outside from rest) new → Passes f (rest ++ tail) from new)
          → (b : Bool) → is_in docs d ≡ b → AllByRecursion IsTransaction (cond (not b) (d ∷ outside docs rest) (outside docs rest))
          → IsTried f (docs ++ cond (not b) (d ∷ outside docs rest) (outside docs rest)) None
          → Passes f tail (docs ++ cond (not b) (d ∷ outside docs rest) (outside docs rest)) new → Passes f (d ∷ (rest ++ tail)) docs new
      by_place go true e all tried on = rw e (go docs all tried on)
      by_place go false e all tried on =
          let one = docs ++ d ∷ [] in
          let joined : docs ++ d ∷ outside docs rest ≡ one ++ outside docs rest = sym (append_assoc docs (d ∷ []) (outside docs rest)) in
          let same : outside docs rest ≡ outside one rest = sym (outside_same docs d rest apart.0) in
          rw e (
            one,
            None,
            adds_transaction f docs d all.0,
            fits f one (outside docs rest) all.1 (subst (λ l. IsTried f l None) joined tried),
            go one (subst (AllByRecursion IsTransaction) same all.1)
                (subst (λ l. IsTried f (one ++ l) None) same (subst (λ l. IsTried f l None) joined tried))
                (subst (λ l. Passes f tail (one ++ l) new) same (subst (λ l. Passes f tail l new) joined on)),
          )
