-- What was written, line by line.
use Rattle.std.proofs.Common.{◌≡◌, ℕ, List, [], ◌∷◌, ◌++◌, sym, ap, subst, ◌∙◌, append_assoc}
use Rattle.std.proofs.lemmas.List.{append-nil}
use Rattle.std.proofs.lemmas.List.Concat.{flat_map-append}
use Rattle.dubp_atoms.specs.Adding.{Adds}
use Rattle.dubp_lines.specs.Lines.{unlines}

-- nothing more
pub no_lines : (o : List ℕ) → o ≡ o ++ unlines []
no_lines o = sym (append-nil o)

-- lines, and then others
pub lines_then : (o p q : List ℕ) (ks ls : List (List ℕ)) → p ≡ o ++ unlines ks → q ≡ p ++ unlines ls → q ≡ o ++ unlines (ks ++ ls)
lines_then o p q ks ls d e =
    e ∙ ap (λ x. x ++ unlines ls) d ∙ append_assoc o (unlines ks) (unlines ls) ∙ ap (λ x. o ++ x) (sym (flat_map-append (λ l. l ++ 10 ∷ []) ks ls))

-- a line, and then others
pub line_then : (o p q l : List ℕ) (ls : List (List ℕ)) → p ≡ o ++ (l ++ 10 ∷ []) → q ≡ p ++ unlines ls → q ≡ o ++ unlines (l ∷ ls)
line_then o p q l ls d e = lines_then o p q (l ∷ []) ls (d ∙ ap (λ x. o ++ x) (sym (append-nil (l ++ 10 ∷ [])))) e

-- ---- the same of a sink of texts

module _ {S : Type 0} (has : S → List ℕ → Type 0) where
  pub adds_nothing : (s : S) → Adds has s s []
  adds_nothing s = record { goes_on = λ text h. subst (has s) (sym (append-nil text)) h }

  pub adds_then : (s t u : S) (x y : List ℕ) → Adds has s t x → Adds has t u y → Adds has s u (x ++ y)
  adds_then s t u x y a b = record { goes_on = λ text h. subst (has u) (append_assoc text x y) (b.goes_on (text ++ x) (a.goes_on text h)) }

  -- lines, and then others
  pub adds_lines_then : (s t u : S) (ks ls : List (List ℕ)) → Adds has s t (unlines ks) → Adds has t u (unlines ls) → Adds has s u (unlines (ks ++ ls))
  adds_lines_then s t u ks ls a b = subst (Adds has s u) (sym (flat_map-append (λ l. l ++ 10 ∷ []) ks ls)) (adds_then s t u (unlines ks) (unlines ls) a b)

  -- a line, and then others
  pub adds_line_then : (s t u : S) (l : List ℕ) (ls : List (List ℕ)) → Adds has s t (l ++ 10 ∷ []) → Adds has t u (unlines ls) → Adds has s u (unlines (l ∷ ls))
  adds_line_then s t u l ls a b = adds_lines_then s t u (l ∷ []) ls (subst (Adds has s t) (sym (append-nil (l ++ 10 ∷ []))) a) b
