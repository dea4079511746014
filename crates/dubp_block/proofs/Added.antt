-- Lines that are added one after another are added as one list.
use Rattle.std.proofs.Common.{ℕ, List, [], ◌∷◌, ◌++◌, map, sym, subst}
use Rattle.std.proofs.lemmas.List.{append-nil, map-id}
use Rattle.std.proofs.lemmas.List.Concat.{flat_map-append}
use Rattle.dubp_atoms.specs.Letters.{LF}
use Rattle.dubp_atoms.specs.Adding.{Adds}
use Rattle.dubp_atoms.proofs.Adding.{adds_then, adds_none}
use Rattle.dubp_block.specs.AddsLines.{AddsLines}

module _ {S : Type 0} {has : S → List ℕ → Type 0} where
  pub lines_then : {a b c : S} {ks ls : List (List ℕ)} → AddsLines has a b ks → AddsLines has b c ls → AddsLines has a c (ks ++ ls)
  lines_then {a = a} {c = c} {ks = ks} {ls = ls} p q =
      record { added = subst (Adds has a c) (sym (flat_map-append (λ l. l ++ LF ∷ []) ks ls)) (adds_then p.added q.added) }

  pub one_line : {a b : S} (l : List ℕ) → Adds has a b (l ++ LF ∷ []) → AddsLines has a b (l ∷ [])
  one_line {a = a} {b = b} l p = record { added = subst (Adds has a b) (sym (append-nil (l ++ LF ∷ []))) p }

  pub no_lines : (a : S) → AddsLines has a a []
  no_lines a = record { added = adds_none a }

  -- lines that are values themselves
  pub lines_are : {a b : S} (ls : List (List ℕ)) → AddsLines has a b (map (λ l. l) ls) → AddsLines has a b ls
  lines_are {a = a} {b = b} ls p = subst (AddsLines has a b) (map-id ls) p

  pub section_lines_are : {a b : S} (heading : List ℕ) (ls : List (List ℕ)) → AddsLines has a b (heading ∷ map (λ l. l) ls) → AddsLines has a b (heading ∷ ls)
  section_lines_are {a = a} {b = b} heading ls p = subst (λ (ks : List (List ℕ)). AddsLines has a b (heading ∷ ks)) (map-id ls) p
