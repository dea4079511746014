-- Transactions that are taken together. Protocol: forging.
use Rattle.std.specs.List.{AllByRecursion}
use Rattle.std.specs.Prelude.{◌≡◌, ℕ, ◌-◌, Bool, true, false, not, List, ◌++◌, take, drop, filter, None}
use Rattle.dubp_docs.specs.declared.doc.Doc.{Doc}
use Rattle.dubp_docs.specs.declared.doc.Doc.TheVariants.{Transaction}
use Rattle.dubp_forging.specs.Forged.{Forging, IsTried, is_in}
use Rattle.dubp_forging_laws.specs.Laws.{IsTransaction}
use Rattle.dubp_forge.specs.Steps.{docs_of}
use Rattle.dubp_forge.specs.declared.draft.Draft.{Draft}

abbrev pub is_transaction : Doc → Bool
is_transaction (Transaction d) = true
is_transaction d = false

-- those that are not among these documents
abbrev pub outside : List Doc → List Doc → List Doc
outside docs rest = filter (λ d. not (is_in docs d)) rest

-- those from one place of the pool up to another that are not in the draft
abbrev pub run_of : Forging → Draft → ℕ → ℕ → List Doc
run_of f draft place end = outside (docs_of f draft) (take (end - place) (drop place f.pool))

-- they are transactions, they were added, and the draft with them breaks no rule
pub record TakesRun (f : Forging) (old : Draft) (place end : ℕ) (new : Draft) : Type 0 where
  pub run : AllByRecursion IsTransaction (run_of f old place end)
  pub docs : docs_of f new ≡ docs_of f old ++ run_of f old place end
  pub keeps : IsTried f (docs_of f new) None
