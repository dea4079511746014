-- The first rule that a block breaks, from the first of each part of the rules.
use Rattle.std.proofs.Common.{inl, List, [], ◌∷◌, ◌++◌, Option, Some, None, refl}
use Rattle.std.specs.List.{AllByRecursion}
use Rattle.dubp_rules.specs.declared.rule.Rule.{Rule}
use Rattle.dubp_rules.specs.declared.rule.Rule.TheVariants.{X01, P01, G51, G101}
use Rattle.dubp_rules.specs.First.{FirstOf, IsFirst}
use Rattle.dubp_rules.proofs.FirstLaws.{IsFirst_from_FirstOf, FirstOf_from_IsFirst, FirstOf_append_found, FirstOf_append_none}
use Rattle.dubp_kept.specs.OfLocal.{local_rules}
use Rattle.dubp_head.specs.Following.{limit_rules}
use Rattle.dubp_head.specs.NextHead.{header_rules}
use Rattle.dubp_kept.specs.Parts.{opening_rules, link_rules, place_rules, early_rules, table_parts}

module _ (Hold : Rule → Type 0) where
  found_first : (xs ys : List Rule) (r : Rule) → IsFirst Hold xs (Some r) → IsFirst Hold (xs ++ ys) (Some r)
  found_first xs ys r f = IsFirst_from_FirstOf Hold (xs ++ ys) (Some r) (FirstOf_append_found Hold xs ys r (FirstOf_from_IsFirst Hold xs (Some r) f))

  found_behind : (xs ys : List Rule) (answer : Option Rule) → IsFirst Hold xs None → IsFirst Hold ys answer → IsFirst Hold (xs ++ ys) answer
  found_behind xs ys answer f g =
      IsFirst_from_FirstOf Hold (xs ++ ys) answer (FirstOf_append_none Hold xs ys answer (FirstOf_from_IsFirst Hold xs None f) (FirstOf_from_IsFirst Hold ys answer g))

  raw_hold : Hold X01 → Hold P01 → IsFirst Hold (X01 ∷ P01 ∷ []) None
  raw_hold x p = (x, (p, tt))

  -- the local rules, and G51 behind them
  pub local_breaks : Hold X01 → Hold P01 → (r : Rule) → IsFirst Hold local_rules (Some r) → IsFirst Hold opening_rules (Some r)
  local_breaks x p r f =
      found_behind (X01 ∷ P01 ∷ []) (local_rules ++ G51 ∷ []) (Some r) (raw_hold x p) (found_first local_rules (G51 ∷ []) r f)

  pub number_breaks : Hold X01 → Hold P01 → IsFirst Hold local_rules None → ¬ Hold G51 → IsFirst Hold opening_rules (Some G51)
  number_breaks x p f fails =
      found_behind (X01 ∷ P01 ∷ []) (local_rules ++ G51 ∷ []) (Some G51) (raw_hold x p)
      (found_behind local_rules (G51 ∷ []) (Some G51) f (IsFirst_from_FirstOf Hold (G51 ∷ []) (Some G51) (inl (refl, fails))))

  pub opening_holds : Hold X01 → Hold P01 → IsFirst Hold local_rules None → Hold G51 → IsFirst Hold opening_rules None
  opening_holds x p f holds =
      found_behind (X01 ∷ P01 ∷ []) (local_rules ++ G51 ∷ []) None (raw_hold x p) (found_behind local_rules (G51 ∷ []) None f (holds, tt))

  -- the rules on the block before, and G101 behind them
  pub link_breaks : (r : Rule) → FirstOf Hold link_rules (Some r) → IsFirst Hold place_rules (Some r)
  link_breaks r f = found_first link_rules (G101 ∷ []) r (IsFirst_from_FirstOf Hold link_rules (Some r) f)

  pub issuer_breaks : FirstOf Hold link_rules None → ¬ Hold G101 → IsFirst Hold place_rules (Some G101)
  issuer_breaks f fails = found_behind link_rules (G101 ∷ []) (Some G101) (IsFirst_from_FirstOf Hold link_rules None f) (IsFirst_from_FirstOf Hold (G101 ∷ []) (Some G101) (inl (refl, fails)))

  pub issuer_holds : FirstOf Hold link_rules None → Hold G101 → IsFirst Hold place_rules None
  issuer_holds f holds = found_behind link_rules (G101 ∷ []) None (IsFirst_from_FirstOf Hold link_rules None f) (holds, tt)

  -- each part behind those that hold
  pub opening_breaks : (r : Rule) → IsFirst Hold opening_rules (Some r) → IsFirst Hold (early_rules ++ table_parts) (Some r)
  opening_breaks r f = found_first early_rules table_parts r (found_first opening_rules (place_rules ++ (limit_rules ++ header_rules)) r f)

  pub place_breaks : (r : Rule) → IsFirst Hold opening_rules None → IsFirst Hold place_rules (Some r) → IsFirst Hold (early_rules ++ table_parts) (Some r)
  place_breaks r o f =
      found_first early_rules table_parts r (found_behind opening_rules (place_rules ++ (limit_rules ++ header_rules)) (Some r) o (found_first place_rules (limit_rules ++ header_rules) r f))

  pub limit_breaks : (r : Rule) → IsFirst Hold opening_rules None → IsFirst Hold place_rules None → IsFirst Hold limit_rules (Some r) → IsFirst Hold (early_rules ++ table_parts) (Some r)
  limit_breaks r o p f =
      found_first early_rules table_parts r
      (found_behind opening_rules (place_rules ++ (limit_rules ++ header_rules)) (Some r) o
      (found_behind place_rules (limit_rules ++ header_rules) (Some r) p (found_first limit_rules header_rules r f)))

  header_decides : (answer : Option Rule) → IsFirst Hold opening_rules None → IsFirst Hold place_rules None → IsFirst Hold limit_rules None → IsFirst Hold header_rules answer → IsFirst Hold early_rules answer
  header_decides answer o p l f =
      found_behind opening_rules (place_rules ++ (limit_rules ++ header_rules)) answer o
      (found_behind place_rules (limit_rules ++ header_rules) answer p (found_behind limit_rules header_rules answer l f))

  pub header_breaks : (r : Rule) → IsFirst Hold opening_rules None → IsFirst Hold place_rules None → IsFirst Hold limit_rules None → IsFirst Hold header_rules (Some r) → IsFirst Hold (early_rules ++ table_parts) (Some r)
  header_breaks r o p l f = found_first early_rules table_parts r (header_decides (Some r) o p l f)

  pub header_holds : IsFirst Hold opening_rules None → IsFirst Hold place_rules None → IsFirst Hold limit_rules None → IsFirst Hold header_rules None → IsFirst Hold early_rules None
  header_holds o p l f = header_decides None o p l f

  pub parts_decide : (answer : Option Rule) → IsFirst Hold early_rules None → IsFirst Hold table_parts answer → IsFirst Hold (early_rules ++ table_parts) answer
  parts_decide answer e f = found_behind early_rules table_parts answer e f

-- of two lists whose rules all hold, those of the first do, and those of the second
pub all_front : (Hold : Rule → Type 0) (xs ys : List Rule) → AllByRecursion Hold (xs ++ ys) → AllByRecursion Hold xs
all_front Hold [] ys all = tt
all_front Hold (x ∷ xs) ys all = (all.0, all_front Hold xs ys all.1)

pub all_behind : (Hold : Rule → Type 0) (xs ys : List Rule) → AllByRecursion Hold (xs ++ ys) → AllByRecursion Hold ys
all_behind Hold [] ys all = all
all_behind Hold (x ∷ xs) ys all = all_behind Hold xs ys all.1
