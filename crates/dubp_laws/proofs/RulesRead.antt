-- That a rule is read only where certain earlier ones hold changes no first rule: where each rule before a rule of the table holds,
-- it is read, so up to the first that fails both readings agree.
use Rattle.std.specs.Prelude.{◌≡◌, ℕ, ◌<◌, List, [], ◌∷◌, ◌++◌, length, Option, Some, None}
use Rattle.std.specs.List.{All, AllByRecursion}
use Rattle.std.proofs.Common.{refl, sym, subst, ◌∙◌, get_or, append_assoc, length-append, arith}
use Rattle.std.proofs.Math.Seq.{get_or-append_seam}
use Rattle.std.proofs.lemmas.List.{get_or_append_left, append-nil}
use Rattle.std.proofs.lemmas.List.Elements.{All-append, All-from_recursion}
use Rattle.dubp_rules.specs.declared.rule.Rule.{Rule}
use Rattle.dubp_rules.specs.declared.rule.Rule.TheVariants.{G51, X03, X04, X08}
use Rattle.dubp_rules.specs.First.{IsFirst}
use Rattle.dubp_rules.specs.Table.{table_rules, place_of}
use Rattle.dubp_rules.proofs.Places.{place_of-slice_index_or}
use Rattle.dubp_validity.specs.Rules.{IsRead, WhereRead}
use Rattle.dubp_laws.proofs.MoreVerdicts.{all_more}

module _ (Holding : Rule → Type 0) where
  -- a rule holds that stands at a place before those that are known to hold end
  passed_at : (before after : List Rule) (k : ℕ) (q : Rule) → before ++ after ≡ table_rules → All Holding before → get_or table_rules k q ≡ q → k < length before → Holding q
  passed_at before after k q same passed stands below =
      let here : get_or before k q ≡ q = sym (get_or_append_left before after q k below) ∙ (subst (λ l. get_or l k q ≡ q) (sym same) stands) in
      subst Holding here (passed k q below)

  -- the place of a rule is how many stand before it
  place_behind : (before after : List Rule) (r : Rule) → before ++ r ∷ after ≡ table_rules → place_of r ≡ length before
  place_behind before after r same =
      let within : length before < length (before ++ r ∷ after) = omega (arith, length-append before (r ∷ after)) in
      subst (λ q. place_of q ≡ length before) (get_or-append_seam before r after r) (place_of-slice_index_or (before ++ r ∷ after) (length before) r same within)

  reads : (before after : List Rule) (r : Rule) → before ++ r ∷ after ≡ table_rules → All Holding before → IsRead Holding r
  reads before after r same passed =
      let place : place_of r ≡ length before = place_behind before after r same in
      let at : (k : ℕ) (q : Rule) → get_or table_rules k q ≡ q → k < length before → Holding q =
      λ k q stands below. passed_at before (r ∷ after) k q same passed stands below
      in
      record {
        number = λ behind. at 28 G51 refl (omega (arith, behind, place));
        limits = λ behind. (at 33 X03 refl (omega (arith, behind, place)), at 34 X04 refl (omega (arith, behind, place)), at 35 X08 refl (omega (arith, behind, place)));
      }

  all_read : (before rules after : List Rule) → before ++ (rules ++ after) ≡ table_rules → All Holding before → AllByRecursion (WhereRead Holding) rules → AllByRecursion Holding rules
  all_read before [] after same passed all = tt
  all_read before (r ∷ rules) after same passed all =
      let here : Holding r = all.0 (reads before (rules ++ after) r same passed) in
      let more : All Holding (before ++ r ∷ []) = All-append Holding before (r ∷ []) passed (All-from_recursion Holding (r ∷ []) (here, tt)) in
      let again : (before ++ r ∷ []) ++ (rules ++ after) ≡ table_rules = append_assoc before (r ∷ []) (rules ++ after) ∙ same in
      (here, all_read (before ++ r ∷ []) rules after again more all.1)

  none : All Holding []
  none = All-from_recursion Holding [] tt

  pub where_read : (answer : Option Rule) → IsFirst Holding table_rules answer → IsFirst (WhereRead Holding) table_rules answer
  where_read None all = all_more Holding (WhereRead Holding) (λ r holds _. holds) table_rules all
  where_read (Some r) first =
      record {
        before = first.before;
        after = first.after;
        stands = first.stands;
        passed = all_more Holding (WhereRead Holding) (λ r holds _. holds) first.before first.passed;
        fails = λ holds. first.fails (holds (reads first.before first.after r (sym first.stands) (All-from_recursion Holding first.before first.passed)));
      }

  pub from_where_read : (answer : Option Rule) → IsFirst (WhereRead Holding) table_rules answer → IsFirst Holding table_rules answer
  from_where_read None all = all_read [] table_rules [] (append-nil table_rules) none all
  from_where_read (Some r) first =
      record {
        before = first.before;
        after = first.after;
        stands = first.stands;
        passed = all_read [] first.before (r ∷ first.after) (sym first.stands) none first.passed;
        fails = λ holds. first.fails (λ _. holds);
      }
