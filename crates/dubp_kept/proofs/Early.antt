-- Where the rules of a list hold, each rule that stands there does; one that reads no verdict says the same with none.
use Rattle.std.proofs.Common.{◌≡◌, ◌<◌, ℕ, zero, suc, false, List, [], ◌∷◌, ◌++◌, length, Some, unwrap_or, refl, ap, subst, true≢false, arith}
use Rattle.std.specs.List.{AllByRecursion, slice_get}
use Rattle.std.proofs.lemmas.Option.{none-some}
use Rattle.dubp_block.specs.declared.block.Block.{Block}
use Rattle.dubp_rules.specs.declared.rule.Rule.{Rule}
use Rattle.dubp_rules.specs.declared.rule.Rule.TheVariants.{X01, L05, L07, L11, L24, G50, G62, G72, G84}
use Rattle.dubp_rules.specs.Table.{table_rules, place_of, StandsBefore}
use Rattle.dubp_chain.specs.Chains.{Chain}
use Rattle.dubp_verdict.specs.Verdicts.{Verdicts}
use Rattle.dubp_validity.specs.Rules.{Holds, KeepsUnsigned, reads_verdicts}
use Rattle.dubp_kept.specs.OfLocal.{Asked}
use Rattle.dubp_kept.specs.Parts.{early_rules, table_parts}
use Rattle.dubp_kept.specs.Asking.{Asks}

unsigned : (v : Verdicts) (c : Chain) (b : Block) (rule : Rule) → reads_verdicts rule ≡ false → Holds v c b rule → Holds [] c b rule
unsigned v c b L05 reads h = absurd (true≢false reads)
unsigned v c b L07 reads h = absurd (true≢false reads)
unsigned v c b L11 reads h = absurd (true≢false reads)
unsigned v c b L24 reads h = absurd (true≢false reads)
unsigned v c b G72 reads h = absurd (true≢false reads)
unsigned v c b G84 reads h = absurd (true≢false reads)
unsigned v c b rule reads h = h

all_at : (P : Rule → Type 0) (rs : List Rule) (k : ℕ) (r : Rule) → slice_get rs k ≡ Some r → AllByRecursion P rs → P r
all_at P [] k r at all = absurd (none-some r at)
all_at P (q ∷ rs) zero r at all = subst P (ap (λ o. unwrap_or o q) at) all.0
all_at P (q ∷ rs) (suc k) r at all = all_at P rs k r at all.1

-- the place of a rule in the table has it
stands : (rule : Rule) → slice_get table_rules (place_of rule) ≡ Some rule
stands X01 = refl
stands rule = refl

first_of_two : (xs ys : List Rule) (k : ℕ) (r : Rule) → k < length xs → slice_get (xs ++ ys) k ≡ Some r → slice_get xs k ≡ Some r
first_of_two [] ys k r lt at = absurd (omega (arith, lt))
first_of_two (x ∷ xs) ys zero r lt at = at
first_of_two (x ∷ xs) ys (suc k) r lt at = first_of_two xs ys k r (omega (arith, lt)) at

-- what a rule up to X08 that reads no verdict says as it is asked
as_asked : (asked : Asked) (v : Verdicts) (c : Chain) (b : Block) (rule : Rule) → reads_verdicts rule ≡ false → StandsBefore rule G50 → Asks asked v c b rule → Holds v c b rule
as_asked asked v c b L05 reads early h = absurd (true≢false reads)
as_asked asked v c b G62 reads early h = let places : 45 < 36 = early in absurd (omega (arith, places))
as_asked asked v c b rule reads early h = h

pub early_hold : (asked : Asked) (v : Verdicts) (c : Chain) (b : Block) → AllByRecursion (Asks asked v c b) early_rules → (rule : Rule) → reads_verdicts rule ≡ false → StandsBefore rule G50 → Holds [] c b rule
early_hold asked v c b all rule reads early =
    let soon : place_of rule < 36 = early in
    let among : place_of rule < 46 = omega (arith, soon) in
    let said = all_at (Asks asked v c b) early_rules (place_of rule) rule (first_of_two early_rules table_parts (place_of rule) rule among (stands rule)) all in
    unsigned v c b rule reads (as_asked asked v c b rule reads early said)

pub keeps_unsigned : (v : Verdicts) (c : Chain) (b : Block) → AllByRecursion (Holds v c b) (early_rules ++ table_parts) → KeepsUnsigned c b
keeps_unsigned v c b all rule reads = unsigned v c b rule reads (all_at (Holds v c b) table_rules (place_of rule) rule (stands rule) all)
