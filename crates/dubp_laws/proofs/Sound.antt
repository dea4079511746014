-- A valid chain is sound: where none is the first rule that a text breaks, each rule of the table holds of the block whose text
-- it is, and a rule that reads no verdict says the same with none.
use Rattle.std.proofs.Common.{◌≡◌, ℕ, zero, suc, false, List, [], ◌∷◌, Some, unwrap_or, refl, ap, subst, true≢false}
use Rattle.std.specs.List.{AllByRecursion, slice_get}
use Rattle.std.proofs.lemmas.Option.{none-some}
use Rattle.dubp_block.specs.declared.block.Block.{Block}
use Rattle.dubp_block.specs.Text.{IsBlock, block_text}
use Rattle.dubp_rules.specs.declared.rule.Rule.{Rule}
use Rattle.dubp_rules.specs.declared.rule.Rule.TheVariants.{X01, P01, L05, L07, L11, L24, G84, G72}
use Rattle.dubp_rules.specs.Table.{table_rules, place_of}
use Rattle.dubp_chain.specs.Chains.{Chain}
use Rattle.dubp_verdict.specs.Verdicts.{Verdicts}
use Rattle.dubp_validity.specs.Rules.{Holds, HoldsRaw, KeepsUnsigned, reads_verdicts}
use Rattle.dubp_laws.specs.Laws.{ValidIsSound}

-- what a rule says of the text of a block it says of the block
of_text : (v : Verdicts) (c : Chain) (b : Block) → IsBlock b → (rule : Rule) → HoldsRaw v c (block_text b) rule → Holds v c b rule
of_text v c b is X01 h = tt
of_text v c b is P01 h = tt
of_text v c b is rule h = h b (record { is = is; text = refl })

-- a rule that reads no verdict says the same with none
unsigned : (v : Verdicts) (c : Chain) (b : Block) (rule : Rule) → reads_verdicts rule ≡ false → Holds v c b rule → Holds [] c b rule
unsigned v c b L05 reads h = absurd (true≢false reads)
unsigned v c b L07 reads h = absurd (true≢false reads)
unsigned v c b L11 reads h = absurd (true≢false reads)
unsigned v c b L24 reads h = absurd (true≢false reads)
unsigned v c b G72 reads h = absurd (true≢false reads)
unsigned v c b G84 reads h = absurd (true≢false reads)
unsigned v c b rule reads h = h

-- ---- each rule is one of the table

all_at : (P : Rule → Type 0) (rs : List Rule) (k : ℕ) (r : Rule) → slice_get rs k ≡ Some r → AllByRecursion P rs → P r
all_at P [] k r at all = absurd (none-some r at)
all_at P (q ∷ rs) zero r at all = subst P (ap (λ o. unwrap_or o q) at) all.0
all_at P (q ∷ rs) (suc k) r at all = all_at P rs k r at all.1

-- its place in the table has it
stands : (rule : Rule) → slice_get table_rules (place_of rule) ≡ Some rule
stands X01 = refl
stands rule = refl

keeps : (v : Verdicts) (c : Chain) (b : Block) → IsBlock b → AllByRecursion (HoldsRaw v c (block_text b)) table_rules → KeepsUnsigned c b
keeps v c b is all rule reads =
    unsigned v c b rule reads (of_text v c b is rule (all_at (HoldsRaw v c (block_text b)) table_rules (place_of rule) rule (stands rule) all))

pub valid_is_sound : ValidIsSound
valid_is_sound v [] valid = tt
valid_is_sound v (b ∷ c) valid = (keeps v c b valid.1 valid.0, valid_is_sound v c valid.2)
