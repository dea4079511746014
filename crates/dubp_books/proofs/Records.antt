-- The records of a block are those of people, and then those of money; its steps are those of both.
use Rattle.std.proofs.Common.{◌≡◌, ◌≤◌, ◌+◌, ◌*◌, ℕ, List, ◌++◌, length, ap, sym, ◌∙◌, length-append, append_assoc, arith}
use Rattle.dubp_block.specs.declared.block.Block.{Block}
use Rattle.dubp_chain.specs.Chains.{Chain}
use Rattle.dubp_validity.specs.Records.{records, line_records, expiry_records, revocation_records, ended_records}
use Rattle.dubp_people.specs.OfSteps.{people_records}
use Rattle.dubp_money_rules.specs.OfMoney.{money_records}
use Rattle.dubp_kept.specs.KeptChain.{most_steps}

five : {X : Type 0} (a b c d e : List X) → a ++ (b ++ (c ++ (d ++ e))) ≡ (a ++ (b ++ (c ++ d))) ++ e
five a b c d e =
    ap (λ x. a ++ (b ++ x)) (sym (append_assoc c d e))
    ∙ ap (λ x. a ++ x) (sym (append_assoc b (c ++ d) e))
    ∙ sym (append_assoc a (b ++ (c ++ d)) e)

pub records_are : (c : Chain) (b : Block) → records c b ≡ people_records c b ++ money_records c b
records_are c b = five (line_records c b) (expiry_records c b) (revocation_records c b) (ended_records c b) (money_records c b)

pub most_of_both : (c : Chain) (b : Block) → (8 * length (people_records c b) + 8) + (8 * length (money_records c b) + 8) ≡ most_steps c b
most_of_both c b =
    let count : length (records c b) ≡ length (people_records c b) + length (money_records c b) = ap length (records_are c b) ∙ length-append (people_records c b) (money_records c b) in
    omega (arith, count)

pub steps_of_both : (c : Chain) (b : Block) (first middle last : ℕ) → middle ≤ first + (8 * length (people_records c b) + 8) → last ≤ middle + (8 * length (money_records c b) + 8) → last ≤ first + most_steps c b
steps_of_both c b first middle last one two = omega (arith, one, two, most_of_both c b)
