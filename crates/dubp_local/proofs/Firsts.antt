-- From what is found down the rules as they are read to the first local rule that a block breaks.
use Rattle.std.proofs.Common.{◌≡◌, ◌↔◌, true, false, true≢false, not, Option, Some, None, sym}
use Rattle.dubp_params.specs.declared.params.Params.{Params}
use Rattle.dubp_block.specs.declared.block.Block.{Block}
use Rattle.dubp_rules.specs.declared.rule.Rule.{Rule}
use Rattle.dubp_rules.specs.declared.rule.Rule.TheVariants.{L05}
use Rattle.dubp_rules.proofs.FirstLaws.{FirstOf_same, IsFirst_from_FirstOf}
use Rattle.dubp_verdict.specs.Verdicts.{Verdicts}
use Rattle.dubp_validity.specs.OfChain.{Chain}
use Rattle.dubp_validity.specs.Rules.{Holds}
use Rattle.dubp_validity.proofs.Passed.{FirstOf_filter}
use Rattle.dubp_local.specs.declared.check.Asked.{Asked}
use Rattle.dubp_local.specs.declared.check.Asked.TheVariants.{Signed, Unsigned}
use Rattle.dubp_local.specs.declared.check.Checked.{Checked}
use Rattle.dubp_local.specs.declared.check.Checked.TheVariants.{Breaks, Keeps}
use Rattle.dubp_local.specs.Local.{FirstLocal, local_rules, unsigned_rules, is_signature_rule}
use Rattle.dubp_local.specs.Asking.{Asks, FirstAsked, asked_rules}
use Rattle.dubp_local.specs.Checking.{IsChecked, broken_rule}

signed_same : (v : Verdicts) (c : Chain) (b : Block) (r : Rule) → Asks Signed v c b r ↔ Holds v c b r
signed_same v c b L05 = (λ h. h, λ h. h)
signed_same v c b rule = (λ h. h, λ h. h)

unsigned_same : (v : Verdicts) (c : Chain) (b : Block) (r : Rule) → not (is_signature_rule r) ≡ true → Asks Unsigned v c b r ↔ Holds v c b r
unsigned_same v c b L05 e = absurd (true≢false (sym e))
unsigned_same v c b rule e = (λ h. h, λ h. h)

unsigned_passes : (v : Verdicts) (c : Chain) (b : Block) (r : Rule) → not (is_signature_rule r) ≡ false → Asks Unsigned v c b r
unsigned_passes v c b L05 e = tt
unsigned_passes v c b rule e = absurd (true≢false e)

first_local : (v : Verdicts) (p : Option Params) (b : Block) (answer : Option Rule) → FirstAsked local_rules Signed v p b answer → FirstLocal local_rules v p b answer
first_local v p b answer f c params =
    IsFirst_from_FirstOf (Holds v c b) local_rules answer
    (FirstOf_same (Asks Signed v c b) (Holds v c b) (λ r. (signed_same v c b r).0) (λ r. (signed_same v c b r).1) local_rules answer (f c params))

first_unsigned : (v : Verdicts) (p : Option Params) (b : Block) (answer : Option Rule) → FirstAsked local_rules Unsigned v p b answer → FirstLocal unsigned_rules v p b answer
first_unsigned v p b answer f c params =
    IsFirst_from_FirstOf (Holds v c b) unsigned_rules answer
    (FirstOf_filter (λ r. not (is_signature_rule r)) (unsigned_same v c b) (unsigned_passes v c b) local_rules answer (f c params))

pub first_asked : (asked : Asked) (v : Verdicts) (p : Option Params) (b : Block) (answer : Option Rule) → FirstAsked local_rules asked v p b answer → FirstLocal (asked_rules asked) v p b answer
first_asked Signed = first_local
first_asked Unsigned = first_unsigned

pub checked_same : (First More : Option Rule → Type 0) → ((answer : Option Rule) → First answer → More answer) → (b : Block) (checked : Checked) → IsChecked First b checked → IsChecked More b checked
checked_same First More larger b (Breaks rule) f = larger (Some rule) f
checked_same First More larger b (Keeps hashes) f = (larger None f.0, f.1)

pub broken_first : (First : Option Rule → Type 0) (b : Block) (checked : Checked) → IsChecked First b checked → First (broken_rule checked)
broken_first First b (Breaks rule) f = f
broken_first First b (Keeps hashes) f = f.0
