-- The records of a chain's blocks have numbers in range, since what each header states is right, by three rules.
use Rattle.std.proofs.Common.{◌≡◌, ℕ, List, [], ◌∷◌, Option, Some, None, refl, sym}
use Rattle.std.specs.Prelude.{All, IfSome}
use Rattle.std.specs.List.{AllByRecursion}
use Rattle.std.proofs.lemmas.List.Elements.{All-from_recursion}
use Rattle.dubp_block.specs.Text.{IsBlock}
use Rattle.dubp_chain.specs.Chains.{Chain}
use Rattle.dubp_rules.specs.declared.rule.Rule.TheVariants.{G57, G58, G59}
use Rattle.dubp_answers.specs.OfValidity.{IsSound, Record, records_at}
use Rattle.dubp_answers.specs.RecordNumbers.{HasNumbers}
use Rattle.dubp_answers.proofs.RecordNumbers.{HeadersAreRight, records_have_numbers}

headers_are_right : (c : Chain) → IsSound c → HeadersAreRight c
headers_are_right [] sound = tt
headers_are_right (b ∷ c) sound = (sound.0 G57 refl, sound.0 G58 refl, sound.0 G59 refl, headers_are_right c sound.1)

pub shown_have_numbers : (c : Chain) (number : ℕ) (shown : Option (List Record)) → IsSound c → AllByRecursion IsBlock c → shown ≡ records_at c number → IfSome shown (All HasNumbers)
shown_have_numbers c number None sound are is = tt
shown_have_numbers c number (Some rows) sound are is = All-from_recursion HasNumbers rows (records_have_numbers c number rows (headers_are_right c sound) are (sym is))
