-- A frame that is too long is refused.
use Rattle.std.proofs.Common.{◌≡◌, ℕ, ◌<◌, List, length, inl, refl, sym}
use Rattle.std.specs.Prelude.{codes, Some}
use Rattle.dubp_turns.proofs.LongAnswers as branches
use Rattle.dubp_validity.specs.Rules.{longest_block}
use Rattle.dubp_replay.specs.Answers.{refused_answer}
use Rattle.dubp_replay.specs.declared.command.Command.TheVariants as command
use Rattle.dubp_replay.specs.Turns.{State, IsServed, branches_of, left_over, onward}
use Rattle.dubp_choosing.proofs.Failures.{onward_same}
use Rattle.dubp_choosing.proofs.Offering.{goes_aside}

module _ (old : State) (held : left_over old.store old.failures ≡ old.failures) where
  same : old ≡ onward old (branches_of old)
  same = sym (onward_same old (branches_of old) held refl)

  pub long_block_turn : (len : ℕ) (bytes answer : List ℕ) → longest_block < length bytes → answer ≡ refused_answer (codes "X01") → IsServed old (Some (command.Block len, bytes)) answer old
  long_block_turn len bytes answer long is = inl (branches_of old, branches.long_block_turn (branches_of old) bytes answer long is, same)

  pub long_offer_turn : (len : ℕ) (bytes answer : List ℕ) → longest_block < length bytes → answer ≡ refused_answer (codes "X01") → IsServed old (Some (command.Offer len, bytes)) answer old
  long_offer_turn len bytes answer long is = inl (goes_aside old old bytes answer (branches_of old) (branches.long_offer_turn (branches_of old) bytes answer long is) refl same)
