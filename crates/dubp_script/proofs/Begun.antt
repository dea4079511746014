-- Each command begins with its word.
use Rattle.std.proofs.Common.{◌≡◌, List, ℕ, true, false, refl, sym, ap, ◌∙◌, true≢false}
use Rattle.dubp_replay.specs.declared.command.Command.{Command}
use Rattle.dubp_replay.specs.declared.command.Command.TheVariants as command
use Rattle.dubp_replay.specs.declared.query.Query.TheVariants as query
use Rattle.dubp_script.specs.Beginning.{begins_command}
use Rattle.dubp_script.specs.Spelling.{Says, command_text}

begun : (c : Command) → begins_command (command_text c) ≡ true
begun (command.Verdict key hash sig) = refl
begun (command.Block len) = refl
begun (command.Revert count) = refl
begun (command.Offer len) = refl
begun (command.Switch stamp) = refl
begun (command.Forget stamp) = refl
begun (command.Statement cond) = refl
begun (command.Auto true) = refl
begun (command.Auto false) = refl
begun command.Failures = refl
begun (command.Pend len) = refl
begun (command.Unpend hash) = refl
begun (command.Forge key time) = refl
begun (command.Ask query.Head) = refl
begun (command.Ask query.Money) = refl
begun (command.Ask (query.Identity key)) = refl
begun (command.Ask (query.Uid uid)) = refl
begun (command.Ask (query.Certs key)) = refl
begun (command.Ask (query.Balance cond)) = refl
begun (command.Ask (query.Sources cond)) = refl
begun (command.Ask (query.Distance key)) = refl
begun (command.Ask (query.Diff key)) = refl
begun (command.Ask (query.Records number)) = refl
begun (command.Ask (query.Show number)) = refl

-- a line that begins with no word of a command is none
pub not_begun : (line : List ℕ) → begins_command line ≡ false → (c : Command) → Says line c → ⊥
not_begun line none c says = true≢false (sym (begun c) ∙ ap begins_command (sym says.text) ∙ none)
