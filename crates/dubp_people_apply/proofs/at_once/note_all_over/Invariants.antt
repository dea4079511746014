use Rattle.std.proofs.Common.{◌≡◌, take, fold}
use Rattle.std.specs.BTreeSet.{contains}
use Rattle.dubp_atoms.specs.Same.{Text}
use Rattle.dubp_moving.specs.States.{states}
use Rattle.dubp_chain.specs.Chains.{Chain}
use Rattle.dubp_left.specs.Left.{memberships_left}
use Rattle.dubp_left.specs.Next.{IsWritten}
use Rattle.dubp_steps.specs.Ordered.{text_cmp}
use Rattle.dubp_steps.specs.Loops.{over_line}
use Rattle.dubp_mindex.specs.contracts.member.MIndexTablesMemberRows.TheImpl as mindex
use Rattle.dubp_left.specs.OfFacts.facts_tables_block as facts
use Rattle.dubp_people_apply.specs.Taking.{IsSince}
use Rattle.dubp_people_apply.proofs.at_once.note_all_over.Given as goal

abbrev pub invariant-loop-line : goal.invariant-loop-line
invariant-loop-line l =
    (c : Chain) → (facts.ghosts).at l.facts c → (mindex.ghosts).at l.memberships (states memberships_left c) → IsWritten c l.block l.next → IsSince c l.since → (k : Text) → contains text_cmp l.set k ≡ fold (over_line c l.block k) (contains text_cmp l.initial.set k) (take l.line-index l.lines)
