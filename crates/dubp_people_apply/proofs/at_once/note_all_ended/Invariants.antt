use Rattle.std.proofs.Common.{◌≡◌, take, fold}
use Rattle.std.specs.BTreeSet.{contains}
use Rattle.dubp_atoms.specs.Same.{Text}
use Rattle.dubp_moving.specs.States.{states}
use Rattle.dubp_chain.specs.Chains.{Chain}
use Rattle.dubp_left.specs.Left.{certifications_left}
use Rattle.dubp_left.specs.Next.{IsWritten}
use Rattle.dubp_steps.specs.Ordered.{pair_cmp}
use Rattle.dubp_steps.specs.Loops.{ended_line}
use Rattle.dubp_cindex.specs.contracts.index.CIndexTablesCertRows.TheImpl as cindex
use Rattle.dubp_left.specs.OfFacts.facts_tables_block as facts
use Rattle.dubp_people_apply.proofs.at_once.note_all_ended.Given as goal

abbrev pub invariant-loop-line : goal.invariant-loop-line
invariant-loop-line l =
    (c : Chain) → (facts.ghosts).at l.facts c → (cindex.ghosts).at l.certifications (states certifications_left c) → IsWritten c l.block l.next → (x y : Text) → contains pair_cmp l.set (x, y) ≡ fold (ended_line c l.block x y) (contains pair_cmp l.initial.set (x, y)) (take l.line-index l.lines)
