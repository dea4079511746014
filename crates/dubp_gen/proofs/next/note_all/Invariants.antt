use Rattle.std.proofs.Common.{◌≡◌, ◌++◌, take}
use Rattle.dubp_gen.specs.Generated.{with_given}
use Rattle.dubp_gen.proofs.next.note_all.Given as goal

abbrev pub invariant-loop-verdict : goal.invariant-loop-verdict
invariant-loop-verdict l =
    (l.verdicts ≡ with_given l.fn.verdicts (take l.verdict-index l.given)) × (l.noted.items ≡ l.fn.noted.items ++ take l.verdict-index l.given)
