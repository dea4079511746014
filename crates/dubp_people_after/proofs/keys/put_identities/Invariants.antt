use Rattle.std.proofs.Common.{◌≡◌, take}
use Rattle.indexmap.specs.IndexMap.{get}
use Rattle.dubp_atoms.specs.Same.{Text, same_text}
use Rattle.dubp_chain.specs.Words.{last_of}
use Rattle.dubp_people_after.proofs.keys.put_identities.Given as goal

abbrev pub invariant-loop-line : goal.invariant-loop-line
invariant-loop-line l = (k : Text) → get same_text l.map k ≡ last_of (λ line. same_text k line.key) (take l.line-index l.lines)
