use Rattle.std.proofs.Common.{rules}
use Rattle.dubp_outside.proofs.Pieces.{given-drop}
use Rattle.dubp_outside.proofs.unread.Unread.give.Goals as goal

pub returns-clause-given : goal.returns-clause-given
returns-clause-given c = given-drop c.self.inside.bytes.items _ _ c.self.inside.at _ (search rules) (search rules)
