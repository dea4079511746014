use Rattle.std.proofs.Common.{nat_eq, ◌∙◌}
use Rattle.std.specs.Cmp.Lexicographic.{pointwise}
use Rattle.dubp_atoms.proofs.Padding.{same_padded}
use Rattle.dubp_atoms.proofs.text.TextPartialEq.eq.Goals as goal

pub returns-then-self-other : goal.returns-then-self-other
returns-then-self-other g c =
    c.eq.ensures
    ∙ same_padded g.row.CAP c.self.inside.bytes c.other.inside.bytes c.self.inside.len c.other.inside.len c.self.invariant c.other.invariant c.if-self-other.true
    ∙ (λ i. pointwise nat_eq (c.self.view_is i) (c.other.view_is i))
