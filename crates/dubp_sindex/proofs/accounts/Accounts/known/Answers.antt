use Rattle.std.proofs.Common.{◌≡◌, Some, sym, subst, ◌∙◌}
use Rattle.std.specs.Option.{IfSome}
use Rattle.dubp_sindex.specs.Numbering.{AreNumbers, number_of, signed_text}
use Rattle.dubp_sindex.proofs.accounts.Accounts.known.Goals as goal

pub returns : goal.returns
returns c =
    subst (λ found. IfSome found (λ n. number_of c.args.self.now (signed_text c.args.key.now) ≡ Some n)) (sym (c.copied.ensures ∙ c.get.ensures.value))
    (subst (AreNumbers c.self.inside.signed) c.self.view_is c.self.invariant c.args.key.now)
