use Rattle.std.proofs.Common.{ap, sym, ◌∙◌}
use Rattle.std.specs.Option.{option_map_or}
use Rattle.dubp_sindex.specs.declared.rows.Balance.{Balance}
use Rattle.dubp_sindex.specs.Rows.{of_account}
use Rattle.dubp_sindex.specs.States.{rows_of}
use Rattle.dubp_sindex.proofs.Lookups.{units_is}
use Rattle.dubp_sindex.proofs.sindex.SIndex.balance.Goals as goal

pub returns-in-Some : goal.returns-in-Some
returns-in-Some c = λ s at.
    ap (λ o. option_map_or (λ (b : Balance). b.units) o 0) (sym c.in-Some.is ∙ c.get.ensures ∙ at.0.2 c.args.account) ∙ units_is c.args.account (of_account c.args.account (rows_of s))

pub returns-in-None : goal.returns-in-None
returns-in-None c = λ s at.
    ap (λ o. option_map_or (λ (b : Balance). b.units) o 0) (sym c.in-None.is ∙ c.get.ensures ∙ at.0.2 c.args.account) ∙ units_is c.args.account (of_account c.args.account (rows_of s))
