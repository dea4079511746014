use Rattle.std.proofs.Common.{Some, ap, sym, ◌∙◌}
use Rattle.dubp_gen.proofs.Shown.{account_is, first_is, first_is_worth, none_is}
use Rattle.dubp_gen.proofs.spending.first_source.Goals as goal

pub returns-in-None-clause-source : goal.returns-in-None-clause-source
returns-in-None-clause-source g c = λ chain at sound.
    let account = account_is c.account_of.result.items c.key_of.result c.args.person c.account_of.ensures c.key_of.ensures in
    none_is chain c.args.person c.account_of.result.items account (sym c.in-None.is ∙ c.first_source.ensures chain at sound)

pub input_of-requires : goal.input_of-requires
input_of-requires g c =
    let given = c.requires.chain in
    first_is_worth given.0 c.account_of.result.items c.in-Some.view given.1.1 given.1.2 (sym c.in-Some.is ∙ c.first_source.ensures given.0 given.1.0 given.1.1)

pub returns-in-Some-clause-source : goal.returns-in-Some-clause-source
returns-in-Some-clause-source g c = λ chain at sound.
    let account = account_is c.account_of.result.items c.key_of.result c.args.person c.account_of.ensures c.key_of.ensures in
    ap Some c.input_of.ensures.value ∙ first_is chain c.args.person c.account_of.result.items account c.in-Some.view (sym c.in-Some.is ∙ c.first_source.ensures chain at sound)
