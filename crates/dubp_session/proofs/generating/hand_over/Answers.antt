use Rattle.dubp_session.proofs.Handed.{handed_over, none_then, valid_then, valid_there}
use Rattle.dubp_session.proofs.generating.hand_over.Goals as goal

pub take_over-requires-clause-empty : goal.take_over-requires-clause-empty
take_over-requires-clause-empty g c =
    none_then c.args.node.now c.give_verdicts.new.node c.args.verdicts.now c.laws.ensures.failures c.in_ok-give_verdicts.ensures.all c.requires.empty

pub take_over-requires-clause-valid : goal.take_over-requires-clause-valid
take_over-requires-clause-valid g c =
    let made = c.requires.made in
    valid_then c.args.node.now c.give_verdicts.new.node c.args.verdicts.now c.args.ledger.chain c.laws.ensures.failures c.in_ok-give_verdicts.ensures.all
    (valid_there c.blocks_have_one_text.ensures made.0 made.1 c.args.node.now.verdicts c.args.ledger.chain c.args.verdicts.now made.2 c.laws-2.ensures.blocks)

pub returns-clause-all : goal.returns-clause-all
returns-clause-all g c =
    let made = c.requires.made in
    handed_over c.args.node.now c.give_verdicts.new.node c.take_over.new.self c.args.verdicts.now c.args.ledger.chain c.args.ledger.kept c.requires.empty c.laws.ensures.failures
    (valid_there c.blocks_have_one_text.ensures made.0 made.1 c.args.node.now.verdicts c.args.ledger.chain c.args.verdicts.now made.2 c.laws-2.ensures.blocks)
    c.in_ok-give_verdicts.ensures.all c.requires.kept c.take_over.ensures
