use Rattle.std.proofs.Common.{map, ap, ◌∙◌}
use Rattle.dubp_docs.specs.Hashes.{hashes_of}
use Rattle.dubp_money_rules.specs.Lines.{whole_hashes}
use Rattle.dubp_money_rules.proofs.OfMoney.{whole_hashes-all}
use Rattle.dubp_money_rules.proofs.first.money_rules.Goals as goal

pub returns : goal.returns
returns c = λ v ch next at asked head are.
    let block = c.args.block.now in
    c.in_ok-found.ensures v ch at
    (record { sound = asked.sound; block = asked.block; is_next = c.next_of-next.ensures ch (c.facts.ensures ch at) head; before = asked.before })
    head are (ap whole_hashes (c.as_slice-2.ensures.value ∙ c.in_ok-hashes.ensures ∙ ap (map (hashes_of block.currency)) c.as_slice.ensures) ∙ whole_hashes-all block.currency block.transactions)
