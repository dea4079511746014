use Rattle.std.proofs.Common.{[], map, ap, refl, ◌++◌, ◌∙◌, length}
use Rattle.dubp_validity.specs.declared.record.Record.TheVariants.{Dividend}
use Rattle.dubp_validity.specs.Records.{input_of}
use Rattle.dubp_chain.specs.Money.{made_sources}
use Rattle.std.specs.List.{flat_map}
use Rattle.dubp_money.specs.Transactions.{records_of}
use Rattle.dubp_money.specs.Blocks.{paid}
use Rattle.dubp_money.proofs.Applies.{records_are}
use Rattle.dubp_money.proofs.applying.all_records.Goals as goal

pub returns : goal.returns
returns c = λ chain applied are was.
    let b = c.args.block.now in
    let h = c.args.head.now in
    let payment = c.payment_of.result in
    let keys = c.args.members.now in
    records_are chain b h applied payment keys (length (made_sources chain)) c.payment_of.ensures are refl [] c.put_payment.new.out.items c.append.new.out.items
    (c.in_ok-put_payment.ensures.appended ∙ ap (λ l. l ++ map (λ s. Dividend (input_of s)) (paid payment keys)) (c.in_ok-put_transactions.ensures.appended h.median_time ∙ ap (λ l. l ++ flat_map (records_of h.median_time b.currency) b.transactions) c.new-records.ensures.items))
    (c.in_ok-append.ensures.appended ∙ ap (λ l. c.put_payment.new.out.items ++ l) was)
