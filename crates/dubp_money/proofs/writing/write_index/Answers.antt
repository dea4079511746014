use Rattle.std.proofs.Common.{◌≡◌, ◌+◌, ◌^◌, ◌<◌, ◌∷◌, length, sum_by, sym, subst, arith}
use Rattle.std.specs.List.{flat_map}
use Rattle.dubp_sindex.specs.Accounts.{accounts}
use Rattle.dubp_sindex.specs.Rows.{units_of_entry}
use Rattle.dubp_money.specs.Texts.{Fits}
use Rattle.dubp_money.specs.Transactions.{records_of}
use Rattle.dubp_money.specs.Blocks.{paid}
use Rattle.dubp_money.proofs.Growing.{grows_same, grows_on, fits_more}
use Rattle.dubp_money.proofs.Applies.{rows_at, is_written, is_cleared, cleared_is, made_is, records_count}
use Rattle.dubp_money.proofs.writing.write_index.Goals as goal

pub returns-clause-at : goal.returns-clause-at
returns-clause-at g c = λ chain f stands.
    let b = c.args.block.now in
    let h = c.args.head.now in
    let w = is_written chain b h f.applied c.payment_of-payment.result c.args.members.now c.args.made c.payment_of-payment.ensures f.pays f.behind in
    let fits = c.in_ok-spend_and_make.ensures.fits chain w stands.0 in
    let cl = is_cleared chain b h f.applied c.units-limit.result (accounts c.spend_and_make.new.index) c.units-limit.ensures fits in
    let before = c.in_ok-spend_and_make.ensures.at chain w stands.0 (rows_at c.args.index.now (accounts c.args.index.now) chain stands.1) in
    (subst (λ l. Fits l (b ∷ chain)) (sym c.in_ok-taken.ensures.texts) fits, c.in_ok-taken.ensures.at chain b cl before)

pub returns-clause-taken : goal.returns-clause-taken
returns-clause-taken g c = λ chain f stands.
    let b = c.args.block.now in
    let h = c.args.head.now in
    let w = is_written chain b h f.applied c.payment_of-payment.result c.args.members.now c.args.made c.payment_of-payment.ensures f.pays f.behind in
    let fits = c.in_ok-spend_and_make.ensures.fits chain w stands.0 in
    let cl = is_cleared chain b h f.applied c.units-limit.result (accounts c.spend_and_make.new.index) c.units-limit.ensures fits in
    let before = c.in_ok-spend_and_make.ensures.at chain w stands.0 (rows_at c.args.index.now (accounts c.args.index.now) chain stands.1) in
    c.in_ok-taken.ensures.taken chain b cl before

pub returns-clause-made : goal.returns-clause-made
returns-clause-made g c = λ chain f stands.
    let b = c.args.block.now in
    let h = c.args.head.now in
    let payment = c.payment_of-payment.result in
    let keys = c.args.members.now in
    let w = is_written chain b h f.applied payment keys c.args.made c.payment_of-payment.ensures f.pays f.behind in
    let fits = c.in_ok-spend_and_make.ensures.fits chain w stands.0 in
    made_is chain b h f.applied payment keys c.args.made c.payment_of-payment.ensures f.pays f.behind c.count_made-behind.result fits.small (c.count_made-behind.ensures h.median_time)

pub returns-clause-cleared : goal.returns-clause-cleared
returns-clause-cleared g c = λ chain f stands.
    let b = c.args.block.now in
    let h = c.args.head.now in
    let payment = c.payment_of-payment.result in
    let keys = c.args.members.now in
    let w = is_written chain b h f.applied payment keys c.args.made c.payment_of-payment.ensures f.pays f.behind in
    let fits = c.in_ok-spend_and_make.ensures.fits chain w stands.0 in
    let cl = is_cleared chain b h f.applied c.units-limit.result (accounts c.spend_and_make.new.index) c.units-limit.ensures fits in
    let before = c.in_ok-spend_and_make.ensures.at chain w stands.0 (rows_at c.args.index.now (accounts c.args.index.now) chain stands.1) in
    let here = fits_more (accounts c.args.index.now) (accounts c.spend_and_make.new.index) c.in_ok-spend_and_make.ensures.texts chain stands.0 in
    cleared_is chain b h f.applied c.units-limit.result (accounts c.spend_and_make.new.index) here cl c.in_ok-taken.taken.items c.units_of-cleared.result (c.in_ok-taken.ensures.taken chain b cl before)
    (subst (λ l. sum_by units_of_entry l < 2 ^ 128 → c.units_of-cleared.result ≡ sum_by units_of_entry l) c.as_slice.ensures.value c.units_of-cleared.ensures)

pub returns-clause-steps : goal.returns-clause-steps
returns-clause-steps g c = λ chain f stands.
    let b = c.args.block.now in
    let h = c.args.head.now in
    let payment = c.payment_of-payment.result in
    let keys = c.args.members.now in
    let w = is_written chain b h f.applied payment keys c.args.made c.payment_of-payment.ensures f.pays f.behind in
    let fits = c.in_ok-spend_and_make.ensures.fits chain w stands.0 in
    let cl = is_cleared chain b h f.applied c.units-limit.result (accounts c.spend_and_make.new.index) c.units-limit.ensures fits in
    let before = c.in_ok-spend_and_make.ensures.at chain w stands.0 (rows_at c.args.index.now (accounts c.args.index.now) chain stands.1) in
    let spent = length (flat_map (records_of h.median_time b.currency) b.transactions) + length (paid payment keys) in
    let taken = c.in_ok-taken.taken.items in
    let count = records_count chain b h f.applied payment keys c.args.made c.payment_of-payment.ensures f.pays f.behind taken (c.in_ok-taken.ensures.taken chain b cl before) in
    omega (arith, count, c.in_ok-spend_and_make.ensures.steps, c.in_ok-taken.ensures.steps)

pub returns-clause-texts : goal.returns-clause-texts
returns-clause-texts g c =
    grows_on (accounts c.args.index.now) (accounts c.spend_and_make.new.index) (accounts c.clear_block.new.index) c.in_ok-spend_and_make.ensures.texts
    (grows_same (accounts c.spend_and_make.new.index) (accounts c.clear_block.new.index) c.in_ok-taken.ensures.texts)

pub returns-in_err-taken-clause-stays : goal.returns-in_err-taken-clause-stays
returns-in_err-taken-clause-stays g c = λ n s is. c.in_err-taken.ensures.stays n s (c.in_ok-spend_and_make.ensures.stays n s is)

pub returns-clause-stays : goal.returns-clause-stays
returns-clause-stays g c = λ n s is. c.in_ok-taken.ensures.stays n s (c.in_ok-spend_and_make.ensures.stays n s is)
