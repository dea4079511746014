use Rattle.std.proofs.Common.{List, ◌≡◌, ◌+◌, ◌<◌, take, get_or, length, ap, ◌∙◌, subst, length-append, arith, refl}
use Rattle.std.specs.List.{flat_map}
use Rattle.dubp_docs.specs.Spelling.{tx_hash}
use Rattle.dubp_chain.specs.Money.{outputs_made}
use Rattle.dubp_sindex.specs.Accounts.{accounts}
use Rattle.dubp_sindex.specs.Rows.{Entry, AreRows}
use Rattle.dubp_money_steps.specs.Left.{HasTexts}
use Rattle.dubp_money.specs.Index.{HasRows}
use Rattle.dubp_money.specs.Writing.{without_inputs}
use Rattle.dubp_money.specs.Making.{outputs_at, CanFollow, with_made}
use Rattle.dubp_money.specs.Transactions.{all_outputs, records_of}
use Rattle.dubp_money.proofs.Growing.{grows_none, grows_on}
use Rattle.dubp_money.proofs.Made.{outputs-length}
use Rattle.dubp_money.proofs.Written.{written_next, outputs_few, flat_next, records-length, has_written, hash_is}
use Rattle.dubp_money.proofs.transactions.write_transactions.Goals as goal

pub loop-i-init : goal.loop-i-init
loop-i-init g c = record {
  at = λ rows are can has. has;
  has = tt;
  texts = grows_none (accounts c.args.index.now);
  place = λ few. omega arith;
  steps = omega arith;
  stays = λ n s is. is;
  others = refl;
  count = omega arith;
}

pub loop-i-preserved : goal.loop-i-preserved
loop-i-preserved g c =
    let time = c.args.time in
    let currency = c.args.block.now.currency in
    let txs = c.args.block.now.transactions in
    let n = c.args.order in
    let i = c.loop-i.i in
    let tx = c.index-txs-i.result in
    let within : i < length txs = omega (arith, ap length c.as_slice-txs.ensures) in
    let is : tx ≡ get_or txs i tx = subst (λ l. tx ≡ get_or l i tx) c.as_slice-txs.ensures c.index-txs-i.is in
    let texts = accounts c.loop-i.index in
    let texts' = accounts c.write_transaction.new.index in
    let hash = hash_is c.args.block.now c.args.hashes.now c.requires.hashes i tx c.index-hashes-i.result within is in
    let more = flat_next (records_of time currency) txs i tx within is in
    let counted : length (flat_map (records_of time currency) (take (i + 1) txs)) ≡ length (flat_map (records_of time currency) (take i txs)) + (length tx.inputs + length tx.outputs) =
    omega (arith, ap length more, length-append (flat_map (records_of time currency) (take i txs)) (records_of time currency tx), records-length time currency tx) in
    record {
      at = λ rows are can has.
          written_next time currency (HasRows c.loop-i.index) (HasRows c.write_transaction.new.index) texts texts' c.in_ok-write_transaction.ensures.texts rows n c.loop-i.place txs i tx within is
          (c.loop-i.invariant.place (omega (arith, can.few, outputs_few time currency txs i tx within is)))
          are can c.loop-i.invariant.has (c.loop-i.invariant.at rows are can has)
          (subst (λ h. (xs : List Entry) → AreRows xs → CanFollow (without_inputs tx.inputs xs) c.loop-i.place (outputs_at time h tx) → HasRows c.loop-i.index xs → HasRows c.write_transaction.new.index (with_made texts' (without_inputs tx.inputs xs) c.loop-i.place (outputs_at time h tx)))
          hash c.in_ok-write_transaction.ensures.at);
      has = has_written texts texts' c.in_ok-write_transaction.ensures.texts time currency txs i tx within is c.loop-i.invariant.has (subst (λ h. HasTexts texts' (outputs_at time h tx)) hash c.in_ok-write_transaction.ensures.has);
      texts = grows_on (accounts c.args.index.now) texts texts' c.loop-i.invariant.texts c.in_ok-write_transaction.ensures.texts;
      place = λ few.
          let counted : length (all_outputs time currency (take (i + 1) txs)) ≡ length (all_outputs time currency (take i txs)) + length tx.outputs =
          omega (
            arith,
            ap length (flat_next (outputs_made time currency) txs i tx within is),
            length-append (all_outputs time currency (take i txs)) (outputs_made time currency tx),
            outputs-length time (tx_hash currency tx) 0 tx.outputs,
          ) in
          let was = c.loop-i.invariant.place (omega (arith, few, counted)) in
          omega (arith, few, counted, was, c.len.ensures, c.place_behind-place.ensures (omega (arith, few, counted, was, c.len.ensures)));
      steps = omega (arith, counted, c.in_ok-write_transaction.ensures.steps, c.loop-i.invariant.steps);
      stays = λ n s is. c.in_ok-write_transaction.ensures.stays n s (c.loop-i.invariant.stays n s is);
      others = c.in_ok-write_transaction.ensures.others ∙ c.loop-i.invariant.others;
      count = omega (arith, c.in_ok-write_transaction.ensures.count, c.loop-i.invariant.count);
    }

pub returns-in_err-write_transaction-clause-stays : goal.returns-in_err-write_transaction-clause-stays
returns-in_err-write_transaction-clause-stays g c = λ n s is. c.in_err-write_transaction.ensures.stays n s (c.loop-i.invariant.stays n s is)
