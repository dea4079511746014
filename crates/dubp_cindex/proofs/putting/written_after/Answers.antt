use Rattle.std.proofs.Common.{◌==◌, false, Some, ap, sym, subst, ◌∙◌, arith}
use Rattle.std.specs.Option.{option_map_or}
use Rattle.dubp_cindex.specs.declared.row.CertRow.{CertRow}
use Rattle.dubp_cindex.specs.Putting.{IsGreatestBesides}
use Rattle.dubp_cindex.proofs.Written.{written_first, written_later, written_put, written_same}
use Rattle.dubp_cindex.proofs.putting.written_after.Goals as goal

pub returns-in_default : goal.returns-in_default
returns-in_default c = λ rows at before was. written_first rows c.args.from.now c.args.to.now c.args.row.now (sym was ∙ c.in_default.is)

pub returns-then-issuer-row : goal.returns-then-issuer-row
returns-then-issuer-row c = λ rows at before was. written_later rows c.args.from.now c.args.to.now c.args.row.now c.in-Some.issuer (sym was ∙ c.in-Some.is) (omega (arith, c.if-issuer-row.true))

pub returns-then-is_of_block : goal.returns-then-is_of_block
returns-then-is_of_block c = λ rows at before was.
    written_put rows c.args.from.now c.args.to.now c.args.row.now c.greatest_besides.result (subst (λ v. IsGreatestBesides v c.args.to.now c.args.row.now.written c.greatest_besides.result) (λ i y. at (c.args.from.now, Some y) i) c.greatest_besides.ensures)

pub returns : goal.returns
returns c = λ rows at before was.
    written_same rows c.args.from.now c.args.to.now c.args.row.now c.in-Some.issuer (sym was ∙ c.in-Some.is) (omega (arith, c.if-issuer-row.false))
    (ap (λ o. option_map_or (λ (r : CertRow). r.written == c.in-Some.issuer.written) o false) (sym before) ∙ sym c.is_of_block.ensures ∙ c.if-is_of_block.false)
