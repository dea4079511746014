use Rattle.std.proofs.Common.{length, ap, ◌∙◌, arith}
use Rattle.std.proofs.lemmas.Fmt.{length-decimal-le}
use Rattle.dubp_atoms.proofs.number.put_number.Goals as goal

pub returns-clause-short : goal.returns-clause-short
returns-clause-short c = λ small.
    omega (arith, c.put_bytes.ensures.room, ap length (c.as_bytes.ensures.value ∙ c.format.ensures.text), length-decimal-le 16 c.args.n (omega arith) (omega arith) (omega arith))
