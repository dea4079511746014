use Rattle.std.proofs.Common.{length, ap, inl, inr, arith}
use Rattle.std.proofs.lemmas.Bool.{cases_lt}
use Rattle.dubp_head.specs.Counts.{CountsState}
use Rattle.dubp_head.proofs.Counting.{length-kept}
use Rattle.dubp_head.proofs.counts.Counts.grow_to.Goals as goal

pub returns-clause-blocks : goal.returns-clause-blocks
returns-clause-blocks c under =
    let i = c.loop.invariant in
    let whole = length-kept _ _ c.requires.are in
    let numbers = ap (λ (s : CountsState). length s.numbers) c.self.view_is in
    elim (cases_lt c.args.self.now.blocks c.loop.counter) [
      | inl more ↦ omega (arith, i.blocks, i.bound more, c.loop-test.false, c.min-wanted.ensures, c.len.ensures, c.self.inside.numbers.ok.0, numbers)
      | inr none ↦ omega (arith, i.blocks, i.from, none, c.loop-test.false, under, c.min-wanted.ensures, c.len.ensures, c.self.inside.numbers.ok.0, numbers, c.requires.are.blocks, whole)
    ]
