use Rattle.std.proofs.Common.{sym, ◌∙◌, arith}
use Rattle.std.proofs.lemmas.Bool.{false≢true}
use borrow.Author.Count.{below_more}
use Rattle.dubp_drafts.specs.Sealing.{MeetsWith}
use Rattle.dubp_drafts.proofs.sealing.least_nonce.Goals as goal

pub returns-then-meets-clause-meets : goal.returns-then-meets-clause-meets
returns-then-meets-clause-meets c =
    rw (← c.hash_with.ensures c.args.block.now c.of-begun.ensures) (c.meets.ensures.0 c.if-meets.true)

pub loop-nonce-preserved : goal.loop-nonce-preserved
loop-nonce-preserved c =
    let block = c.args.block.now in
    below_more (λ n. MeetsWith block n c.args.difficulty → ⊥) c.loop-nonce.nonce c.loop-nonce.invariant
    (λ m. false≢true (sym c.if-meets.false ∙ c.meets.ensures.1 (rw (c.hash_with.ensures block c.of-begun.ensures) m)))

pub returns-clause-none : goal.returns-clause-none
returns-clause-none c n within = c.loop-nonce.invariant n (omega arith)
