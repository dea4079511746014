use Rattle.std.proofs.Common.{subst}
use Rattle.dubp_rules.specs.First.{IsFirst}
use Rattle.dubp_validity.specs.Rules.{Holds}
use Rattle.dubp_kept.specs.Parts.{people_rules}
use Rattle.dubp_books.proofs.Asked.{next_to, asked_by, whole_hashes_are, people_break, money_decides}
use Rattle.dubp_books.proofs.judging.BooksJudges.first_broken.Goals as goal

pub people_rules-requires : goal.people_rules-requires
people_rules-requires g c =
    let chain = c.requires.to_judge.0 in
    let j = c.requires.to_judge.1.1 in
    (chain, (next_to c.args.head.now c.args.params.now, (c.requires.to_judge.1.0.0, (asked_by chain c.args.block.now c.args.head.now c.args.params.now j, j.head))))

pub returns-in-Some : goal.returns-in-Some
returns-in-Some g c = λ chain at j.
    let hold = Holds c.args.verdicts.now chain c.args.block.now in
    let asked = asked_by chain c.args.block.now c.args.head.now c.args.params.now j in
    people_break hold c.in-Some.rule (subst (IsFirst hold people_rules) c.in-Some.is (c.in_ok-rule.ensures chain (next_to c.args.head.now c.args.params.now) at.0 asked j.head))

pub returns : goal.returns
returns g c = λ chain at j.
    let v = c.args.verdicts.now in
    let hold = Holds v chain c.args.block.now in
    let asked = asked_by chain c.args.block.now c.args.head.now c.args.params.now j in
    money_decides hold c.in_ok-found.found (subst (IsFirst hold people_rules) c.in_default.is (c.in_ok-rule.ensures chain (next_to c.args.head.now c.args.params.now) at.0 asked j.head))
    (c.in_ok-found.ensures v chain at.1 asked j.head j.blocks (whole_hashes_are c.args.block.now c.args.hashes.now c.requires.hashes))
