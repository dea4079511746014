use Rattle.std.proofs.Common.{◌≡◌, ◌∙◌, ◌≤◌, ◌+◌, ◌++◌, not, filter, take, reverse, ap, sym, subst, length, min, arith}
use Rattle.std.specs.List.{list_any}
use Rattle.dubp_block.specs.Text.{stamp_of}
use Rattle.dubp_atoms.specs.Same.{same_stamp}
use Rattle.dubp_ledger.specs.OfKept.{steps_of_last}
use Rattle.dubp_replay.specs.Turns.{IsAcceptedOn, is_on}
use Rattle.dubp_forks.specs.Entries.{blocks_in, entries_of}
use Rattle.dubp_forks.specs.Switching.{IsLaid, IsOnward}
use Rattle.dubp_forks.proofs.Lasting.{left_apart}
use Rattle.dubp_forks.proofs.Keyed.{filter-keyed}
use Rattle.dubp_forks.proofs.Stamps.{stamps}
use Rattle.dubp_forks.proofs.switching.replace.Goals as goal

pub returns-clause-switched : goal.returns-clause-switched
returns-clause-switched g c = λ path laid.
    let count = c.args.count in
    let chain = c.args.ledger.now.chain in
    let store = blocks_in c.args.blocks.now.entries in
    let same : c.reserve.new.self.entries ≡ c.args.blocks.now.entries = c.reserve.ensures.entries in
    let on : IsOnward c.args.verdicts.now c.hold.new.self path c.accept_all.new.ledger =
    c.in_default-accept_all.ensures.accepted path (subst (λ es. IsLaid (blocks_in es) c.args.stamps.now path) (sym same) laid) in
    let held = c.in-Ok-hold.ensures in
    let left = filter (λ b. not (is_on path b)) store in
    let last = reverse (take count chain) in
    let rows : c.drop_path.new.blocks.entries ≡ entries_of left =
    c.drop_path.ensures.entries
    ∙ ap (filter (λ e. not (list_any (λ k. same_stamp k e.0) c.args.stamps.now))) (same ∙ c.requires.kept.whole)
    ∙ ap (λ keys. filter (λ e. not (list_any (λ k. same_stamp k e.0) keys)) (entries_of store)) laid.stamps
    ∙ filter-keyed same_stamp stamp_of stamps path store in
    let apart = left_apart store path chain count c.requires.kept.stored c.requires.sound c.requires.outside in
    record {
      passed = subst (λ x. IsAcceptedOn c.args.verdicts.now x path) held.chain on.passed;
      entries = c.put_last.ensures left last rows c.in-Ok.ensures.entries apart;
      chain = c.settle.ensures.chain ∙ on.chain ∙ ap (λ x. path ++ x) held.chain;
      kept = c.settle.ensures.kept ∙ ap (λ n. min n 100) (on.kept ∙ ap (λ n. n + length path) (omega (arith, held.kept)));
      out = c.settle.ensures.out;
    }

pub returns-clause-steps : goal.returns-clause-steps
returns-clause-steps g c =
    let chain = c.args.ledger.now.chain in
    subst (λ x. c.accept_all.new.steps ≤ c.args.steps.now + (steps_of_last c.args.count chain + steps_of_last (length c.args.stamps.now) x)) (sym c.settle.ensures.chain)
    (omega (arith, c.in_default-accept_all.ensures.steps, c.in-Ok-hold.ensures.steps))
