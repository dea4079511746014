use Rattle.std.proofs.Common.{◌+◌, ◌≤◌, ◌<◌, ◌∙◌, Err, IfErr, OnOk, List, drop, sym, subst, length, arith, refl}
use Rattle.dubp_block.specs.declared.block.Block.{Block}
use Rattle.dubp_ledger.specs.OfKept.{steps_of_last}
use Rattle.dubp_forks.specs.Entries.{blocks_in}
use Rattle.dubp_forks.specs.Stores.{AreOutside, state_of}
use Rattle.dubp_forks.specs.Switches.{Switched, TakesFew}
use Rattle.dubp_forks.specs.Switching.{HasSwitched, IsLaid, IsWhyNot}
use Rattle.dubp_forks.proofs.Kept.{kept_len}
use Rattle.dubp_forks.proofs.Whole.{IsSwitch, detached_is, few_steps, laid, storable, too_much_is, whole}
use Rattle.dubp_forks.proofs.store.Store.switch.Goals as goal

pub returns-in-Err-clause-switched : goal.returns-in-Err-clause-switched
returns-in-Err-clause-switched g c =
    let store = blocks_in c.self.inside.blocks.entries in
    let p = c.in-Ok in
    let d = c.in-Err.ensures.detached in
    let some : 0 < length p.path.stamps.items = grind arith in
    subst (λ (s : List Block). Switched (state_of c.args.verdicts.now c.args.ledger.now s) c.args.stamp (Err c.in-Err.refusal) (state_of c.args.verdicts.now c.args.ledger.now s)) c.self.view_is
    (detached_is c.args.verdicts.now c.args.ledger.now store c.args.stamp p.path.stamps.items p.path.end c.self.invariant.stored p.ensures some c.in-Err.refusal d.0 d.1 d.2 d.3)

pub returns-in-Err-check_room-clause-switched : goal.returns-in-Err-check_room-clause-switched
returns-in-Err-check_room-clause-switched g c =
    let store = blocks_in c.self.inside.blocks.entries in
    let p = c.in-Ok in
    let e = c.in-Err-check_room in
    let some : 0 < length p.path.stamps.items = grind arith in
    let many = c.len.ensures.len ∙ kept_len c.self.inside.blocks.entries store c.self.invariant refl in
    subst (λ (s : List Block). Switched (state_of c.args.verdicts.now c.args.ledger.now s) c.args.stamp (Err e.refusal) (state_of c.args.verdicts.now c.args.ledger.now s)) c.self.view_is
    (too_much_is c.args.verdicts.now c.args.ledger.now store c.args.stamp p.path.stamps.items p.path.end c.self.invariant.stored p.ensures some c.in-Ok-count_behind.count c.in-Ok-count_behind.ensures.found c.kept.result _ e.refusal c.kept.ensures (omega (arith, many)) e.ensures.refused)

pub replace-requires-clause-laid : goal.replace-requires-clause-laid
replace-requires-clause-laid g c =
    let store = blocks_in c.self.inside.blocks.entries in
    let p = c.in-Ok in
    rw c.as_slice.ensures.value (p.ensures.path, laid c.args.verdicts.now c.args.ledger.now store c.args.stamp p.path.stamps.items p.path.end c.self.invariant.stored p.ensures)

pub invariant_of-self : goal.invariant_of-self
invariant_of-self g c =
    let store = blocks_in c.self.inside.blocks.entries in
    let p = c.in-Ok in
    let some : 0 < length p.path.stamps.items = grind arith in
    let many = c.len.ensures.len ∙ kept_len c.self.inside.blocks.entries store c.self.invariant refl in
    let room = c.in_default-check_room.ensures.fits in
    let slice = c.as_slice.ensures.value in
    let made : IsSwitch c.args.verdicts.now c.args.ledger.now store c.args.stamp c.replace.result c.replace.new.blocks.entries c.replace.new.ledger =
    whole c.args.verdicts.now c.args.ledger.now store c.args.stamp p.path.stamps.items p.path.end c.self.invariant.stored p.ensures some c.in-Ok-count_behind.count c.in-Ok-count_behind.ensures.found
    (omega (arith, room.0, c.kept.ensures)) (omega (arith, room.1, many)) c.requires.alone c.laws.ensures.sound (storable c.args.ledger.now.chain c.laws.ensures.blocks c.laws.ensures.short) (subst (λ (s : List Block). AreOutside s c.args.ledger.now.chain) (sym c.self.view_is) c.requires.outside)
    c.self.inside.blocks.entries c.replace.new.blocks.entries c.replace.new.ledger c.replace.result c.self.invariant refl
    (subst (λ keys. OnOk c.replace.result ((path : List Block) → IsLaid store keys path → HasSwitched c.args.verdicts.now c.args.ledger.now store path c.in-Ok-count_behind.count c.replace.new.blocks.entries c.replace.new.ledger)) slice c.replace.ensures.switched)
    c.replace.ensures.back c.replace.ensures.same
    (subst (λ keys. IfErr c.replace.result (λ refusal. (path : List Block) → IsLaid store keys path → IsWhyNot c.args.verdicts.now (drop c.in-Ok-count_behind.count c.args.ledger.now.chain) path refusal)) slice c.replace.ensures.refused) in
    made.kept

pub returns-clause-switched : goal.returns-clause-switched
returns-clause-switched g c =
    let store = blocks_in c.self.inside.blocks.entries in
    let p = c.in-Ok in
    let some : 0 < length p.path.stamps.items = grind arith in
    let many = c.len.ensures.len ∙ kept_len c.self.inside.blocks.entries store c.self.invariant refl in
    let room = c.in_default-check_room.ensures.fits in
    let slice = c.as_slice.ensures.value in
    let made : IsSwitch c.args.verdicts.now c.args.ledger.now store c.args.stamp c.replace.result c.replace.new.blocks.entries c.replace.new.ledger =
    whole c.args.verdicts.now c.args.ledger.now store c.args.stamp p.path.stamps.items p.path.end c.self.invariant.stored p.ensures some c.in-Ok-count_behind.count c.in-Ok-count_behind.ensures.found
    (omega (arith, room.0, c.kept.ensures)) (omega (arith, room.1, many)) c.requires.alone c.laws.ensures.sound (storable c.args.ledger.now.chain c.laws.ensures.blocks c.laws.ensures.short) (subst (λ (s : List Block). AreOutside s c.args.ledger.now.chain) (sym c.self.view_is) c.requires.outside)
    c.self.inside.blocks.entries c.replace.new.blocks.entries c.replace.new.ledger c.replace.result c.self.invariant refl
    (subst (λ keys. OnOk c.replace.result ((path : List Block) → IsLaid store keys path → HasSwitched c.args.verdicts.now c.args.ledger.now store path c.in-Ok-count_behind.count c.replace.new.blocks.entries c.replace.new.ledger)) slice c.replace.ensures.switched)
    c.replace.ensures.back c.replace.ensures.same
    (subst (λ keys. IfErr c.replace.result (λ refusal. (path : List Block) → IsLaid store keys path → IsWhyNot c.args.verdicts.now (drop c.in-Ok-count_behind.count c.args.ledger.now.chain) path refusal)) slice c.replace.ensures.refused) in
    subst (λ (s : List Block). Switched (state_of c.args.verdicts.now c.args.ledger.now s) c.args.stamp c.replace.result (state_of c.args.verdicts.now c.replace.new.ledger (blocks_in c.replace.new.blocks.entries))) c.self.view_is made.switched

pub returns-clause-out : goal.returns-clause-out
returns-clause-out g c =
    let store = blocks_in c.self.inside.blocks.entries in
    let p = c.in-Ok in
    let some : 0 < length p.path.stamps.items = grind arith in
    let many = c.len.ensures.len ∙ kept_len c.self.inside.blocks.entries store c.self.invariant refl in
    let room = c.in_default-check_room.ensures.fits in
    let slice = c.as_slice.ensures.value in
    let made : IsSwitch c.args.verdicts.now c.args.ledger.now store c.args.stamp c.replace.result c.replace.new.blocks.entries c.replace.new.ledger =
    whole c.args.verdicts.now c.args.ledger.now store c.args.stamp p.path.stamps.items p.path.end c.self.invariant.stored p.ensures some c.in-Ok-count_behind.count c.in-Ok-count_behind.ensures.found
    (omega (arith, room.0, c.kept.ensures)) (omega (arith, room.1, many)) c.requires.alone c.laws.ensures.sound (storable c.args.ledger.now.chain c.laws.ensures.blocks c.laws.ensures.short) (subst (λ (s : List Block). AreOutside s c.args.ledger.now.chain) (sym c.self.view_is) c.requires.outside)
    c.self.inside.blocks.entries c.replace.new.blocks.entries c.replace.new.ledger c.replace.result c.self.invariant refl
    (subst (λ keys. OnOk c.replace.result ((path : List Block) → IsLaid store keys path → HasSwitched c.args.verdicts.now c.args.ledger.now store path c.in-Ok-count_behind.count c.replace.new.blocks.entries c.replace.new.ledger)) slice c.replace.ensures.switched)
    c.replace.ensures.back c.replace.ensures.same
    (subst (λ keys. IfErr c.replace.result (λ refusal. (path : List Block) → IsLaid store keys path → IsWhyNot c.args.verdicts.now (drop c.in-Ok-count_behind.count c.args.ledger.now.chain) path refusal)) slice c.replace.ensures.refused) in
    made.out

pub returns-clause-outside : goal.returns-clause-outside
returns-clause-outside g c =
    let store = blocks_in c.self.inside.blocks.entries in
    let p = c.in-Ok in
    let some : 0 < length p.path.stamps.items = grind arith in
    let many = c.len.ensures.len ∙ kept_len c.self.inside.blocks.entries store c.self.invariant refl in
    let room = c.in_default-check_room.ensures.fits in
    let slice = c.as_slice.ensures.value in
    let made : IsSwitch c.args.verdicts.now c.args.ledger.now store c.args.stamp c.replace.result c.replace.new.blocks.entries c.replace.new.ledger =
    whole c.args.verdicts.now c.args.ledger.now store c.args.stamp p.path.stamps.items p.path.end c.self.invariant.stored p.ensures some c.in-Ok-count_behind.count c.in-Ok-count_behind.ensures.found
    (omega (arith, room.0, c.kept.ensures)) (omega (arith, room.1, many)) c.requires.alone c.laws.ensures.sound (storable c.args.ledger.now.chain c.laws.ensures.blocks c.laws.ensures.short) (subst (λ (s : List Block). AreOutside s c.args.ledger.now.chain) (sym c.self.view_is) c.requires.outside)
    c.self.inside.blocks.entries c.replace.new.blocks.entries c.replace.new.ledger c.replace.result c.self.invariant refl
    (subst (λ keys. OnOk c.replace.result ((path : List Block) → IsLaid store keys path → HasSwitched c.args.verdicts.now c.args.ledger.now store path c.in-Ok-count_behind.count c.replace.new.blocks.entries c.replace.new.ledger)) slice c.replace.ensures.switched)
    c.replace.ensures.back c.replace.ensures.same
    (subst (λ keys. IfErr c.replace.result (λ refusal. (path : List Block) → IsLaid store keys path → IsWhyNot c.args.verdicts.now (drop c.in-Ok-count_behind.count c.args.ledger.now.chain) path refusal)) slice c.replace.ensures.refused) in
    made.outside

pub returns-clause-steps : goal.returns-clause-steps
returns-clause-steps g c =
    let store = blocks_in c.self.inside.blocks.entries in
    let p = c.in-Ok in
    let some : 0 < length p.path.stamps.items = grind arith in
    let many = c.len.ensures.len ∙ kept_len c.self.inside.blocks.entries store c.self.invariant refl in
    let room = c.in_default-check_room.ensures.fits in
    let count = c.in-Ok-count_behind.count in
    let chain = c.args.ledger.now.chain in
    let then = c.replace.new.ledger.chain in
    subst (λ (s : List Block). OnOk c.replace.result (TakesFew (state_of c.args.verdicts.now c.args.ledger.now s) c.args.stamp then c.args.steps.now c.replace.new.steps)) c.self.view_is
    (few_steps c.args.verdicts.now c.args.ledger.now store c.args.stamp p.path.stamps.items p.path.end c.self.invariant.stored p.ensures some count c.in-Ok-count_behind.ensures.found
    (omega (arith, room.0, c.kept.ensures)) (omega (arith, room.1, many)) c.requires.alone c.laws.ensures.sound (storable chain c.laws.ensures.blocks c.laws.ensures.short) (subst (λ (s : List Block). AreOutside s chain) (sym c.self.view_is) c.requires.outside)
    c.replace.result then c.args.steps.now c.replace.new.steps
    (subst (λ keys. OnOk c.replace.result (c.replace.new.steps ≤ c.args.steps.now + (steps_of_last count chain + steps_of_last (length keys) then))) c.as_slice.ensures.value c.replace.ensures.steps))
