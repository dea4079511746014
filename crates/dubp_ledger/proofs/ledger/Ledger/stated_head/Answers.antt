use Rattle.std.proofs.Common.{subst, sym}
use Rattle.dubp_params.specs.Ranges.{IsInRange}
use Rattle.dubp_head.specs.Following.{MayFollow}
use Rattle.dubp_ledger.proofs.Stated.{stated, stated_without, range, range_without, steered_now}
use Rattle.dubp_ledger.proofs.Members.{few, follows}
use Rattle.dubp_ledger.proofs.ledger.Ledger.stated_head.Goals as goal

pub augment_over-requires-clause-valid : goal.augment_over-requires-clause-valid
augment_over-requires-clause-valid g c =
    subst IsInRange (sym c.requires.params) (steered_now c.args.self.now.chain c.requires.some c.heads.ensures.steered)

pub augment_over-requires-clause-block : goal.augment_over-requires-clause-block
augment_over-requires-clause-block g c =
    let chain = c.args.self.now.chain in
    let may = follows c.in_ok-members.members _ c.args.block.now (few chain c.args.block.now c.in_ok-members.members (c.in_ok-members.ensures chain c.tables.ensures c.heads.ensures.sound) c.heads.ensures.sound c.requires.joiners) c.requires.may in
    subst (λ hs. MayFollow c.in_ok-members.members hs c.args.block.now) (sym c.heads.ensures.are) may

pub returns-in-Ok-clause-stated : goal.returns-in-Ok-clause-stated
returns-in-Ok-clause-stated g c =
    let chain = c.args.self.now.chain in
    stated chain c.args.block.now c.heads.result.now c.args.params.now c.in_ok-members.members c.in-Ok.head c.heads.ensures c.requires.some c.requires.params (c.in_ok-members.ensures chain c.tables.ensures c.heads.ensures.sound) c.in-Ok.ensures.head.0 c.in-Ok.ensures.head.1

pub returns-in-Ok-clause-range : goal.returns-in-Ok-clause-range
returns-in-Ok-clause-range g c =
    let chain = c.args.self.now.chain in
    range chain c.args.block.now c.heads.result.now c.args.params.now c.in_ok-members.members c.in-Ok.head c.heads.ensures c.requires.some c.requires.params (c.in_ok-members.ensures chain c.tables.ensures c.heads.ensures.sound) (few chain c.args.block.now c.in_ok-members.members (c.in_ok-members.ensures chain c.tables.ensures c.heads.ensures.sound) c.heads.ensures.sound c.requires.joiners) c.in-Ok.ensures.head.0 c.in-Ok.ensures.head.1

pub returns-in-Err-clause-stated : goal.returns-in-Err-clause-stated
returns-in-Err-clause-stated g c =
    let chain = c.args.self.now.chain in
    let r = c.in-Err in
    stated_without chain c.args.block.now c.heads.result.now c.args.params.now c.in_ok-members.members r.passed.head c.heads.ensures c.requires.some c.requires.params (c.in_ok-members.ensures chain c.tables.ensures c.heads.ensures.sound) r.passed.rule r.ensures.passed

pub returns-in-Err-clause-range : goal.returns-in-Err-clause-range
returns-in-Err-clause-range g c =
    let chain = c.args.self.now.chain in
    let r = c.in-Err in
    range_without chain c.args.block.now c.heads.result.now c.args.params.now c.in_ok-members.members r.passed.head c.heads.ensures c.requires.some c.requires.params (c.in_ok-members.ensures chain c.tables.ensures c.heads.ensures.sound) (few chain c.args.block.now c.in_ok-members.members (c.in_ok-members.ensures chain c.tables.ensures c.heads.ensures.sound) c.heads.ensures.sound c.requires.joiners) r.passed.rule r.ensures.passed
