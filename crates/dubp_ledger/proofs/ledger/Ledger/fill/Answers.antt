use Rattle.std.proofs.Common.{◌≡◌, ◌≤◌, ◌∙◌, true, length, arith, refl, sym, subst}
use Rattle.std.specs.Prelude.{All}
use Rattle.dubp_atoms.specs.Letters.{is_key}
use Rattle.dubp_block.specs.Text.{IsBlock}
use Rattle.dubp_chain.specs.Heads.{heads_of}
use Rattle.dubp_head.specs.Following.{MayFollow}
use Rattle.dubp_forging.specs.Filled.{IsFilled}
use Rattle.dubp_ledger.specs.Filling.{IsStated, hashed, stating}
use Rattle.dubp_ledger.proofs.Filled.{is_filled, may_follow, last_version, some_head, some_first, first_params, first_currency}
use Rattle.dubp_ledger.proofs.Excluded.{kicked_are_keys}
use Rattle.dubp_ledger.proofs.ledger.Ledger.fill.Goals as goal

pub unwrap-last-requires : goal.unwrap-last-requires
unwrap-last-requires g c = some_head c.args.self.now.chain c.head.result c.requires.some c.head.ensures

pub unwrap-first-requires : goal.unwrap-first-requires
unwrap-first-requires g c = some_first c.args.self.now.chain c.first.result c.requires.some (c.first.ensures c.args.self.now.chain c.tables.ensures)

pub place-block-requires-clause-version : goal.place-block-requires-clause-version
place-block-requires-clause-version g c =
    last_version c.args.self.now.chain c.unwrap-last.result c.laws.ensures.blocks (sym c.unwrap-last.ensures ∙ c.head.ensures)

pub place-block-requires-clause-excluded : goal.place-block-requires-clause-excluded
place-block-requires-clause-excluded g c =
    let chain = c.args.self.now.chain in
    subst (All (λ key. is_key key ≡ true)) (sym (c.in_ok-excluded.ensures chain c.tables-2.ensures c.laws.ensures.sound)) (kicked_are_keys chain c.laws.ensures.blocks)

pub stated_head-requires-clause-params : goal.stated_head-requires-clause-params
stated_head-requires-clause-params g c =
    first_params c.args.self.now.chain c.unwrap-first.result (sym c.unwrap-first.ensures ∙ c.first.ensures c.args.self.now.chain c.tables.ensures)

pub stated_head-requires-clause-may : goal.stated_head-requires-clause-may
stated_head-requires-clause-may g c =
    let chain = c.args.self.now.chain in
    let is = c.place-block.ensures.block in
    subst (MayFollow 0 (heads_of chain)) (sym is)
    (may_follow chain _ 0 c.requires.some (subst IsBlock is c.place-block.ensures.valid) c.requires.size c.len-number.ensures (omega (arith, c.if-number-ge-NUMBERS.false)) refl refl (omega arith))

pub stated_head-requires-clause-joiners : goal.stated_head-requires-clause-joiners
stated_head-requires-clause-joiners g c = subst (λ b. length b.joiners ≤ 65536) (sym c.place-block.ensures.block) c.requires.joiners

pub returns-clause-filled : goal.returns-clause-filled
returns-clause-filled g c =
    let chain = c.args.self.now.chain in
    let is = c.place-block.ensures.block in
    let h = c.in_ok-head.head in
    let first = sym c.unwrap-first.ensures ∙ c.first.ensures chain c.tables.ensures in
    subst (IsFilled chain c.args.draft) (sym (c.state.ensures.block))
    (subst (λ b. IsFilled chain c.args.draft (hashed (stating c.args.draft.time h b))) (sym is)
    (is_filled chain c.args.draft c.unwrap-first.result.currency c.len-number.result c.unwrap-last.result c.in_ok-excluded.excluded.items h c.requires.some c.len-number.ensures (sym c.unwrap-last.ensures ∙ c.head.ensures) (first_currency chain c.unwrap-first.result first)
    (c.in_ok-excluded.ensures chain c.tables-2.ensures c.laws.ensures.sound)
    (subst (λ b. IsStated chain b h) is c.in_ok-head.ensures.stated)))
