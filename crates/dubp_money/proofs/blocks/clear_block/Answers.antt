use Rattle.std.proofs.Common.{◌∷◌, map, sym, ap, ◌∙◌, subst}
use Rattle.dubp_undo.specs.States.{states}
use Rattle.dubp_sindex.specs.Accounts.{accounts}
use Rattle.dubp_sindex.specs.contracts.sindex.SIndexTablesSourceRows.TheImpl as tables
use Rattle.dubp_money_steps.specs.Left.{sources_left, sources_before_clearing}
use Rattle.dubp_money_steps.specs.Clearing.{clear_record}
use Rattle.dubp_money.proofs.BlockRows.{cleared_are_rows, kept_is, taken_is}
use Rattle.dubp_money.proofs.blocks.clear_block.Goals as goal

pub returns-clause-at : goal.returns-clause-at
returns-clause-at g c = λ chain b w has.
    let texts = accounts c.args.index.now in
    let left = c.in_ok-taken.ensures.left (sources_before_clearing texts chain b) (cleared_are_rows texts chain b c.args.limit w) has in
    subst (λ l. (tables.ghosts).at c.clear_accounts.new.index (states (sources_left l) (b ∷ chain))) (sym c.in_ok-taken.ensures.texts)
    (subst (λ rows. (tables.ghosts).at c.clear_accounts.new.index (rows ∷ states (sources_left texts) chain)) (kept_is texts chain b c.args.limit w) left)

pub returns-clause-taken : goal.returns-clause-taken
returns-clause-taken g c = λ chain b w has.
    let texts = accounts c.args.index.now in
    ap (map clear_record) (c.in_ok-taken.ensures.taken (sources_before_clearing texts chain b) (cleared_are_rows texts chain b c.args.limit w) has) ∙ taken_is texts chain b c.args.limit w
