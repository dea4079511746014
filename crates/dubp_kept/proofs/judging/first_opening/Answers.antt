use Rattle.std.proofs.Common.{None, Some, option_copied, reverse, sym, subst}
use Rattle.dubp_kept.specs.OfLocal.{AreParamsOf, FirstLocal, IsChecked, asked_rules}
use Rattle.dubp_kept.specs.Asking.{Asks}
use Rattle.dubp_kept.proofs.Orders.{local_breaks, number_breaks, opening_holds}
use Rattle.dubp_kept.proofs.Asking.{local_asked}
use Rattle.dubp_kept.proofs.judging.first_opening.Goals as goal

pub returns-in-Breaks : goal.returns-in-Breaks
returns-in-Breaks c =
    let chain = reverse c.args.blocks.now in
    let b = c.args.block.now in
    let v = c.args.verdicts.now in
    let asked = c.args.asked in
    let are = subst (λ o. AreParamsOf o chain) (sym c.stated_params.ensures) c.requires.known.stated in
    let found = subst (IsChecked (FirstLocal (asked_rules asked) v (option_copied c.stated_params.result) b) b) c.in-Breaks.is c.in_ok-rule.ensures in
    local_breaks (Asks asked v chain b) tt tt c.in-Breaks.rule (local_asked v chain b asked (Some c.in-Breaks.rule) (found chain are))

pub returns-then-number_is_next : goal.returns-then-number_is_next
returns-then-number_is_next c =
    let chain = reverse c.args.blocks.now in
    let b = c.args.block.now in
    let v = c.args.verdicts.now in
    let asked = c.args.asked in
    let are = subst (λ o. AreParamsOf o chain) (sym c.stated_params.ensures) c.requires.known.stated in
    let found = subst (IsChecked (FirstLocal (asked_rules asked) v (option_copied c.stated_params.result) b) b) c.in-Keeps.is c.in_ok-rule.ensures in
    (opening_holds (Asks asked v chain b) tt tt (local_asked v chain b asked None (found.0 chain are)) (c.number_is_next.ensures.0 (let is = c.if-number_is_next.true in cc)), found.1)

pub returns-else-number_is_next : goal.returns-else-number_is_next
returns-else-number_is_next c =
    let chain = reverse c.args.blocks.now in
    let b = c.args.block.now in
    let v = c.args.verdicts.now in
    let asked = c.args.asked in
    let are = subst (λ o. AreParamsOf o chain) (sym c.stated_params.ensures) c.requires.known.stated in
    let found = subst (IsChecked (FirstLocal (asked_rules asked) v (option_copied c.stated_params.result) b) b) c.in-Keeps.is c.in_ok-rule.ensures in
    number_breaks (Asks asked v chain b) tt tt (local_asked v chain b asked None (found.0 chain are)) (λ holds. let is = c.number_is_next.ensures.1 holds in let not = c.if-number_is_next.false in cc)
