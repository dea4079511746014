use Rattle.std.proofs.Common.{nat_eq, ◌∙◌, sym, ap, arith}
use Rattle.std.specs.Prelude.{count_by}
use Rattle.std.proofs.lemmas.List.{get_or_past}
use Rattle.dubp_wot.specs.Sought.{SoughtKeys}
use Rattle.dubp_wot.proofs.sought.Sought.count.Goals as goal

pub returns-else-number-len : goal.returns-else-number-len
returns-else-number-len c =
    let n = c.args.number in
    sym (get_or_past c.self.inside.counts.items n 0 (omega arith)) ∙ c.self.invariant n ∙ ap (λ (s : SoughtKeys). count_by (nat_eq n) s.numbers) c.self.view_is
