use Rattle.std.proofs.Common.{◌≡◌, ◌-◌, ◌∙◌, drop, length, ap, arith}
use Rattle.dubp_ledger.proofs.Ends.{last_off}
use Rattle.dubp_ledger.proofs.traces.Traces.take_off.Goals as goal

pub returns-clause-standing : goal.returns-clause-standing
returns-clause-standing c =
    let xs = c.self.inside.standing.items in
    let left : c.saturating_sub-left.result ≡ length xs - c.args.count = omega (arith, c.saturating_sub-left.ensures, c.len.ensures) in
    last_off xs c.truncate.new.self.items c.args.count c.saturating_sub-left.result c.truncate.ensures.items left
    ∙ ap (λ s. drop c.args.count s.standing) c.self.view_is
