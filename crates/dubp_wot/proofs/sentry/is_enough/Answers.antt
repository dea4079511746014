use Rattle.std.proofs.Common.{◌≡◌, ◌^◌, ℕ, refl, ap, ◌∙◌, arith}
use Rattle.std.proofs.Math.Nat.{pow-le-pow_right}
use Rattle.std.proofs.lemmas.Bool.Decides.{Decides-eqb}
use Rattle.dubp_wot.proofs.Powers.{zero_pow}
use Rattle.dubp_wot.proofs.sentry.is_enough.Goals as goal

pub returns-then-base-eq0 : goal.returns-then-base-eq0
returns-then-base-eq0 c =
    let z : c.args.base ^ c.args.steps ≡ 0 = ap (λ (b : ℕ). b ^ c.args.steps) c.if-base-eq0.true ∙ zero_pow c.args.steps c.requires.steps in
    (λ e. let m = (Decides-eqb c.args.members 0).0 e in omega arith, λ h. (Decides-eqb c.args.members 0).1 (omega arith))

pub returns-then-power-members : goal.returns-then-power-members
returns-then-power-members c =
    let up = pow-le-pow_right {n = c.args.base} (omega arith) {i = c.loop-i.i} {j = c.args.steps} (omega arith) in
    (λ _. omega arith, λ _. refl)
