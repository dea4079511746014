use Rattle.std.proofs.Common.{refl, sym, true≢false}
use Rattle.dubp_local.proofs.Unlocked.{unlocked_if, each_if, no_other_if, issuers_if}
use Rattle.dubp_local.proofs.unlocks.is_unlocked_once.Goals as goal

pub returns-then-not-each_is_unlocked : goal.returns-then-not-each_is_unlocked
returns-then-not-each_is_unlocked c = (
  λ holds. absurd (true≢false (sym holds)),
  λ once. c.if-not-each_is_unlocked.ensures.1 (each_if _ _ _ _ c.as_slice-unlocks.ensures c.len-inputs.ensures c.len-issuers.ensures once),
)

pub returns-then-not-are_of_inputs : goal.returns-then-not-are_of_inputs
returns-then-not-are_of_inputs c = (
  λ holds. absurd (true≢false (sym holds)),
  λ once. c.if-not-are_of_inputs.ensures.1 (no_other_if _ _ _ _ c.as_slice-unlocks.ensures c.len-inputs.ensures c.len-issuers.ensures once),
)

pub returns : goal.returns
returns c = (
  λ holds. unlocked_if _ _ _ _ c.as_slice-unlocks.ensures c.len-inputs.ensures c.len-issuers.ensures
      (c.if-not-each_is_unlocked.ensures.0 refl) (c.if-not-are_of_inputs.ensures.0 refl) (c.lines_name_issuers.ensures.0 holds),
  λ once. c.lines_name_issuers.ensures.1 (issuers_if _ _ _ _ c.as_slice-unlocks.ensures c.len-inputs.ensures c.len-issuers.ensures once),
)
