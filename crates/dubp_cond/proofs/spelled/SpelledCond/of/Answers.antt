use Rattle.std.proofs.Common.{ap, ◌≡◌, ◌∙◌, ◌++◌}
use Rattle.dubp_cond.specs.Conditions.{cond_text}
use Rattle.dubp_cond.specs.Spelled.{spelled}
use Rattle.dubp_cond.proofs.Spellings.{spelled_again}
use Rattle.dubp_cond.proofs.spelled.SpelledCond.of.Goals as goal

is_text : (c : goal.After-from_vec-text) → c.from_vec-text.result ≡ cond_text c.args.cond.now
is_text c = c.from_vec-text.ensures ∙ c.in_ok-copied.ensures ∙ c.as_slice.ensures.value ∙ c.put_cond.ensures.text ∙ ap (λ line. line ++ cond_text c.args.cond.now) c.new-line.ensures

pub invariant_of-result : goal.invariant_of-result
invariant_of-result c = rw (is_text c, spelled_again c.args.cond.now c.requires) c.requires

pub returns : goal.returns
returns c = ap spelled (is_text c) ∙ spelled_again c.args.cond.now c.requires
