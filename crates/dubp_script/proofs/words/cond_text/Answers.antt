use Rattle.std.proofs.Common.{sym}
use Rattle.dubp_script.proofs.Commands.{cond_text_again, no_cond_text, cond_text_short}
use Rattle.dubp_script.proofs.words.cond_text.Goals as goal

pub returns-then-not-is_cond : goal.returns-then-not-is_cond
returns-then-not-is_cond c = record { text = sym (no_cond_text c.args.text.now (λ is. let e = c.is_cond.ensures.1 is in cc)); fits = tt }

pub returns : goal.returns
returns c =
    let is = c.is_cond.ensures.0 c.if-not-is_cond.false in
    record { text = sym (cond_text_again c.args.text.now is); fits = cond_text_short c.args.text.now is }
