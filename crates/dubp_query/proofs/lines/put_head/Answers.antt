use Rattle.std.proofs.Common.{◌++◌, ap, ◌∙◌, decimal}
use Rattle.std.specs.Prelude.{codes}
use Rattle.std.specs.Fmt.{signed_decimal}
use Rattle.dubp_atoms.specs.Spelling.{stamp_text}
use Rattle.dubp_replay.specs.Answers.{spaced}
use Rattle.dubp_chain.specs.HeadStamp.{head_stamp}
use Rattle.dubp_query.proofs.Heads.{eleven}
use Rattle.dubp_query.proofs.lines.put_head.Goals as goal

pub returns-clause-text : goal.returns-clause-text
returns-clause-text c =
    let h = c.args.head.now in
    eleven (codes "HEAD") (spaced (stamp_text (head_stamp h))) (spaced (decimal h.median_time)) (spaced (decimal h.members)) (spaced (decimal h.pow_min)) (spaced (decimal h.dividend)) (spaced (decimal h.unit_base)) (spaced (decimal h.mass)) (spaced (decimal h.frame)) (spaced (signed_decimal h.frame_var)) (spaced (decimal h.issuers))
    c.args.line.now.items c.put_bytes.new.out.items c.put_spaced_stamp.new.line.items c.put_spaced.new.line.items c.put_spaced-2.new.line.items c.put_spaced-3.new.line.items c.put_spaced-4.new.line.items c.put_spaced-5.new.line.items c.put_spaced-6.new.line.items c.put_spaced-7.new.line.items c.put_spaced_signed.new.line.items c.put_spaced-8.new.line.items
    c.requires c.put_bytes.ensures.text (c.put_spaced_stamp.ensures.text ∙ ap (λ s. c.put_bytes.new.out.items ++ spaced (stamp_text s)) c.stamp.ensures) c.put_spaced.ensures.text c.put_spaced-2.ensures.text c.put_spaced-3.ensures.text c.put_spaced-4.ensures.text c.put_spaced-5.ensures.text c.put_spaced-6.ensures.text c.put_spaced-7.ensures.text c.put_spaced_signed.ensures.text c.put_spaced-8.ensures.text
