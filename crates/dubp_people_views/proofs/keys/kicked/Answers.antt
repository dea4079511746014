use Rattle.std.proofs.Common.{None, Some, sym, ◌∙◌}
use Rattle.dubp_chain.specs.Live.{kick}
use Rattle.dubp_wot.proofs.Members.{up_to-first}
use Rattle.dubp_people_views.proofs.MembersWalked.{one_taken, all_taken}
use Rattle.dubp_people_views.proofs.Walked.{next_kicked_told, kick_rises}
use Rattle.dubp_people_views.proofs.keys.kicked.Goals as goal

pub kicked-init : goal.kicked-init
kicked-init c = λ chain at sound. c.new-keys.ensures.items ∙ sym (up_to-first (kick chain))

pub kicked-preserved : goal.kicked-preserved
kicked-preserved c = λ chain at sound.
    one_taken (kick chain) (kick_rises chain sound) c.kicked.after c.in-Some.key
    (next_kicked_told chain c.kicked.after (Some c.in-Some.key) (c.in-Some.ensures chain at)) c.kicked.keys.items c.push.new.keys.items
    (c.kicked.invariant chain at sound) c.in_ok-push.ensures

pub returns-in_default : goal.returns-in_default
returns-in_default c = λ chain at sound.
    all_taken (kick chain) c.kicked.after (next_kicked_told chain c.kicked.after None (c.in_default.ensures chain at)) c.kicked.keys.items (c.kicked.invariant chain at sound)
