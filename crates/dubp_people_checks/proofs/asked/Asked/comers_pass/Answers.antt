use Rattle.dubp_people_checks.proofs.Few.{members_stay_few}
use Rattle.dubp_people_checks.proofs.asked.Asked.comers_pass.Goals as goal

pub comers_pass-requires : goal.comers_pass-requires
comers_pass-requires c =
    let p = c.requires in
    record { few = (p.0, (p.1.0.at, (p.1.0.asked, (p.1.0.shown, members_stay_few p.0 c.args.self.now.block.now p.1.0.asked.sound p.1.1.0 p.1.1.1)))) }

pub returns : goal.returns
returns c = λ chain asked. c.in_ok-holds.ensures chain asked.at asked.asked asked.shown
