use Rattle.dubp_wot.proofs.Reached.{AreSought-kept}
use Rattle.dubp_wot.proofs.reaching.reaches_among_known.Goals as goal

pub returns-in_err-reached-clause-sought : goal.returns-in_err-reached-clause-sought
returns-in_err-reached-clause-sought g c = λ members pairs shown.
    AreSought-kept members c.args.known.now c.count_reaching.new.known c.args.sought.now c.count_reaching.ensures.kept (c.requires.sought members pairs shown)

pub returns-clause-sought : goal.returns-clause-sought
returns-clause-sought g c = λ members pairs shown.
    AreSought-kept members c.args.known.now c.count_reaching.new.known c.args.sought.now c.count_reaching.ensures.kept (c.requires.sought members pairs shown)

pub returns-clause-reached : goal.returns-clause-reached
returns-clause-reached g c = λ members pairs shown. c.in_ok-reached.ensures.reached members pairs shown (c.requires.sought members pairs shown)
