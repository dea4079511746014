use Rattle.dubp_people_distance.proofs.Known.{both_more}
use Rattle.dubp_people_distance.proofs.changed.put_both.Goals as goal

pub returns-clause-has : goal.returns-clause-has
returns-clause-has g c = λ k. both_more c.args.from c.args.to k _ _ _ (c.in_ok-put_key.ensures.has k) (c.in_ok-put_key-2.ensures.has k)

pub returns-clause-certified : goal.returns-clause-certified
returns-clause-certified g c = λ chain b shown before. c.in_ok-put_key-2.ensures.certified chain b shown (c.in_ok-put_key.ensures.certified chain b shown before)
