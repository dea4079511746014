use Rattle.std.proofs.lemmas.Result.{on_ok_weaker}
use Rattle.dubp_people_apply.proofs.Recorded.{all_put, have_lengths}
use Rattle.dubp_people_apply.proofs.ended.put_ended.Goals as goal

pub returns-clause-records : goal.returns-clause-records
returns-clause-records c =
    on_ok_weaker c.put_pairs.result (λ last chain b sound are.
    all_put chain b sound c.args.ended.now are c.len-expired.ensures.ordered c.len-revoked.ensures.ordered c.len-ended.ensures.ordered c.args.out.now.items c.put_expired.new.out.items c.put_revoked.new.out.items c.put_pairs.new.out.items
    c.in_ok-put_expired.ensures.appended c.in_ok-put_revoked.ensures.appended last) c.put_pairs.ensures.appended

pub returns-clause-lengths : goal.returns-clause-lengths
returns-clause-lengths c =
    on_ok_weaker c.put_pairs.result (λ _ chain b sound are. have_lengths chain b sound c.args.ended.now are c.len-expired.ensures.ordered c.len-revoked.ensures.ordered c.len-ended.ensures.ordered) c.put_pairs.ensures.appended
