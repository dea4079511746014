use Rattle.std.proofs.Common.{◌∙◌, ◌||◌, ap}
use Rattle.std.specs.List.{list_any}
use Rattle.dubp_atoms.specs.Same.{same_text}
use Rattle.dubp_people_after.specs.Near.{is_near_issuer}
use Rattle.dubp_people_after.proofs.Counting.{issuers_found}
use Rattle.dubp_people_after.proofs.counts.issuers.Goals as goal

pub returns : goal.returns
returns g c = λ chain b shown a.
    let near = c.in_ok-near.near.keys in
    c.in_ok-put_issuers.ensures chain b shown a
    ∙ ap (λ ks. list_any (same_text a) ks || list_any (is_near_issuer chain b c.args.key a) near) c.with_hasher-found.ensures.empty
    ∙ issuers_found chain b c.args.key near (c.in_ok-near.ensures.issuers chain b shown) a
