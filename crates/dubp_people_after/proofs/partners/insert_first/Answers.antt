use Rattle.std.proofs.Common.{◌∙◌, ◌≡◌, ◌++◌, ◌∷◌, [], ap, rules, cond, Some}
use Rattle.indexmap.specs.IndexMap.{get}
use Rattle.dubp_atoms.specs.Same.{Text, same_text}
use Rattle.dubp_people_after.proofs.Between.{one_partner}
use Rattle.dubp_people_after.proofs.partners.insert_first.Goals as goal

pub returns : goal.returns
returns c =
    let partners = c.push.new.keys in
    let put : (x : Text) → get same_text c.insert.new.self x ≡ cond (same_text c.args.key x) (Some partners) (get same_text c.args.map.now x) = search rules in
    one_partner c.args.map.now c.insert.new.self c.args.key c.args.partner partners put (c.in_ok-push.ensures ∙ ap (λ l. l ++ c.args.partner ∷ []) c.new-partners.ensures.items)
