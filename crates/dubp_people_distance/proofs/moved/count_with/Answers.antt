use Rattle.std.proofs.Common.{◌∙◌, arith}
use Rattle.dubp_people_distance.proofs.Counted.{balanced, sorted_once, tree_named}
use Rattle.dubp_people_distance.proofs.moved.count_with.Goals as goal

pub overflow_sub-staying : goal.overflow_sub-staying
overflow_sub-staying g c =
    let few = c.requires.few in
    let b = balanced few.0 few.1 c.args.joined.now.keys c.args.left.now.keys (sorted_once c.args.joined.now.keys c.len-joining.ensures.ordered) c.len-leaving.ensures.unique (λ k. tree_named c.args.joined.now.keys k ∙ few.2.1.0 k) few.2.1.1.0 in
    omega (arith, b.fits, c.len-leaving.ensures.len, c.count_before.ensures few.0 few.1 few.2.0)

pub overflow_add-result : goal.overflow_add-result
overflow_add-result g c =
    let few = c.requires.few in
    let b = balanced few.0 few.1 c.args.joined.now.keys c.args.left.now.keys (sorted_once c.args.joined.now.keys c.len-joining.ensures.ordered) c.len-leaving.ensures.unique (λ k. tree_named c.args.joined.now.keys k ∙ few.2.1.0 k) few.2.1.1.0 in
    omega (arith, b.fits, b.balance, few.2.1.1.1, c.len-joining.ensures.len, c.len-leaving.ensures.len, c.count_before.ensures few.0 few.1 few.2.0)

pub returns : goal.returns
returns g c = λ chain b shown joins leaves.
    let with = balanced chain b c.args.joined.now.keys c.args.left.now.keys (sorted_once c.args.joined.now.keys c.len-joining.ensures.ordered) c.len-leaving.ensures.unique (λ k. tree_named c.args.joined.now.keys k ∙ joins k) leaves in
    omega (arith, with.fits, with.balance, c.len-joining.ensures.len, c.len-leaving.ensures.len, c.count_before.ensures chain b shown)
