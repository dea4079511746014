use Rattle.std.proofs.Common.{◌∙◌, ◌∷◌, sym}
use Rattle.indexmap.specs.IndexMap.{get}
use Rattle.dubp_atoms.specs.Same.{same_text}
use Rattle.dubp_people_distance.proofs.Known.{certified_more, has_already, has_more}
use Rattle.dubp_people_distance.proofs.changed.put_key.Goals as goal

pub returns-then-contains_key-clause-has : goal.returns-then-contains_key-clause-has
returns-then-contains_key-clause-has g c = λ k. has_already c.args.key (get same_text c.args.known.now) (sym c.contains_key.ensures ∙ c.if-contains_key.true) k

pub returns-clause-certified : goal.returns-clause-certified
returns-clause-certified g c = λ chain b shown before.
    certified_more c.args.key c.in_ok-found.found (get same_text c.args.known.now) (get same_text c.put_found.new.known) c.in_ok-put_found.ensures (b ∷ chain) (c.in_ok-found.ensures chain b shown) before

pub returns-clause-has : goal.returns-clause-has
returns-clause-has g c = λ k. has_more c.args.key c.in_ok-found.found (get same_text c.args.known.now) (get same_text c.put_found.new.known) c.in_ok-put_found.ensures k
