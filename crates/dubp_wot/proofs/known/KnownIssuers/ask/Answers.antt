use Rattle.std.proofs.Common.{◌∙◌, ap}
use Rattle.dubp_wot.specs.Known.{members_among}
use Rattle.dubp_wot.proofs.Issuers.{among-issuers}
use Rattle.dubp_wot.proofs.Numbered.{AreIssuersOf-numbered}
use Rattle.dubp_wot.proofs.known.KnownIssuers.ask.Goals as goal

pub returns-clause-known : goal.returns-clause-known
returns-clause-known g c = λ members pairs shown.
    let new = c.number_members.new.self.keys in
    let all = c.in_ok-keys.keys.items in
    c.put.ensures.known members pairs (c.number_members.ensures.known members pairs shown)
    (AreIssuersOf-numbered members pairs c.args.self.now.keys new c.number_members.ensures.kept c.args.number c.key.result c.key.ensures
    (members_among members all) c.in_ok-numbers.numbers.items (c.in_ok-numbers.ensures.among members pairs shown ∙ ap (members_among members) c.deref.ensures.value)
    (among-issuers members pairs c.key.result all (c.in_ok-keys.ensures members pairs shown)))
