use Rattle.std.proofs.Common.{◌∷◌, ◌+◌, ◌*◌, ◌++◌, ◌∙◌, filter, length, refl, ap, sym}
use Rattle.dubp_people.specs.OfRegistry.registry_tables_block as people
use Rattle.dubp_money_rules.specs.OfMoney.money_tables_block as money
use Rattle.dubp_people.specs.Applied as people_words
use Rattle.dubp_money_rules.specs.OfMoney.applied as money_words
use Rattle.dubp_people.specs.OfSteps.{people_records}
use Rattle.dubp_books.proofs.Asked.{whole_hashes_are}
use Rattle.dubp_books.proofs.Chosen.{are_paid, paid_by_head}
use Rattle.dubp_books.proofs.Records.{most_of_both, steps_of_both}
use Rattle.dubp_books.proofs.writing.BooksWritten.write.Goals as goal

pub write-requires-clause-hashes : goal.write-requires-clause-hashes
write-requires-clause-hashes g c = whole_hashes_are c.args.block.now c.args.hashes.now c.requires.hashes

pub returns-clause-at : goal.returns-clause-at
returns-clause-at g c = λ chain sound text head at.
    let b = c.args.block.now in
    let h = c.args.head.now in
    let first : people_words.IsApplied chain b h = record { sound = sound; block = text; head = head } in
    let second : money_words.IsApplied chain b h = record { sound = sound; block = text; short = c.requires.short; head = head } in
    let people_at = c.in_ok-ended.ensures.at chain first at.0 in
    let paid = are_paid (b ∷ chain) h c.as_slice.result.now (c.as_slice.ensures.value ∙ c.in_ok-members.ensures (b ∷ chain) people_at sound) in
    (people_at, c.in_ok-cleared.ensures.at chain second paid at.1)

pub returns-clause-steps : goal.returns-clause-steps
returns-clause-steps g c = λ chain sound text head at.
    let b = c.args.block.now in
    let h = c.args.head.now in
    let first : people_words.IsApplied chain b h = record { sound = sound; block = text; head = head } in
    let second : money_words.IsApplied chain b h = record { sound = sound; block = text; short = c.requires.short; head = head } in
    let people_at = c.in_ok-ended.ensures.at chain first at.0 in
    let paid = are_paid (b ∷ chain) h c.as_slice.result.now (c.as_slice.ensures.value ∙ c.in_ok-members.ensures (b ∷ chain) people_at sound) in
    steps_of_both chain b c.args.steps.now c.write_block.new.steps c.write.new.steps (c.in_ok-ended.ensures.steps chain first at.0) (c.in_ok-cleared.ensures.steps chain second paid at.1)

pub returns-clause-left : goal.returns-clause-left
returns-clause-left g c = λ chain sound text head at.
    let b = c.args.block.now in
    let h = c.args.head.now in
    let first : people_words.IsApplied chain b h = record { sound = sound; block = text; head = head } in
    let second : money_words.IsApplied chain b h = record { sound = sound; block = text; short = c.requires.short; head = head } in
    let people_at = c.in_ok-ended.ensures.at chain first at.0 in
    let keys = c.in_ok-members.ensures (b ∷ chain) people_at sound in
    let paid = are_paid (b ∷ chain) h c.as_slice.result.now (c.as_slice.ensures.value ∙ keys) in
    let ended = c.left_of.ensures.ended ∙ c.in_ok-ended.ensures.records chain first at.0 in
    let members = c.left_of.ensures.paid ∙ keys ∙ paid_by_head chain b h head in
    let cleared = c.left_of.ensures.cleared ∙ c.in_ok-cleared.ensures.cleared chain second paid at.1 in
    let named = c.left_of.ensures.transactions ∙ c.in_ok-names.ensures ∙ whole_hashes_are b c.args.hashes.now c.requires.hashes in
    λ i. record { ended = ended i; paid = members i; cleared = cleared i; transactions = named i }

pub returns-clause-stays : goal.returns-clause-stays
returns-clause-stays g c = λ n d is. (is.0, c.write.ensures.stays n.1 d is.1)

pub returns-in_err-cleared-clause-stays : goal.returns-in_err-cleared-clause-stays
returns-in_err-cleared-clause-stays g c = λ n d is. (is.0, c.write.ensures.stays n.1 d is.1)
