use Rattle.std.proofs.Common.{◌≡◌, ◌∙◌, ◌++◌, ◌∷◌, [], ap, sym, append_assoc, length, reverse, option_to_list, arith}
use Rattle.std.proofs.lemmas.List.{reverse-append}
use Rattle.dubp_forks.proofs.Lasting.{more_last}
use Rattle.dubp_forks.proofs.entries.put_last.Goals as goal

pub loop-entry-preserved : goal.loop-entry-preserved
loop-entry-preserved c =
    let i = c.loop-entry.invariant in
    let rest = c.pop.new.self.items in
    let entry = c.in-Some.entry in
    let items : c.loop-entry.last.items ≡ rest ++ entry ∷ [] = c.pop.ensures.items ∙ ap (λ o. rest ++ option_to_list o) c.in-Some.is in
    let parts : c.args.last.items ≡ i.done ++ entry ∷ reverse rest = i.parts ∙ ap (λ l. i.done ++ reverse l) items ∙ ap (λ l. i.done ++ l) (reverse-append rest (entry ∷ [])) in
    record {
      done = i.done ++ entry ∷ [];
      parts = parts ∙ sym (append_assoc i.done (entry ∷ []) (reverse rest));
      entries = λ store added old last apart. more_last store added i.done (reverse rest) c.loop-entry.blocks.entries c.put_one.new.blocks.entries entry (sym last ∙ parts) apart (i.entries store added old last apart) c.put_one.ensures.entries;
      room = omega (arith, c.put_one.ensures.room, i.room, c.pop.ensures.len, ap (λ o. length (option_to_list o)) c.in-Some.is);
    }
