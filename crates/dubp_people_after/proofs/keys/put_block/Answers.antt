use Rattle.std.proofs.Common.{◌∙◌, ◌||◌, ap, sym}
use Rattle.std.specs.List.{list_any}
use Rattle.std.proofs.lemmas.List.Folds.{list_any-append}
use Rattle.dubp_atoms.specs.Same.{same_text}
use Rattle.dubp_chain.specs.Words.{last_of}
use Rattle.dubp_chain.specs.Members.{is_of}
use Rattle.dubp_registry.specs.OfSteps.{of_pair}
use Rattle.dubp_people_after.specs.Keys.{is_between}
use Rattle.dubp_people_after.proofs.keys.put_block.Goals as goal

pub returns : goal.returns
returns c =
    let b = c.args.block.now in
    let was = c.requires in
    record {
      joiners = λ k. c.in_ok-put_keys.ensures k ∙ ap (λ ks. list_any (same_text k) ks || list_any (is_of k) c.as_slice.result.now) was.joining ∙ ap (list_any (is_of k)) c.as_slice.ensures;
      comers = λ k.
          c.in_ok-put_keys-3.ensures k
          ∙ ap (λ t. t || list_any (is_of k) c.as_slice-3.result.now) (c.in_ok-put_keys-2.ensures k ∙ ap (λ ks. list_any (same_text k) ks || list_any (is_of k) c.as_slice-2.result.now) was.coming ∙ ap (list_any (is_of k)) c.as_slice-2.ensures)
          ∙ ap (λ ls. list_any (is_of k) b.joiners || list_any (is_of k) ls) c.as_slice-3.ensures
          ∙ sym (list_any-append (is_of k) b.joiners b.actives);
      leavers = λ k. c.in_ok-put_keys-4.ensures k ∙ ap (λ ks. list_any (same_text k) ks || list_any (is_of k) c.as_slice-4.result.now) was.leaving ∙ ap (list_any (is_of k)) c.as_slice-4.ensures;
      excluded = λ k. c.in_ok-put_all.ensures k ∙ ap (λ ks. list_any (same_text k) ks || list_any (same_text k) c.as_slice-5.result.now) was.excluded ∙ ap (list_any (same_text k)) c.as_slice-5.ensures;
      identities = λ k. c.in_ok-put_identities.ensures k ∙ ap (last_of (λ line. same_text k line.key)) c.as_slice-6.ensures;
      certifications = λ x y. c.in_ok-put_certifications.ensures x y ∙ ap (last_of (of_pair x y)) c.as_slice-7.ensures;
      partners = λ x y. c.in_ok-put_partners.ensures x y ∙ ap (list_any (is_between x y)) c.as_slice-8.ensures;
    }
