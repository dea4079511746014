use Rattle.std.proofs.Common.{◌++◌, ap, map, ◌∙◌}
use Rattle.std.proofs.lemmas.Result.{on_ok_weaker}
use Rattle.dubp_steps.specs.AfterLines.{certification_time}
use Rattle.dubp_validity.specs.declared.record.Record.TheVariants.{Create, Exit, Revoke, Cert}
use Rattle.dubp_people_apply.proofs.Appended.{sections_put}
use Rattle.dubp_people_apply.proofs.records.put_line_records.Goals as goal

pub returns-clause-appended : goal.returns-clause-appended
returns-clause-appended c =
    on_ok_weaker c.put_certifications.result (λ last chain at sound.
    sections_put c.args.out.now.items _ _ _ _ _ _ _ c.put_identities.new.out.items c.put_memberships.new.out.items c.put_revoked.new.out.items c.put_excluded.new.out.items c.put_certifications.new.out.items
    (c.in_ok-put_identities.ensures.appended ∙ ap (λ lines. c.args.out.now.items ++ map (λ line. Create line.key line.uid line.stamp) lines) c.as_slice.ensures)
    (c.in_ok-put_memberships.ensures.appended chain at sound)
    (c.in_ok-put_revoked.ensures.appended ∙ ap (λ lines. c.put_memberships.new.out.items ++ map (λ line. Revoke line.key) lines) c.as_slice-2.ensures)
    (c.in_ok-put_excluded.ensures.appended ∙ ap (λ keys. c.put_revoked.new.out.items ++ map Exit keys) c.as_slice-3.ensures)
    (last chain at ∙ ap (λ lines. c.put_excluded.new.out.items ++ map (λ line. Cert line.from line.to (certification_time chain c.args.block.now line)) lines) c.as_slice-4.ensures)) c.put_certifications.ensures.appended
