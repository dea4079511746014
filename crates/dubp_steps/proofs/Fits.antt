-- What stands in the queue follows from the rows.
use Rattle.std.proofs.Common.{◌≡◌, ℕ, ◌+◌, ◌*◌, Bool, true, false, not, ◌||◌, ◌&&◌, ◌==◌, Option, Some, None, option_map, is_some, unwrap_or, refl, ap, sym, ◌∙◌, true≢false, nat_le, nat_lt}
use Rattle.std.specs.Option.{option_map_or}
use Rattle.dubp_atoms.specs.Same.{Text}
use Rattle.dubp_block.specs.declared.block.MemberLine.{MemberLine}
use Rattle.dubp_block.specs.declared.block.CertLine.{CertLine}
use Rattle.dubp_chain.specs.Chains.{Chain, params}
use Rattle.dubp_chain.specs.Heads.{time_of}
use Rattle.dubp_chain.specs.People.{Written, membership, leaving, revoked, revoked_by_line}
use Rattle.dubp_chain.specs.Live.{certification, made_of}
use Rattle.dubp_chain.specs.Tables.{certification_row, is_queued}
use Rattle.dubp_chain.specs.Tables.Due.{Certification}
use Rattle.dubp_steps.specs.AfterLines.{is_planned}
use Rattle.dubp_steps.specs.Steps.{QueueFitsRows, waits_for_expiry, waits_for_revocation, waits_for_end}
use Rattle.dubp_steps.proofs.Standing.{entry, some_membership}
use Rattle.dubp_steps.proofs.Planned.{not_le}
use Rattle.dubp_steps.proofs.Queue.{made_at, queued_membership, queued_revocation, queued_certification}
use Rattle.dubp_steps.proofs.Rows.{row_with, cert_with}

expiry_fits : (t m at : ℕ) (leaves is : Bool) (w e : Option (Written MemberLine)) → is_some w ≡ is_some e
    → option_map_or (λ a. is_planned t (a + m) at) (made_at e) false ≡ option_map_or (waits_for_expiry t m at) (option_map (row_with e leaves is) w) false
expiry_fits t m at leaves is None None same = refl
expiry_fits t m at leaves is None (Some v) same = absurd (true≢false (sym same))
expiry_fits t m at leaves is (Some w) None same = absurd (true≢false same)
expiry_fits t m at leaves is (Some w) (Some v) same = refl

revocation_fits : (t m at : ℕ) (leaves by_line : Bool) (w e : Option (Written MemberLine)) → is_some w ≡ is_some e
    → (not by_line && option_map_or (λ a. is_planned t (a + 2 * m) at) (made_at e) false)
    ≡ option_map_or (waits_for_revocation m at) (option_map (row_with e leaves (by_line || option_map_or (λ at. nat_le at t) (option_map (λ a. a + 2 * m) (made_at e)) false)) w) false
revocation_fits t m at leaves true None None same = refl
revocation_fits t m at leaves false None None same = refl
revocation_fits t m at leaves by_line None (Some v) same = absurd (true≢false (sym same))
revocation_fits t m at leaves by_line (Some w) None same = absurd (true≢false same)
revocation_fits t m at leaves by_line (Some w) (Some v) same =
    let end = unwrap_or (made_at (Some v)) 0 + 2 * m in
    ap (λ x. not by_line && (x && (end == at))) (sym (not_le end t)) ∙ by by_line (nat_le end t) (end == at)
  where
    by : (by_line reached falls : Bool) → (not by_line && (not reached && falls)) ≡ (not (by_line || reached) && falls)
    by true reached falls = refl
    by false reached falls = refl

end_fits : (t m at : ℕ) (w : Option (Written CertLine))
    → option_map_or (λ w. is_planned t (made_of w + m) at) w false ≡ option_map_or (waits_for_end m at) (option_map (cert_with (option_map_or (λ w. nat_lt t (made_of w + m)) w false)) w) false
end_fits t m at None = refl
end_fits t m at (Some w) = refl

pub certifications_fit : (c : Chain) (at : ℕ) (x y : Text)
    → is_queued c at (Certification x y) ≡ option_map_or (waits_for_end (params c).sig_validity at) (certification_row c x y) false
certifications_fit c at x y = queued_certification c at x y ∙ end_fits (time_of c) (params c).sig_validity at (certification c x y)

pub queue_fits_rows : QueueFitsRows
queue_fits_rows c sound = record {
  memberships = λ at k. queued_membership c sound at k ∙ expiry_fits (time_of c) (params c).ms_validity at (leaving c k) (revoked c k) (membership c k) (entry c k) (some_membership c sound k);
  revocations = λ at k. queued_revocation c sound at k ∙ revocation_fits (time_of c) (params c).ms_validity at (leaving c k) (revoked_by_line c k) (membership c k) (entry c k) (some_membership c sound k);
  certifications = certifications_fit c;
}
