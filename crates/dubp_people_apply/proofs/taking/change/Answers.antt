use Rattle.std.proofs.Common.{◌≡◌, false, ap, arith, refl, subst, sym}
use Rattle.std.proofs.lemmas.Result.{on_ok_weaker}
use Rattle.dubp_cindex.specs.contracts.index.CIndexTablesCertRows.TheImpl as cindex
use Rattle.dubp_expiry.specs.contracts.queue.QueueTablesEntries.TheImpl as queue_tables
use Rattle.dubp_mindex.specs.contracts.member.MIndexTablesMemberRows.TheImpl as mindex
use Rattle.dubp_left.specs.Left.{due_of}
use Rattle.dubp_steps.specs.Loops.{take, is_noted}
use Rattle.dubp_people_apply.specs.Counting.{revoked_by, ended_by, IsOneMore}
use Rattle.dubp_people_apply.proofs.Counted.{one_expired, one_revoked, one_ended}
use Rattle.dubp_people_apply.specs.Held.{HasEntries, HasMemberships, HasCertifications}
use Rattle.dubp_people_apply.specs.Taking.{AreNoted, StandAs}
use Rattle.dubp_people_apply.proofs.Taken.{over_noted, revoked_noted, ended_noted}
use Rattle.dubp_people_apply.proofs.taking.change.Goals as goal

pub returns-in-Membership-clause-stand : goal.returns-in-Membership-clause-stand
returns-in-Membership-clause-stand g c =
    on_ok_weaker c.note.result (λ keys queue s time.
    subst (λ d. HasEntries ((queue_tables.ghosts).at queue) (take time (due_of d) s).queue → HasMemberships ((mindex.ghosts).at c.args.memberships.now) s.memberships → HasCertifications ((cindex.ghosts).at c.args.certifications.now) s.certifications
    → AreNoted c.args.ended.now s.over s.revoked s.ended → StandAs ((mindex.ghosts).at c.args.memberships.now) ((cindex.ghosts).at c.args.certifications.now) ((queue_tables.ghosts).at queue) (record c.args.ended.now { expired = c.note.new.set }) (take time (due_of d) s))
    (sym c.in-Membership.is) (over_noted time s c.args.ended.now (record c.args.ended.now { expired = c.note.new.set }) c.in-Membership.key refl refl keys)) c.note.ensures.keys

pub returns-in_ok-revoke_row-in-Revocation-clause-stand : goal.returns-in_ok-revoke_row-in-Revocation-clause-stand
returns-in_ok-revoke_row-in-Revocation-clause-stand g c =
    on_ok_weaker c.note-in-Revocation.result (λ keys queue s time.
    subst (λ d. HasEntries ((queue_tables.ghosts).at queue) (take time (due_of d) s).queue → HasMemberships ((mindex.ghosts).at c.args.memberships.now) s.memberships → HasCertifications ((cindex.ghosts).at c.args.certifications.now) s.certifications
    → AreNoted c.args.ended.now s.over s.revoked s.ended → StandAs ((mindex.ghosts).at c.revoke_row.new.memberships) ((cindex.ghosts).at c.args.certifications.now) ((queue_tables.ghosts).at queue) (record c.args.ended.now { revoked = c.note-in-Revocation.new.set }) (take time (due_of d) s))
    (sym c.in-Revocation.is) (λ q m p n. revoked_noted time s c.args.ended.now (record c.args.ended.now { revoked = c.note-in-Revocation.new.set }) c.in-Revocation.key refl refl keys q (c.in_ok-revoke_row-in-Revocation.ensures.rows s.memberships m) p n)) c.note-in-Revocation.ensures.keys

pub returns-in_ok-end_row-in-Certification-clause-stand : goal.returns-in_ok-end_row-in-Certification-clause-stand
returns-in_ok-end_row-in-Certification-clause-stand g c =
    on_ok_weaker c.note-in-Certification.result (λ keys queue s time.
    subst (λ d. HasEntries ((queue_tables.ghosts).at queue) (take time (due_of d) s).queue → HasMemberships ((mindex.ghosts).at c.args.memberships.now) s.memberships → HasCertifications ((cindex.ghosts).at c.args.certifications.now) s.certifications
    → AreNoted c.args.ended.now s.over s.revoked s.ended → StandAs ((mindex.ghosts).at c.args.memberships.now) ((cindex.ghosts).at c.end_row.new.certifications) ((queue_tables.ghosts).at queue) (record c.args.ended.now { ended = c.note-in-Certification.new.set }) (take time (due_of d) s))
    (sym c.in-Certification.is) (λ q m p n. ended_noted time s c.args.ended.now (record c.args.ended.now { ended = c.note-in-Certification.new.set }) c.in-Certification.from c.in-Certification.to refl refl keys q m (c.in_ok-end_row-in-Certification.ensures.rows s.certifications p) n)) c.note-in-Certification.ensures.keys

pub returns-in-Membership-clause-more : goal.returns-in-Membership-clause-more
returns-in-Membership-clause-more g c =
    on_ok_weaker c.note.result (λ len s noted.
    subst (λ d. is_noted s (due_of d) ≡ false → IsOneMore (due_of d) c.args.ended.now (record c.args.ended.now { expired = c.note.new.set })) (sym c.in-Membership.is)
    (λ fresh. one_expired s c.args.ended.now (record c.args.ended.now { expired = c.note.new.set }) noted c.in-Membership.key fresh refl refl len)) c.note.ensures.len

pub returns-in_ok-revoke_row-in-Revocation-clause-more : goal.returns-in_ok-revoke_row-in-Revocation-clause-more
returns-in_ok-revoke_row-in-Revocation-clause-more g c =
    on_ok_weaker c.note-in-Revocation.result (λ len s noted.
    subst (λ d. is_noted s (due_of d) ≡ false → IsOneMore (due_of d) c.args.ended.now (record c.args.ended.now { revoked = c.note-in-Revocation.new.set })) (sym c.in-Revocation.is)
    (λ fresh. one_revoked s c.args.ended.now (record c.args.ended.now { revoked = c.note-in-Revocation.new.set }) noted c.in-Revocation.key fresh refl refl len)) c.note-in-Revocation.ensures.len

pub returns-in_ok-end_row-in-Certification-clause-more : goal.returns-in_ok-end_row-in-Certification-clause-more
returns-in_ok-end_row-in-Certification-clause-more g c =
    on_ok_weaker c.note-in-Certification.result (λ len s noted.
    subst (λ d. is_noted s (due_of d) ≡ false → IsOneMore (due_of d) c.args.ended.now (record c.args.ended.now { ended = c.note-in-Certification.new.set })) (sym c.in-Certification.is)
    (λ fresh. one_ended s c.args.ended.now (record c.args.ended.now { ended = c.note-in-Certification.new.set }) noted c.in-Certification.from c.in-Certification.to fresh refl refl len)) c.note-in-Certification.ensures.len

pub returns-in_ok-revoke_row-in-Revocation-clause-steps : goal.returns-in_ok-revoke_row-in-Revocation-clause-steps
returns-in_ok-revoke_row-in-Revocation-clause-steps g c =
    on_ok_weaker c.note-in-Revocation.result (λ _. let one = ap (λ d. revoked_by (due_of d)) c.in-Revocation.is in let most = c.in_ok-revoke_row-in-Revocation.ensures.steps in omega (arith, one, most)) c.note-in-Revocation.ensures.keys

pub returns-in_ok-end_row-in-Certification-clause-steps : goal.returns-in_ok-end_row-in-Certification-clause-steps
returns-in_ok-end_row-in-Certification-clause-steps g c =
    on_ok_weaker c.note-in-Certification.result (λ _. let one = ap (λ d. ended_by (due_of d)) c.in-Certification.is in let most = c.in_ok-end_row-in-Certification.ensures.steps in omega (arith, one, most)) c.note-in-Certification.ensures.keys
