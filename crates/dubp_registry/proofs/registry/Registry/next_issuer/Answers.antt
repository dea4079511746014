use Rattle.std.proofs.Common.{Contains, refl, sym, subst, ◌∙◌}
use Rattle.std.specs.FinMap.{empty}
use Rattle.dubp_undo.specs.States.{states}
use Rattle.dubp_left.specs.Left.{certifications_left}
use Rattle.dubp_left.proofs.Looked.{newest-left}
use Rattle.std.specs.Prelude.{IsTrue}
use Rattle.dubp_left.specs.OfChain.{live}
use Rattle.dubp_cindex.specs.Orders.{IsNextIssuer}
use Rattle.dubp_cindex.specs.Rows.{live_pairs}
use Rattle.dubp_cindex.proofs.Told.{contains_lives, lives_contains}
use Rattle.dubp_registry.proofs.Followed.{next-same, live-shown}
use Rattle.dubp_registry.proofs.registry.Registry.next_issuer.Goals as goal

pub returns : goal.returns
returns c = λ chain at.
    next-same (λ a. Contains (live_pairs (certifications_left chain)) (a, c.args.to)) (λ a. IsTrue (live chain a c.args.to))
    (λ a there. sym (live-shown chain a c.args.to) ∙ contains_lives (certifications_left chain) a c.args.to there)
    (λ a is. lives_contains (certifications_left chain) a c.args.to (live-shown chain a c.args.to ∙ is))
    c.args.after c.next_received.result
    (subst (λ rows. IsNextIssuer (live_pairs rows) c.args.to c.args.after c.next_received.result) (newest-left empty certifications_left refl chain) (c.next_received.ensures (states certifications_left chain) (c.cindex.ensures chain at)))
