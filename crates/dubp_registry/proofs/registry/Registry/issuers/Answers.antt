use Rattle.std.proofs.Common.{◌++◌, Contains, None, refl, sym, subst, ap, ◌∙◌}
use Rattle.std.specs.FinMap.{empty}
use Rattle.dubp_undo.specs.States.{states}
use Rattle.dubp_left.specs.Left.{certifications_left}
use Rattle.dubp_left.proofs.Looked.{newest-left}
use Rattle.std.specs.Prelude.{IsTrue}
use Rattle.dubp_left.specs.OfChain.{live}
use Rattle.dubp_cindex.specs.Orders.{AreNextIssuers}
use Rattle.dubp_cindex.specs.Rows.{live_pairs}
use Rattle.dubp_cindex.proofs.Told.{contains_lives, lives_contains}
use Rattle.dubp_registry.proofs.Followed.{all-same, live-shown}
use Rattle.dubp_registry.proofs.registry.Registry.issuers.Goals as goal

pub returns : goal.returns
returns c = λ chain at.
    let keys = c.put_issuers.new.issuers.items in
    all-same (λ a. Contains (live_pairs (certifications_left chain)) (a, c.args.to)) (λ a. IsTrue (live chain a c.args.to))
    (λ a there. sym (live-shown chain a c.args.to) ∙ contains_lives (certifications_left chain) a c.args.to there)
    (λ a is. lives_contains (certifications_left chain) a c.args.to (live-shown chain a c.args.to ∙ is))
    None keys
    (subst (λ rows. AreNextIssuers (live_pairs rows) c.args.to None keys) (newest-left empty certifications_left refl chain)
    (c.in_ok-put_issuers.ensures.next (states certifications_left chain) keys (c.cindex.ensures chain at) (ap (λ xs. xs ++ keys) (sym c.new-keys.ensures.items))))
