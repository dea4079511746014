use Rattle.std.proofs.Common.{◌≡◌, ◌∙◌, IfOk, Option, ap, option_map, subst, sym}
use Rattle.dubp_atoms.specs.declared.stamp.Stamp.{Stamp}
use Rattle.dubp_resolve.specs.Choice.{Choices, choice}
use Rattle.dubp_resolve.specs.Known.{AreOffers}
use Rattle.dubp_resolve.specs.declared.view.Offered.{Offered}
use Rattle.dubp_choosing.proofs.Seen.{choice_seen}
use Rattle.dubp_turns.proofs.Offers.{stored_offers}
use Rattle.dubp_turns.proofs.seeing.find_tip.Goals as goal

pub choose-requires : goal.choose-requires
choose-requires g c =
    subst AreOffers (sym (ap (λ (v : Choices). v.offers) c.in_ok-view.ensures)) (stored_offers c.args.branches.now.store c.laws.ensures.stored)

pub returns : goal.returns
returns g c =
    subst (λ (o : Option Offered). IfOk c.choose.result (λ (chosen : Option Stamp). chosen ≡ option_map (λ b. b.stamp) o))
    (ap choice c.in_ok-view.ensures ∙ choice_seen c.args.branches.now c.args.failures.now c.laws.ensures.sound) c.choose.ensures
