use Rattle.std.proofs.Common.{◌∙◌, List, ap, sym}
use Rattle.dubp_atoms.specs.Same.{Text}
use Rattle.dubp_atoms.specs.Walks.{stock_of}
use Rattle.dubp_people_views.proofs.standing.StandingWeb.stock.Goals as goal

pub returns : goal.returns
returns c = λ keys pairs shown. c.stock.ensures shown.0 shown.1.0 ∙ ap (λ (ps : List (Text × Text)). stock_of ps c.args.key.now) (sym shown.1.1.1.1)
