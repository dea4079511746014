use Rattle.std.proofs.Common.{◌≡◌, List}
use Rattle.dubp_atoms.specs.Same.{Text}
use Rattle.dubp_chain.specs.Chains.{Chain, params}
use Rattle.dubp_chain.specs.Distance.{sentries}
use Rattle.dubp_chain.specs.Live.{live_pairs}
use Rattle.dubp_chain.specs.Members.{members}
use Rattle.dubp_lists.proofs.Rests.{Rests}
use Rattle.dubp_people_distance.specs.Webs.{HasPassed}
use Rattle.dubp_wot.specs.Known.{KnowIssuers}
use Rattle.dubp_wot.specs.Sought.{AreSought}
use Rattle.dubp_people_distance.proofs.rule.lines_pass.Given as goal

abbrev pub invariant-loop-line : goal.invariant-loop-line
invariant-loop-line g l = record {
  known : (keys : List Text) (pairs : List (Text × Text)) → g.W.Web.shows l.web keys pairs → KnowIssuers keys pairs l.known;
  sought : (keys : List Text) (pairs : List (Text × Text)) → g.W.Web.shows l.web keys pairs → AreSought keys l.known l.sought;
  rests : (d : Chain) → g.W.Web.shows l.web (members d) (live_pairs d) → l.params ≡ params d → l.sought.keys ≡ sentries d → Rests (HasPassed d) l.lines l.line-index;
}
