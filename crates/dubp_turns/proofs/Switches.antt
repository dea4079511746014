-- What the switch to a choice said.
use Rattle.std.proofs.Common.{◌≡◌, ◌∙◌, ◌++◌, ◌∷◌, [], List, Some, is_some, Ok, Err, refl, sym, ap, arith, true≢false}
use Rattle.dubp_atoms.specs.declared.stamp.Stamp.{Stamp}
use Rattle.dubp_rules.specs.declared.rule.Rule.{Rule}
use Rattle.dubp_turns.specs.OfForks.{SwitchRefusal, Switched}
use Rattle.dubp_turns.specs.OfForks.switch_refusal_variants as switch
use Rattle.dubp_replay.specs.declared.failure.Failure.{Failure}
use Rattle.dubp_replay.specs.Turns.{Branches, Fails, Succeeds, left_over}
use Rattle.dubp_choosing.specs.States.{choosing}
use Rattle.dubp_choosing.proofs.Resolving.{succeeds_by}
use Rattle.dubp_choosing.proofs.Tries.{IsReady}

-- it took place
pub succeeded : (b : Branches) (fs : List Failure) (tip : Stamp) (new : Branches) (left : List Failure) → Switched b tip (Ok tt) new → left ≡ left_over new.store fs → Succeeds (choosing b fs) tip (choosing new left)
succeeded b fs tip new left (path, count, may, accepted, is) kept =
    succeeds_by b fs tip new left path count (record { end = may.goes.end; is = may.goes.along.is; behind = may.goes.behind }) accepted is kept

-- it failed
pub failed : (b : Branches) (fs : List Failure) (tip at : Stamp) (rule : Rule) (new : Branches) → Switched b tip (Err (switch.Refused at rule)) new
    → Fails (choosing b fs) (record { tip = tip; at = at; rule = rule }) (choosing b (fs ++ record { tip = tip; at = at; rule = rule } ∷ []))
failed b fs tip at rule new (path, count, may, block, is, breaks, same) =
    (path, count, record { end = may.goes.end; is = may.goes.along.is; behind = may.goes.behind }, (block, is, breaks), refl)

-- nothing else comes, but for want of memory
abbrev pub IsTry : SwitchRefusal → Type 0
IsTry (switch.Refused at rule) = Unit {0}
IsTry switch.NoMemory = Unit {0}
IsTry refusal = ⊥

pub tried : (b : Branches) (tip : Stamp) (refusal : SwitchRefusal) (new : Branches) → IsReady b tip → Switched b tip (Err refusal) new → IsTry refusal
tried b tip switch.Unknown new r (none, same) = true≢false (sym r.some ∙ ap is_some none)
tried b tip (switch.Detached at) new r (path, along, none, same) =
    let on = r.on path (Some at) along.is in let e = sym none ∙ on.behind in cc
tried b tip (switch.TooDeep kept) new r (path, count, goes, more, is, same) =
    let on = r.on path goes.end goes.along.is in
    let e : Some count ≡ Some on.count = sym goes.behind ∙ on.behind in
    let n : count ≡ on.count = cc in
    let d = on.deep in
    omega (arith, n, d, more)
tried b tip (switch.Full held) new r (path, count, goes, deep, is, more, same) =
    let on = r.on path goes.end goes.along.is in
    let e : Some count ≡ Some on.count = sym goes.behind ∙ on.behind in
    let n : count ≡ on.count = cc in
    let f = on.fits in
    omega (arith, n, f, is, more)
tried b tip (switch.Refused at rule) new r s = tt
tried b tip switch.NoMemory new r s = tt
