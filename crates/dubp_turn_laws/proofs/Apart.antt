-- No two failures come to have one block.
use Rattle.std.proofs.Common.{◌≡◌, ◌||◌, Bool, true, false, cond, List, [], ◌∷◌, ◌++◌, map, filter, Some, refl, sym, ap, subst, ◌∙◌, true≢false}
use Rattle.std.specs.List.{list_any}
use Rattle.std.specs.Option.{option_map}
use Rattle.dubp_atoms.specs.Same.{same_stamp}
use Rattle.dubp_atoms.specs.declared.stamp.Stamp.{Stamp}
use Rattle.dubp_block.specs.declared.block.Block.{Block}
use Rattle.dubp_block.specs.Text.{stamp_of}
use Rattle.dubp_resolve.specs.Choice.{Path, choice, has_failed, is_among}
use Rattle.dubp_resolve.specs.Known.{AreOffers}
use Rattle.dubp_resolve.specs.Resolve.{Switched, Failed}
use Rattle.dubp_resolve.proofs.Candidates.{chosen_is}
use Rattle.dubp_resolve.proofs.Stamps.{stamps}
use Rattle.dubp_choosing.proofs.Offers.{any_at}
use Rattle.dubp_choosing.proofs.Tries.{chosen_of, path_chosen}
use Rattle.dubp_replay.specs.declared.failure.Failure.{Failure}
use Rattle.dubp_replay.specs.Turns.{Fails, IsPath, State, branches_of, choices_of}
use Rattle.dubp_turn_laws.specs.Laws.{AreApartAt, FailuresStayApart}
use Rattle.dubp_turn_laws.proofs.Failing.{any_failed}

abbrev places : List Failure → List Stamp
places fs = map (λ (f : Failure). f.at) fs

or_left : (a b : Bool) → (a || b) ≡ false → a ≡ false
or_left true b e = absurd (true≢false e)
or_left false b e = refl

or_right : (a b : Bool) → (a || b) ≡ false → b ≡ false
or_right true b e = absurd (true≢false e)
or_right false b e = e

-- ---- with one more
among_behind : (fs : List Failure) (f : Failure) (s : Stamp) → is_among (places fs) s ≡ false → same_stamp s f.at ≡ false → is_among (places (fs ++ f ∷ [])) s ≡ false
among_behind [] f s none other = ap (λ r. r || false) other
among_behind (g ∷ fs) f s none other =
    ap (λ r. r || is_among (places (fs ++ f ∷ [])) s) (or_left (same_stamp s g.at) _ none) ∙ among_behind fs f s (or_right (same_stamp s g.at) _ none) other

apart_behind : (fs : List Failure) (f : Failure) → AreApartAt fs → is_among (places fs) f.at ≡ false → AreApartAt (fs ++ f ∷ [])
apart_behind [] f apart none = (refl, tt)
apart_behind (g ∷ fs) f apart none = (
  among_behind fs f g.at apart.0 (stamps.symm g.at f.at ∙ or_left (same_stamp f.at g.at) _ none),
  apart_behind fs f apart.1 (or_right (same_stamp f.at g.at) _ none),
)

-- ---- with some of them
among_kept : (p : Failure → Bool) (fs : List Failure) (s : Stamp) → is_among (places fs) s ≡ false → is_among (places (filter p fs)) s ≡ false
among_kept p [] s none = refl
among_kept p (g ∷ fs) s none =
    let rest = among_kept p fs s (or_right (same_stamp s g.at) _ none) in
    elim (p g) as (λ r. is_among (places (cond r (g ∷ filter p fs) (filter p fs))) s ≡ false) [
      | true ↦ ap (λ r. r || is_among (places (filter p fs)) s) (or_left (same_stamp s g.at) _ none) ∙ rest
      | false ↦ rest
    ]

apart_kept : (p : Failure → Bool) (fs : List Failure) → AreApartAt fs → AreApartAt (filter p fs)
apart_kept p [] apart = tt
apart_kept p (g ∷ fs) apart =
    let rest = apart_kept p fs apart.1 in
    elim (p g) as (λ r. AreApartAt (cond r (g ∷ filter p fs) (filter p fs))) [
      | true ↦ (among_kept p fs g.at apart.0, rest)
      | false ↦ rest
    ]

-- ---- what fails is new
none_at : {X : Type 0} (test : X → Bool) (before : List X) (x : X) (after : List X) → list_any test (before ++ x ∷ after) ≡ false → test x ≡ false
none_at {X} test before x after none =
    elim (test x) as (λ r. test x ≡ r → r ≡ false) [
      | true ↦ λ e. absurd (true≢false (sym (any_at test before x after e) ∙ none))
      | false ↦ λ e. refl
    ] refl

new_failure : (s middle : State) (f : Failure) → AreOffers (choices_of s).offers → Some f.tip ≡ option_map (λ o. o.stamp) (choice (choices_of s)) → Fails s f middle → is_among (places s.failures) f.at ≡ false
new_failure s middle f offers tip fails =
    let v = choices_of s in
    let o = chosen_of (choice v) f.tip tip in
    let path = fails.0 in
    let leads = fails.2 in
    let at = fails.3 in
    let breaks = at.2 in
    let same = path_chosen (branches_of s) s.failures offers o.block path leads.end (subst (λ t. IsPath s.store t path leads.end) o.stamp leads.is) in
    let none : list_any (λ b. is_among (places s.failures) (stamp_of b)) path ≡ false =
    sym (any_failed (places s.failures) path) ∙ sym (ap (λ (p : Path). has_failed v p) same) ∙ (chosen_is v offers o.block o.is).sound in
    subst (λ t. is_among (places s.failures) t ≡ false) (sym at.1)
    (none_at (λ (b : Block). is_among (places s.failures) (stamp_of b)) breaks.above at.0 breaks.below (subst (λ l. list_any (λ b. is_among (places s.failures) (stamp_of b)) l ≡ false) breaks.stands none))

pub stay_apart : FailuresStayApart
stay_apart old [] new offers r apart = subst (λ (s : State). AreApartAt s.failures) (sym r.1) apart
stay_apart old (Switched tip ∷ []) new offers r apart =
    subst (λ (s : State). AreApartAt s.failures) (sym r.1.4) (apart_kept _ old.failures apart)
stay_apart old (Switched tip ∷ (line ∷ lines)) new offers r apart = absurd r
stay_apart old (Failed f ∷ lines) new offers r apart =
    let noted = r.2.4 in
    stay_apart r.1 lines new (subst (λ (s : State). AreOffers (choices_of s).offers) (sym noted) offers) r.3
    (subst (λ (s : State). AreApartAt s.failures) (sym noted) (apart_behind old.failures f apart (new_failure old r.1 f offers (sym r.0) r.2)))
