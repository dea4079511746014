-- A ledger in which a chain was made, in the place of the turns of its blocks: the state is the same.
use Rattle.std.proofs.Common.{◌≡◌, ◌⊎◌, ◌+◌, inl, inr, zero, suc, ℕ, Bool, true, false, List, [], ◌∷◌, ◌++◌, length, map, min, reverse, None, refl, sym, ap, subst, arith, ◌∙◌}
use Rattle.std.specs.List.{AllByRecursion, Contains}
use Rattle.dubp_block.specs.Text.{IsBlock, block_text, stamp_of}
use Rattle.dubp_block.specs.declared.block.Block.{Block}
use Rattle.dubp_chain.specs.Chains.{Chain}
use Rattle.std.specs.List.{list_any}
use Rattle.dubp_verdict.specs.Verdicts.{Verdict, Verdicts, IsWithin, same_verdict, verdict_of, with_verdict}
use Rattle.dubp_verdict.proofs.Sets.{with_verdict-has, with_verdict-new, with_verdict-there, with_verdict-within}
use Rattle.dubp_validity.specs.Rules.{FirstBroken, FirstBrokenRaw, IsValid}
use Rattle.dubp_laws.proofs.MoreVerdicts.{valid_more}
use Rattle.dubp_replay.specs.declared.failure.Failure.{Failure}
use Rattle.dubp_replay.specs.OfForging.{Doc}
use Rattle.dubp_replay.specs.Answers.{accepted_answer}
use Rattle.dubp_replay.specs.Turns.{Runs, State, accepted, branches_of, left_over, onward}
use Rattle.dubp_drafts.specs.Drafting.{Given}
use Rattle.dubp_gen.specs.Generated.{IsMade, Made, next_given, own, with_given}
use Rattle.dubp_gen.proofs.Giving.{with_given-append}
use Rattle.dubp_turns.specs.Given.{GivenTurn, IsGivenAll, block_given, verdict_given}
use Rattle.dubp_turns.specs.TakenOver.{HasNoBlock}
use Rattle.dubp_turns.proofs.Given.{given_one}
use Rattle.dubp_turns.proofs.Valid.{HaveOneText, valid_joined}
use Rattle.dubp_session.proofs.Givens.{given_none, given_then, turned_push}

-- ---- sets with verdicts more

newest_or : (t u : Verdict) (v : Verdicts) → Contains (t ∷ v) u → (u ≡ t) ⊎ Contains v u
newest_or t u v (zero, within, is) = inl (sym is)
newest_or t u v (suc k, within, is) = inr (k, omega (arith, within), is)

with_one_only : (t u : Verdict) (v : Verdicts) → Contains (with_verdict t v) u → (u ≡ t) ⊎ Contains v u
with_one_only t u v =
    elim (list_any (same_verdict t) v) as (λ b. list_any (same_verdict t) v ≡ b → Contains (with_verdict t v) u → (u ≡ t) ⊎ Contains v u) [
      | true ↦ λ e stands. inr (subst (λ w. Contains w u) (with_verdict-there t v e) stands)
      | false ↦ λ e stands. newest_or t u v (subst (λ w. Contains w u) (with_verdict-new t v e) stands)
    ] refl

one_within : (v w : Verdicts) (t : Verdict) → IsWithin v w → IsWithin (with_verdict t v) (with_verdict t w)
one_within v w t within u stands =
    elim (with_one_only t u v stands) as (λ o. Contains (with_verdict t w) u) [
      | inl same ↦ subst (Contains (with_verdict t w)) (sym same) (with_verdict-has t w)
      | inr before ↦ with_verdict-within t w u (within u before)
    ]

all_within : (v w : Verdicts) (gs : List Given) → IsWithin v w → IsWithin (with_given v gs) (with_given w gs)
all_within v w [] within = within
all_within v w (g ∷ gs) within = all_within (with_verdict (verdict_of g.0 g.1 g.2) v) (with_verdict (verdict_of g.0 g.1 g.2) w) gs (one_within v w (verdict_of g.0 g.1 g.2) within)

given_within : (v : Verdicts) (gs : List Given) → IsWithin v (with_given v gs)
given_within v [] u stands = stands
given_within v (g ∷ gs) u stands = given_within (with_verdict (verdict_of g.0 g.1 g.2) v) gs u (with_verdict-within (verdict_of g.0 g.1 g.2) v u stands)

none_within : (v : Verdicts) → IsWithin [] v
none_within v u (k, within, is) = absurd (omega (arith, within))

-- ---- a chain that was made is valid, with its verdicts and with more

made_valid : HaveOneText → (start n : ℕ) (m : Made) → IsMade start n m → AllByRecursion IsBlock m.chain → IsValid (with_given [] m.given) m.chain
made_valid one start zero m made are = subst (λ (k : Made). IsValid (with_given [] k.given) k.chain) (sym made) tt
made_valid one start (suc n) m (before, b, (made, next)) are =
    let v = with_given [] m.given in
    let blocks : AllByRecursion IsBlock (b ∷ before.chain) = subst (AllByRecursion IsBlock) next.chain are in
    let newer = next_given start before.chain ++ own b ∷ [] in
    let more : IsWithin (with_given [] before.given) v =
    subst (λ gs. IsWithin (with_given [] before.given) (with_given [] gs)) (sym next.given)
    (subst (IsWithin (with_given [] before.given)) (sym (with_given-append [] before.given newer)) (given_within (with_given [] before.given) newer)) in
    let keeps : FirstBroken v before.chain b None = subst (λ gs. FirstBroken (with_given [] gs) before.chain b None) (sym next.given) next.keeps in
    subst (IsValid v) (sym next.chain)
    (valid_joined one v before.chain b blocks.0 next.short keeps (valid_more (with_given [] before.given) v more before.chain (made_valid one start n before made blocks.1)))

pub valid_there : HaveOneText → (start n : ℕ) (v : Verdicts) (c : Chain) (gs : List Given) → IsMade start n (record { chain = c; given = gs }) → AllByRecursion IsBlock c → IsValid (with_given v gs) c
valid_there one start n v c gs made are =
    valid_more (with_given [] gs) (with_given v gs) (all_within [] v gs (none_within v)) c (made_valid one start n (record { chain = c; given = gs }) made are)

-- ---- the state behind so many verdicts

abbrev with_verdicts : State → Verdicts → State
with_verdicts s v = record s { verdicts = v }

behind_turns : (gs : List Given) (answers : List (List ℕ)) (s new : State) → left_over s.store s.failures ≡ s.failures → Runs GivenTurn s (map verdict_given gs) answers new → new ≡ with_verdicts s (with_given s.verdicts gs)
behind_turns [] [] s new left run = run
behind_turns [] (answer ∷ answers) s new left run = absurd run
behind_turns (g ∷ gs) [] s new left run = absurd run
behind_turns (g ∷ gs) (answer ∷ answers) s new left (middle, (b, (noted, is), onward_is), run) =
    let with_one = with_verdict (verdict_of g.0 g.1 g.2) s.verdicts in
    let there : middle ≡ with_verdicts s with_one = onward_is ∙ ap (onward s) is ∙ λ i. record (with_verdicts s with_one) { failures = left i } in
    let left_there : left_over middle.store middle.failures ≡ middle.failures = subst (λ (k : State). left_over k.store k.failures ≡ k.failures) (sym there) left in
    behind_turns gs answers middle new left_there run ∙ ap (λ (k : State). with_verdicts k (with_given k.verdicts gs)) there

pub behind_verdicts : (gs : List Given) (s new : State) → left_over s.store s.failures ≡ s.failures → IsGivenAll (map verdict_given gs) s new → new ≡ with_verdicts s (with_given s.verdicts gs)
behind_verdicts gs s new left p = behind_turns gs p.answers s new left p.run

-- ---- the turns of the blocks of a chain

module _ (v : Verdicts) (auto : Bool) (fs : List Failure) (pool : List Doc) (left : left_over [] fs ≡ fs) where
  abbrev pub with_chain : Chain → State
  with_chain c = record { verdicts = v; chain = c; kept = min (length c) 100; store = []; auto = auto; failures = fs; pool = pool }

  kept_more : (n : ℕ) → min (suc n) 100 ≡ min (min n 100 + 1) 100
  kept_more n = omega arith

  one_more : (c : Chain) (b : Block) → FirstBrokenRaw v c (block_text b) None → IsBlock b → IsGivenAll (block_given b ∷ []) (with_chain c) (with_chain (b ∷ c))
  one_more c b first is =
      let there = accepted (branches_of (with_chain c)) b in
      let same : with_chain (b ∷ c) ≡ onward (with_chain c) there =
      λ i. record { verdicts = v; chain = b ∷ c; kept = kept_more (length c) i; store = []; auto = auto; failures = sym left i; pool = pool } in
      given_one (block_given b) (accepted_answer (stamp_of b)) (with_chain c) (with_chain (b ∷ c))
      (there, record { broken = None; first = first; decides = (b, record { is = is; text = refl }, refl, refl) }, same)

  pub given_chain : (c : Chain) → IsValid v c → IsGivenAll (map block_given (reverse c)) (with_chain []) (with_chain c)
  given_chain [] valid = given_none (with_chain [])
  given_chain (b ∷ c) valid =
      subst (λ l. IsGivenAll l (with_chain []) (with_chain (b ∷ c))) (sym (turned_push b c))
      (given_then (map block_given (reverse c)) (block_given b ∷ []) (with_chain []) (with_chain c) (with_chain (b ∷ c)) (given_chain c valid.2) (one_more c b valid.0 valid.1))

-- ---- the verdicts, and then the ledger

pub handed_over : (old mid new : State) (gs : List Given) (c : Chain) (kept : ℕ)
    → HasNoBlock (branches_of old) → left_over old.store old.failures ≡ old.failures → IsValid (with_given old.verdicts gs) c
    → IsGivenAll (map verdict_given gs) old mid → kept ≡ min (length c) 100 → new ≡ record mid { chain = c; kept = kept }
    → IsGivenAll (map verdict_given gs ++ map block_given (reverse c)) old new
handed_over old mid new gs c kept none left valid given is_kept taken =
    let v = with_given old.verdicts gs in
    let fits : left_over [] old.failures ≡ old.failures = subst (λ (l : List Block). left_over l old.failures ≡ old.failures) none.store left in
    let state = with_chain v old.auto old.failures old.pool fits in
    let mid_is : mid ≡ with_verdicts old v = behind_verdicts gs old mid left given in
    let from : mid ≡ state [] = mid_is ∙ λ i. record (with_verdicts old v) { chain = none.chain i; kept = none.kept i; store = none.store i } in
    let to : new ≡ state c = taken ∙ (λ i. record (mid_is i) { chain = c; kept = is_kept i }) ∙ λ i. record (with_verdicts old v) { chain = c; kept = min (length c) 100; store = none.store i } in
    given_then (map verdict_given gs) (map block_given (reverse c)) old mid new given
    (subst (λ k. IsGivenAll (map block_given (reverse c)) mid k) (sym to) (subst (λ k. IsGivenAll (map block_given (reverse c)) k (state c)) (sym from) (given_chain v old.auto old.failures old.pool fits c valid)))

-- ---- what is there behind the verdicts

pub none_then : (old mid : State) (gs : List Given) → left_over old.store old.failures ≡ old.failures → IsGivenAll (map verdict_given gs) old mid → HasNoBlock (branches_of old) → HasNoBlock (branches_of mid)
none_then old mid gs left given none =
    subst (λ (k : State). HasNoBlock (branches_of k)) (sym (behind_verdicts gs old mid left given)) (record { chain = none.chain; kept = none.kept; store = none.store })

pub valid_then : (old mid : State) (gs : List Given) (c : Chain) → left_over old.store old.failures ≡ old.failures → IsGivenAll (map verdict_given gs) old mid → IsValid (with_given old.verdicts gs) c → IsValid mid.verdicts c
valid_then old mid gs c left given valid = subst (λ (k : State). IsValid k.verdicts c) (sym (behind_verdicts gs old mid left given)) valid

-- so many blocks were made
pub made_long : (start n : ℕ) (m : Made) → IsMade start n m → length m.chain ≡ n
made_long start zero m made = ap (λ (k : Made). length k.chain) made
made_long start (suc n) m (before, b, (made, next)) = ap (λ (c : Chain). length c) next.chain ∙ ap suc (made_long start n before made)
