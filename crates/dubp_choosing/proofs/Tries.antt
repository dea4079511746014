-- What is known of a choice before it is tried, and what a failure of it changes.
use Rattle.std.proofs.Common.{◌≡◌, ℕ, suc, ◌+◌, ◌-◌, ◌<◌, ◌≤◌, ◌||◌, Bool, true, false, not, cond, List, [], ◌∷◌, ◌++◌, map, length, drop, position, Option, Some, None, is_some, refl, sym, ap, subst, ◌∙◌, true≢false, arith, lt-ltb}
use Rattle.std.specs.List.{AllByRecursion, list_any, position_or_len}
use Rattle.std.specs.Option.{option_map}
use Rattle.std.proofs.lemmas.List.{length-map, map-append}
use Rattle.dubp_atoms.specs.declared.stamp.Stamp.{Stamp}
use Rattle.dubp_block.specs.declared.block.Block.{Block}
use Rattle.dubp_block.specs.Text.{stamp_of}
use Rattle.dubp_rules.specs.declared.rule.Rule.TheVariants.{G51}
use Rattle.dubp_chain.specs.Chains.{Chain}
use Rattle.dubp_validity.specs.Rules.{IsSound}
use Rattle.dubp_resolve.specs.declared.view.Offered.{Offered}
use Rattle.dubp_resolve.specs.Choice as choice
use Rattle.dubp_resolve.specs.Choice.{Choices, Path, is_among, has_stamp, is_detached, path_of}
use Rattle.dubp_resolve.specs.Known.{AreOffers}
use Rattle.dubp_resolve.proofs.Candidates.{IsChosen, chosen_is}
use Rattle.dubp_resolve.proofs.Ending.{candidates, fewer_candidates, with_failed}
use Rattle.dubp_resolve.proofs.Paths.{path_is}
use Rattle.dubp_resolve.proofs.Stamps.{own_stamp, same_is}
use Rattle.dubp_replay.specs.declared.failure.Failure.{Failure}
use Rattle.dubp_replay.specs.Turns.{Branches, BreaksAt, Fails, IsPath, LeadsOff, blocks_behind, choices_of, is_stamped, left_over, most_stored, offered, stored}
use Rattle.dubp_choosing.specs.States.{IsTipOf, choosing}
use Rattle.dubp_choosing.proofs.Failures.{left_noted}
use Rattle.dubp_choosing.proofs.Offers.{all_at, any_at, offered_path, offered_stored, path_stored}

-- what a tip is the stamp of
pub record IsOf (chosen : Option Offered) (tip : Stamp) : Type 0 where
  pub block : Offered
  pub is : chosen ≡ Some block
  pub stamp : tip ≡ block.stamp

pub chosen_of : (chosen : Option Offered) (tip : Stamp) → Some tip ≡ option_map (λ o. o.stamp) chosen → IsOf chosen tip
chosen_of None tip e = absurd cc
chosen_of (Some o) tip e = record { block = o; is = refl; stamp = cc }

-- the path that a choice looks at
pub path_chosen : (b : Branches) (fs : List Failure) → AreOffers (map offered b.store) → (o : Offered) (path : List Block) (end : Option Stamp) → IsPath b.store o.stamp path end
    → path_of (choices_of (choosing b fs)) o ≡ record { blocks = map offered path; end = end }
path_chosen b fs offers o path end p =
    path_is (map offered b.store) offers.numbered o.stamp (map offered path) end (offered_path b.store o.stamp path end p) (suc o.stamp.number) refl

-- ---- where the path ends
module _ (s : Stamp) where
  at_place : (c : Chain) → IsSound c → is_among (map stamp_of c) s ≡ true → position_or_len (is_stamped s) c + (s.number + 1) ≡ length c
  at_place [] sound e = absurd (true≢false (sym e))
  at_place (b ∷ c) sound e =
      let n : b.number ≡ length c = sound.0 G51 refl in
      elim (is_stamped s b) as (λ r. is_stamped s b ≡ r → (r || is_among (map stamp_of c) s) ≡ true → cond (not r) (1 + position_or_len (is_stamped s) c) 0 + (s.number + 1) ≡ length (b ∷ c)) [
        | true ↦ λ f h. let m : s.number ≡ b.number = ap (λ (t : Stamp). t.number) (same_is s (stamp_of b) f) in omega arith
        | false ↦ λ f h. let r = at_place c sound.1 h in omega arith
      ] refl e

  stands_at : (c : Chain) → IsSound c → is_among (map stamp_of c) s ≡ true → position (is_stamped s) c ≡ Some (length c - (s.number + 1))
  stands_at c sound e =
      let at = at_place c sound e in
      let less : position_or_len (is_stamped s) c < length c = omega arith in
      let same : position_or_len (is_stamped s) c ≡ length c - (s.number + 1) = omega arith in
      ap (λ r. cond r (Some (position_or_len (is_stamped s) c)) None) (lt-ltb _ _ less) ∙ ap Some same

-- so many blocks would be reversed, which can be, and stored in place of the path
pub record IsReadyOn (b : Branches) (path : List Block) (end : Option Stamp) : Type 0 where
  pub count : ℕ
  pub behind : blocks_behind b.chain end ≡ Some count
  pub deep : count ≤ b.kept
  pub fits : (length b.store - length path) + count ≤ most_stored

-- each reason against a switch that comes before its blocks are judged is out
pub record IsReady (b : Branches) (tip : Stamp) : Type 0 where
  pub some : is_some (stored b.store tip) ≡ true
  pub on : (path : List Block) (end : Option Stamp) → IsPath b.store tip path end → IsReadyOn b path end

not_false : (r : Bool) → not r ≡ false → r ≡ true
not_false true e = refl
not_false false e = absurd (true≢false e)

some_of : (o : Option Block) (x : Offered) → option_map offered o ≡ Some x → is_some o ≡ true
some_of None x e = absurd cc
some_of (Some b) x e = refl

ready_on : (b : Branches) (fs : List Failure) → IsSound b.chain → (path : List Block) (end : Option Stamp) → is_detached (choices_of (choosing b fs)) (record { blocks = map offered path; end = end }) ≡ false
    → choice.behind (choices_of (choosing b fs)) (record { blocks = map offered path; end = end }) ≤ b.kept
    → choice.stored_then (choices_of (choosing b fs)) (record { blocks = map offered path; end = end }) ≤ most_stored → IsReadyOn b path end
ready_on b fs sound path None joins deep fits = record {
  count = length b.chain;
  behind = refl;
  deep = let d : length b.chain - 0 ≤ b.kept = deep in omega arith;
  fits =
      let l = length-map b.store offered in
      let m = length-map path offered in
      let f : (length (map offered b.store) - length (map offered path)) + (length b.chain - 0) ≤ most_stored = fits in
      omega arith;
}
ready_on b fs sound path (Some s) joins deep fits = record {
  count = length b.chain - (s.number + 1);
  behind = stands_at s b.chain sound (not_false (is_among (map stamp_of b.chain) s) joins);
  deep = deep;
  fits =
      let l = length-map b.store offered in
      let m = length-map path offered in
      let f : (length (map offered b.store) - length (map offered path)) + (length b.chain - (s.number + 1)) ≤ most_stored = fits in
      omega arith;
}

pub ready : (b : Branches) (fs : List Failure) (tip : Stamp) → AreOffers (map offered b.store) → IsSound b.chain → IsTipOf b fs (Some tip) → IsReady b tip
ready b fs tip offers sound e =
    let v = choices_of (choosing b fs) in
    let o = chosen_of (choice.choice v) tip e in
    let is : IsChosen v o.block = chosen_is v offers o.block o.is in
    subst (IsReady b) (sym o.stamp) (record {
      some = some_of (stored b.store o.block.stamp) o.block (sym (offered_stored b.store o.block.stamp) ∙ is.found);
      on = λ path end p.
          let same = path_chosen b fs offers o.block path end p in
          ready_on b fs sound path end (subst (λ (q : Path). is_detached v q ≡ false) same is.joins) (subst (λ (q : Path). choice.behind v q ≤ b.kept) same is.deep)
          (subst (λ (q : Path). choice.stored_then v q ≤ most_stored) same is.fits);
    })

-- ---- a failure
pub any_offered : (s : Stamp) (bs : List Block) → list_any (has_stamp s) (map offered bs) ≡ list_any (is_stamped s) bs
any_offered s [] = refl
any_offered s (b ∷ bs) = ap (λ r. is_stamped s b || r) (any_offered s bs)

-- a failure that is noted: nothing else changes, it is kept, and a block fewer is a candidate
pub record IsNoted (b : Branches) (fs : List Failure) (f : Failure) : Type 0 where
  pub fails : Fails (choosing b fs) f (choosing b (fs ++ f ∷ []))
  pub held : left_over b.store (fs ++ f ∷ []) ≡ fs ++ f ∷ []
  pub fewer : candidates (choices_of (choosing b (fs ++ f ∷ []))) < candidates (choices_of (choosing b fs))

fewer_with : (b : Branches) (fs : List Failure) (f : Failure) → AreOffers (map offered b.store) → IsTipOf b fs (Some f.tip) → (path : List Block) (end : Option Stamp) → IsPath b.store f.tip path end
    → list_any (is_stamped f.at) path ≡ true → candidates (choices_of (choosing b (fs ++ f ∷ []))) < candidates (choices_of (choosing b fs))
fewer_with b fs f offers tip path end p on =
    let v = choices_of (choosing b fs) in
    let o = chosen_of (choice.choice v) f.tip tip in
    let same = path_chosen b fs offers o.block path end (subst (λ s. IsPath b.store s path end) o.stamp p) in
    let there : list_any (has_stamp f.at) (path_of v o.block).blocks ≡ true = ap (λ (q : Path). list_any (has_stamp f.at) q.blocks) same ∙ any_offered f.at path ∙ on in
    subst (λ (l : List Stamp). candidates (with_failed v l) < candidates v) (sym (map-append (λ (g : Failure). g.at) fs (f ∷ [])))
    (fewer_candidates v v.failed f.at o.block o.is there)

pub noted : (b : Branches) (fs : List Failure) (f : Failure) → AreOffers (map offered b.store) → left_over b.store fs ≡ fs → IsTipOf b fs (Some f.tip) → (path : List Block) (count : ℕ) → LeadsOff b f.tip path count
    → (at : Block) → f.at ≡ stamp_of at → BreaksAt b.verdicts (drop count b.chain) path at f.rule → IsNoted b fs f
noted b fs f offers held tip path count leads at is breaks =
    let own : is_stamped f.at at ≡ true = subst (λ s. is_stamped s at ≡ true) (sym is) (own_stamp (stamp_of at)) in
    record {
      fails = (path, count, leads, (at, is, breaks), refl);
      held =
          left_noted b.store fs f held
          (subst (λ s. list_any (is_stamped s) b.store ≡ true) (sym is)
          (all_at (λ d. list_any (is_stamped (stamp_of d)) b.store ≡ true) breaks.above at breaks.below
          (subst (AllByRecursion (λ d. list_any (is_stamped (stamp_of d)) b.store ≡ true)) breaks.stands (path_stored b.store f.tip path leads.end leads.is))));
      fewer =
          fewer_with b fs f offers tip path leads.end leads.is
          (ap (list_any (is_stamped f.at)) breaks.stands ∙ any_at (is_stamped f.at) breaks.above at breaks.below own);
    }
