-- What `switch` says, of what its parts do.
use Rattle.std.proofs.Common.{◌≡◌, ℕ, ◌+◌, ◌-◌, ◌<◌, ◌≤◌, true, not, List, [], ◌∷◌, ◌++◌, map, filter, length, min, take, drop, reverse, Option, Some, None, is_some, Result, Ok, Err, IfErr, OnOk, OnErr, refl, sym, ap, subst, ◌∙◌, arith}
use Rattle.std.proofs.lemmas.List.{length-map}
use Rattle.std.specs.List.{AllByRecursion}
use Rattle.dubp_atoms.specs.declared.stamp.Stamp.{Stamp}
use Rattle.dubp_block.specs.declared.block.Block.{Block}
use Rattle.dubp_block.specs.Text.{IsBlock, stamp_of}
use Rattle.dubp_chain.specs.Chains.{Chain}
use Rattle.dubp_verdict.specs.Verdicts.{Verdicts}
use Rattle.dubp_validity.specs.Rules.{IsSound}
use Rattle.dubp_ledger.specs.OfKept.{KeptChain, steps_of_last}
use Rattle.dubp_ledger.specs.Traces.{IsShort}
use Rattle.dubp_replay.specs.Turns.{IsPath, blocks_behind, is_on, most_stored, stored, switched}
use Rattle.dubp_forks.specs.Entries.{AreKept, Entries, blocks_in}
use Rattle.dubp_forks.specs.Stores.{AreOutside, AreStored, IsStorable, state_of}
use Rattle.dubp_forks.specs.Switches.{BranchesOff, IsAlong, MayTry, Switched, TakesFew, stored_then}
use Rattle.dubp_forks.specs.Switching.{HasSwitched, IsLaid, IsTooMuch, IsWhyNot, LeadsTo}
use Rattle.dubp_forks.specs.declared.refusals.SwitchRefusal.{SwitchRefusal}
use Rattle.dubp_forks.specs.declared.refusals.SwitchRefusal.TheVariants.{Unknown, Detached, TooDeep, Full, Refused, NoMemory}
use Rattle.dubp_forks.proofs.Kept.{kept_from, view_from}
use Rattle.dubp_forks.proofs.Lasting.{left_apart, left_few, left_outside, left_storable}
use Rattle.dubp_forks.proofs.Paths.{IsFalling, path_falls}

-- blocks in range with short texts may be stored
pub storable : (c : Chain) → AllByRecursion IsBlock c → AllByRecursion IsShort c → AllByRecursion IsStorable c
storable [] blocks short = tt
storable (b ∷ c) blocks short = (record { text = blocks.0; short = short.0 }, storable c blocks.1 short.1)

-- no stamps, no stored block; and some, one
no_block : (store : List Block) (stamp : Stamp) (keys : List Stamp) (end : Option Stamp) (path : List Block) → keys ≡ map stamp_of path → IsPath store stamp path end → length keys ≡ 0 → stored store stamp ≡ None
no_block store stamp keys end [] e is none = is.0
no_block store stamp keys end (b ∷ path) e is none = absurd (omega (arith, ap length e, none))

some_block : (store : List Block) (stamp : Stamp) (keys : List Stamp) (end : Option Stamp) (path : List Block) → keys ≡ map stamp_of path → IsPath store stamp path end → 0 < length keys → is_some (stored store stamp) ≡ true
some_block store stamp keys end [] e is some = absurd (omega (arith, ap length e, some))
some_block store stamp keys end (b ∷ path) e is some = ap is_some is.0

-- what a switch leaves, whatever came of it
pub record IsSwitch (v : Verdicts) (old : KeptChain) (store : List Block) (stamp : Stamp) (r : Result (Unit {0}) SwitchRefusal) (rows : Entries) (new : KeptChain) : Type 0 where
  pub switched : Switched (state_of v old store) stamp r (state_of v new (blocks_in rows))
  pub kept : AreKept rows
  pub out : new.out ≡ None
  pub outside : AreOutside (blocks_in rows) new.chain

module _ (v : Verdicts) (s : KeptChain) (store : List Block) (stamp : Stamp) (keys : List Stamp) (end : Option Stamp) (are : AreStored store) (leads : LeadsTo store stamp keys end) where
  falling : IsFalling store stamp.number leads.path
  falling = path_falls store are.each stamp leads.path end leads.is

  pub laid : IsLaid store keys leads.path
  laid = record { stamps = leads.stamps; each = falling.each }

  keys_are : length keys ≡ length leads.path
  keys_are = ap length leads.stamps ∙ length-map leads.path stamp_of

  pub unknown_is : length keys ≡ 0 → Switched (state_of v s store) stamp (Err Unknown) (state_of v s store)
  unknown_is none = (no_block store stamp keys end leads.path leads.stamps leads.is none, refl)

  module _ (some : 0 < length keys) where
    along : IsAlong (state_of v s store) stamp leads.path end
    along = record { some = some_block store stamp keys end leads.path leads.stamps leads.is some; is = leads.is }

    pub detached_is : (refusal : SwitchRefusal) (at : Stamp) → refusal ≡ Detached at → end ≡ Some at → blocks_behind s.chain end ≡ None → Switched (state_of v s store) stamp (Err refusal) (state_of v s store)
    detached_is refusal at is ends none =
        subst (λ r. Switched (state_of v s store) stamp (Err r) (state_of v s store)) (sym is)
        (leads.path, subst (IsAlong (state_of v s store) stamp leads.path) ends along, subst (λ e. blocks_behind s.chain e ≡ None) ends none, refl)

    module _ (count : ℕ) (behind : blocks_behind s.chain end ≡ Some count) where
      goes : BranchesOff (state_of v s store) stamp leads.path count
      goes = record { end = end; along = along; behind = behind }

      then_is : (length store - length keys) + count ≡ stored_then (state_of v s store) leads.path count
      then_is = ap (λ n. (length store - n) + count) keys_are

      pub too_much_is : (kept then : ℕ) (refusal : SwitchRefusal) → kept ≡ s.kept → then ≡ (length store - length keys) + count → IsTooMuch kept count then refusal → Switched (state_of v s store) stamp (Err refusal) (state_of v s store)
      too_much_is kept then (TooDeep told) k e much = (leads.path, count, goes, omega (arith, k, much.0), much.1 ∙ k, refl)
      too_much_is kept then (Full held) k e much = (leads.path, count, goes, omega (arith, k, much.0), much.1 ∙ e ∙ then_is, much.2, refl)
      too_much_is kept then Unknown k e much = absurd much
      too_much_is kept then (Detached at) k e much = absurd much
      too_much_is kept then (Refused at rule) k e much = absurd much
      too_much_is kept then NoMemory k e much = absurd much

      module _ (deep : count ≤ s.kept) (fits : (length store - length keys) + count ≤ most_stored) (alone : s.out ≡ None) (sound : IsSound s.chain) (each : AllByRecursion IsStorable s.chain) (out : AreOutside store s.chain) where
        may : MayTry (state_of v s store) stamp leads.path count
        may = record { goes = goes; deep = deep; fits = subst (λ n. n ≤ most_stored) then_is fits }

        pub few_steps : (r : Result (Unit {0}) SwitchRefusal) (then : Chain) (before after : ℕ) → OnOk r (after ≤ before + (steps_of_last count s.chain + steps_of_last (length keys) then)) → OnOk r (TakesFew (state_of v s store) stamp then before after)
        few_steps (Ok done) then before after few = record { path = leads.path; count = count; goes = may; few = subst (λ n. after ≤ before + (steps_of_last count s.chain + steps_of_last n then)) keys_are few }
        few_steps (Err refusal) then before after few = tt

        few : (length store - length leads.path) + count ≤ most_stored
        few = subst (λ n. (length store - n) + count ≤ most_stored) keys_are fits

        stands : AreStored (filter (λ b. not (is_on leads.path b)) store ++ reverse (take count s.chain))
        stands = record {
          each = left_storable store leads.path s.chain count are sound out each;
          apart = left_apart store leads.path s.chain count are sound out;
          few = left_few store leads.path s.chain count are sound out falling.each falling.apart few;
        }

        done_is : (rows : Entries) (new : KeptChain) → HasSwitched v s store leads.path count rows new → IsSwitch v s store stamp (Ok tt) rows new
        done_is rows new h =
            let view = view_from (filter (λ b. not (is_on leads.path b)) store ++ reverse (take count s.chain)) rows h.entries in
            let one : state_of v new (blocks_in rows) ≡ record { verdicts = v; chain = leads.path ++ drop count s.chain; kept = new.kept; store = blocks_in rows } = ap (λ c. record { verdicts = v; chain = c; kept = new.kept; store = blocks_in rows }) h.chain in
            let two = ap (λ k. record { verdicts = v; chain = leads.path ++ drop count s.chain; kept = k; store = blocks_in rows }) h.kept in
            let three : record { verdicts = v; chain = leads.path ++ drop count s.chain; kept = min ((s.kept - count) + length leads.path) 100; store = blocks_in rows } ≡ switched (state_of v s store) leads.path count = ap (λ l. record { verdicts = v; chain = leads.path ++ drop count s.chain; kept = min ((s.kept - count) + length leads.path) 100; store = l }) view in
            record {
              switched = (leads.path, count, may, h.passed, one ∙ two ∙ three);
              kept = kept_from (filter (λ b. not (is_on leads.path b)) store ++ reverse (take count s.chain)) rows h.entries stands;
              out = h.out;
              outside = subst (λ l. AreOutside l new.chain) (sym view) (subst (AreOutside (filter (λ b. not (is_on leads.path b)) store ++ reverse (take count s.chain))) (sym h.chain) (left_outside store leads.path s.chain count are sound out falling.each));
            }

        why_is : (refusal : SwitchRefusal) → IsWhyNot v (drop count s.chain) leads.path refusal → Switched (state_of v s store) stamp (Err refusal) (state_of v s store)
        why_is (Refused at rule) why = (leads.path, count, may, why.0, why.1, why.2, refl)
        why_is NoMemory why = refl
        why_is Unknown why = absurd why
        why_is (Detached at) why = absurd why
        why_is (TooDeep kept) why = absurd why
        why_is (Full held) why = absurd why

        refused_is : (entries rows : Entries) (new : KeptChain) (refusal : SwitchRefusal) → AreKept entries → blocks_in entries ≡ store → rows ≡ entries → new ≡ s → IsWhyNot v (drop count s.chain) leads.path refusal → IsSwitch v s store stamp (Err refusal) rows new
        refused_is entries rows new refusal kept view same ledger why =
            let here : blocks_in rows ≡ store = ap blocks_in same ∙ view in
            let state : state_of v new (blocks_in rows) ≡ state_of v s store = ap (λ k. state_of v k (blocks_in rows)) ledger ∙ ap (state_of v s) here in
            record {
              switched = subst (Switched (state_of v s store) stamp (Err refusal)) (sym state) (why_is refusal why);
              kept = subst AreKept (sym same) kept;
              out = ap (λ k. k.out) ledger ∙ alone;
              outside = subst (λ l. AreOutside l new.chain) (sym here) (subst (λ k. AreOutside store k.chain) (sym ledger) out);
            }

        pub whole : (entries rows : Entries) (new : KeptChain) (r : Result (Unit {0}) SwitchRefusal) → AreKept entries → blocks_in entries ≡ store
            → OnOk r ((path : List Block) → IsLaid store keys path → HasSwitched v s store path count rows new)
            → OnErr r (rows ≡ entries) → OnErr r (new ≡ s)
            → IfErr r (λ refusal. (path : List Block) → IsLaid store keys path → IsWhyNot v (drop count s.chain) path refusal)
            → IsSwitch v s store stamp r rows new
        whole entries rows new (Ok done) kept view done_by back same why = done_is rows new (done_by leads.path laid)
        whole entries rows new (Err refusal) kept view done_by back same why = refused_is entries rows new refusal kept view back same (why leads.path laid)
