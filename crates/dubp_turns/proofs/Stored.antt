-- What `offer` and `switch` of the store said, as turns of the node.
use Rattle.std.proofs.Common.{◌≡◌, ◌⊎◌, inl, inr, ℕ, ◌<◌, ◌≤◌, Bool, true, false, List, [], ◌∷◌, ◌++◌, length, Option, Some, None, is_some, Result, Ok, Err, refl, ap, subst, ◌∙◌, arith}
use Rattle.std.proofs.lemmas.Bool.Decides.{nat_tests}
use Rattle.std.specs.Prelude.{MatchBool, nat_le, nat_lt}
use Rattle.std.specs.Option.{MatchOption}
use Rattle.dubp_atoms.specs.declared.stamp.Stamp.{Stamp}
use Rattle.dubp_block.specs.declared.block.Block.{Block}
use Rattle.dubp_block.specs.Text.{stamp_of}
use Rattle.dubp_rules.specs.declared.rule.Rule.{Rule}
use Rattle.dubp_rules.specs.declared.rule.Rule.TheVariants.{P01}
use Rattle.dubp_rules.specs.Table.{code_text}
use Rattle.dubp_validity.specs.Rules.{IsTextOf}
use Rattle.dubp_replay.specs.Answers.{branch_refused_answer, forgotten_answer, full_answer, known_answer, no_memory_answer, refused_answer, stored_answer, too_deep_answer, unknown_answer}
use Rattle.dubp_replay.specs.Turns.{Branches, OfferTurn, Only, RefusedBy, Stores, SwitchTurn, SwitchesBy, TriesPath, ForgetTurn, without, is_known, stored, blocks_behind, most_stored}
use Rattle.dubp_forks.specs.declared.refusals.OfferRefusal.{OfferRefusal}
use Rattle.dubp_forks.specs.declared.refusals.OfferRefusal.TheVariants as offer
use Rattle.dubp_forks.specs.declared.refusals.SwitchRefusal.{SwitchRefusal}
use Rattle.dubp_forks.specs.declared.refusals.SwitchRefusal.TheVariants as switch
use Rattle.dubp_forks.specs.Offers.{FirstOffered, IsOffered, Offered}
use Rattle.dubp_forks.specs.Switches.{BranchesOff, MayTry, Switched, stored_then}
use Rattle.dubp_replay.specs.declared.command.Command.TheVariants as command
use Rattle.dubp_turns.proofs.Outside.{without_none}
use Rattle.dubp_turns.specs.BranchActs.{BranchesTurnOrLack}
use Rattle.dubp_turns.specs.Deciding.{ShortOfferActs, offer_text, switch_text}

-- ---- OFFER

-- these branches with another store
abbrev pub with_store : Branches → List Block → Branches
with_store old store = record { verdicts = old.verdicts; chain = old.chain; kept = old.kept; store = store }

-- no block breaks the rule that its bytes are a block
names_rule : (old new : Branches) (bytes answer : List ℕ) (b : Block) (rule : Rule) → IsTextOf bytes b → FirstOffered old bytes (Some rule) → Only (refused_answer (code_text rule)) old answer new → RefusedBy bytes rule old answer new
names_rule old new bytes answer b P01 text f only = absurd (f.fails (b, text))
names_rule old new bytes answer b rule text f only = only

-- a case that is chosen
in_true : (x : Bool) (P Q : Type 0) → x ≡ true → P → MatchBool x P Q
in_true true P Q e p = p
in_true false P Q e p = absurd cc

in_false : (x : Bool) (P Q : Type 0) → x ≡ false → Q → MatchBool x P Q
in_false true P Q e q = absurd cc
in_false false P Q e q = q

in_none : (o : Option ℕ) (P : Type 0) (Q : ℕ → Type 0) → o ≡ None → P → MatchOption o P Q
in_none None P Q e p = p
in_none (Some n) P Q e p = absurd cc

in_some : (o : Option ℕ) (P : Type 0) (Q : ℕ → Type 0) (n : ℕ) → o ≡ Some n → Q n → MatchOption o P Q
in_some None P Q n e q = absurd cc
in_some (Some m) P Q n e q = let same : n ≡ m = cc in subst Q same q

is_at_most : (n m : ℕ) → n ≤ m → nat_le n m ≡ true
is_at_most n m h = grind (arith, nat_tests)

is_more : (n m : ℕ) → m < n → nat_le n m ≡ false
is_more n m h = grind (arith, nat_tests)

is_less : (n m : ℕ) → n < m → nat_lt n m ≡ true
is_less n m h = grind (arith, nat_tests)

is_no_less : (n m : ℕ) → m ≤ n → nat_lt n m ≡ false
is_no_less n m h = grind (arith, nat_tests)

-- a block that breaks none of the rules
known_turn : (old new : Branches) (bytes answer : List ℕ) (b : Block) → IsOffered old bytes b → is_known old (stamp_of b) ≡ true → answer ≡ known_answer (stamp_of b) → new ≡ old → Stores bytes old answer new
known_turn old new bytes answer b o known e same = (b, o.text, in_true _ _ _ known (e, same))

full_turn : (old new : Branches) (bytes answer : List ℕ) (b : Block) → IsOffered old bytes b → is_known old (stamp_of b) ≡ false → most_stored ≤ length old.store → answer ≡ full_answer → new ≡ old → Stores bytes old answer new
full_turn old new bytes answer b o known full e same = (b, o.text, in_false _ _ _ known (in_true _ _ _ (is_at_most most_stored (length old.store) full) (e, same)))

stored_turn : (old new : Branches) (bytes answer : List ℕ) (b : Block) → IsOffered old bytes b → is_known old (stamp_of b) ≡ false → length old.store < most_stored → answer ≡ stored_answer (stamp_of b) → new ≡ with_store old (old.store ++ b ∷ []) → Stores bytes old answer new
stored_turn old new bytes answer b o known few e grows = (b, o.text, in_false _ _ _ known (in_false _ _ _ (is_more most_stored (length old.store) few) (e, grows)))

-- a block that was stored
pub stored_offer : (old : Branches) (bytes answer : List ℕ) (stamp : Stamp) (after : List Block) → Offered old bytes (Ok stamp) after → answer ≡ stored_answer stamp → OfferTurn old bytes answer (with_store old after)
stored_offer old bytes answer stamp after (b, o, is, known, few, grows) e = record {
  broken = None;
  first = o.keeps;
  decides = stored_turn old (with_store old after) bytes answer b o (subst (λ s. is_known old s ≡ false) is known) few (e ∙ ap stored_answer is) (ap (with_store old) grows);
}

-- where none was, the store is as before
pub offered_none : (old : Branches) (bytes : List ℕ) (refusal : OfferRefusal) (after : List Block) → Offered old bytes (Err refusal) after → after ≡ old.store
offered_none old bytes (offer.Unread line) after o = o.2
offered_none old bytes (offer.Local rule) after o = o.3
offered_none old bytes (offer.Known stamp) after o = o.4
offered_none old bytes (offer.Full held) after o = o.5
offered_none old bytes offer.NoMemory after o = o

pub offered_acts : (old : Branches) (bytes answer : List ℕ) (r : Result Stamp OfferRefusal) (after : List Block) → Offered old bytes r after → answer ≡ offer_text r → ShortOfferActs old bytes answer (with_store old after)
offered_acts old bytes answer (Ok stamp) after o e = inl (stored_offer old bytes answer stamp after o e)
offered_acts old bytes answer (Err (offer.Unread line)) after (first, refused, same) e =
    inl (record { broken = Some P01; first = first; decides = (line, refused, (e, ap (with_store old) same)) })
offered_acts old bytes answer (Err (offer.Local rule)) after (b, text, first, same) e =
    inl (record { broken = Some rule; first = first; decides = names_rule old (with_store old after) bytes answer b rule text first (e, ap (with_store old) same) })
offered_acts old bytes answer (Err (offer.Known stamp)) after (b, o, is, known, same) e =
    inl (record {
      broken = None;
      first = o.keeps;
      decides = known_turn old (with_store old after) bytes answer b o (subst (λ s. is_known old s ≡ true) is known) (e ∙ ap known_answer is) (ap (with_store old) same);
    })
offered_acts old bytes answer (Err (offer.Full held)) after (b, o, known, is, full, same) e =
    inl (record {
      broken = None;
      first = o.keeps;
      decides = full_turn old (with_store old after) bytes answer b o known (omega (arith, is, full)) e (ap (with_store old) same);
    })
offered_acts old bytes answer (Err offer.NoMemory) after same e = inr (e, ap (with_store old) same)

-- ---- SWITCH

-- along the path, by so many blocks
goes_by : (old new : Branches) (stamp : Stamp) (path : List Block) (count : ℕ) (answer : List ℕ) → BranchesOff old stamp path count → SwitchesBy old stamp path count answer new → SwitchTurn old stamp answer new
goes_by old new stamp path count answer b by = record {
  path = path;
  end = b.end;
  is = b.along.is;
  goes = in_true _ _ _ b.along.some (in_some (blocks_behind old.chain b.end) _ (λ n. SwitchesBy old stamp path n answer new) count b.behind by);
}

-- the path is tried
tries_by : (old new : Branches) (stamp : Stamp) (path : List Block) (count : ℕ) (answer : List ℕ) → MayTry old stamp path count → TriesPath old stamp path count answer new → SwitchTurn old stamp answer new
tries_by old new stamp path count answer m tries =
    goes_by old new stamp path count answer m.goes
    (in_false _ _ _ (is_no_less old.kept count m.deep) (in_false _ _ _ (is_no_less most_stored (stored_then old path count) m.fits) tries))

pub switched_turn : (old new : Branches) (stamp : Stamp) (answer : List ℕ) (r : Result (Unit {0}) SwitchRefusal) → Switched old stamp r new → answer ≡ switch_text stamp r → SwitchTurn old stamp answer new ⊎ Only no_memory_answer old answer new
switched_turn old new stamp answer (Ok done) (path, count, may, accepted, is) e =
    inl (tries_by old new stamp path count answer may (inl (accepted, e, is)))
switched_turn old new stamp answer (Err switch.Unknown) (none, same) e =
    inl (record { path = []; end = Some stamp; is = (none, refl); goes = in_false _ _ _ (ap is_some none) (e, same) })
switched_turn old new stamp answer (Err (switch.Detached at)) (path, along, none, same) e =
    inl (record {
      path = path;
      end = Some at;
      is = along.is;
      goes = in_true _ _ _ along.some (in_none (blocks_behind old.chain (Some at)) _ (λ n. SwitchesBy old stamp path n answer new) none (e, same));
    })
switched_turn old new stamp answer (Err (switch.TooDeep kept)) (path, count, goes, more, is, same) e =
    inl (goes_by old new stamp path count answer goes (in_true _ _ _ (is_less old.kept count more) (e ∙ ap too_deep_answer is, same)))
switched_turn old new stamp answer (Err (switch.Full held)) (path, count, goes, deep, is, more, same) e =
    inl (goes_by old new stamp path count answer goes (in_false _ _ _ (is_no_less old.kept count deep) (in_true _ _ _ (is_less most_stored (stored_then old path count) (omega (arith, is, more))) (e, same))))
switched_turn old new stamp answer (Err (switch.Refused at rule)) (path, count, may, b, is, breaks, same) e =
    inl (tries_by old new stamp path count answer may (inr (b, rule, breaks, (e ∙ ap (λ s. branch_refused_answer s (code_text rule)) is, same))))
switched_turn old new stamp answer (Err switch.NoMemory) same e = inr (e, same)

pub switched_acts : (old new : Branches) (stamp : Stamp) (bytes answer : List ℕ) (r : Result (Unit {0}) SwitchRefusal) → Switched old stamp r new → answer ≡ switch_text stamp r → BranchesTurnOrLack old (command.Switch stamp) bytes answer new
switched_acts old new stamp bytes answer r s e = elim (switched_turn old new stamp answer r s e) [ inl turn ↦ inl turn | inr lack ↦ inr (tt, lack) ]

-- ---- FORGET

pub forgotten_turn : (old : Branches) (stamp : Stamp) (answer : List ℕ) (store : List Block) → is_some (stored old.store stamp) ≡ true → store ≡ without stamp old.store → answer ≡ forgotten_answer → ForgetTurn old stamp answer (with_store old store)
forgotten_turn old stamp answer store some left e = in_true _ _ _ some (e, ap (with_store old) left)

pub unknown_turn : (old : Branches) (stamp : Stamp) (answer : List ℕ) (store : List Block) → is_some (stored old.store stamp) ≡ false → store ≡ without stamp old.store → answer ≡ unknown_answer → ForgetTurn old stamp answer (with_store old store)
unknown_turn old stamp answer store none left e = in_false _ _ _ none (e, ap (with_store old) (left ∙ without_none stamp old.store none))
