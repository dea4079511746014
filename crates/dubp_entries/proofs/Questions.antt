-- What changes nothing, and how its line tells so.
use Rattle.std.proofs.Common.{◌≡◌, inl, inr, ℕ, ◌<◌, Bool, true, false, not, IsTrue, List, length, Some, None, refl, sym, ◌∙◌, ap, subst, arith}
use Rattle.std.specs.Borrow.{Bor}
use Rattle.dubp_replay.specs.declared.command.Command.{Command}
use Rattle.dubp_replay.specs.declared.command.Command.TheVariants as command
use Rattle.dubp_replay.specs.Turns.{State, Asked, Branches, IsServed, Turn, TurnOrLack, branches_of, left_over, onward}
use Rattle.dubp_script.specs.Spelling.{Says}
use Rattle.dubp_entries.specs.Entries.{Entry, Line, HeadsFrame, IsWhole, Means, longest_line}
use Rattle.dubp_entries.specs.Asking.{IsQuestion, OnlyAsks, ShowsQuestion, begins_change}
use Rattle.dubp_entries.specs.Turns.{EntryTurn}
use Rattle.dubp_entries.specs.declared.item.Item.TheVariants as item

-- ---- the state stays

module _ (old : State) (held : left_over old.store old.failures ≡ old.failures) where
  -- the same branches lead nowhere else
  stays : (new : State) (b : Branches) → b ≡ branches_of old → new ≡ onward old b → new ≡ old
  stays new b same is =
      is ∙ ap (onward old) same
      ∙ (λ i. record { verdicts = old.verdicts; chain = old.chain; kept = old.kept; store = old.store; auto = old.auto; failures = held i; pool = old.pool })

  turn_stays : (c : Command) (frame answer : List ℕ) (new : State) → IsQuestion c → Turn old c frame answer new → new ≡ old
  turn_stays (command.Statement cond) frame answer new q t = stays new t.0 t.1.1 t.2
  turn_stays command.Failures frame answer new q t = t.1
  turn_stays (command.Forge key time) frame answer new q t = t.1
  turn_stays (command.Ask query) frame answer new q t = stays new t.0 t.1.1 t.2
  turn_stays (command.Verdict key hash sig) frame answer new q t = absurd q
  turn_stays (command.Block len) frame answer new q t = absurd q
  turn_stays (command.Revert count) frame answer new q t = absurd q
  turn_stays (command.Offer len) frame answer new q t = absurd q
  turn_stays (command.Switch stamp) frame answer new q t = absurd q
  turn_stays (command.Forget stamp) frame answer new q t = absurd q
  turn_stays (command.Auto on) frame answer new q t = absurd q
  turn_stays (command.Pend len) frame answer new q t = absurd q
  turn_stays (command.Unpend hash) frame answer new q t = absurd q

  or_lack_stays : (c : Command) (frame answer : List ℕ) (new : State) → IsQuestion c → TurnOrLack old c frame answer new → new ≡ old
  or_lack_stays c frame answer new q (inl t) = turn_stays c frame answer new q t
  or_lack_stays c frame answer new q (inr lack) = lack.1.1

  served_stays : (entry : Entry) (asked : Asked) (answer : List ℕ) (new : State) → OnlyAsks entry → Means entry asked → IsServed old asked answer new → new ≡ old
  served_stays entry None answer new asks means s = s.1
  served_stays entry (Some (c, frame)) answer new asks means s = or_lack_stays c frame answer new (asks c frame means) s

pub asks_same : (old new : State) (answer : List ℕ) (entry : Entry) → left_over old.store old.failures ≡ old.failures → OnlyAsks entry → EntryTurn old entry answer new → EntryTurn old entry answer new × (new ≡ old)
asks_same old new answer entry held asks t = (t, served_stays old held entry t.served.asked answer new asks t.served.means t.served.served)

-- ---- the line tells so

-- a line that is too long is no command
long_asks : (text : List ℕ) → longest_line < length text → OnlyAsks (Line text)
long_asks text long = λ c frame means. absurd (omega (arith, means.0))

-- each command that may change the state, and that no frame follows, begins with its word
word_asks : (text : List ℕ) → begins_change text ≡ false → ((len : ℕ) → HeadsFrame text len → ⊥) → (c : Command) → Says text c → IsQuestion c
word_asks text none no_frame (command.Statement cond) says = tt
word_asks text none no_frame command.Failures says = tt
word_asks text none no_frame (command.Forge key time) says = tt
word_asks text none no_frame (command.Ask query) says = tt
word_asks text none no_frame (command.Block len) says = no_frame len (record { command = command.Block len; says = says; frame_is = refl })
word_asks text none no_frame (command.Offer len) says = no_frame len (record { command = command.Offer len; says = says; frame_is = refl })
word_asks text none no_frame (command.Pend len) says = no_frame len (record { command = command.Pend len; says = says; frame_is = refl })
word_asks text none no_frame (command.Verdict key hash sig) says = let e : true ≡ false = sym (ap begins_change says.text) ∙ none in cc
word_asks text none no_frame (command.Revert count) says = let e : true ≡ false = sym (ap begins_change says.text) ∙ none in cc
word_asks text none no_frame (command.Switch stamp) says = let e : true ≡ false = sym (ap begins_change says.text) ∙ none in cc
word_asks text none no_frame (command.Forget stamp) says = let e : true ≡ false = sym (ap begins_change says.text) ∙ none in cc
word_asks text none no_frame (command.Auto true) says = let e : true ≡ false = sym (ap begins_change says.text) ∙ none in cc
word_asks text none no_frame (command.Auto false) says = let e : true ≡ false = sym (ap begins_change says.text) ∙ none in cc
word_asks text none no_frame (command.Unpend hash) says = let e : true ≡ false = sym (ap begins_change says.text) ∙ none in cc

pub line_shows : (line : Bor (List ℕ)) → begins_change line.now ≡ false → ShowsQuestion (item.Line line)
line_shows line none = λ entry whole shows. line_by entry shows whole
  where
    line_by : (entry : Entry) → entry ≡ Line line.now → IsWhole entry → OnlyAsks entry
    line_by entry is whole =
        let w = subst IsWhole is whole in
        subst OnlyAsks (sym is) (λ c frame means. word_asks line.now none w.1 c means.1)

pub told_shows : (line : Bor (List ℕ)) (b : Bool) → b ≡ begins_change line.now → IsTrue (not b) → ShowsQuestion (item.Line line)
told_shows line true e is = absurd cc
told_shows line false e is = line_shows line (sym e)

pub long_line_shows : ShowsQuestion item.LongLine
long_line_shows = λ entry whole shows. subst OnlyAsks (sym shows.1) (long_asks shows.0 shows.2)
