-- The turn of an entry is that of the command that its item has.
use Rattle.std.proofs.Common.{◌≡◌, ℕ, ◌<◌, ◌≤◌, List, [], length, Option, Some, None, inl, refl, sym, subst}
use Rattle.std.specs.Prelude.{codes}
use Rattle.std.specs.Option.{MatchOption}
use Rattle.dubp_atoms.specs.Letters.{LF}
use Rattle.dubp_validity.specs.Rules.{longest_block}
use Rattle.dubp_replay.specs.Answers.{bad_answer, refused_answer}
use Rattle.dubp_replay.specs.declared.command.Command.{Command}
use Rattle.dubp_replay.specs.declared.command.Command.TheVariants as command
use Rattle.dubp_replay.specs.Turns.{State, IsServed, IsTimely, frame_of, left_over}
use Rattle.dubp_script.specs.Spelling.{IsCommand, Says}
use Rattle.dubp_script.specs.Framed.{framed_command}
use Rattle.dubp_script.specs.declared.framed.Framed.{Framed}
use Rattle.dubp_script.specs.declared.framed.Framed.TheVariants as framed
use Rattle.dubp_entries.proofs.Wholes.{heads_framed}
use Rattle.dubp_entries.specs.Entries.{Entry, Line, Frame, IsWhole, IsBad, HeadsFrame, longest_line}
use Rattle.dubp_turns.specs.Acting.{IsHanded, Acts}
use Rattle.dubp_turns.proofs.Long.{long_block_turn, long_offer_turn}
use Rattle.dubp_turns.proofs.Pending.{long_pend_turn}
use Rattle.dubp_entries.specs.Turns.{EntryServed}

-- the time of a command that has a line is a number
pub timely : (c : Command) → IsCommand c → IsTimely c
timely (command.Forge key time) is = is.1
timely c is = tt

pub framed_timely : (f : Framed) → IsTimely (framed_command f)
framed_timely (framed.Block len) = tt
framed_timely (framed.Offer len) = tt
framed_timely (framed.Pend len) = tt

abbrev nothing : List ℕ
nothing = []

-- what the node is handed of no frame, and of a frame that is not too long
handed_none : (c : Command) (frame : List ℕ) → frame_of c ≡ None → frame ≡ [] → IsHanded c [] frame
handed_none c frame none empty = handed_by (frame_of c) none
  where
    handed_by : (o : Option ℕ) → o ≡ None → MatchOption o (nothing ≡ [] × (frame ≡ nothing)) (λ len. (length nothing ≡ len) × (len ≤ longest_block → frame ≡ nothing))
    handed_by None e = (refl, empty)
    handed_by (Some len) e = absurd cc

handed_all : (c : Command) (frame : List ℕ) → frame_of c ≡ Some (length frame) → IsHanded c frame frame
handed_all c frame some = rw some (refl, λ short. refl)

-- a command whose line heads no frame has none
no_frame : (text : List ℕ) (c : Command) → ((len : ℕ) → HeadsFrame text len → ⊥) → Says text c → frame_of c ≡ None
no_frame text c none says = none_by (frame_of c) refl
  where
    none_by : (o : Option ℕ) → frame_of c ≡ o → o ≡ None
    none_by None e = refl
    none_by (Some len) e = absurd (none len (record { command = c; says = says; frame_is = e }))

pub line_turn : (old new : State) (text answer frame : List ℕ) (c : Command) → IsWhole (Line text) → length text ≤ longest_line → Says text c → frame ≡ [] → Acts old c frame answer new → EntryServed old (Line text) answer new
line_turn old new text answer frame c whole fits says empty acts = record {
  asked = Some (c, []);
  means = (fits, says, refl);
  served = acts [] (handed_none c frame (no_frame text c whole.1 says) empty);
}

pub frame_turn : (old new : State) (head frame answer : List ℕ) (last : ℕ) (c : Command) → last ≡ LF → Says head c → frame_of c ≡ Some (length frame) → Acts old c frame answer new → EntryServed old (Frame head frame last) answer new
frame_turn old new head frame answer last c ends says of acts = record {
  asked = Some (c, frame);
  means = (ends, says, refl);
  served = acts frame (handed_all c frame of);
}

-- a frame that is too long is refused, whichever command heads it
long_by : (old : State) → left_over old.store old.failures ≡ old.failures → (bytes answer : List ℕ) (f : Framed) → longest_block < length bytes → answer ≡ refused_answer (codes "X01") → IsServed old (Some (framed_command f, bytes)) answer old
long_by old held bytes answer (framed.Block len) long is = long_block_turn old held len bytes answer long is
long_by old held bytes answer (framed.Offer len) long is = long_offer_turn old held len bytes answer long is
long_by old held bytes answer (framed.Pend len) long is = long_pend_turn old len bytes answer long is

pub long_frame_turn : (old : State) → left_over old.store old.failures ≡ old.failures → (head frame answer : List ℕ) (last : ℕ) → last ≡ LF → HeadsFrame head (length frame) → longest_block < length frame → answer ≡ refused_answer (codes "X01") → EntryServed old (Frame head frame last) answer old
long_frame_turn old held head frame answer last ends h long is =
    let f = heads_framed head (length frame) h in
    record {
      asked = Some (framed_command f.0, frame);
      means = (ends, f.1, refl);
      served = long_by old held frame answer f.0 long is;
    }

pub bad_turn : (old : State) (text answer : List ℕ) → IsBad text → answer ≡ bad_answer → EntryServed old (Line text) answer old
bad_turn old text answer bad e = record { asked = None; means = bad; served = (e, refl) }

pub long_line_turn : (old : State) (entry : Entry) (text answer : List ℕ) → entry ≡ Line text → longest_line < length text → answer ≡ bad_answer → EntryServed old entry answer old
long_line_turn old entry text answer is long e = subst (λ (x : Entry). EntryServed old x answer old) (sym is) (bad_turn old text answer (inl long) e)
