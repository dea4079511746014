-- The steps of a whole session.
use Rattle.std.proofs.Common.{◌≡◌, ◌⊎◌, inl, inr, ℕ, ◌+◌, ◌<◌, ◌≤◌, List, [], ◌∷◌, ◌++◌, length, Option, refl, sym, ◌∙◌, ap, subst, arith, append_assoc, append-nil, length-append}
use Rattle.std.proofs.lemmas.List.{nil_from_length}
use Rattle.std.specs.Io.KnownBytes.{Consumes, Keeps, IsAtEnd}
use Rattle.dubp_outside.proofs.Known.{consumes_nothing, consumes_then, consumes_kept, appends_then}
use Rattle.dubp_atoms.specs.Letters.{LF}
use Rattle.dubp_entries.specs.Cut.{lacking, texts}
use Rattle.dubp_entries.specs.Turns.{joined}
use Rattle.dubp_replay.specs.Turns.{State}
use Rattle.dubp_entries.specs.Session.{Broke}
use Rattle.dubp_entries.specs.Reading.{Stands}
use Rattle.dubp_entries.specs.Serving.{ServedAll, Finished}
use Rattle.dubp_entries.specs.Run.{at, Closes, SoFar, Paused, AnsweredSome, AnsweredMost, AnsweredToEnd, BrokeOff, most_taken}
use Rattle.dubp_entries.specs.Ends.{Ends, Faults, LastEnds}
use Rattle.dubp_entries.specs.declared.reading.Phase.{Phase}
use Rattle.dubp_entries.specs.declared.reading.Phase.TheVariants.{Start, LongLine, LongFrame}
use Rattle.dubp_entries.specs.declared.ends.Ending.{Ending}
use Rattle.dubp_entries.specs.declared.ends.Ending.TheVariants.{Ended, ReadFault, WriteFault, TooMuch}
use Rattle.dubp_entries.specs.declared.ends.InputEnd.{InputEnd}
use Rattle.dubp_entries.proofs.Sessions.{served_nothing, served_then, served_more, broke_then, texts-append, all_whole-append}
use Rattle.dubp_entries.proofs.Exists.{cut_exists}

-- more bytes come to hand
pub stands_more : (phase : Phase) (hand rest piece : List ℕ) → Stands phase hand rest → Stands phase (hand ++ piece) (rest ++ piece)
stands_more Start hand rest piece s = ap (λ t. t ++ piece) s
stands_more LongLine hand rest piece s = record {
  gone = s.gone;
  bytes_are = ap (λ t. t ++ piece) s.bytes_are ∙ append_assoc s.gone hand piece;
  text = s.text;
  long = s.long;
}
stands_more (LongFrame left) hand rest piece s = record {
  head = s.head;
  gone = s.gone;
  len = s.len;
  bytes_are = ap (λ t. t ++ piece) s.bytes_are ∙ append_assoc s.head (LF ∷ (s.gone ++ hand)) piece ∙ ap (λ t. s.head ++ LF ∷ t) (append_assoc s.gone hand piece);
  text = s.text;
  heads = s.heads;
  long = s.long;
  left_is = s.left_is;
  some = s.some;
}

pub so_far_nothing : (state : State) (left held : Option (List ℕ)) (hand : List ℕ) → hand ≡ [] → SoFar state state left left held held 0 Start hand
so_far_nothing state left held hand none = record {
  taken = [];
  takes = consumes_nothing left;
  count_is = refl;
  rest = [];
  served = served_nothing state held [];
  stands = sym none;
}

pub pauses : (old mid new : State) (l0 l1 h0 h1 h2 : Option (List ℕ)) (count : ℕ) (phase next : Phase) (hand after : List ℕ) → SoFar old mid l0 l1 h0 h1 count phase hand → ((bytes : List ℕ) → Stands phase hand bytes → ServedAll mid new h1 h2 bytes next after) → Paused old new l0 l1 h0 h2 count next after
pauses old mid new l0 l1 h0 h1 h2 count phase next hand after s serves =
    let a = serves s.rest s.stands in
    record {
      taken = s.taken;
      takes = s.takes;
      count_is = s.count_is;
      rest = a.rest;
      served = served_then old mid new h0 h1 h2 s.taken s.rest a.rest s.served a.served;
      stands = a.stands;
      no_more = a.no_more;
    }

pub reads_on : (old new : State) (l0 l1 l2 h0 h1 : Option (List ℕ)) (count n : ℕ) (phase : Phase) (hand after piece : List ℕ) → Paused old new l0 l1 h0 h1 count phase hand → Consumes l1 l2 piece → length piece ≡ n → after ≡ hand ++ piece → SoFar old new l0 l2 h0 h1 (count + n) phase after
reads_on old new l0 l1 l2 h0 h1 count n phase hand after piece p given len is = record {
  taken = p.taken ++ piece;
  takes = consumes_then l0 l1 l2 p.taken piece p.takes given;
  count_is = length-append p.taken piece ∙ (omega (arith, p.count_is));
  rest = p.rest ++ piece;
  served = served_more old new h0 h1 p.taken p.rest piece p.served;
  stands = subst (λ t. Stands phase t (p.rest ++ piece)) (sym is) (stands_more phase hand p.rest piece p.stands);
}

-- the command whose answer was not written whole is one of those that begin the bytes
pub broke_off : (old new : State) (l0 l1 h0 h1 : Option (List ℕ)) (taken closing : List ℕ) → Consumes l0 l1 taken → length taken ≤ most_taken → (closing ≡ []) ⊎ Closes taken closing (at new l1 h1) → Broke old new h0 h1 (taken ++ closing) → BrokeOff (at old l0 h0) (at new l1 h1)
broke_off old new l0 l1 h0 h1 taken closing takes most closes b =
    let more = cut_exists b.rest in
    let first = b.entries ++ b.entry ∷ [] in
    record {
      taken = taken;
      takes = takes;
      most = most;
      closing = closing;
      closes = closes;
      entries = b.entries;
      answers = b.answers;
      entry = b.entry;
      answer = b.answer;
      others = more.0;
      rest = more.1;
      cut = record {
        bytes_are = b.bytes_are ∙ ap (λ t. texts first ++ t) more.2.bytes_are ∙ sym (append_assoc (texts first) (texts more.0) more.1) ∙ ap (λ t. t ++ more.1) (sym (texts-append first more.0));
        each = all_whole-append first more.0 b.each more.2.each;
        no_more = more.2.no_more;
      };
      run = b.run;
      front = b.part.front;
      back = b.part.back;
      answer_is = b.part.whole;
      some = b.part.lacks;
      written = appends_then h0 b.between h1 (joined b.answers) b.part.front b.whole b.part.held;
    }

pub breaks : (old mid new : State) (l0 l1 h0 h1 h2 : Option (List ℕ)) (count : ℕ) (phase : Phase) (hand : List ℕ) → SoFar old mid l0 l1 h0 h1 count phase hand → count ≤ most_taken → ((bytes : List ℕ) → Stands phase hand bytes → Broke mid new h1 h2 bytes) → BrokeOff (at old l0 h0) (at new l1 h2)
breaks old mid new l0 l1 h0 h1 h2 count phase hand s few b =
    broke_off old new l0 l1 h0 h2 s.taken [] s.takes (omega (arith, s.count_is)) (inl refl)
    (subst (Broke old new h0 h2) (sym (append-nil s.taken)) (broke_then old mid new h0 h1 h2 s.taken s.rest s.served (b s.rest s.stands)))

pub answered : (old new : State) (l0 l1 l2 h0 h1 : Option (List ℕ)) (count : ℕ) (phase : Phase) (hand : List ℕ) → Paused old new l0 l1 h0 h1 count phase hand → Keeps l1 l2 → count < most_taken → AnsweredSome (at old l0 h0) (at new l2 h1)
answered old new l0 l1 l2 h0 h1 count phase hand p k few = record {
  answered = record {
    taken = p.taken;
    takes = consumes_kept l0 l1 l2 p.taken p.takes k;
    entries = p.served.entries;
    answers = p.served.answers;
    rest = p.rest;
    cut = record { bytes_are = p.served.bytes_are; each = p.served.each; no_more = p.no_more };
    run = p.served.run;
    written = p.served.written;
  };
  fewer = omega (arith, p.count_is);
}

pub answered_most : (old new : State) (l0 l1 h0 h1 : Option (List ℕ)) (count : ℕ) (phase : Phase) (hand : List ℕ) → Paused old new l0 l1 h0 h1 count phase hand → count ≡ most_taken → AnsweredMost (at old l0 h0) (at new l1 h1)
answered_most old new l0 l1 h0 h1 count phase hand p most = record {
  answered = record {
    taken = p.taken;
    takes = p.takes;
    entries = p.served.entries;
    answers = p.served.answers;
    rest = p.rest;
    cut = record { bytes_are = p.served.bytes_are; each = p.served.each; no_more = p.no_more };
    run = p.served.run;
    written = p.served.written;
  };
  most = p.count_is ∙ most;
}

pub to_end : (old mid new : State) (l0 l1 h0 h1 h2 : Option (List ℕ)) (count : ℕ) (phase : Phase) (hand : List ℕ) (b : InputEnd) → (p : Paused old mid l0 l1 h0 h1 count phase hand) → count < most_taken → IsAtEnd l1 → Finished mid new h1 h2 p.rest b → AnsweredToEnd b (at old l0 h0) (at new l1 h2)
to_end old mid new l0 l1 h0 h1 h2 count phase hand b p few e f =
    let all = served_then old mid new h0 h1 h2 (p.taken ++ lacking p.rest) (p.rest ++ lacking p.rest) f.rest (served_more old mid h0 h1 p.taken p.rest (lacking p.rest) p.served) f.served in
    record {
      taken = p.taken;
      takes = p.takes;
      ended = e;
      fewer = omega (arith, p.count_is);
      entries = all.entries;
      answers = all.answers;
      rest = f.rest;
      cut = record {
        before = p.served.entries;
        tail = p.rest;
        open_end = record { bytes_are = p.served.bytes_are; each = p.served.each; no_more = p.no_more };
        closed = record { bytes_are = all.bytes_are; each = all.each; no_more = f.no_more };
      };
      over = f.over;
      run = all.run;
      written = all.written;
    }

pub breaks_last : (old mid new : State) (l0 l1 h0 h1 h2 : Option (List ℕ)) (count : ℕ) (phase : Phase) (hand : List ℕ) → (p : Paused old mid l0 l1 h0 h1 count phase hand) → count < most_taken → IsAtEnd l1 → Broke mid new h1 h2 (p.rest ++ lacking p.rest) → BrokeOff (at old l0 h0) (at new l1 h2)
breaks_last old mid new l0 l1 h0 h1 h2 count phase hand p few e b =
    broke_off old new l0 l1 h0 h2 p.taken (lacking p.rest) p.takes (omega (arith, p.count_is))
    (inr (record { ended = e; fewer = omega (arith, p.count_is); before = p.served.entries; tail = p.rest; cut = record { bytes_are = p.served.bytes_are; each = p.served.each; no_more = p.no_more }; lacks = refl }))
    (broke_then old mid new h0 h1 h2 (p.taken ++ lacking p.rest) (p.rest ++ lacking p.rest) (served_more old mid h0 h1 p.taken p.rest (lacking p.rest) p.served) b)

-- the end of the input
pub ends : (old mid new : State) (l0 l1 h0 h1 h2 : Option (List ℕ)) (count : ℕ) (phase : Phase) (hand : List ℕ) (ending : Ending) → (p : Paused old mid l0 l1 h0 h1 count phase hand) → count < most_taken → IsAtEnd l1 → LastEnds mid new h1 h2 p.rest ending → Ends (at old l0 h0) (at new l1 h2) ending
ends old mid new l0 l1 h0 h1 h2 count phase hand (Ended end) p few e l = to_end old mid new l0 l1 h0 h1 h2 count phase hand end p few e l
ends old mid new l0 l1 h0 h1 h2 count phase hand ReadFault p few e l = absurd l
ends old mid new l0 l1 h0 h1 h2 count phase hand WriteFault p few e l = breaks_last old mid new l0 l1 h0 h1 h2 count phase hand p few e l
ends old mid new l0 l1 h0 h1 h2 count phase hand TooMuch p few e l = absurd l

-- a read that gave nothing
pub read_nothing : (old new : State) (l0 l1 l2 h0 h1 : Option (List ℕ)) (count : ℕ) (phase : Phase) (hand after piece : List ℕ) → Paused old new l0 l1 h0 h1 count phase hand → Consumes l1 l2 piece → length piece ≡ 0 → after ≡ hand ++ piece → Paused old new l0 l2 h0 h1 count phase after
read_nothing old new l0 l1 l2 h0 h1 count phase hand after piece p given len is =
    let none : piece ≡ [] = nil_from_length piece len in
    record {
      taken = p.taken;
      takes = subst (Consumes l0 l2) (ap (λ t. p.taken ++ t) none ∙ append-nil p.taken) (consumes_then l0 l1 l2 p.taken piece p.takes given);
      count_is = p.count_is;
      rest = p.rest;
      served = p.served;
      stands = subst (λ t. Stands phase t p.rest) (sym (is ∙ ap (λ t. hand ++ t) none ∙ append-nil hand)) p.stands;
      no_more = p.no_more;
    }

-- the counts of faults at the end of the input, where none rose before
pub quiet_end : (source source' sink sink' sink'' : ℕ) → source ≡ source' → sink ≡ sink' → (ending : Ending) → ((n : ℕ) → Faults n n sink' sink'' ending) → Faults source source' sink sink'' ending
quiet_end source source' sink sink' sink'' p q ending f = rw (p, q) (f source')
