-- Whole entries, by the length that a line gives its frame.
use Rattle.std.proofs.Common.{inl, inr, ◌≡◌, ℕ, ◌≤◌, List, length, Option, None, Some, refl, sym, ap, ◌∙◌, arith, decimal, length-append}
use Rattle.std.specs.Prelude.{codes, IfSome}
use Rattle.std.specs.Option.{MatchOption}
use Rattle.std.proofs.lemmas.Fmt.{length-decimal-le}
use Rattle.dubp_replay.specs.declared.command.Command.{Command}
use Rattle.dubp_replay.specs.declared.command.Command.TheVariants as command
use Rattle.dubp_replay.specs.Turns.{frame_of}
use Rattle.dubp_script.specs.Spelling.{Says}
use Rattle.dubp_script.specs.Framed.{framed_command, framed_len}
use Rattle.dubp_script.specs.declared.framed.Framed.{Framed}
use Rattle.dubp_script.specs.declared.framed.Framed.TheVariants as framed
use Rattle.dubp_script.specs.Reading.{command_of}
use Rattle.dubp_script.proofs.Commands.{command_says, says_command}
use Rattle.dubp_entries.specs.Entries.{Line, Frame, IsWhole, IsText, IsBad, HeadsFrame}

-- how many raw bytes stand behind the line, where it heads a frame
abbrev pub len_of : Option Command → Option ℕ
len_of None = None
len_of (Some c) = frame_of c

unfoldable pub frame_len : List ℕ → Option ℕ
frame_len line = len_of (command_of line)

pub heads_len : (line : List ℕ) (len : ℕ) → HeadsFrame line len → frame_len line ≡ Some len
unfolding frame_len
heads_len line len h = ap len_of (says_command line h.command h.says) ∙ h.frame_is

heads_by : (line : List ℕ) (len : ℕ) (o : Option Command) → command_of line ≡ o → len_of o ≡ Some len → HeadsFrame line len
heads_by line len (Some c) e f = record { command = c; says = command_says line c e; frame_is = f }
heads_by line len None e f = absurd cc

pub len_heads : (line : List ℕ) (len : ℕ) → frame_len line ≡ Some len → HeadsFrame line len
unfolding frame_len
len_heads line len e = heads_by line len (command_of line) refl e

none_by : (line : List ℕ) (o : Option ℕ) → frame_len line ≡ o → ((len : ℕ) → HeadsFrame line len → ⊥) → o ≡ None
none_by line None e h = refl
none_by line (Some len) e h = absurd (h len (len_heads line len e))

pub heads_none_no_len : (line : List ℕ) → ((len : ℕ) → HeadsFrame line len → ⊥) → frame_len line ≡ None
heads_none_no_len line h = none_by line (frame_len line) refl h

pub no_len_heads_none : (line : List ℕ) → frame_len line ≡ None → (len : ℕ) → HeadsFrame line len → ⊥
no_len_heads_none line e len h = let differ : None ≡ Some len = sym e ∙ heads_len line len h in cc

pub line_no_len : (text : List ℕ) → IsWhole (Line text) → frame_len text ≡ None
line_no_len text w = heads_none_no_len text w.1

pub whole_line : (text : List ℕ) → IsText text → frame_len text ≡ None → IsWhole (Line text)
whole_line text t f = (t, no_len_heads_none text f)

pub frame_has_len : (head payload : List ℕ) (last : ℕ) → IsWhole (Frame head payload last) → frame_len head ≡ Some (length payload)
frame_has_len head payload last w = heads_len head (length payload) w.1

pub whole_frame : (head payload : List ℕ) (last : ℕ) → IsText head → frame_len head ≡ Some (length payload) → IsWhole (Frame head payload last)
whole_frame head payload last t f = (t, len_heads head (length payload) f)

-- the line of a command with a frame heads it
framed_is : (f : Framed) → frame_of (framed_command f) ≡ Some (framed_len f)
framed_is (framed.Block len) = refl
framed_is (framed.Offer len) = refl
framed_is (framed.Pend len) = refl

pub framed_heads : (line : List ℕ) (f : Framed) → Says line (framed_command f) → HeadsFrame line (framed_len f)
framed_heads line f says = record { command = framed_command f; says = says; frame_is = framed_is f }

-- a line that heads a frame is that of a command with a frame
pub heads_framed : (line : List ℕ) (len : ℕ) → HeadsFrame line len → (f : Framed) × Says line (framed_command f) × (framed_len f ≡ len)
heads_framed line len h = framed_by h.command h.says h.frame_is
  where
    framed_by : (c : Command) → Says line c → frame_of c ≡ Some len → (f : Framed) × Says line (framed_command f) × (framed_len f ≡ len)
    framed_by (command.Block n) says e = (framed.Block n, says, let same : n ≡ len = cc in same)
    framed_by (command.Offer n) says e = (framed.Offer n, says, let same : n ≡ len = cc in same)
    framed_by (command.Pend n) says e = (framed.Pend n, says, let same : n ≡ len = cc in same)
    framed_by (command.Verdict key hash sig) says e = absurd cc
    framed_by (command.Revert count) says e = absurd cc
    framed_by (command.Switch stamp) says e = absurd cc
    framed_by (command.Forget stamp) says e = absurd cc
    framed_by (command.Statement cond) says e = absurd cc
    framed_by (command.Auto on) says e = absurd cc
    framed_by command.Failures says e = absurd cc
    framed_by (command.Unpend hash) says e = absurd cc
    framed_by (command.Forge key time) says e = absurd cc
    framed_by (command.Ask q) says e = absurd cc

-- what is read of a line tells whether it heads a frame
pub framed_or_none : (line : List ℕ) (r : Option Framed) → IfSome r (λ f. Says line (framed_command f)) → ((f : Framed) → Says line (framed_command f) → r ≡ Some f) → MatchOption r ((len : ℕ) → HeadsFrame line len → ⊥) (λ f. Says line (framed_command f))
framed_or_none line (Some f) found only = found
framed_or_none line None found only = λ len h. let f = heads_framed line len h in let is = only f.0 f.1 in absurd cc

-- and short
short_by : (line : List ℕ) (f : Framed) → Says line (framed_command f) → length line ≤ 22
short_by line (framed.Block len) says =
    omega (arith, ap length says.text, length-append (codes "BLOCK ") (decimal len), length-decimal-le 16 len (omega arith) (omega (arith, says.is)) (omega (arith, says.is)))
short_by line (framed.Offer len) says =
    omega (arith, ap length says.text, length-append (codes "OFFER ") (decimal len), length-decimal-le 16 len (omega arith) (omega (arith, says.is)) (omega (arith, says.is)))
short_by line (framed.Pend len) says =
    omega (arith, ap length says.text, length-append (codes "PEND ") (decimal len), length-decimal-le 16 len (omega arith) (omega (arith, says.is)) (omega (arith, says.is)))

pub framed_short : (line : List ℕ) (f : Framed) → Says line (framed_command f) → length line ≤ 22
framed_short line f says = short_by line f says

pub heads_short : (line : List ℕ) (len : ℕ) → HeadsFrame line len → length line ≤ 22
heads_short line len h = let f = heads_framed line len h in short_by line f.0 f.1

-- what is no command, or too long, heads none
pub bad_no_len : (line : List ℕ) → IsBad line → frame_len line ≡ None
bad_no_len line bad =
    heads_none_no_len line (λ len h. elim bad [ inl long ↦ omega (arith, heads_short line len h) | inr none ↦ none h.command h.says ])
