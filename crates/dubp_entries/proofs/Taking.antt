-- What the bytes at hand begin with, case by case.
use Rattle.std.proofs.Common.{◌≡◌, ℕ, ◌+◌, ◌-◌, ◌<◌, ◌≤◌, List, [], ◌∷◌, ◌++◌, length, get_or, take, drop, refl, sym, ◌∙◌, ap, subst, arith, None, Some, append_assoc, append-nil, length-append, take-append-drop, drop-drop}
use Rattle.std.proofs.lemmas.List.{drop_more, length-take-le, drop_all}
use Rattle.dubp_atoms.specs.Letters.{LF}
use Rattle.dubp_validity.specs.Rules.{longest_block}
use Rattle.dubp_entries.specs.Entries.{Line, Frame, text_of, IsText, longest_line, HeadsFrame}
use Rattle.dubp_entries.proofs.Wholes.{frame_len, whole_line, heads_len, heads_none_no_len, heads_short}
use Rattle.dubp_entries.specs.Cut.{BeginsNone}
use Rattle.dubp_entries.specs.Reading.{InLongLine, InLongFrame, TakesOne}
use Rattle.dubp_entries.specs.declared.item.Item.TheVariants.{LongLine, LongFrame as LongFramePast}
use Rattle.dubp_entries.proofs.Cuts.{text_begins_none, part_begins_none, line_shape, frame_shape}

-- a list at a place
pub split_at : (xs : List ℕ) (i : ℕ) → i < length xs → xs ≡ take i xs ++ get_or xs i 0 ∷ drop (i + 1) xs
split_at xs i within = sym (take-append-drop i xs) ∙ ap (λ t. take i xs ++ t) (drop_more xs i 0 within)

pub is_text-append : (a b : List ℕ) → IsText a → IsText b → IsText (a ++ b)
is_text-append [] b p q = q
is_text-append (x ∷ a) b p q = (p.0, is_text-append a b p.1 q)

-- a long line heads no frame
pub long_no_head : (text : List ℕ) → longest_line < length text → frame_len text ≡ None
long_no_head text long = heads_none_no_len text (λ len h. omega (arith, heads_short text len h))

-- a long frame
pub long_frame_waits : (left : ℕ) (hand bytes : List ℕ) → length hand ≡ 0 → InLongFrame left hand bytes → BeginsNone bytes
long_frame_waits left hand bytes none f =
    let short : length (f.gone ++ hand) ≤ f.len = omega (arith, length-append f.gone hand) in
    subst BeginsNone (sym f.bytes_are) (part_begins_none f.head (f.gone ++ hand) f.len f.text (heads_len f.head f.len f.heads) short)

pub long_frame_passes : (left : ℕ) (hand bytes : List ℕ) → length hand < left → InLongFrame left hand bytes → InLongFrame (left - length hand) (drop (length hand) hand) bytes
long_frame_passes left hand bytes more f = record {
  head = f.head;
  gone = f.gone ++ hand;
  len = f.len;
  bytes_are = f.bytes_are ∙ ap (λ t. f.head ++ LF ∷ t) (sym (append-nil (f.gone ++ hand)) ∙ ap (λ t. (f.gone ++ hand) ++ t) (sym (drop_all (length hand) hand (omega arith))));
  text = f.text;
  heads = f.heads;
  long = f.long;
  left_is = omega (arith, length-append f.gone hand);
  some = omega arith;
}

pub long_frame_ends : (left : ℕ) (hand bytes : List ℕ) → left ≤ length hand → InLongFrame left hand bytes → TakesOne bytes (drop left hand) (LongFramePast (get_or hand (left - 1) 0))
long_frame_ends left hand bytes enough f =
    let m = left - 1 in
    let is : left ≡ m + 1 = omega arith in
    let within : m < length hand = omega arith in
    let payload = f.gone ++ take m hand in
    let last = get_or hand m 0 in
    let len : length payload ≡ f.len = omega (arith, length-append f.gone (take m hand), length-take-le m hand (omega arith)) in
    let heads : HeadsFrame f.head (length payload) = subst (HeadsFrame f.head) (sym len) f.heads in
    record {
      command = Frame f.head payload last;
      bytes_are = f.bytes_are
          ∙ ap (λ t. f.head ++ LF ∷ (f.gone ++ t)) (split_at hand m within)
          ∙ ap (λ t. f.head ++ LF ∷ t) (sym (append_assoc f.gone (take m hand) (last ∷ drop (m + 1) hand)))
          ∙ ap (λ n. f.head ++ LF ∷ (payload ++ last ∷ drop n hand)) (sym is)
          ∙ sym (frame_shape f.head payload (drop left hand) last);
      whole = (f.text, heads);
      shows = (f.head, payload, refl, heads, omega arith);
    }

-- a long line
pub long_line_waits : (hand bytes : List ℕ) → IsText hand → InLongLine hand bytes → BeginsNone bytes
long_line_waits hand bytes t f = subst BeginsNone (sym f.bytes_are) (text_begins_none (f.gone ++ hand) (is_text-append f.gone hand f.text t))

pub long_line_passes : (hand bytes : List ℕ) → IsText hand → InLongLine hand bytes → InLongLine (drop (length hand) hand) bytes
long_line_passes hand bytes t f = record {
  gone = f.gone ++ hand;
  bytes_are = f.bytes_are ∙ sym (append-nil (f.gone ++ hand)) ∙ ap (λ t. (f.gone ++ hand) ++ t) (sym (drop_all (length hand) hand (omega arith)));
  text = is_text-append f.gone hand f.text t;
  long = omega (arith, length-append f.gone hand);
}

pub long_line_ends : (hand bytes : List ℕ) (i : ℕ) → IsText (take i hand) → hand ≡ take i hand ++ LF ∷ drop (i + 1) hand → InLongLine hand bytes → TakesOne bytes (drop (i + 1) hand) LongLine
long_line_ends hand bytes i t e f =
    let text = f.gone ++ take i hand in
    let long : longest_line < length text = omega (arith, length-append f.gone (take i hand)) in
    record {
      command = Line text;
      bytes_are = f.bytes_are ∙ ap (λ u. f.gone ++ u) e ∙ sym (append_assoc f.gone (take i hand) (LF ∷ drop (i + 1) hand)) ∙ sym (line_shape text (drop (i + 1) hand));
      whole = whole_line text (is_text-append f.gone (take i hand) f.text t) (long_no_head text long);
      shows = (text, refl, long);
    }

-- from the start of a command
pub line_gets_long : (hand bytes : List ℕ) → IsText hand → longest_line < length hand → bytes ≡ hand → InLongLine (drop (length hand) hand) bytes
line_gets_long hand bytes t long e = record {
  gone = hand;
  bytes_are = e ∙ sym (append-nil hand) ∙ ap (λ u. hand ++ u) (sym (drop_all (length hand) hand (omega arith)));
  text = t;
  long = long;
}

pub frame_gets_long : (hand bytes : List ℕ) (end len : ℕ) → IsText (take end hand) → hand ≡ take end hand ++ LF ∷ drop (end + 1) hand → HeadsFrame (take end hand) len → longest_block < len → bytes ≡ hand → InLongFrame (len + 1) (drop (end + 1) hand) bytes
frame_gets_long hand bytes end len t e f long is = record {
  head = take end hand;
  gone = [];
  len = len;
  bytes_are = is ∙ e;
  text = t;
  heads = f;
  long = long;
  left_is = omega arith;
  some = omega arith;
}

-- a frame at hand
pub frame_waits : (hand bytes : List ℕ) (end len : ℕ) → IsText (take end hand) → hand ≡ take end hand ++ LF ∷ drop (end + 1) hand → frame_len (take end hand) ≡ Some len → length (drop (end + 1) hand) ≤ len → bytes ≡ hand → BeginsNone bytes
frame_waits hand bytes end len t e f short is =
    subst BeginsNone (sym (is ∙ e)) (part_begins_none (take end hand) (drop (end + 1) hand) len t f short)

pub frame_bytes : (hand bytes behind : List ℕ) (end len : ℕ) → hand ≡ take end hand ++ LF ∷ behind → behind ≡ drop (end + 1) hand → len < length behind → bytes ≡ hand → bytes ≡ text_of (Frame (take end hand) (take len behind) (get_or behind len 0)) ++ drop (end + len + 2) hand
frame_bytes hand bytes behind end len e b within is =
    let after : drop (len + 1) behind ≡ drop (end + len + 2) hand =
    ap (drop (len + 1)) b ∙ drop-drop (len + 1) (end + 1) hand ∙ ap (λ n. drop n hand) (omega arith) in
    is ∙ e ∙ ap (λ t. take end hand ++ LF ∷ t) (split_at behind len within)
    ∙ ap (λ t. take end hand ++ LF ∷ (take len behind ++ get_or behind len 0 ∷ t)) after
    ∙ sym (frame_shape (take end hand) (take len behind) (drop (end + len + 2) hand) (get_or behind len 0))
