-- A piece that is written in part, and bytes that are given from a place on.
use Rattle.std.proofs.Common.{◌≡◌, ℕ, ◌+◌, List, ◌++◌, Option, sym, ◌∙◌, ap, append_assoc, take, drop, take-append-drop, drop-drop}
use Rattle.std.specs.Io.KnownBytes.{Appends}
use Rattle.dubp_outside.proofs.Known.{appends_then}

-- a front of the piece is written, and this is the rest of it
pub record IsWritten (old new : Option (List ℕ)) (piece rest : List ℕ) : Type 0 where
  pub front : List ℕ
  pub split : piece ≡ front ++ rest
  pub held : Appends old new front

pub written_more : (old mid new : Option (List ℕ)) (piece rest after : List ℕ) (n : ℕ) → IsWritten old mid piece rest → Appends mid new (take n rest) → after ≡ drop n rest → IsWritten old new piece after
written_more old mid new piece rest after n w grown is_rest = record {
  front = w.front ++ take n rest;
  split = w.split ∙ ap (λ t. w.front ++ t) (sym (take-append-drop n rest)) ∙ sym (append_assoc w.front (take n rest) (drop n rest)) ∙ ap (λ t. (w.front ++ take n rest) ++ t) (sym is_rest);
  held = appends_then old mid new w.front (take n rest) w.held grown;
}

-- of the bytes that are left from a place on, the first n were given
pub given-drop : (items buf left : List ℕ) (at n : ℕ) → left ≡ drop at items → take n buf ≡ take n left → left ≡ take n buf ++ drop (at + n) items
given-drop items buf left at n is given =
    sym (take-append-drop n left)
    ∙ ap (λ t. t ++ drop n left) (sym given)
    ∙ ap (λ t. take n buf ++ drop n t) is
    ∙ ap (λ t. take n buf ++ t) (drop-drop n at items)
