-- What is copied from a source to a sink, for the caller of the tests.
use Rattle.std.proofs.Common.{◌≡◌, ℕ, List, [], ◌++◌, Option, sym, ◌∙◌, ap, subst, append_assoc, append-nil}
use Rattle.std.specs.Io.KnownBytes.{Appends, Consumes, Keeps}
use Rattle.dubp_outside.specs.Parts.{AppendsPart}
use Rattle.dubp_outside.proofs.Known.{appends_nothing, appends_then, consumes_nothing, consumes_then, consumes_kept}

-- the same bytes were given and taken
pub record IsCopied (left left' held held' : Option (List ℕ)) : Type 0 where
  pub bytes : List ℕ
  pub given : Consumes left left' bytes
  pub taken : Appends held held' bytes

-- bytes were given, and a front of them was taken
abbrev pub IsCopiedInPart : (left left' held held' : Option (List ℕ)) → Type 0
IsCopiedInPart left left' held held' = (front : List ℕ) × (back : List ℕ) × Consumes left left' (front ++ back) × Appends held held' front

pub copied_nothing : (left held : Option (List ℕ)) → IsCopied left left held held
copied_nothing left held = record { bytes = []; given = consumes_nothing left; taken = appends_nothing held }

pub copied_more : (a b c h i j : Option (List ℕ)) (xs : List ℕ) → IsCopied a b h i → Consumes b c xs → Appends i j xs → IsCopied a c h j
copied_more a b c h i j xs w p q = record {
  bytes = w.bytes ++ xs;
  given = consumes_then a b c w.bytes xs w.given p;
  taken = appends_then h i j w.bytes xs w.taken q;
}

-- the source failed
pub copied_until_read : (a b c h i : Option (List ℕ)) → IsCopied a b h i → Keeps b c → IsCopiedInPart a c h i
copied_until_read a b c h i w p = (w.bytes, [], subst (Consumes a c) (sym (append-nil w.bytes)) (consumes_kept a b c w.bytes w.given p), w.taken)

-- the sink failed
pub copied_until_write : (a b c h i j : Option (List ℕ)) (xs : List ℕ) → IsCopied a b h i → Consumes b c xs → AppendsPart i j xs → IsCopiedInPart a c h j
copied_until_write a b c h i j xs w p q =
    let same : w.bytes ++ xs ≡ (w.bytes ++ q.front) ++ q.back = ap (λ t. w.bytes ++ t) q.whole ∙ sym (append_assoc w.bytes q.front q.back) in
    (w.bytes ++ q.front, q.back, subst (Consumes a c) same (consumes_then a b c w.bytes xs w.given p), appends_then h i j w.bytes q.front w.taken q.held)
