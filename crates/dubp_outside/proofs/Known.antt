-- What a source has left and what a sink holds, over several calls. The crates above cite these lemmas.
use Rattle.std.proofs.Common.{◌≡◌, ◌∙◌, ◌<◌, ℕ, List, [], ◌++◌, Option, None, Some, ap, length, length-append, take, arith}
use Rattle.std.proofs.KnownBytes.{Appends-nil, Appends-trans, Appends-kept, Consumes-nil, Consumes-trans, Consumes-kept}
use Rattle.std.specs.Io.KnownBytes.{Appends, Keeps, Consumes, IsAtEnd}

-- a sink that took nothing, then more, then nothing in a call that failed

pub appends_nothing : (held : Option (List ℕ)) → Appends held held []
appends_nothing held = Appends-nil held

pub appends_then : (a b c : Option (List ℕ)) (xs ys : List ℕ) → Appends a b xs → Appends b c ys → Appends a c (xs ++ ys)
appends_then a b c xs ys p q = Appends-trans a b c xs ys p q

pub appends_kept : (a b c : Option (List ℕ)) (xs : List ℕ) → Appends a b xs → Keeps b c → Appends a c xs
appends_kept a b c xs p q = Appends-kept a b c xs p q

-- a source that gave nothing, then more, then nothing in a call that failed

pub consumes_nothing : (left : Option (List ℕ)) → Consumes left left []
consumes_nothing left = Consumes-nil left

pub consumes_then : (a b c : Option (List ℕ)) (xs ys : List ℕ) → Consumes a b xs → Consumes b c ys → Consumes a c (xs ++ ys)
consumes_then a b c xs ys p q = Consumes-trans a b c xs ys p q

pub consumes_kept : (a b c : Option (List ℕ)) (xs : List ℕ) → Consumes a b xs → Keeps b c → Consumes a c xs
consumes_kept a b c xs p q = Consumes-kept a b c xs p q

-- a read of no byte into a buffer with room comes exactly where nothing is left

pub at_end_where_none_read : (a b : Option (List ℕ)) (n : ℕ) (buf : List ℕ) → Consumes a b (take n buf) × (n ≡ 0 → 0 < length buf → IsAtEnd b) → n ≡ 0 → 0 < length buf → IsAtEnd a
at_end_where_none_read None b n buf p none room = tt
at_end_where_none_read (Some xs) None n buf p none room = absurd p.0
at_end_where_none_read (Some xs) (Some ys) n buf p none room = p.0 ∙ ap (λ m. take m buf ++ ys) none ∙ p.1 none room

pub none_read_at_end : (b : Option (List ℕ)) (n : ℕ) (buf : List ℕ) → n ≡ length (take n buf) → Consumes (Some []) b (take n buf) → n ≡ 0
none_read_at_end None n buf bound p = absurd p
none_read_at_end (Some ys) n buf bound p = omega (arith, ap length p, length-append (take n buf) ys)
