-- What was taken at a place is the spelling, and the spelling is taken.
use Rattle.std.proofs.Common.{append_assoc, ◌≡◌, ℕ, ℤ, ◌+◌, ◌^◌, ◌<◌, Bool, true, List, [], ◌∷◌, ◌++◌, length, take, drop, Option, Some, None, Result, Ok, Err, refl, sym, ap, subst, ◌∙◌, arith, decimal, unsigned_abs}
use Rattle.std.specs.Prelude.{nat_eq, nat_lt, ◌||◌}
use Rattle.std.specs.Cmp.Lexicographic.{pointwise}
use Rattle.std.specs.Fmt.{signed_decimal}
use Rattle.std.specs.List.{list_all}
use Rattle.std.proofs.lemmas.Bool.{eqb-true, eq-eqb}
use Rattle.std.proofs.lemmas.List.{append-nil, nil_from_length, take-append-drop, take_at, drop_at}
use Rattle.dubp_atoms.specs.Reading.{Lacks, text_if, number_of, signed_of}
use Rattle.dubp_atoms.proofs.Numbers.{by_test, both, bind_some, some_is, number_found, number_again}
use Rattle.dubp_atoms.proofs.Signed.{signed_found, signed_again}
use Rattle.dubp_atoms.proofs.Fields.{text_found, text_again, Lacks-all}
use Rattle.dubp_lines.proofs.Split.{text_is}
use Rattle.dubp_lines.specs.Lines.{Place, split, unlines}
use Rattle.dubp_lines.specs.Takes.{Takes, Spans}
use Rattle.dubp_lines.specs.Taking.{◌>>=◌, taken_or, line_of, line_at, value_of, named, just, number_line, signed_line, text_line}

pub bind_ok : {A B : Type 0} (r : Result A ℕ) (f : A → Result B ℕ) (y : B) → (r >>= f) ≡ Ok y → (x : A) × (r ≡ Ok x) × (f x ≡ Ok y)
bind_ok (Ok x) f y e = (x, refl, e)
bind_ok (Err d) f y e = absurd cc

abbrev pub done : {A : Type 0} → A → Result A ℕ
done x = Ok x

pub ok_is : {A : Type 0} (x y : A) → done x ≡ done y → x ≡ y
ok_is x y e = cc

pub cons_is : {A : Type 0} (x y : A) (xs ys : List A) → x ≡ y → xs ≡ ys → x ∷ xs ≡ y ∷ ys
cons_is x y xs ys p q = cc

pub joined : {A : Type 0} (a b c d : List A) → a ≡ c → b ≡ d → a ++ b ≡ c ++ d
joined a b c d p q = cc

pub same_text : (xs ys : List ℕ) → pointwise nat_eq xs ys ≡ true → xs ≡ ys
same_text [] [] e = refl
same_text [] (y ∷ ys) e = absurd cc
same_text (x ∷ xs) [] e = absurd cc
same_text (x ∷ xs) (y ∷ ys) e = let b = both (nat_eq x y) (pointwise nat_eq xs ys) e in cons_is x y xs ys (eqb-true x y b.0) (same_text xs ys b.1)

pub text_same : (xs : List ℕ) → pointwise nat_eq xs xs ≡ true
text_same [] = refl
text_same (x ∷ xs) = rw (eq-eqb x x refl) (text_same xs)

-- ---- a line

-- the line from which a value was read
pub record Took {A : Type 0} (read : List ℕ → Option A) (p : Place) (a : A) (q : Place) : Type 0 where
  pub line : List ℕ
  pub lines : p.0 ≡ line ∷ q.0
  pub tail : p.1 ≡ q.1
  pub reads : read line ≡ Some a

took_one : {A : Type 0} (read : List ℕ → Option A) (l : List ℕ) (ls : List (List ℕ)) (t : List ℕ) (o : Option A) (x : A × Place) → read l ≡ o → taken_or (length (l ∷ ls)) (ls, t) o ≡ Ok x → Took read (l ∷ ls, t) x.0 x.1
took_one {A} read l ls t (Some a) x r e =
    let made : A × Place = (a, (ls, t)) in
    subst (λ (y : A × Place). Took read (l ∷ ls, t) y.0 y.1) (ok_is made x e) (record { line = l; lines = refl; tail = refl; reads = r })
took_one read l ls t None x r e = absurd cc

took_from : {A : Type 0} (read : List ℕ → Option A) (ls : List (List ℕ)) (t : List ℕ) (x : A × Place) → line_of read ls t ≡ Ok x → Took read (ls, t) x.0 x.1
took_from read [] t x e = absurd cc
took_from read (l ∷ ls) t x e = took_one read l ls t (read l) x refl e

pub took : {A : Type 0} (read : List ℕ → Option A) (p : Place) (x : A × Place) → line_at read p ≡ Ok x → Took read p x.0 x.1
took read p x e = took_from read p.0 p.1 x e

pub line_again : {A : Type 0} (read : List ℕ → Option A) (l : List ℕ) (ls : List (List ℕ)) (t : List ℕ) (a : A) → read l ≡ Some a → line_at read (l ∷ ls, t) ≡ Ok (a, (ls, t))
line_again read l ls t a e = ap (taken_or (length (l ∷ ls)) (ls, t)) e

pub named_found : {A : Type 0} (name : List ℕ) (read : List ℕ → Option A) (l : List ℕ) (a : A) → named name read l ≡ Some a → (v : List ℕ) × (l ≡ name ++ v) × (read v ≡ Some a)
named_found name read l a e =
    let b = bind_some (value_of name l) read a e in
    let g = by_test (pointwise nat_eq (take (length name) l) name) (Some (drop (length name) l)) b.0 b.1 in
    let v : drop (length name) l ≡ b.0 = some_is _ _ g.1 in
    let front : take (length name) l ≡ name = same_text _ _ g.0 in
    (b.0, sym (take-append-drop (length name) l) ∙ joined _ _ _ _ front v, b.2)

pub named_again : {A : Type 0} (name : List ℕ) (read : List ℕ → Option A) (v : List ℕ) (a : A) → read v ≡ Some a → named name read (name ++ v) ≡ Some a
named_again name read v a e =
    rw (take_at name v (length name) refl, text_same name, drop_at name v (length name) refl) e

pub just_found : (text l a : List ℕ) → just text l ≡ Some a → l ≡ text
just_found text l a e = same_text l text (by_test (pointwise nat_eq l text) (Some l) a e).0

pub just_again : (text : List ℕ) → just text text ≡ Some text
just_again text = rw (text_same text) refl

-- ---- what was taken, by its kind

pub number_took : (name : List ℕ) (p : Place) (n : ℕ) (q : Place) → number_line name p ≡ Ok (n, q) → (n < 2 ^ 53) × Takes p (name ++ decimal n) q
number_took name p n q e =
    let t = took (named name number_of) p (n, q) e in
    let v = named_found name number_of t.line n t.reads in
    let f = number_found v.0 n v.2 in
    (f.0, record { lines = t.lines ∙ ap (λ (l : List ℕ). l ∷ q.0) (v.1 ∙ ap (λ (x : List ℕ). name ++ x) f.1); tail = t.tail })

pub text_took : (test : List ℕ → Bool) (name : List ℕ) (p : Place) (a : List ℕ) (q : Place) → line_at (named name (text_if test)) p ≡ Ok (a, q) → (test a ≡ true) × Takes p (name ++ a) q
text_took test name p a q e =
    let t = took (named name (text_if test)) p (a, q) e in
    let v = named_found name (text_if test) t.line a t.reads in
    let f = text_found test v.0 a v.2 in
    (f.0, record { lines = t.lines ∙ ap (λ (l : List ℕ). l ∷ q.0) (v.1 ∙ ap (λ (x : List ℕ). name ++ x) f.1); tail = t.tail })

pub just_took : (text : List ℕ) (p : Place) (a : List ℕ) (q : Place) → line_at (just text) p ≡ Ok (a, q) → Takes p text q
just_took text p a q e =
    let t = took (just text) p (a, q) e in
    record { lines = t.lines ∙ ap (λ (l : List ℕ). l ∷ q.0) (just_found text t.line a t.reads); tail = t.tail }

pub signed_took : (name : List ℕ) (p : Place) (z : ℤ) (q : Place) → signed_line name p ≡ Ok (z, q) → (unsigned_abs z < 2 ^ 53) × Takes p (name ++ signed_decimal z) q
signed_took name p z q e =
    let t = took (named name signed_of) p (z, q) e in
    let v = named_found name signed_of t.line z t.reads in
    let f = signed_found v.0 z v.2 in
    (f.0, record { lines = t.lines ∙ ap (λ (l : List ℕ). l ∷ q.0) (v.1 ∙ ap (λ (x : List ℕ). name ++ x) f.1); tail = t.tail })

-- ---- the spelling is taken

pub number_again_at : (name : List ℕ) (n : ℕ) (ls : List (List ℕ)) (t : List ℕ) → n < 2 ^ 53 → number_line name ((name ++ decimal n) ∷ ls, t) ≡ Ok (n, (ls, t))
number_again_at name n ls t lt = line_again (named name number_of) (name ++ decimal n) ls t n (named_again name number_of (decimal n) n (number_again n lt))

pub signed_again_at : (name : List ℕ) (z : ℤ) (ls : List (List ℕ)) (t : List ℕ) → unsigned_abs z < 2 ^ 53 → signed_line name ((name ++ signed_decimal z) ∷ ls, t) ≡ Ok (z, (ls, t))
signed_again_at name z ls t lt = line_again (named name signed_of) (name ++ signed_decimal z) ls t z (named_again name signed_of (signed_decimal z) z (signed_again z lt))

pub text_again_at : (test : List ℕ → Bool) (name a : List ℕ) (ls : List (List ℕ)) (t : List ℕ) → test a ≡ true → text_line test name ((name ++ a) ∷ ls, t) ≡ Ok (a, (ls, t))
text_again_at test name a ls t h = line_again (named name (text_if test)) (name ++ a) ls t a (named_again name (text_if test) a a (text_again test a h))

pub just_again_at : (text : List ℕ) (ls : List (List ℕ)) (t : List ℕ) → line_at (just text) (text ∷ ls, t) ≡ Ok (text, (ls, t))
just_again_at text ls t = line_again (just text) text ls t text (just_again text)

-- ---- whole texts

-- nothing is left
pub nothing_left : (p : Place) → length p.0 + length p.1 ≡ 0 → (p.0 ≡ []) × (p.1 ≡ [])
nothing_left p z = (nil_from_length p.0 (omega arith), nil_from_length p.1 (omega arith))

pub text_of_lines : (text : List ℕ) (ls : List (List ℕ)) → (split text).0 ≡ ls → (split text).1 ≡ [] → text ≡ unlines ls
text_of_lines text ls p q = text_is text ∙ joined _ _ _ _ (ap unlines p) q ∙ append-nil (unlines ls)

-- a text of visible bytes has no LF
pub codes_lack : (line : List ℕ) → list_all (λ c. nat_lt c 10 || nat_lt 10 c) line ≡ true → Lacks 10 line
codes_lack line h = Lacks-all 10 (λ c. nat_lt c 10 || nat_lt 10 c) line (omega arith) refl h

-- ---- lines one after another

pub spans_nothing : (p : Place) → Spans p [] p
spans_nothing p = record { lines = refl; tail = refl }

pub takes_then : (p q r : Place) (l : List ℕ) (ls : List (List ℕ)) → Takes p l q → Spans q ls r → Spans p (l ∷ ls) r
takes_then p q r l ls a b = record { lines = a.lines ∙ ap (λ x. l ∷ x) b.lines; tail = a.tail ∙ b.tail }

pub spans_then : (p q r : Place) (ks ls : List (List ℕ)) → Spans p ks q → Spans q ls r → Spans p (ks ++ ls) r
spans_then p q r ks ls a b = record { lines = a.lines ∙ ap (λ x. ks ++ x) b.lines ∙ sym (append_assoc ks ls r.0); tail = a.tail ∙ b.tail }

-- a value that a reader of the caller's gives
pub value_took : {A : Type 0} (name : List ℕ) (read : List ℕ → Option A) (spell : A → List ℕ) (Is : A → Type 0) → ((text : List ℕ) (x : A) → read text ≡ Some x → Is x × (text ≡ spell x))
    → (p : Place) (x : A) (q : Place) → line_at (named name read) p ≡ Ok (x, q) → Is x × Takes p (name ++ spell x) q
value_took name read spell Is found p x q e =
    let t = took (named name read) p (x, q) e in
    let v = named_found name read t.line x t.reads in
    let f = found v.0 x v.2 in
    (f.0, record { lines = t.lines ∙ ap (λ (l : List ℕ). l ∷ q.0) (v.1 ∙ ap (λ (y : List ℕ). name ++ y) f.1); tail = t.tail })

-- a line that is a text of its own
pub whole_took : (test : List ℕ → Bool) (p : Place) (a : List ℕ) (q : Place) → line_at (text_if test) p ≡ Ok (a, q) → (test a ≡ true) × Takes p a q
whole_took test p a q e =
    let t = took (text_if test) p (a, q) e in
    let f = text_found test t.line a t.reads in
    (f.0, record { lines = t.lines ∙ ap (λ (l : List ℕ). l ∷ q.0) f.1; tail = t.tail })
