-- The documents at places of the pool.
use Rattle.std.proofs.Common.{◌≡◌, ℕ, zero, suc, ◌-◌, ◌<◌, ◌≤◌, List, [], ◌∷◌, ◌++◌, length, take, Some, refl, ap, sym, ◌∙◌, append_assoc, arith}
use Rattle.std.specs.List.{AllByRecursion, slice_get}
use Rattle.std.proofs.lemmas.List.{length-append}
use Rattle.std.proofs.Math.Seq.{take-append_seam}
use Rattle.std.proofs.lemmas.Option.{slice_get-get_or}
use Rattle.dubp_docs.specs.declared.doc.Doc.{Doc}
use Rattle.dubp_forge.specs.Steps.{all_but_last, docs_at, one_of}

-- ---- the last of a list

pub all_but_last-push : {A : Type 0} (xs : List A) (x : A) → all_but_last (xs ++ x ∷ []) ≡ xs
all_but_last-push xs x =
    let e : length (xs ++ x ∷ []) - 1 ≡ length xs = omega (arith, length-append xs (x ∷ [])) in
    ap (λ n. take n (xs ++ x ∷ [])) e ∙ take-append_seam xs (x ∷ [])

-- a list with an element is a front and its last
pub record HasLast {A : Type 0} (xs : List A) : Type 0 where
  pub front : List A
  pub last : A
  pub is : xs ≡ front ++ last ∷ []

pub has_last : {A : Type 0} (x : A) (xs : List A) → HasLast (x ∷ xs)
has_last x [] = record { front = []; last = x; is = refl }
has_last x (y ∷ xs) = let rest = has_last y xs in record { front = x ∷ rest.front; last = rest.last; is = ap (λ l. x ∷ l) rest.is }

pub some_last : {A : Type 0} (xs : List A) → 0 < length xs → HasLast xs
some_last [] some = absurd (omega (arith, some))
some_last (x ∷ xs) some = has_last x xs

-- the front of a front; one fewer of a front is the front that is one shorter
take-take : {A : Type 0} (m n : ℕ) (xs : List A) → m ≤ n → take m (take n xs) ≡ take m xs
take-take zero n xs le = refl
take-take (suc m) zero xs le = absurd (omega (arith, le))
take-take (suc m) (suc n) [] le = refl
take-take (suc m) (suc n) (x ∷ xs) le = ap (λ l. x ∷ l) (take-take m n xs (omega (arith, le)))

-- ---- places

pub docs_at-append : (pool : List Doc) (ps qs : List ℕ) → docs_at pool (ps ++ qs) ≡ docs_at pool ps ++ docs_at pool qs
docs_at-append pool [] qs = refl
docs_at-append pool (p ∷ ps) qs =
    ap (λ l. one_of (slice_get pool p) ++ l) (docs_at-append pool ps qs) ∙ sym (append_assoc (one_of (slice_get pool p)) (docs_at pool ps) (docs_at pool qs))

pub docs_at-push : (pool : List Doc) (ps : List ℕ) (p : ℕ) (d : Doc) → slice_get pool p ≡ Some d → docs_at pool (ps ++ p ∷ []) ≡ docs_at pool ps ++ d ∷ []
docs_at-push pool ps p d is = docs_at-append pool ps (p ∷ []) ∙ ap (λ o. docs_at pool ps ++ (one_of o ++ [])) is

one_there : (pool : List Doc) (p : ℕ) → p < length pool → length (one_of (slice_get pool p)) ≡ 1
one_there [] p lt = absurd (omega (arith, lt))
one_there (d ∷ pool) p lt = ap (λ o. length (one_of o)) (slice_get-get_or (d ∷ pool) p d lt)

pub length-docs_at : (pool : List Doc) (ps : List ℕ) → AllByRecursion (λ p. p < length pool) ps → length (docs_at pool ps) ≡ length ps
length-docs_at pool [] there = refl
length-docs_at pool (p ∷ ps) there =
    let rest = length-docs_at pool ps there.1 in
    omega (arith, length-append (one_of (slice_get pool p)) (docs_at pool ps), one_there pool p there.0, rest)

pub all_push : {A : Type 0} (P : A → Type 0) (xs : List A) (x : A) → AllByRecursion P xs → P x → AllByRecursion P (xs ++ x ∷ [])
all_push P [] x all p = (p, tt)
all_push P (y ∷ xs) x all p = (all.0, all_push P xs x all.1 p)

pub all_front : {A : Type 0} (P : A → Type 0) (xs : List A) (x : A) → AllByRecursion P (xs ++ x ∷ []) → AllByRecursion P xs
all_front P [] x all = tt
all_front P (y ∷ xs) x all = (all.0, all_front P xs x all.1)

-- each document of the pool passes, so those at places of it do
pub all_docs_at : (P : Doc → Type 0) (pool : List Doc) (ps : List ℕ) → AllByRecursion P pool → AllByRecursion P (docs_at pool ps)
all_docs_at P pool [] all = tt
all_docs_at P pool (p ∷ ps) all = joined (one_of (slice_get pool p)) (docs_at pool ps) (one pool p all) (all_docs_at P pool ps all)
  where
    one : (xs : List Doc) (i : ℕ) → AllByRecursion P xs → AllByRecursion P (one_of (slice_get xs i))
    one [] i rest = tt
    one (x ∷ xs) zero rest = (rest.0, tt)
    one (x ∷ xs) (suc i) rest = one xs i rest.1

    joined : (xs ys : List Doc) → AllByRecursion P xs → AllByRecursion P ys → AllByRecursion P (xs ++ ys)
    joined [] ys first second = second
    joined (x ∷ xs) ys first second = (first.0, joined xs ys first.1 second)
