-- What one step of a reading took, and that its spelling is taken.
use Rattle.std.proofs.Common.{◌≡◌, ℕ, Bool, true, false, List, [], ◌∷◌, ◌++◌, length, codes, Option, Some, Ok, Err, refl}
use Rattle.dubp_atoms.specs.Letters.{is_currency, is_sig}
use Rattle.dubp_atoms.specs.Reading.{text_if}
use Rattle.dubp_atoms.proofs.Fields.{text_found, text_again}
use Rattle.dubp_lines.specs.Lines.{Place}
use Rattle.dubp_lines.specs.Takes.{Takes, Spans}
use Rattle.dubp_lines.specs.Taking.{same_line, just, named}
use Rattle.dubp_lines.proofs.Taken.{bind_ok, line_again, named_again, just_again, just_took, value_took, whole_took, takes_then, spans_then, spans_nothing}
use Rattle.dubp_docs.specs.Reading.{just_line, named_line, sig_line, opening_at}

abbrev pub Rows : Type 0
Rows = List (List ℕ)

-- ---- lines one after another

pub then_lines : {p q r : Place} {ks ls : Rows} → Spans p ks q → Spans q ls r → Spans p (ks ++ ls) r
then_lines {p} {q} {r} {ks} {ls} a b = spans_then p q r ks ls a b

pub one_line : {p q : Place} {l : List ℕ} → Takes p l q → Spans p (l ∷ []) q
one_line {p} {q} {l} a = takes_then p q q l [] a (spans_nothing q)

-- ---- a value in a line

-- what is read is the text of a good value, and the text of a good value is read
pub record IsRead {A : Type 0} (read : List ℕ → Option A) (spell : A → List ℕ) (Good : A → Type 0) : Type 0 where
  pub found : (text : List ℕ) (x : A) → read text ≡ Some x → Good x × (text ≡ spell x)
  pub again : (x : A) → Good x → read (spell x) ≡ Some x

abbrev pub itself : List ℕ → List ℕ
itself text = text

pub text_is : (test : List ℕ → Bool) → IsRead (text_if test) itself (λ text. test text ≡ true)
text_is test = record { found = text_found test; again = text_again test }

module _ {A : Type 0} {read : List ℕ → Option A} {spell : A → List ℕ} {Good : A → Type 0} (is : IsRead read spell Good) (name : List ℕ) where
  pub named_took : (p : Place) (x : A) (q : Place) → named_line read name p ≡ Ok (x, q) → Good x × Spans p ((name ++ spell x) ∷ []) q
  unfolding named_line
  named_took p x q h = let t = value_took name read spell Good is.found p x q h in (t.0, one_line t.1)

  pub named_takes : (x : A) (ls : Rows) (t : List ℕ) → Good x → named_line read name ((name ++ spell x) ∷ ls, t) ≡ Ok (x, (ls, t))
  unfolding named_line
  named_takes x ls t good = line_again (named name read) (name ++ spell x) ls t x (named_again name read (spell x) x (is.again x good))

pub just_took_line : (line : List ℕ) (p : Place) (x : List ℕ) (q : Place) → just_line line p ≡ Ok (x, q) → Spans p (line ∷ []) q
unfolding just_line
just_took_line line p x q h = one_line (just_took line p x q h)

pub sig_took : (p : Place) (x : List ℕ) (q : Place) → sig_line p ≡ Ok (x, q) → (is_sig x ≡ true) × Spans p (x ∷ []) q
unfolding sig_line
sig_took p x q h = let t = whole_took is_sig p x q h in (t.0, one_line t.1)

pub sig_takes : (x : List ℕ) (ls : Rows) (t : List ℕ) → is_sig x ≡ true → sig_line (x ∷ ls, t) ≡ Ok (x, (ls, t))
unfolding sig_line
sig_takes x ls t good = line_again (text_if is_sig) x ls t x (text_again is_sig x good)

-- ---- the first three lines

abbrev pub opens : List ℕ → List ℕ → Rows
opens kind currency = codes "Version: 10" ∷ kind ∷ (codes "Currency: " ++ currency) ∷ []

pub opening_took : (kind : List ℕ) (p : Place) (x : List ℕ) (q : Place) → opening_at kind p ≡ Ok (x, q) → (is_currency x ≡ true) × Spans p (opens kind x) q
unfolding opening_at
opening_took kind p x q h =
    let y : List ℕ × Place = (x, q) in
    let a = bind_ok (just_line (codes "Version: 10") p) _ y h in
    let b = bind_ok (just_line kind a.0.1) _ y a.2 in
    let c = named_took (text_is is_currency) (codes "Currency: ") b.0.1 x q b.2 in
    (c.0, then_lines (just_took_line (codes "Version: 10") p a.0.0 a.0.1 a.1) (then_lines (just_took_line kind a.0.1 b.0.0 b.0.1 b.1) c.1))

pub just_takes : (line : List ℕ) (ls : Rows) (t : List ℕ) → just_line line (line ∷ ls, t) ≡ Ok (line, (ls, t))
unfolding just_line
just_takes line ls t = line_again (just line) line ls t line (just_again line)

pub opening_takes : (kind x : List ℕ) (ls : Rows) (t : List ℕ) → is_currency x ≡ true → opening_at kind (codes "Version: 10" ∷ kind ∷ (codes "Currency: " ++ x) ∷ ls, t) ≡ Ok (x, (ls, t))
unfolding opening_at
opening_takes kind x ls t good = rw (just_takes (codes "Version: 10") (kind ∷ (codes "Currency: " ++ x) ∷ ls) t, just_takes kind ((codes "Currency: " ++ x) ∷ ls) t) (named_takes (text_is is_currency) (codes "Currency: ") x ls t good)

just_refuses : (kind l : List ℕ) (ls : Rows) (t : List ℕ) → same_line kind l ≡ false → just_line kind (l ∷ ls, t) ≡ Err (length (l ∷ ls))
unfolding just_line
just_refuses kind l ls t h = rw h refl

-- a document of another type
pub opening_refuses : (kind l : List ℕ) (ls : Rows) (t : List ℕ) → same_line kind l ≡ false → opening_at kind (codes "Version: 10" ∷ l ∷ ls, t) ≡ Err (length (l ∷ ls))
unfolding opening_at
opening_refuses kind l ls t h = rw (just_takes (codes "Version: 10") (l ∷ ls) t, just_refuses kind l ls t h) refl
