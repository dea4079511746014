-- A reader takes the lines that its places take, one after another.
use Rattle.std.proofs.Common.{◌≡◌, ℕ, zero, suc, ◌+◌, ◌<◌, Bool, true, false, cond, List, [], ◌∷◌, length, Option, Some, None, option_map, Result, Ok, Err, refl, ap, ◌∙◌, arith}
use Rattle.std.specs.Option.{option_map_or}
use Rattle.dubp_lines.specs.Lines.{Place}
use Rattle.dubp_lines.specs.Taking.{line_at, line_of, taken_or, named, begins_with}
use Rattle.dubp_lines.specs.Readers.{Reader, go_on, and_then, gives, optional, many, entries}
use Rattle.dubp_lines.proofs.Readers.{Rows}
use Rattle.dubp_lines.proofs.Loops.{Shrinks}
use Rattle.dubp_places.specs.Places.{Spot, next, taken}

-- by what was read from some lines, how many of them a place and those behind it take
abbrev pub Goes : {A : Type 0} → Result (A × Place) ℕ → Rows → Spot → (A → Spot) → Type 0
Goes (Ok y) ls s k = taken s ls + length y.1.0 ≡ length ls + taken (k y.0) y.1.0
Goes (Err n) ls s k = taken s ls + n ≡ length ls

abbrev pub Follows : {A : Type 0} → Reader A → Spot → (A → Spot) → Type 0
Follows r s k = (p : Place) → Goes (r p) p.0 s k

-- ---- one line

module _ {A : Type 0} (read : List ℕ → Option A) (s : Spot) (k : A → Spot) where
  by_read : (l : List ℕ) (ls : Rows) (t : List ℕ) (o : Option A) → next s l ≡ option_map k o → Goes (taken_or (length (l ∷ ls)) (ls, t) o) (l ∷ ls) s k
  by_read l ls t None e =
      let none : taken s (l ∷ ls) ≡ 0 = ap (λ o. option_map_or (λ b. suc (taken b ls)) o 0) e in
      omega (arith, none)
  by_read l ls t (Some x) e =
      let one : taken s (l ∷ ls) ≡ suc (taken (k x) ls) = ap (λ o. option_map_or (λ b. suc (taken b ls)) o 0) e in
      omega (arith, one)

  pub line_goes : (l : List ℕ) (ls : Rows) (t : List ℕ) → next s l ≡ option_map k (read l) → Goes (line_at read (l ∷ ls, t)) (l ∷ ls) s k
  line_goes l ls t e = by_read l ls t (read l) e

  lines_go : ((l : List ℕ) → next s l ≡ option_map k (read l)) → (ls : Rows) (t : List ℕ) → Goes (line_of read ls t) ls s k
  lines_go same [] t = refl
  lines_go same (l ∷ ls) t = by_read l ls t (read l) (same l)

  pub line_follows : ((l : List ℕ) → next s l ≡ option_map k (read l)) → Follows (line_at read) s k
  line_follows same = λ p. lines_go same p.0 p.1

-- ---- one reader behind another

pub behind_goes : {B : Type 0} (o : Result (B × Place) ℕ) (mid ls : Rows) (s m : Spot) (k : B → Spot) → Goes o mid m k → taken s ls + length mid ≡ length ls + taken m mid → Goes o ls s k
behind_goes (Ok z) mid ls s m k g e = omega (arith, g, e)
behind_goes (Err n) mid ls s m k g e = omega (arith, g, e)

pub goes_on : {A B : Type 0} (o : Result (A × Place) ℕ) (f : A → Reader B) (ls : Rows) (s : Spot) (k : A → Spot) (e : B → Spot) → Goes o ls s k → ((x : A) → Follows (f x) (k x) e) → Goes (go_on o f) ls s e
goes_on (Ok y) f ls s k e g h = behind_goes (f y.0 y.1) y.1.0 ls s (k y.0) e (h y.0 y.1) g
goes_on (Err n) f ls s k e g h = g

pub then_follows : {A B : Type 0} (r : Reader A) (f : A → Reader B) (s : Spot) (k : A → Spot) (e : B → Spot) → Follows r s k → ((x : A) → Follows (f x) (k x) e) → Follows (and_then r f) s e
unfolding and_then
then_follows r f s k e a h = λ p. goes_on (r p) f p.0 s k e (a p) h

-- no line
pub here : (s : Spot) (p : Place) → taken s p.0 + length p.0 ≡ length p.0 + taken s p.0
here s p = omega arith

-- two places that take the next line alike take as many
pub same_taken : (a b : Spot) (l : List ℕ) (ls : Rows) → next a l ≡ next b l → taken a (l ∷ ls) ≡ taken b (l ∷ ls)
same_taken a b l ls e = ap (λ o. option_map_or (λ z. suc (taken z ls)) o 0) e

-- ---- a line that may be there

module _ {A : Type 0} (name : List ℕ) (read : List ℕ → Option A) (s m : Spot) (same : (l : List ℕ) → next s l ≡ cond (begins_with name l) (option_map (λ a. m) (named name read l)) (next m l)) where
  by_name : (l : List ℕ) (ls : Rows) (t : List ℕ) (b : Bool) → begins_with name l ≡ b → Goes (cond b (go_on (line_at (named name read) (l ∷ ls, t)) (λ a. gives (Some a))) (Ok (None, (l ∷ ls, t)))) (l ∷ ls) s (λ o. m)
  by_name l ls t true e =
      goes_on (line_at (named name read) (l ∷ ls, t)) (λ a. gives (Some a)) (l ∷ ls) s (λ a. m) (λ o. m)
      (line_goes (named name read) s (λ a. m) l ls t (same l ∙ ap (λ b. cond b (option_map (λ a. m) (named name read l)) (next m l)) e))
      (λ a. here m)
  by_name l ls t false e =
      let alike = same_taken s m l ls (same l ∙ ap (λ b. cond b (option_map (λ a. m) (named name read l)) (next m l)) e) in
      omega (arith, alike)

  optional_goes : (ls : Rows) (t : List ℕ) → Goes (optional name read (ls, t)) ls s (λ o. m)
  optional_goes [] t = refl
  optional_goes (l ∷ ls) t = by_name l ls t (begins_with name l) refl

  pub optional_follows : Follows (optional name read) s (λ o. m)
  optional_follows = λ p. optional_goes p.0 p.1

-- ---- entries up to what stops them

module _ {A : Type 0} (stops : Rows → Bool) (r : Reader A) (s m : Spot) (shrinks : Shrinks r)
    (stopped : (ls : Rows) → stops ls ≡ true → taken s ls ≡ taken m ls)
    (enters : (ls : Rows) (t : List ℕ) → stops ls ≡ false → Goes (r (ls, t)) ls s (λ x. s)) where
  abbrev chosen : ℕ → Bool → Place → Result (List A × Place) ℕ
  chosen n b p = cond b (Ok ([], p)) (and_then r (λ x. and_then (many n stops r) (λ xs. gives (x ∷ xs))) p)

  -- what is read behind an entry
  more_goes : (n : ℕ) (x : A) (q : Place) → Goes (many n stops r q) q.0 s (λ xs. m) → Goes (and_then (many n stops r) (λ xs. gives (x ∷ xs)) q) q.0 s (λ xs. m)
  unfolding and_then
  more_goes n x q g = goes_on (many n stops r q) (λ xs. gives (x ∷ xs)) q.0 s (λ xs. m) (λ xs. m) g (λ xs. here m)

  entry_goes : (n : ℕ) (ls : Rows) (t : List ℕ) (o : Result (A × Place) ℕ) → r (ls, t) ≡ o → Goes o ls s (λ x. s)
      → ((q : Place) → length q.0 < length ls → Goes (many n stops r q) q.0 s (λ xs. m))
      → Goes (go_on o (λ x. and_then (many n stops r) (λ xs. gives (x ∷ xs)))) ls s (λ xs. m)
  entry_goes n ls t (Ok y) e g more =
      behind_goes (and_then (many n stops r) (λ xs. gives (y.0 ∷ xs)) y.1) y.1.0 ls s s (λ xs. m)
      (more_goes n y.0 y.1 (more y.1 (shrinks.shorter (ls, t) y.0 y.1 e))) g
  entry_goes n ls t (Err k) e g more = g

  by_stop : (n : ℕ) (ls : Rows) (t : List ℕ) (b : Bool) → stops ls ≡ b
      → ((q : Place) → length q.0 < length ls → Goes (many n stops r q) q.0 s (λ xs. m))
      → Goes (chosen n b (ls, t)) ls s (λ xs. m)
  unfolding and_then
  by_stop n ls t true e more = let alike = stopped ls e in omega (arith, alike)
  by_stop n ls t false e more = entry_goes n ls t (r (ls, t)) refl (enters ls t e) more

  many_goes : (n : ℕ) (ls : Rows) (t : List ℕ) → length ls < n → Goes (many n stops r (ls, t)) ls s (λ xs. m)
  many_goes zero ls t few = absurd (omega arith)
  many_goes (suc n) ls t few = by_stop n ls t (stops ls) refl (λ q fewer. many_goes n q.0 q.1 (omega arith))

  pub entries_follow : Follows (entries stops r) s (λ xs. m)
  unfolding entries
  entries_follow = λ p. many_goes (suc (length p.0)) p.0 p.1 (omega arith)
