-- Entries one after another keep what a reader keeps. How many there may be, the lines bound: `many` is the same for every bound
-- above the number of lines.
use Rattle.std.proofs.Common.{◌≡◌, ◌⊎◌, inl, inr, ℕ, zero, suc, ◌<◌, Bool, true, false, cond, List, [], ◌∷◌, ◌++◌, length, Result, Ok, Err, refl, sym, ap, subst, ◌∙◌, append_assoc, append-nil, arith, length-append}
use Rattle.std.specs.Prelude.{All, map}
use Rattle.std.specs.List.{AllByRecursion, flat_map}
use Rattle.std.proofs.lemmas.List.Concat.{flat_map-cons}
use Rattle.std.proofs.lemmas.List.Elements.{All-nil, All-cons, All-head, All-tail}
use Rattle.dubp_atoms.specs.Reading.{Lacks}
use Rattle.dubp_lines.specs.Lines.{Place}
use Rattle.dubp_lines.specs.Taking.{same_line}
use Rattle.dubp_lines.specs.Readers.{Reader, and_then, gives, many, entries}
use Rattle.dubp_lines.proofs.Taken.{ok_is, same_text}
use Rattle.dubp_lines.proofs.Readers.{Rows, Always, Reading, Refusal, Reads, Went, went, stopped, goes, halts, all_append}

-- the spelling of entries
abbrev pub spell_all : {A : Type 0} → (A → Rows) → List A → Rows
spell_all s [] = []
spell_all s (x ∷ xs) = s x ++ spell_all s xs

-- of entries of one line
pub all_rows : {A : Type 0} (spell : A → List ℕ) (vs : List A) → spell_all (λ a. spell a ∷ []) vs ≡ map spell vs
all_rows spell [] = refl
all_rows spell (v ∷ vs) = ap (λ ls. spell v ∷ ls) (all_rows spell vs)

pub all_lines : {A : Type 0} (s : A → Rows) (vs : List A) → spell_all s vs ≡ flat_map s vs
all_lines s [] = refl
all_lines s (v ∷ vs) = ap (λ ls. s v ++ ls) (all_lines s vs) ∙ sym (flat_map-cons s v vs)

-- a line that is longer is another line
pub longer_apart : (wanted line : List ℕ) → length wanted < length line → same_line wanted line ≡ false
longer_apart wanted line lt = by_test (same_line wanted line) refl
  where
    by_test : (b : Bool) → same_line wanted line ≡ b → same_line wanted line ≡ false
    by_test true e = let same : line ≡ wanted = same_text line wanted e in absurd (omega (arith, ap length same))
    by_test false e = e

module _ {A : Type 0} (stops : Rows → Bool) (r : Reader A) (s : A → Rows) (G : A → Type 0) (x : Reads r s G Always)
    (near : (l : List ℕ) (ks ks' : Rows) → stops (l ∷ ks) ≡ stops (l ∷ ks')) (starts : (a : A) (ls : Rows) → G a → stops (s a ++ ls) ≡ false) (some_line : (a : A) → G a → 0 < length (s a)) where
  abbrev next_of : ℕ → Reader (List A)
  next_of n = and_then r (λ a. and_then (many n stops r) (λ vs. gives (a ∷ vs)))

  abbrev chosen : ℕ → Bool → Place → Result (List A × Place) ℕ
  chosen n b p = cond b (Ok ([], p)) (next_of n p)

  many_stops : (n : ℕ) (p : Place) → stops p.0 ≡ true → many (suc n) stops r p ≡ Ok ([], p)
  many_stops n p e = ap (λ b. chosen n b p) e

  many_goes : (n : ℕ) (p : Place) → stops p.0 ≡ false → many (suc n) stops r p ≡ next_of n p
  many_goes n p e = ap (λ b. chosen n b p) e

  near_at : (k : Rows) (l : List ℕ) (ks ks' : Rows) → stops (k ++ l ∷ ks) ≡ stops (k ++ l ∷ ks')
  near_at [] l ks ks' = near l ks ks'
  near_at (m ∷ k) l ks ks' = near m (k ++ l ∷ ks) (k ++ l ∷ ks')

  shorter : (a : A) (ls ms : Rows) (n : ℕ) → G a → ls ≡ s a ++ ms → length ls < suc n → length ms < n
  shorter a ls ms n g e lt = let some = some_line a g in omega (arith, ap length e, length-append (s a) ms)

  -- one entry, and entries behind it
  next_is : (n : ℕ) (p : Place) (a : A) (q : Place) (vs : List A) (z : Place) → r p ≡ Ok (a, q) → many n stops r q ≡ Ok (vs, z) → next_of n p ≡ Ok (a ∷ vs, z)
  next_is n p a q vs z e g = goes r (λ a. and_then (many n stops r) (λ vs. gives (a ∷ vs))) p a q e ∙ goes (many n stops r) (λ vs. gives (a ∷ vs)) q vs z g

  next_refuses : (n : ℕ) (p : Place) (a : A) (q : Place) (m : ℕ) → r p ≡ Ok (a, q) → many n stops r q ≡ Err m → next_of n p ≡ Err m
  next_refuses n p a q m e g = goes r (λ a. and_then (many n stops r) (λ vs. gives (a ∷ vs))) p a q e ∙ halts (many n stops r) (λ vs. gives (a ∷ vs)) q m g

  -- ---- the spelling is read

  pub many_again : (n : ℕ) (vs : List A) (ls : Rows) (t : List ℕ) → All G vs → stops ls ≡ true → length (spell_all s vs ++ ls) < n → many n stops r (spell_all s vs ++ ls, t) ≡ Ok (vs, (ls, t))
  many_again zero vs ls t good stop lt = absurd (omega arith)
  many_again (suc n) [] ls t good stop lt = many_stops n (ls, t) stop
  many_again (suc n) (a ∷ vs) ls t good stop lt =
      let g = All-head G a vs good in
      let text = append_assoc (s a) (spell_all s vs) ls in
      let fits : length (spell_all s vs ++ ls) < n = shorter a ((s a ++ spell_all s vs) ++ ls) (spell_all s vs ++ ls) n g text lt in
      ap (λ (z : Rows). many (suc n) stops r (z, t)) text
      ∙ many_goes n (s a ++ (spell_all s vs ++ ls), t) (starts a (spell_all s vs ++ ls) g)
      ∙ next_is n (s a ++ (spell_all s vs ++ ls), t) a (spell_all s vs ++ ls, t) vs (ls, t) (x.again a (spell_all s vs ++ ls) t g tt) (many_again n vs ls t (All-tail G a vs good) stop fits)

  -- ---- what is read is the spelling

  record Found (p : Place) (vs : List A) (q : Place) : Type 0 where
    good : All G vs
    lines : p.0 ≡ spell_all s vs ++ q.0
    tail : p.1 ≡ q.1
    stop : stops q.0 ≡ true

  found_by : (n : ℕ) (p : Place) (b : Bool) (vs : List A) (q : Place) → ((q' : Place) (vs' : List A) (z : Place) → many n stops r q' ≡ Ok (vs', z) → Found q' vs' z) → stops p.0 ≡ b → chosen n b p ≡ Ok (vs, q) → Found p vs q
  found_by n p true vs q later e g =
      let none : List A × Place = ([], p) in
      subst (λ (y : List A × Place). Found p y.0 y.1) (ok_is none (vs, q) g) (record { good = All-nil G; lines = refl; tail = refl; stop = e })
  found_by n p false vs q later e g =
      let w = went r (λ a. and_then (many n stops r) (λ vs. gives (a ∷ vs))) p (vs, q) g in
      let v = went (many n stops r) (λ vs. gives (w.value ∷ vs)) w.place (vs, q) w.then in
      let f = x.found p w.value w.place w.first in
      let m = later w.place v.value v.place v.first in
      let got : List A × Place = (w.value ∷ v.value, v.place) in
      subst (λ (y : List A × Place). Found p y.0 y.1) (ok_is got (vs, q) v.then)
      (record {
        good = All-cons G w.value v.value f.good m.good;
        lines = f.lines ∙ ap (λ z. s w.value ++ z) m.lines ∙ sym (append_assoc (s w.value) (spell_all s v.value) v.place.0);
        tail = f.tail ∙ m.tail;
        stop = m.stop;
      })

  many_found : (n : ℕ) (p : Place) (vs : List A) (q : Place) → many n stops r p ≡ Ok (vs, q) → Found p vs q
  many_found zero p vs q e = absurd cc
  many_found (suc n) p vs q e = found_by n p (stops p.0) vs q (many_found n) refl e

  -- ---- a refused line

  record Refused (ls : Rows) (n : ℕ) : Type 0 where
    taken : Rows
    rest : Rows
    lines : ls ≡ taken ++ rest
    left : n ≡ length rest
    value : List A
    good : All G value
    more : Rows
    begins : spell_all s value ≡ taken ++ more
    local : (m : ℕ) (l : List ℕ) (ks ks' : Rows) (t : List ℕ) → rest ≡ l ∷ ks → length (taken ++ l ∷ ks') < m → many m stops r (taken ++ l ∷ ks', t) ≡ Err (suc (length ks'))

  goes_again : (ls taken : Rows) (l : List ℕ) (ks ks' rest : Rows) → stops ls ≡ false → ls ≡ taken ++ rest → rest ≡ l ∷ ks → stops (taken ++ l ∷ ks') ≡ false
  goes_again ls taken l ks ks' rest e lines at = near_at taken l ks' ks ∙ ap stops (ap (λ z. taken ++ z) (sym at) ∙ sym lines) ∙ e

  refused_first : (p : Place) (n : ℕ) → stops p.0 ≡ false → Refusal r s G p.0 n → Refused p.0 n
  refused_first p n e y = record {
    taken = y.taken;
    rest = y.rest;
    lines = y.lines;
    left = y.left;
    value = y.value ∷ [];
    good = All-cons G y.value [] y.good (All-nil G);
    more = y.more;
    begins = append-nil (s y.value) ∙ y.begins;
    local = λ m l ks ks' t at lt. at_bound m l ks ks' t at lt;
  }
    where
      at_bound : (m : ℕ) (l : List ℕ) (ks ks' : Rows) (t : List ℕ) → y.rest ≡ l ∷ ks → length (y.taken ++ l ∷ ks') < m → many m stops r (y.taken ++ l ∷ ks', t) ≡ Err (suc (length ks'))
      at_bound zero l ks ks' t at lt = absurd (omega arith)
      at_bound (suc m) l ks ks' t at lt =
          many_goes m (y.taken ++ l ∷ ks', t) (goes_again p.0 y.taken l ks ks' y.rest e y.lines at)
          ∙ halts r (λ a. and_then (many m stops r) (λ vs. gives (a ∷ vs))) (y.taken ++ l ∷ ks', t) (suc (length ks')) (y.local l ks ks' t at)

  refused_later : (p : Place) (a : A) (q : Place) (n : ℕ) → stops p.0 ≡ false → Reading r s G p a q → Refused q.0 n → Refused p.0 n
  refused_later p a q n e f y = record {
    taken = s a ++ y.taken;
    rest = y.rest;
    lines = whole;
    left = y.left;
    value = a ∷ y.value;
    good = All-cons G a y.value f.good y.good;
    more = y.more;
    begins = ap (λ z. s a ++ z) y.begins ∙ sym (append_assoc (s a) y.taken y.more);
    local = λ m l ks ks' t at lt. at_bound m l ks ks' t at lt;
  }
    where
      whole : p.0 ≡ (s a ++ y.taken) ++ y.rest
      whole = f.lines ∙ ap (λ z. s a ++ z) y.lines ∙ sym (append_assoc (s a) y.taken y.rest)

      at_bound : (m : ℕ) (l : List ℕ) (ks ks' : Rows) (t : List ℕ) → y.rest ≡ l ∷ ks → length ((s a ++ y.taken) ++ l ∷ ks') < m → many m stops r ((s a ++ y.taken) ++ l ∷ ks', t) ≡ Err (suc (length ks'))
      at_bound zero l ks ks' t at lt = absurd (omega arith)
      at_bound (suc m) l ks ks' t at lt =
          let text = append_assoc (s a) y.taken (l ∷ ks') in
          let fits : length (y.taken ++ l ∷ ks') < m = shorter a ((s a ++ y.taken) ++ l ∷ ks') (y.taken ++ l ∷ ks') m f.good text lt in
          many_goes m ((s a ++ y.taken) ++ l ∷ ks', t) (goes_again p.0 (s a ++ y.taken) l ks ks' y.rest e whole at)
          ∙ ap (λ (z : Rows). next_of m (z, t)) text
          ∙ next_refuses m (s a ++ (y.taken ++ l ∷ ks'), t) a (y.taken ++ l ∷ ks', t) (suc (length ks')) (f.local y.taken l ks ks' t (y.lines ∙ ap (λ z. y.taken ++ z) at)) (y.local m l ks ks' t at fits)

  no_refusal : (a : A) (vs : List A) (p : Place) (n : ℕ) → gives (a ∷ vs) p ≡ Err n → ⊥
  no_refusal a vs p n e = cc

  refused_by : (n : ℕ) (p : Place) (b : Bool) (m : ℕ) → ((q : Place) (k : ℕ) → length q.0 < n → many n stops r q ≡ Err k → Refused q.0 k) → length p.0 < suc n → stops p.0 ≡ b → chosen n b p ≡ Err m → Refused p.0 m
  refused_by n p true m later lt e g = absurd cc
  refused_by n p false m later lt e g = elim (stopped r (λ a. and_then (many n stops r) (λ vs. gives (a ∷ vs))) p m g) [
    | inl h ↦ refused_first p m e (x.refused p m h)
    | inr w ↦ behind w (stopped (many n stops r) (λ vs. gives (w.value ∷ vs)) w.place m w.then)
  ]
    where
      behind : (w : Went r (λ a. and_then (many n stops r) (λ vs. gives (a ∷ vs))) p (Err m)) → (many n stops r w.place ≡ Err m) ⊎ Went (many n stops r) (λ vs. gives (w.value ∷ vs)) w.place (Err m) → Refused p.0 m
      behind w (inl h) =
          let f = x.found p w.value w.place w.first in
          refused_later p w.value w.place m e f (later w.place m (shorter w.value p.0 w.place.0 n f.good f.lines lt) h)
      behind w (inr v) = absurd (no_refusal w.value v.value v.place m v.then)

  many_refused : (n : ℕ) (p : Place) (m : ℕ) → length p.0 < n → many n stops r p ≡ Err m → Refused p.0 m
  many_refused zero p m lt e = absurd (omega arith)
  many_refused (suc n) p m lt e = refused_by n p (stops p.0) m (many_refused n) lt refl e

  -- ---- the reader of entries

  all_clear : (vs : List A) → All G vs → AllByRecursion (Lacks 10) (spell_all s vs)
  all_clear [] good = tt
  all_clear (a ∷ vs) good = all_append (Lacks 10) (s a) (spell_all s vs) (x.clear a (All-head G a vs good)) (all_clear vs (All-tail G a vs good))

  -- the lines behind the entries stop them
  abbrev pub Stop : Rows → Type 0
  Stop ls = stops ls ≡ true

  pub entries_reads : Reads (entries stops r) (spell_all s) (All G) Stop
  unfolding entries
  entries_reads = record {
    value = [];
    is = All-nil G;
    clear = all_clear;
    found = λ p vs q e.
        let f = many_found (suc (length p.0)) p vs q e in
        record {
          good = f.good;
          lines = f.lines;
          tail = f.tail;
          local = λ k l ks ks' t at. many_again (suc (length (spell_all s vs ++ (k ++ l ∷ ks')))) vs (k ++ l ∷ ks') t f.good (near_at k l ks' ks ∙ ap stops (sym at) ∙ f.stop) (omega arith);
        };
    refused = λ p n e.
        let y = many_refused (suc (length p.0)) p n (omega arith) e in
        record {
          taken = y.taken;
          rest = y.rest;
          lines = y.lines;
          left = y.left;
          value = y.value;
          good = y.good;
          more = y.more;
          begins = y.begins;
          local = λ l ks ks' t at. y.local (suc (length (y.taken ++ l ∷ ks'))) l ks ks' t at (omega arith);
        };
    again = λ vs ls t good stop. many_again (suc (length (spell_all s vs ++ ls))) vs ls t good stop (omega arith);
  }
