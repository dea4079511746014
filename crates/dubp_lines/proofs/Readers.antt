-- What a reader keeps, from one place to the next. `Reads` says of a reader which values it reads and how each is spelled: what it
-- reads is the spelling, and the spelling is read; where it refuses a line, the lines before begin the spelling of some value, and
-- it looks at no line behind the refused one. One reader behind another keeps all of it (`behind_reads`, `then_reads`).
use Rattle.std.proofs.Common.{◌≡◌, ◌⊎◌, inl, inr, ℕ, suc, Bool, true, false, cond, List, [], ◌∷◌, ◌++◌, length, Option, Some, None, Result, Ok, Err, refl, sym, ap, subst, ◌∙◌, append_assoc}
use Rattle.std.specs.Prelude.{nat_lt, ◌||◌}
use Rattle.std.specs.List.{AllByRecursion, list_all}
use Rattle.dubp_atoms.specs.Reading.{Lacks}
use Rattle.dubp_atoms.proofs.Fields.{Lacks-append}
use Rattle.dubp_lines.specs.Lines.{Place}
use Rattle.dubp_lines.specs.Taking.{line_at, named, just, taken_or, line_of, same_line}
use Rattle.dubp_lines.specs.Readers.{Reader, go_on, and_then, gives}
use Rattle.dubp_lines.proofs.Taken.{ok_is, named_found, named_again, just_found, just_again, codes_lack}

abbrev pub Rows : Type 0
Rows = List (List ℕ)

-- whatever stands behind
abbrev pub Always : Rows → Type 0
Always ls = Unit {0}

abbrev pub refusal : {Y : Type 0} → ℕ → Result Y ℕ
refusal left = Err left

abbrev pub left_in : {Y : Type 0} → Result Y ℕ → ℕ
left_in (Ok y) = 0
left_in (Err left) = left

pub err_moved : {X Y : Type 0} (m n : ℕ) → refusal {Y = X} m ≡ refusal n → refusal {Y = Y} m ≡ refusal n
err_moved {X} {Y} m n e = ap (λ k. refusal {Y = Y} k) (ap left_in e)

-- ---- what is kept

-- A value was read: it is good, its spelling stands between the places, and no line behind the next one was looked at.
pub record Reading {A : Type 0} (r : Reader A) (spell : A → Rows) (Good : A → Type 0) (p : Place) (a : A) (q : Place) : Type 0 where
  pub good : Good a
  pub lines : p.0 ≡ spell a ++ q.0
  pub tail : p.1 ≡ q.1
  pub local : (k : Rows) (l : List ℕ) (ks ks' : Rows) (t : List ℕ) → q.0 ≡ k ++ l ∷ ks → r (spell a ++ (k ++ l ∷ ks'), t) ≡ Ok (a, (k ++ l ∷ ks', t))

-- A line was refused: the lines before it begin the spelling of a good value, and no line behind it was looked at.
pub record Refusal {A : Type 0} (r : Reader A) (spell : A → Rows) (Good : A → Type 0) (ls : Rows) (n : ℕ) : Type 0 where
  pub taken : Rows
  pub rest : Rows
  pub lines : ls ≡ taken ++ rest
  pub left : n ≡ length rest
  pub value : A
  pub good : Good value
  pub more : Rows
  pub begins : spell value ≡ taken ++ more
  pub local : (l : List ℕ) (ks ks' : Rows) (t : List ℕ) → rest ≡ l ∷ ks → r (taken ++ l ∷ ks', t) ≡ Err (suc (length ks'))

-- The reader reads the good values, each from its spelling, where such lines stand behind it.
pub record Reads {A : Type 0} (r : Reader A) (spell : A → Rows) (Good : A → Type 0) (Ends : Rows → Type 0) : Type 0 where
  pub value : A
  pub is : Good value
  pub clear : (a : A) → Good a → AllByRecursion (Lacks 10) (spell a)
  pub found : (p : Place) (a : A) (q : Place) → r p ≡ Ok (a, q) → Reading r spell Good p a q
  pub refused : (p : Place) (n : ℕ) → r p ≡ Err n → Refusal r spell Good p.0 n
  pub again : (a : A) (ls : Rows) (t : List ℕ) → Good a → Ends ls → r (spell a ++ ls, t) ≡ Ok (a, (ls, t))

-- ---- one reader behind another

-- where the first read a value, and the second went on
pub record Went {A B : Type 0} (r : Reader A) (f : A → Reader B) (p : Place) (y : Result (B × Place) ℕ) : Type 0 where
  pub value : A
  pub place : Place
  pub first : r p ≡ Ok (value, place)
  pub then : f value place ≡ y

module _ {A B : Type 0} (r : Reader A) (f : A → Reader B) where
  went_by : (p : Place) (o : Result (A × Place) ℕ) (y : B × Place) → r p ≡ o → go_on o f ≡ Ok y → Went r f p (Ok y)
  went_by p (Ok x) y e g = record { value = x.0; place = x.1; first = e; then = g }
  went_by p (Err n) y e g = absurd cc

  pub went : (p : Place) (y : B × Place) → and_then r f p ≡ Ok y → Went r f p (Ok y)
  unfolding and_then
  went p y e = went_by p (r p) y refl e

  stopped_by : (p : Place) (o : Result (A × Place) ℕ) (n : ℕ) → r p ≡ o → go_on o f ≡ Err n → (r p ≡ Err n) ⊎ Went r f p (Err n)
  stopped_by p (Ok x) n e g = inr (record { value = x.0; place = x.1; first = e; then = g })
  stopped_by p (Err m) n e g = inl (e ∙ err_moved m n g)

  pub stopped : (p : Place) (n : ℕ) → and_then r f p ≡ Err n → (r p ≡ Err n) ⊎ Went r f p (Err n)
  unfolding and_then
  stopped p n e = stopped_by p (r p) n refl e

  pub goes : (p : Place) (a : A) (q : Place) → r p ≡ Ok (a, q) → and_then r f p ≡ f a q
  unfolding and_then
  goes p a q e = ap (λ o. go_on o f) e

  pub halts : (p : Place) (n : ℕ) → r p ≡ Err n → and_then r f p ≡ Err n
  unfolding and_then
  halts p n e = ap (λ o. go_on o f) e

pub all_append : (P : List ℕ → Type 0) (xs ys : Rows) → AllByRecursion P xs → AllByRecursion P ys → AllByRecursion P (xs ++ ys)
all_append P [] ys a b = b
all_append P (x ∷ xs) ys a b = (a.0, all_append P xs ys a.1 b)

-- The general form: what is read first is a part `a` of the value `b`, of which `Next a b` says the rest.
module _ {A B : Type 0} (r : Reader A) (f : A → Reader B) (s : A → Rows) (G : A → Type 0) (EA : Rows → Type 0) (u : B → Rows) (EB : Rows → Type 0) (spell : B → Rows) (Good : B → Type 0) (Next : A → B → Type 0)
    (first : Reads r s G EA) (next : (a : A) → G a → Reads (f a) u (Next a) EB) (spelled : (a : A) (b : B) → Next a b → spell b ≡ s a ++ u b)
    (whole : (a : A) (b : B) → G a → Next a b → Good b) (part : (b : B) → Good b → (a : A) × (G a × Next a b)) (ends : (a : A) (b : B) (ls : Rows) → Next a b → EB ls → EA (u b ++ ls)) where
  behind_clear : (b : B) → Good b → AllByRecursion (Lacks 10) (spell b)
  behind_clear b good =
      let a = part b good in
      subst (AllByRecursion (Lacks 10)) (sym (spelled a.0 b a.1.1)) (all_append (Lacks 10) (s a.0) (u b) (first.clear a.0 a.1.0) ((next a.0 a.1.0).clear b a.1.1))

  behind_found : (p : Place) (b : B) (q : Place) → and_then r f p ≡ Ok (b, q) → Reading (and_then r f) spell Good p b q
  behind_found p b q e =
      let w = went r f p (b, q) e in
      let a = w.value in
      let fa = first.found p a w.place w.first in
      let fb = (next a fa.good).found w.place b q w.then in
      let split = spelled a b fb.good in
      record {
        good = whole a b fa.good fb.good;
        lines = fa.lines ∙ ap (λ x. s a ++ x) fb.lines ∙ sym (append_assoc (s a) (u b) q.0) ∙ ap (λ x. x ++ q.0) (sym split);
        tail = fa.tail ∙ fb.tail;
        local = λ k l ks ks' t at.
            ap (λ (x : Rows). and_then r f (x, t)) (ap (λ x. x ++ (k ++ l ∷ ks')) split ∙ append_assoc (s a) (u b) (k ++ l ∷ ks') ∙ ap (λ x. s a ++ x) (sym (append_assoc (u b) k (l ∷ ks'))))
            ∙ goes r f (s a ++ ((u b ++ k) ++ l ∷ ks'), t) a ((u b ++ k) ++ l ∷ ks', t) (fa.local (u b ++ k) l ks ks' t (fb.lines ∙ ap (λ x. u b ++ x) at ∙ sym (append_assoc (u b) k (l ∷ ks))))
            ∙ ap (λ (x : Rows). f a (x, t)) (append_assoc (u b) k (l ∷ ks'))
            ∙ fb.local k l ks ks' t at;
      }

  behind_refused : (p : Place) (n : ℕ) → and_then r f p ≡ Err n → Refusal (and_then r f) spell Good p.0 n
  behind_refused p n e = elim (stopped r f p n e) [
    | inl h ↦ at_first (first.refused p n h)
    | inr w ↦ at_next w (first.found p w.value w.place w.first)
  ]
    where
      at_first : Refusal r s G p.0 n → Refusal (and_then r f) spell Good p.0 n
      at_first x =
          let y = next x.value x.good in
          record {
            taken = x.taken;
            rest = x.rest;
            lines = x.lines;
            left = x.left;
            value = y.value;
            good = whole x.value y.value x.good y.is;
            more = x.more ++ u y.value;
            begins = spelled x.value y.value y.is ∙ ap (λ z. z ++ u y.value) x.begins ∙ append_assoc x.taken x.more (u y.value);
            local = λ l ks ks' t at. halts r f (x.taken ++ l ∷ ks', t) (suc (length ks')) (x.local l ks ks' t at);
          }

      at_next : (w : Went r f p (Err n)) → Reading r s G p w.value w.place → Refusal (and_then r f) spell Good p.0 n
      at_next w fa =
          let a = w.value in
          let x = (next a fa.good).refused w.place n w.then in
          record {
            taken = s a ++ x.taken;
            rest = x.rest;
            lines = fa.lines ∙ ap (λ z. s a ++ z) x.lines ∙ sym (append_assoc (s a) x.taken x.rest);
            left = x.left;
            value = x.value;
            good = whole a x.value fa.good x.good;
            more = x.more;
            begins = spelled a x.value x.good ∙ ap (λ z. s a ++ z) x.begins ∙ sym (append_assoc (s a) x.taken x.more);
            local = λ l ks ks' t at.
                ap (λ (z : Rows). and_then r f (z, t)) (append_assoc (s a) x.taken (l ∷ ks'))
                ∙ goes r f (s a ++ (x.taken ++ l ∷ ks'), t) a (x.taken ++ l ∷ ks', t) (fa.local x.taken l ks ks' t (x.lines ∙ ap (λ z. x.taken ++ z) at))
                ∙ x.local l ks ks' t at;
          }

  behind_again : (b : B) (ls : Rows) (t : List ℕ) → Good b → EB ls → and_then r f (spell b ++ ls, t) ≡ Ok (b, (ls, t))
  behind_again b ls t good stop =
      let a = part b good in
      ap (λ (x : Rows). and_then r f (x, t)) (ap (λ x. x ++ ls) (spelled a.0 b a.1.1) ∙ append_assoc (s a.0) (u b) ls)
      ∙ goes r f (s a.0 ++ (u b ++ ls), t) a.0 (u b ++ ls, t) (first.again a.0 (u b ++ ls) t a.1.0 (ends a.0 b ls a.1.1 stop))
      ∙ (next a.0 a.1.0).again b ls t a.1.1 stop

  pub behind_reads : Reads (and_then r f) spell Good EB
  behind_reads =
      let y = next first.value first.is in
      record {
        value = y.value;
        is = whole first.value y.value first.is y.is;
        clear = behind_clear;
        found = behind_found;
        refused = behind_refused;
        again = behind_again;
      }

-- The form for records: the part is a field of the value, and `K` has the fields that are read already.
module _ {A B : Type 0} (r : Reader A) (f : A → Reader B) (s : A → Rows) (G : A → Type 0) (EA : Rows → Type 0) (u : B → Rows) (EB : Rows → Type 0) (field : B → A) (K H : B → Type 0) where
  pub then_before : Reads r s G EA → ((a : A) → G a → Reads (f a) u (λ b. (K b × (field b ≡ a)) × H b) EB) → ((b : B) (ls : Rows) → H b → EB ls → EA (u b ++ ls))
      → Reads (and_then r f) (λ b. s (field b) ++ u b) (λ b. K b × (G (field b) × H b)) EB
  then_before first next ends =
      behind_reads r f s G EA u EB (λ b. s (field b) ++ u b) (λ b. K b × (G (field b) × H b)) (λ a b. (K b × (field b ≡ a)) × H b) first next
      (λ a b h. ap (λ x. s x ++ u b) h.0.1)
      (λ a b g h. (h.0.0, (subst G (sym h.0.1) g, h.1)))
      (λ b h. (field b, (h.1.0, ((h.0, refl), h.1.1))))
      (λ a b ls h stop. ends b ls h.1 stop)

pub then_reads : {A B : Type 0} (r : Reader A) (f : A → Reader B) (s : A → Rows) (G : A → Type 0) (u : B → Rows) (EB : Rows → Type 0) (field : B → A) (K H : B → Type 0)
    → Reads r s G Always → ((a : A) → G a → Reads (f a) u (λ b. (K b × (field b ≡ a)) × H b) EB)
    → Reads (and_then r f) (λ b. s (field b) ++ u b) (λ b. K b × (G (field b) × H b)) EB
then_reads r f s G u EB field K H first next = then_before r f s G Always u EB field K H first next (λ b ls h stop. tt)

-- ---- the same under other words

pub reads_as : {A : Type 0} (r : Reader A) (s : A → Rows) (G H : A → Type 0) (E : Rows → Type 0) → ((a : A) → G a → H a) → ((a : A) → H a → G a) → Reads r s G E → Reads r s H E
reads_as r s G H E to from x = record {
  value = x.value;
  is = to x.value x.is;
  clear = λ a h. x.clear a (from a h);
  found = λ p a q e. let y = x.found p a q e in record { good = to a y.good; lines = y.lines; tail = y.tail; local = y.local };
  refused = λ p n e.
      let y = x.refused p n e in
      record { taken = y.taken; rest = y.rest; lines = y.lines; left = y.left; value = y.value; good = to y.value y.good; more = y.more; begins = y.begins; local = y.local };
  again = λ a ls t h stop. x.again a ls t (from a h) stop;
}

pub spelled_as : {A : Type 0} (r : Reader A) (s u : A → Rows) (G : A → Type 0) (E : Rows → Type 0) → ((a : A) → G a → s a ≡ u a) → Reads r s G E → Reads r u G E
spelled_as r s u G E same x = record {
  value = x.value;
  is = x.is;
  clear = λ a h. subst (AllByRecursion (Lacks 10)) (same a h) (x.clear a h);
  found = λ p a q e.
      let y = x.found p a q e in
      record {
        good = y.good;
        lines = y.lines ∙ ap (λ z. z ++ q.0) (same a y.good);
        tail = y.tail;
        local = λ k l ks ks' t at. ap (λ (z : Rows). r (z ++ (k ++ l ∷ ks'), t)) (sym (same a y.good)) ∙ y.local k l ks ks' t at;
      };
  refused = λ p n e.
      let y = x.refused p n e in
      record { taken = y.taken; rest = y.rest; lines = y.lines; left = y.left; value = y.value; good = y.good; more = y.more; begins = sym (same y.value y.good) ∙ y.begins; local = y.local };
  again = λ a ls t h stop. ap (λ (z : Rows). r (z ++ ls, t)) (sym (same a h)) ∙ x.again a ls t h stop;
}

-- ---- no line

-- the one value that has these fields
pub gives_reads : {B : Type 0} (b : B) (K : B → Type 0) (E : Rows → Type 0) → K b → ((c : B) → K c → c ≡ b) → Reads (gives b) (λ c. []) (λ c. K c × Unit {0}) E
gives_reads {B} b K E k same = record {
  value = b;
  is = (k, tt);
  clear = λ c h. tt;
  found = λ p c q e.
      let made : B × Place = (b, p) in
      subst (λ (y : B × Place). Reading (gives b) (λ c. []) (λ c. K c × Unit {0}) p y.0 y.1) (ok_is made (c, q) e)
      (record { good = (k, tt); lines = refl; tail = refl; local = λ m l ks ks' t at. refl });
  refused = λ p n e. absurd cc;
  again = λ c ls t h stop. ap (λ (x : B). Ok (x, (ls, t))) (sym (same c h.0));
}

-- the same, with nothing more to say
pub only_reads : {B : Type 0} (b : B) (E : Rows → Type 0) → Reads (gives b) (λ c. []) (λ c. c ≡ b) E
only_reads {B} b E =
    let K : B → Type 0 = λ c. c ≡ b in
    reads_as (gives b) (λ c. []) (λ c. K c × Unit {0}) K E (λ c h. h.0) (λ c h. (h, tt)) (gives_reads b K E refl (λ c h. h))

-- ---- one line

-- Texts are read as the good values, each from its spelling, which has no LF.
pub record IsSpelled {A : Type 0} (read : List ℕ → Option A) (spell : A → List ℕ) (Good : A → Type 0) : Type 0 where
  pub value : A
  pub is : Good value
  pub clear : (a : A) → Good a → Lacks 10 (spell a)
  pub found : (text : List ℕ) (a : A) → read text ≡ Some a → Good a × (text ≡ spell a)
  pub again : (a : A) → Good a → read (spell a) ≡ Some a

pub named_spelled : {A : Type 0} (name : List ℕ) (read : List ℕ → Option A) (spell : A → List ℕ) (G : A → Type 0) → list_all (λ c. nat_lt c 10 || nat_lt 10 c) name ≡ true
    → IsSpelled read spell G → IsSpelled (named name read) (λ a. name ++ spell a) G
named_spelled name read spell G clear x = record {
  value = x.value;
  is = x.is;
  clear = λ a h. Lacks-append 10 name (spell a) (codes_lack name clear) (x.clear a h);
  found = λ text a e.
      let v = named_found name read text a e in
      let f = x.found v.0 a v.2 in
      (f.0, v.1 ∙ ap (λ y. name ++ y) f.1);
  again = λ a h. named_again name read (spell a) a (x.again a h);
}

pub just_spelled : (text : List ℕ) → list_all (λ c. nat_lt c 10 || nat_lt 10 c) text ≡ true → IsSpelled (just text) (λ a. text) (λ a. a ≡ text)
just_spelled text clear = record {
  value = text;
  is = refl;
  clear = λ a h. codes_lack text clear;
  found = λ line a e. let same = just_is line a e in (sym same ∙ just_found text line a e, just_found text line a e);
  again = λ a h. just_again text ∙ ap (λ (x : List ℕ). Some x) (sym h);
}
  where
    just_by : (line a : List ℕ) (b : Bool) → cond b (Some line) None ≡ Some a → line ≡ a
    just_by line a true e = cc
    just_by line a false e = absurd cc

    just_is : (line a : List ℕ) → just text line ≡ Some a → line ≡ a
    just_is line a e = just_by line a (same_line text line) e

module _ {A : Type 0} (read : List ℕ → Option A) (spell : A → List ℕ) (Good : A → Type 0) (x : IsSpelled read spell Good) where
  abbrev row : A → Rows
  row a = spell a ∷ []

  line_found_by : (l : List ℕ) (ls : Rows) (t : List ℕ) (o : Option A) (a : A) (q : Place) → read l ≡ o → taken_or (length (l ∷ ls)) (ls, t) o ≡ Ok (a, q) → Reading (line_at read) row Good (l ∷ ls, t) a q
  line_found_by l ls t (Some b) a q e g =
      let made : A × Place = (b, (ls, t)) in
      let f = x.found l b e in
      subst (λ (y : A × Place). Reading (line_at read) row Good (l ∷ ls, t) y.0 y.1) (ok_is made (a, q) g)
      (record { good = f.0; lines = ap (λ z. z ∷ ls) f.1; tail = refl; local = λ k m ks ks' t' at. ap (taken_or (length (spell b ∷ (k ++ m ∷ ks'))) (k ++ m ∷ ks', t')) (x.again b f.0) })
  line_found_by l ls t None a q e g = absurd cc

  line_found : (ls : Rows) (t : List ℕ) (a : A) (q : Place) → line_of read ls t ≡ Ok (a, q) → Reading (line_at read) row Good (ls, t) a q
  line_found [] t a q e = absurd cc
  line_found (l ∷ ls) t a q e = line_found_by l ls t (read l) a q refl e

  same_first : (l m : List ℕ) (ls ms : Rows) → l ∷ ls ≡ m ∷ ms → l ≡ m
  same_first l m ls ms e = cc

  line_refused_by : (l : List ℕ) (ls : Rows) (t : List ℕ) (o : Option A) (n : ℕ) → read l ≡ o → taken_or (length (l ∷ ls)) (ls, t) o ≡ Err n → Refusal (line_at read) row Good (l ∷ ls) n
  line_refused_by l ls t (Some b) n e g = absurd cc
  line_refused_by l ls t None n e g = record {
    taken = [];
    rest = l ∷ ls;
    lines = refl;
    left = sym (ap left_in g);
    value = x.value;
    good = x.is;
    more = row x.value;
    begins = refl;
    local = λ m ks ks' t' at. ap (taken_or (length (m ∷ ks')) (ks', t')) (ap read (sym (same_first l m ls ks at)) ∙ e);
  }

  line_refused : (ls : Rows) (t : List ℕ) (n : ℕ) → line_of read ls t ≡ Err n → Refusal (line_at read) row Good ls n
  line_refused [] t n e = record {
    taken = [];
    rest = [];
    lines = refl;
    left = sym (ap left_in e);
    value = x.value;
    good = x.is;
    more = row x.value;
    begins = refl;
    local = λ m ks ks' t' at. absurd cc;
  }
  line_refused (l ∷ ls) t n e = line_refused_by l ls t (read l) n refl e

  pub line_reads : Reads (line_at read) row Good Always
  line_reads = record {
    value = x.value;
    is = x.is;
    clear = λ a h. (x.clear a h, tt);
    found = λ p a q e. line_found p.0 p.1 a q e;
    refused = λ p n e. line_refused p.0 p.1 n e;
    again = λ a ls t h stop. ap (taken_or (length (spell a ∷ ls)) (ls, t)) (x.again a h);
  }

-- a line that is always the same, and what is read behind it
pub just_then : {B : Type 0} (text : List ℕ) (f : List ℕ → Reader B) (u : B → Rows) (G : B → Type 0) (E : Rows → Type 0) → list_all (λ c. nat_lt c 10 || nat_lt 10 c) text ≡ true
    → Reads (f text) u G E → Reads (and_then (line_at (just text)) f) (λ b. text ∷ u b) G E
just_then {B} text f u G E clear next =
    behind_reads (line_at (just text)) f (λ a. text ∷ []) (λ a. a ≡ text) Always u E (λ b. text ∷ u b) G (λ a b. G b)
    (line_reads (just text) (λ a. text) (λ a. a ≡ text) (just_spelled text clear))
    (λ a e. subst (λ (x : List ℕ). Reads (f x) u G E) (sym e) next)
    (λ a b h. refl)
    (λ a b e h. h)
    (λ b h. (text, (refl, h)))
    (λ a b ls h stop. tt)
