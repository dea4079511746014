-- A field up to its separator.
use Rattle.std.proofs.Common.{◌≡◌, ◌≢◌, ℕ, zero, suc, ◌+◌, ◌-◌, ◌^◌, ◌<◌, ◌≤◌, Bool, true, false, cond, eqb, ltb, List, [], ◌∷◌, ◌++◌, length, get_or, take, drop, Option, Some, None, option_map, refl, sym, ap, subst, ◌∙◌, arith, inl, inr}
use Rattle.std.specs.Option.{IfSome, IfNone}
use Rattle.std.specs.List.{list_all, position, position_or_len}
use Rattle.std.proofs.lemmas.Bool.{cases_lt, eqb-true, eqb-false, ltb-false, eq-eqb, ne_eqb, lt-ltb}
use Rattle.std.proofs.lemmas.List.{take_at, drop_at, get_or-take, get_or_past, length-take, drop-drop, length-append, get_or_append_left, get_or-append_right, get_or_at, take-append-drop, drop_more}
use Rattle.std.proofs.lemmas.List.Sums.{position_or_len_is, fails_before_first}
use Rattle.std.proofs.lemmas.List.Quantifiers.{position-Some}
use Rattle.dubp_atoms.specs.Reading.{◌>>=◌, text_if, Lacks, cut_at, field}
use Rattle.std.specs.Char.{is_ascii_digit}
use Rattle.std.specs.Str.{all_ascii_digits}
use Rattle.std.specs.Fmt.{decimal}
use Rattle.std.proofs.lemmas.Fmt.{digits_decimal}
use Rattle.dubp_atoms.proofs.Numbers.{own, by_test, both, bind_some, some_is}

pub Lacks-append : (b : ℕ) (x y : List ℕ) → Lacks b x → Lacks b y → Lacks b (x ++ y)
Lacks-append b x y p q k =
    elim (cases_lt k (length x)) [
      | inl lt ↦ rw (get_or_append_left x y 0 k lt) (p k)
      | inr le ↦ rw (get_or-append_right x y (length x) k 0 refl le) (q (k - length x))
    ]

pub Lacks-cons : (b c : ℕ) (x : List ℕ) → c ≢ b → Lacks b x → Lacks b (c ∷ x)
Lacks-cons b c x n p zero = n
Lacks-cons b c x n p (suc k) = p k

no_both : (t : Bool) → t ≡ true → t ≡ false → ⊥
no_both t a b = cc

-- a text whose bytes all pass a test that the byte does not pass
pub Lacks-digits : (b : ℕ) (ds : List ℕ) → 0 < b → is_ascii_digit b ≡ false → all_ascii_digits ds ≡ true → Lacks b ds
Lacks-digits b [] pos n h k = λ e. omega arith
Lacks-digits b (c ∷ cs) pos n h zero = λ e. no_both (is_ascii_digit c) (both (is_ascii_digit c) (all_ascii_digits cs) h).0 (ap is_ascii_digit e ∙ n)
Lacks-digits b (c ∷ cs) pos n h (suc k) = Lacks-digits b cs pos n (both (is_ascii_digit c) (all_ascii_digits cs) h).1 k

pub decimal_lacks : (b n : ℕ) → n < 2 ^ 53 → 0 < b → is_ascii_digit b ≡ false → Lacks b (decimal n)
decimal_lacks b n lt pos other = Lacks-digits b (decimal n) pos other (digits_decimal own n (omega arith))

pub Lacks-all : (b : ℕ) (p : ℕ → Bool) (x : List ℕ) → 0 < b → p b ≡ false → list_all p x ≡ true → Lacks b x
Lacks-all b p [] pos n h k = λ e. omega arith
Lacks-all b p (c ∷ cs) pos n h zero = λ e. no_both (p c) (both (p c) (list_all p cs) h).0 (ap p e ∙ n)
Lacks-all b p (c ∷ cs) pos n h (suc k) = Lacks-all b p cs pos n (both (p c) (list_all p cs) h).1 k

map_some : {A B : Type 0} (f : A → B) (o : Option A) (y : B) → option_map f o ≡ Some y → (x : A) × (o ≡ Some x) × (f x ≡ y)
map_some f (Some x) y e = (x, refl, cc)
map_some f None y e = absurd cc

pub cut_found : (b : ℕ) (text : List ℕ) (p : List ℕ × List ℕ) → cut_at b text ≡ Some p → text ≡ p.0 ++ b ∷ p.1
cut_found b text p e =
    let m = map_some (λ i. (take i text, drop (i + 1) text)) (position (λ c. eqb c b) text) p e in
    let at = position-Some (λ c. eqb c b) text m.0 0 m.1 in
    let byte : get_or text m.0 0 ≡ b = eqb-true _ _ at.1 in
    let whole : text ≡ take m.0 text ++ b ∷ drop (m.0 + 1) text = sym (take-append-drop m.0 text) ∙ ap (λ t. take m.0 text ++ t) (drop_more text m.0 0 at.0 ∙ ap (λ c. c ∷ drop (m.0 + 1) text) byte) in
    subst (λ (q : List ℕ × List ℕ). text ≡ q.0 ++ b ∷ q.1) m.2 whole

abbrev two : List ℕ → List ℕ → Option (List ℕ × List ℕ)
two a b = Some (a, b)

pub cut_lacks : (b : ℕ) (text : List ℕ) (p : List ℕ × List ℕ) → 0 < b → cut_at b text ≡ Some p → Lacks b p.0
cut_lacks b text p pos e =
    let m = map_some (λ i. (take i text, drop (i + 1) text)) (position (λ c. eqb c b) text) p e in
    let at = position-Some (λ c. eqb c b) text m.0 0 m.1 in
    subst (λ (q : List ℕ × List ℕ). Lacks b q.0) m.2 (λ k. elim (cases_lt k m.0) [
      | inl lt ↦ rw (get_or-take m.0 text k 0 lt) (eqb-false (get_or text k 0) b (at.2 k lt))
      | inr le ↦ rw (get_or_past (take m.0 text) k 0 (omega (arith, length-take m.0 text))) (λ z. omega arith)
    ])

map_none : {A B : Type 0} (f : A → B) (o : Option A) → option_map f o ≡ None → o ≡ None
map_none f (Some x) e = absurd cc
map_none f None e = refl

no_place : (b : Bool) (i : ℕ) → cond b (Some i) None ≡ None → b ≡ false
no_place true i e = absurd cc
no_place false i e = refl

pub none_lacks : (b : ℕ) (text : List ℕ) → 0 < b → cut_at b text ≡ None → Lacks b text
none_lacks b text pos e k =
    let p = λ (c : ℕ). eqb c b in
    let short : ltb (position_or_len p text) (length text) ≡ false = no_place (ltb (position_or_len p text) (length text)) (position_or_len p text) (map_none (λ i. (take i text, drop (i + 1) text)) (position p text) e) in
    let past : length text ≤ position_or_len p text = ltb-false _ _ short in
    elim (cases_lt k (length text)) [
      | inl lt ↦ eqb-false (get_or text k 0) b (fails_before_first p text k 0 (omega arith))
      | inr le ↦ rw (get_or_past text k 0 le) (λ z. omega arith)
    ]

abbrev pub IsCut : ℕ → List ℕ → List ℕ × List ℕ → Type 0
IsCut b text p = Lacks b p.0 × (text ≡ p.0 ++ b ∷ p.1)

pair_is : (a b c d : List ℕ) → a ≡ c → b ≡ d → two a b ≡ two c d
pair_is a b c d p q = cc

-- a text of two parts
pub glue : (b : ℕ) (x y u v : List ℕ) → x ≡ u → y ≡ v → x ++ b ∷ y ≡ u ++ b ∷ v
glue b x y u v p q = cc

pub cut_again : (b : ℕ) (x y : List ℕ) → Lacks b x → cut_at b (x ++ b ∷ y) ≡ Some (x, y)
cut_again b x y lacks =
    let whole = x ++ b ∷ y in
    let len : length whole ≡ length x + suc (length y) = length-append x (b ∷ y) in
    let before = λ (k : ℕ) (lt : k < length x). ne_eqb (get_or whole k 0) b (rw (get_or_append_left x (b ∷ y) 0 k lt) (lacks k)) in
    let here : eqb (get_or whole (length x) 0) b ≡ true = rw (get_or_at x b y 0 (length x) refl) (eq-eqb b b refl) in
    let place : position_or_len (λ c. eqb c b) whole ≡ length x = position_or_len_is (λ c. eqb c b) whole (length x) 0 (omega arith) before (λ _. here) in
    let inside : ltb (length x) (length whole) ≡ true = lt-ltb _ _ (omega arith) in
    let after : drop (length x + 1) whole ≡ y = sym (drop-drop 1 (length x) whole) ∙ ap (drop 1) (drop_at x (b ∷ y) (length x) refl) in
    let found : position (λ c. eqb c b) whole ≡ Some (length x) = rw (place, inside) refl in
    ap (option_map (λ i. (take i whole, drop (i + 1) whole))) found ∙ pair_is (take (length x) whole) (drop (length x + 1) whole) x y (take_at x (b ∷ y) (length x) refl) after

-- what a field was read from
pub record Field {A V : Type 0} (b : ℕ) (read : List ℕ → Option A) (text : List ℕ) (then : A → List ℕ → Option V) (v : V) : Type 0 where
  pub front : List ℕ
  pub value : A
  pub rest : List ℕ
  pub parts : text ≡ front ++ b ∷ rest
  pub reads : read front ≡ Some value
  pub goes_on : then value rest ≡ Some v

pub field_found : {A V : Type 0} (b : ℕ) (read : List ℕ → Option A) (text : List ℕ) (then : A → List ℕ → Option V) (v : V) → field b read text then ≡ Some v → Field b read text then v
field_found b read text then v e =
    let p = bind_some (cut_at b text) (λ p. read p.0 >>= (λ a. then a p.1)) v e in
    let a = bind_some (read p.0.0) (λ a. then a p.0.1) v p.2 in
    record { front = p.0.0; value = a.0; rest = p.0.1; parts = cut_found b text p.0 p.1; reads = a.1; goes_on = a.2 }

pub field_again : {A V : Type 0} (b : ℕ) (read : List ℕ → Option A) (front rest : List ℕ) (a : A) (then : A → List ℕ → Option V) → Lacks b front → read front ≡ Some a → field b read (front ++ b ∷ rest) then ≡ then a rest
field_again b read front rest a then lacks e = rw (cut_again b front rest lacks, e) refl

pub field_stops : {A V : Type 0} (b : ℕ) (read : List ℕ → Option A) (front rest : List ℕ) (then : A → List ℕ → Option V) → Lacks b front → read front ≡ None → field b read (front ++ b ∷ rest) then ≡ None
field_stops b read front rest then lacks e = rw (cut_again b front rest lacks, e) refl

pub text_found : (test : List ℕ → Bool) (text t : List ℕ) → text_if test text ≡ Some t → (test t ≡ true) × (text ≡ t)
text_found test text t e =
    let g = by_test (test text) (Some text) t e in
    let same = some_is text t g.1 in
    (subst (λ (x : List ℕ). test x ≡ true) same g.0, same)

pub text_again : (test : List ℕ → Bool) (t : List ℕ) → test t ≡ true → text_if test t ≡ Some t
text_again test t h = rw h refl

module _ {B : Type 0} (b : ℕ) (text : List ℕ) where
  pub is_cut : (o : Option (B × B)) (now : B → List ℕ) → 0 < b → option_map (λ p. (now p.0, now p.1)) o ≡ cut_at b text → IfSome o (λ p. Lacks b (now p.0) × (text ≡ now p.0 ++ b ∷ now p.1))
  is_cut (Some p) now pos e = (cut_lacks b text (now p.0, now p.1) pos (sym e), cut_found b text (now p.0, now p.1) (sym e))
  is_cut None now pos e = tt

  pub is_not_cut : (o : Option (B × B)) (now : B → List ℕ) → 0 < b → option_map (λ p. (now p.0, now p.1)) o ≡ cut_at b text → IfNone o (Lacks b text)
  is_not_cut (Some p) now pos e = tt
  is_not_cut None now pos e = none_lacks b text pos (sym e)
