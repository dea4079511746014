-- Laws of the parts that readings are made of.
use Rattle.std.proofs.Common.{◌≡◌, ℕ, ◌==◌, Bool, true, false, cond, ◌⊎◌, inl, inr, List, [], ◌∷◌, ◌++◌, length, codes, Option, Some, None, option_map, refl, ap, ◌∙◌, arith, append_assoc}
use Rattle.std.proofs.lemmas.Bool.{eqb-true, eq-eqb}
use Rattle.std.proofs.lemmas.Grind.{common_steps}
use Rattle.dubp_atoms.specs.Reading.{Lacks}
use Rattle.dubp_atoms.proofs.Numbers.{some_is}
use Rattle.dubp_atoms.proofs.Fields.{field_found, field_again}
use Rattle.dubp_cond.specs.Separated.{Read, after, either, read_map, closed, if_last}
use Rattle.dubp_cond.specs.Finding.{Finds, Again}

pub map_some : {A B : Type 0} (f : A → B) (o : Option A) (y : B) → option_map f o ≡ Some y → (x : A) × (o ≡ Some x) × (f x ≡ y)
map_some f None y h = absurd cc
map_some f (Some x) y h = (x, refl, cc)

pub either_some : {A B : Type 0} (o : Option A) (f : A → Option B) (other : Option B) (y : B) → either o f other ≡ Some y → ((x : A) × (o ≡ Some x) × (f x ≡ Some y)) ⊎ (other ≡ Some y)
either_some None f other y h = inr h
either_some (Some x) f other y h = inl (x, refl, h)

pub chosen : {A : Type 0} (b : Bool) (x y z : A) → cond b x y ≡ z → ((b ≡ true) × (x ≡ z)) ⊎ ((b ≡ false) × (y ≡ z))
chosen true x y z h = inl (refl, h)
chosen false x y z h = inr (refl, h)

pub after_found : (word text rest : List ℕ) → after word text ≡ Some rest → text ≡ word ++ rest
after_found [] text rest h = some_is text rest h
after_found (w ∷ ws) [] rest h = absurd cc
after_found (w ∷ ws) (c ∷ cs) rest h = elim (chosen (w == c) (after ws cs) None (Some rest) h) [
  | inl p ↦ let e = eqb-true w c p.0 in let t = after_found ws cs rest p.1 in cc
  | inr p ↦ let never = p.1 in absurd cc
]

pub after_again : (word rest : List ℕ) → after word (word ++ rest) ≡ Some rest
after_again [] rest = refl
after_again (w ∷ ws) rest = rw (eq-eqb w w refl) (after_again ws rest)

-- a reading of a value, seen as another value
pub mapped_finds : {A B : Type 0} (read : Read A) (spell : A → List ℕ) (Good : A → Type 0) (make : A → B) (spell' : B → List ℕ) (Good' : B → Type 0) → Finds read spell Good →
    ((x : A) → spell x ≡ spell' (make x)) → ((x : A) → Good x → Good' (make x)) → Finds (λ text. read_map make (read text)) spell' Good'
mapped_finds {A} {B} read spell Good make spell' Good' finds texts goods text y rest h =
    let m = map_some (λ (p : A × List ℕ). (make p.0, p.1)) (read text) (y, rest) h in
    let f = finds text m.0.0 m.0.1 m.1 in
    done m.0.0 m.0.1 f.0 f.1 (ap (λ p. p.0) m.2) (ap (λ p. p.1) m.2)
  where
    done : (x : A) (at : List ℕ) → text ≡ spell x ++ at → Good x → make x ≡ y → at ≡ rest → (text ≡ spell' y ++ rest) × Good' y
    done x at f g e r = rw (← e, ← r) (f ∙ ap (λ v. v ++ at) (texts x), goods x g)

-- what a whole text is read as
abbrev pub Parses : {A : Type 0} → (List ℕ → Option A) → (A → List ℕ) → (A → Type 0) → Type 0
Parses {A} read spell Good = (t : List ℕ) (x : A) → read t ≡ Some x → Good x × (t ≡ spell x)

-- the text of a good value is read again, and it has no `)` in it
abbrev pub Unparses : {A : Type 0} → (List ℕ → Option A) → (A → List ℕ) → (A → Type 0) → Type 0
Unparses {A} read spell Good = (x : A) → Good x → (read (spell x) ≡ Some x) × Lacks 41 (spell x)

abbrev pub with_end : {A : Type 0} → (A → List ℕ) → A → List ℕ
with_end spell x = spell x ++ codes ")"

abbrev found : {A : Type 0} → A → List ℕ → Option (A × List ℕ)
found x rest = Some (x, rest)

pair_parts : {A : Type 0} (x y : A) (r s : List ℕ) → found x r ≡ found y s → (x ≡ y) × (r ≡ s)
pair_parts {A} x y r s h =
    let p : ◌≡◌ {A = A × List ℕ} (x, r) (y, s) = cc in
    (ap (λ q. q.0) p, ap (λ q. q.1) p)

pub closed_finds : {A : Type 0} (read : List ℕ → Option A) (spell : A → List ℕ) (Good : A → Type 0) → Parses read spell Good → Finds (closed read) (with_end spell) Good
closed_finds {A} read spell Good parses text x rest h =
    let f = field_found 41 read text found (x, rest) h in
    let p = parses f.front f.value f.reads in
    let q = pair_parts f.value x f.rest rest f.goes_on in
    done f.front f.rest f.value f.parts p.1 p.0 q.0 q.1
  where
    done : (front at : List ℕ) (y : A) → text ≡ front ++ 41 ∷ at → front ≡ spell y → Good y → y ≡ x → at ≡ rest → (text ≡ with_end spell x ++ rest) × Good x
    done front at y b f good e r = rw (← e, ← r) (rw (b, f, append_assoc) refl, good)

pub closed_again : {A : Type 0} (read : List ℕ → Option A) (spell : A → List ℕ) (Good : A → Type 0) → Unparses read spell Good → Again (closed read) (with_end spell) Good (λ rest. Unit {0})
closed_again {A} read spell Good unparses x rest good ends =
    let u = unparses x good in
    rw (append_assoc (spell x) (codes ")") rest) (field_again 41 read (spell x) rest x found u.1 u.0)

empty : (rest : List ℕ) → (length rest == 0) ≡ true → rest ≡ []
empty [] h = refl
empty (x ∷ xs) h = absurd (grind (arith, common_steps))

pub last_found : {A : Type 0} (p : A × List ℕ) (x : A) → if_last p ≡ Some x → (p.0 ≡ x) × (p.1 ≡ [])
last_found p x h = elim (chosen (length p.1 == 0) (Some p.0) None (Some x) h) [
  | inl q ↦ (some_is p.0 x q.1, empty p.1 q.0)
  | inr q ↦ let never = q.1 in absurd cc
]
