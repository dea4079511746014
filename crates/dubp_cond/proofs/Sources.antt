-- What is read as a source or an input is its one text.
use Rattle.std.proofs.Common.{◌≡◌, ℕ, ◌≤◌, ◌<◌, ◌^◌, nat_le, Bool, true, List, ◌∷◌, ◌++◌, codes, decimal, Option, Some, refl, ap, subst, ◌∙◌, arith, inl, inr}
use Rattle.std.proofs.lemmas.Bool.Decides.{nat_tests}
use Rattle.dubp_atoms.specs.Letters.{is_key, is_hash}
use Rattle.dubp_atoms.specs.Reading.{◌>>=◌, text_if, number_of, field, Lacks}
use Rattle.dubp_atoms.specs.Spelling.{IsNumber}
use Rattle.dubp_atoms.proofs.Numbers.{bind_some, some_is, by_test, number_found, number_again}
use Rattle.dubp_atoms.proofs.Fields.{field_found, field_again, text_found, text_again, glue}
use Rattle.dubp_atoms.proofs.Stamps.{colon, number_lacks, key_lacks, hash_lacks}
use Rattle.dubp_cond.specs.Separated.{after}
use Rattle.dubp_cond.specs.Sources.{source_text, IsSource, input_text, IsInput}
use Rattle.dubp_cond.specs.ReadingLines.{base_of, dividend_of, made_output_of, source_of, input_of}
use Rattle.dubp_cond.specs.declared.source.SourceId.{SourceId}
use Rattle.dubp_cond.specs.declared.source.SourceId.TheVariants.{D, T}
use Rattle.dubp_cond.specs.declared.source.Input.{Input}
use Rattle.dubp_cond.proofs.Readers.{either_some, after_found}

-- ---- a base

at_most : (n : ℕ) → nat_le n 15 ≡ true → n ≤ 15
at_most n h = grind (arith, nat_tests)

passes : (n : ℕ) → n ≤ 15 → nat_le n 15 ≡ true
passes n h = grind (arith, nat_tests)

pub base_found : (text : List ℕ) (n : ℕ) → base_of text ≡ Some n → (n ≤ 15) × (text ≡ decimal n)
base_found text n e =
    let b = bind_some (number_of text) _ n e in
    let t = by_test (nat_le b.0 15) (Some b.0) n b.2 in
    let f = number_found text b.0 b.1 in
    let same : b.0 ≡ n = some_is b.0 n t.1 in
    (subst (λ m. m ≤ 15) same (at_most b.0 t.0), f.1 ∙ ap decimal same)

pub base_again : (n : ℕ) → n ≤ 15 → base_of (decimal n) ≡ Some n
base_again n le = rw (number_again n (omega arith), passes n le) refl

-- ---- a source: a text, `:`, and a number

-- two parts of a source, and what is made of them
abbrev pair_of : (test : List ℕ → Bool) (make : List ℕ → ℕ → SourceId) → List ℕ → Option SourceId
pair_of test make text = field 58 (text_if test) text (λ front rest. number_of rest >>= (λ n. Some (make front n)))

-- what a source of two parts was read from
record Pair (test : List ℕ → Bool) (make : List ℕ → ℕ → SourceId) (text : List ℕ) (s : SourceId) : Type 0 where
  front : List ℕ
  number : ℕ
  makes : make front number ≡ s
  passes_test : test front ≡ true
  fits : IsNumber number
  parts : text ≡ front ++ 58 ∷ decimal number

pair_found : (test : List ℕ → Bool) (make : List ℕ → ℕ → SourceId) (text : List ℕ) (s : SourceId) → pair_of test make text ≡ Some s → Pair test make text s
pair_found test make text s e =
    let last : List ℕ → List ℕ → Option SourceId = λ front rest. number_of rest >>= (λ n. Some (make front n)) in
    let f = field_found 58 (text_if test) text last s e in
    let n = bind_some (number_of f.rest) (λ n. Some (make f.value n)) s f.goes_on in
    let t = text_found test f.front f.value f.reads in
    let d = number_found f.rest n.0 n.1 in
    record {
      front = f.value;
      number = n.0;
      makes = some_is (make f.value n.0) s n.2;
      passes_test = t.0;
      fits = d.0;
      parts = f.parts ∙ glue 58 f.front f.rest f.value (decimal n.0) t.1 d.1;
    }

pair_again : (test : List ℕ → Bool) (make : List ℕ → ℕ → SourceId) (front : List ℕ) (n : ℕ) → ((t : List ℕ) → test t ≡ true → Lacks 58 t) → test front ≡ true → IsNumber n →
    pair_of test make (front ++ 58 ∷ decimal n) ≡ Some (make front n)
pair_again test make front n lacks h lt =
    let last : List ℕ → List ℕ → Option SourceId = λ front rest. number_of rest >>= (λ n. Some (make front n)) in
    field_again 58 (text_if test) front (decimal n) front last (lacks front h) (text_again test front h) ∙ rw (number_again n lt) refl

pub source_found : (text : List ℕ) (s : SourceId) → source_of text ≡ Some s → IsSource s × (text ≡ source_text s)
unfolding source_of
source_found text s e = elim (either_some (after (codes "D:") text) dividend_of (after (codes "T:") text >>= made_output_of) s e) [
  | inl a ↦
      let p = pair_found is_key D a.0 s a.2 in
      let w = after_found (codes "D:") text a.0 a.1 in
      subst (λ x. IsSource x × (text ≡ source_text x)) p.makes ((p.passes_test, p.fits), w ∙ ap (λ v. codes "D:" ++ v) p.parts)
  | inr h ↦
      let a = bind_some (after (codes "T:") text) made_output_of s h in
      let p = pair_found is_hash T a.0 s a.2 in
      let w = after_found (codes "T:") text a.0 a.1 in
      subst (λ x. IsSource x × (text ≡ source_text x)) p.makes ((p.passes_test, p.fits), w ∙ ap (λ v. codes "T:" ++ v) p.parts)
]

pub source_again : (s : SourceId) → IsSource s → source_of (source_text s) ≡ Some s
unfolding source_of
source_again (D key block) is = pair_again is_key D key block (key_lacks 58 colon) is.0 is.1
source_again (T tx index) is = pair_again is_hash T tx index (hash_lacks 58 colon) is.0 is.1

-- ---- an input

abbrev after_base : ℕ → ℕ → List ℕ → Option Input
after_base amount base rest = source_of rest >>= (λ source. Some (record { amount = amount; base = base; source = source }))

abbrev after_amount : ℕ → List ℕ → Option Input
after_amount amount rest = field 58 base_of rest (after_base amount)

pub input_found : (text : List ℕ) (i : Input) → input_of text ≡ Some i → IsInput i × (text ≡ input_text i)
unfolding input_of
input_found text i e =
    let f = field_found 58 number_of text after_amount i e in
    let g = field_found 58 base_of f.rest (after_base f.value) i f.goes_on in
    let s = bind_some (source_of g.rest) _ i g.goes_on in
    let a = number_found f.front f.value f.reads in
    let b = base_found g.front g.value g.reads in
    let c = source_found g.rest s.0 s.1 in
    let made : Input = record { amount = f.value; base = g.value; source = s.0 } in
    subst (λ x. IsInput x × (text ≡ input_text x)) (some_is made i s.2) (
      record { amount = a.0; base = b.0; source = c.0 },
      f.parts ∙ glue 58 f.front f.rest (decimal f.value) _ a.1 (g.parts ∙ glue 58 g.front g.rest (decimal g.value) (source_text s.0) b.1 c.1),
    )

pub input_again : (i : Input) → IsInput i → input_of (input_text i) ≡ Some i
unfolding input_of
input_again i is =
    let rest = decimal i.base ++ 58 ∷ source_text i.source in
    let small : i.base < 2 ^ 53 = let le = is.base in omega arith in
    field_again 58 number_of (decimal i.amount) rest i.amount after_amount (number_lacks 58 colon i.amount is.amount) (number_again i.amount is.amount)
    ∙ field_again 58 base_of (decimal i.base) (source_text i.source) i.base (after_base i.amount) (number_lacks 58 colon i.base small) (base_again i.base is.base)
    ∙ rw (source_again i.source is.source) refl
