-- What is read as an output is its one text.
use Rattle.std.proofs.Common.{◌≡◌, ℕ, ◌<◌, ◌^◌, List, ◌∷◌, ◌++◌, decimal, Option, Some, refl, subst, ◌∙◌, arith}
use Rattle.dubp_atoms.specs.Reading.{◌>>=◌, number_of, field}
use Rattle.dubp_atoms.proofs.Numbers.{bind_some, some_is, number_found, number_again}
use Rattle.dubp_atoms.proofs.Fields.{field_found, field_again, glue}
use Rattle.dubp_atoms.proofs.Stamps.{colon, number_lacks}
use Rattle.dubp_cond.specs.Conditions.{cond_text}
use Rattle.dubp_cond.specs.Outputs.{output_text, IsOutput}
use Rattle.dubp_cond.specs.Reading.{cond_of_text}
use Rattle.dubp_cond.specs.ReadingLines.{base_of, output_of}
use Rattle.dubp_cond.specs.declared.output.Output.{Output}
use Rattle.dubp_cond.proofs.Conditions.{cond_found, cond_again}
use Rattle.dubp_cond.proofs.Sources.{base_found, base_again}

abbrev after_base : ℕ → ℕ → List ℕ → Option Output
after_base amount base rest = cond_of_text rest >>= (λ c. Some (record { amount = amount; base = base; cond = c }))

abbrev after_amount : ℕ → List ℕ → Option Output
after_amount amount rest = field 58 base_of rest (after_base amount)

pub output_found : (text : List ℕ) (o : Output) → output_of text ≡ Some o → IsOutput o × (text ≡ output_text o)
unfolding output_of
output_found text o e =
    let f = field_found 58 number_of text after_amount o e in
    let g = field_found 58 base_of f.rest (after_base f.value) o f.goes_on in
    let s = bind_some (cond_of_text g.rest) _ o g.goes_on in
    let a = number_found f.front f.value f.reads in
    let b = base_found g.front g.value g.reads in
    let c = cond_found g.rest s.0 s.1 in
    let made : Output = record { amount = f.value; base = g.value; cond = s.0 } in
    subst (λ x. IsOutput x × (text ≡ output_text x)) (some_is made o s.2) (
      record { amount = a.0; base = b.0; cond = c.0 },
      f.parts ∙ glue 58 f.front f.rest (decimal f.value) _ a.1 (g.parts ∙ glue 58 g.front g.rest (decimal g.value) (cond_text s.0) b.1 c.1),
    )

pub output_again : (o : Output) → IsOutput o → output_of (output_text o) ≡ Some o
unfolding output_of
output_again o is =
    let rest = decimal o.base ++ 58 ∷ cond_text o.cond in
    let small : o.base < 2 ^ 53 = let le = is.base in omega arith in
    field_again 58 number_of (decimal o.amount) rest o.amount after_amount (number_lacks 58 colon o.amount is.amount) (number_again o.amount is.amount)
    ∙ field_again 58 base_of (decimal o.base) (cond_text o.cond) o.base (after_base o.amount) (number_lacks 58 colon o.base small) (base_again o.base is.base)
    ∙ rw (cond_again o.cond is.cond) refl
