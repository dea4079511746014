-- A field before a `:`, and what is read behind it.
use Rattle.std.proofs.Common.{◌≡◌, ℕ, List, ◌∷◌, ◌++◌, Option, Some, refl, ap, ◌∙◌}
use Rattle.dubp_atoms.specs.Letters.{COLON}
use Rattle.dubp_atoms.specs.Reading.{◌>>=◌, Lacks, cut_at}
use Rattle.dubp_atoms.proofs.Numbers.{bind_some, some_is}
use Rattle.dubp_atoms.proofs.Fields.{cut_found, cut_again}
use Rattle.dubp_params.specs.Reading.{field_at}

-- the value of a field, what stands behind it, and that reading goes on there
pub record Step {A V : Type 0} (spell : A → List ℕ) (Is : A → Type 0) (text : List ℕ) (next : A × List ℕ → Option V) (v : V) : Type 0 where
  pub value : A
  pub rest : List ℕ
  pub is : Is value
  pub parts : text ≡ spell value ++ COLON ∷ rest
  pub goes_on : next (value, rest) ≡ Some v

pub step : {A V : Type 0} (read : List ℕ → Option A) (spell : A → List ℕ) (Is : A → Type 0) → ((text : List ℕ) (a : A) → read text ≡ Some a → Is a × (text ≡ spell a))
    → (text : List ℕ) (next : A × List ℕ → Option V) (v : V) → (field_at read text >>= next) ≡ Some v → Step spell Is text next v
step {A} read spell Is found text next v e =
    let b = bind_some (field_at read text) next v e in
    let p = bind_some (cut_at COLON text) (λ p. read p.0 >>= (λ a. Some (a, p.1))) b.0 b.1 in
    let a = bind_some (read p.0.0) (λ a. Some (a, p.0.1)) b.0 p.2 in
    let f = found p.0.0 a.0 a.1 in
    let made : A × List ℕ = (a.0, p.0.1) in
    record { value = a.0; rest = p.0.1; is = f.0; parts = cut_found COLON text p.0 p.1 ∙ ap (λ t. t ++ COLON ∷ p.0.1) f.1; goes_on = ap next (some_is made b.0 a.2) ∙ b.2 }

pub field_again : {A : Type 0} (read : List ℕ → Option A) (front rest : List ℕ) (a : A) → Lacks COLON front → read front ≡ Some a → field_at read (front ++ COLON ∷ rest) ≡ Some (a, rest)
field_again read front rest a lacks e = rw (cut_again COLON front rest lacks, e) refl

-- behind a field stands what stands there
pub behind : (text x rest rest' : List ℕ) → text ≡ x ++ COLON ∷ rest → rest ≡ rest' → text ≡ x ++ COLON ∷ rest'
behind text x rest rest' e f = e ∙ ap (λ r. x ++ COLON ∷ r) f
