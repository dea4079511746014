-- What is tried one after another: where some answer comes, one of them gives it.
use Rattle.std.proofs.Common.{◌≡◌, ◌⊎◌, inl, inr, ℕ, Bool, true, false, cond, List, ◌++◌, Option, Some, None, refl}
use Rattle.std.specs.Prelude.{nat_eq, option_map}
use Rattle.std.specs.Option.{option_or}
use Rattle.std.specs.Cmp.Lexicographic.{pointwise}
use Rattle.dubp_atoms.proofs.Numbers.{some_is}
use Rattle.dubp_lines.specs.Taking.{named}
use Rattle.dubp_lines.proofs.Taken.{same_text, named_found}
use Rattle.dubp_script.specs.Reading.{bare}

pub or_some : {A : Type 0} (a b : Option A) (x : A) → option_or a b ≡ Some x → (a ≡ Some x) ⊎ (b ≡ Some x)
or_some (Some y) b x e = inl e
or_some None b x e = inr e

pub map_some : {A B : Type 0} (f : A → B) (o : Option A) (y : B) → option_map f o ≡ Some y → (x : A) × (o ≡ Some x) × (f x ≡ y)
map_some f (Some x) y e = (x, refl, some_is (f x) y e)
map_some f None y e = absurd cc

-- behind a word something is read, and made a value
pub record Behind {A B : Type 0} (word : List ℕ) (read : List ℕ → Option A) (make : A → B) (line : List ℕ) (y : B) : Type 0 where
  pub value : A
  pub rest : List ℕ
  pub line_is : line ≡ word ++ rest
  pub reads : read rest ≡ Some value
  pub is : make value ≡ y

pub behind : {A B : Type 0} (word : List ℕ) (read : List ℕ → Option A) (make : A → B) (line : List ℕ) (y : B) → option_map make (named word read line) ≡ Some y → Behind word read make line y
behind word read make line y e =
    let m = map_some make (named word read line) y e in
    let n = named_found word read line m.0 m.1 in
    record { value = m.0; rest = n.0; line_is = n.1; reads = n.2; is = m.2 }

pub bare_found : {A : Type 0} (word : List ℕ) (value : A) (line : List ℕ) (x : A) → bare word value line ≡ Some x → (line ≡ word) × (value ≡ x)
bare_found word value line x e = by_test (pointwise nat_eq line word) refl e
  where
    by_test : (b : Bool) → pointwise nat_eq line word ≡ b → cond b (Some value) None ≡ Some x → (line ≡ word) × (value ≡ x)
    by_test true is e = (same_text line word is, some_is value x e)
    by_test false is e = absurd cc
