-- What the trials share: a test that fails, texts that differ, a list of one, a text that is itself.
use Rattle.std.specs.Prelude.{◌≡◌, ℕ, List, [], ◌∷◌, Some, None, true, false}
use Rattle.std.specs.List.{Contains}
use Rattle.std.proofs.Common.{refl, sym, subst, zero, suc, arith}
use Rattle.std.proofs.lemmas.Cmp.{nat_list_eq_equiv}
use Rattle.dubp_atoms.specs.Same.{Text, same_text}

-- a test that fails
pub fails : ¬ (false ≡ true)
fails e = cc

pub none_is_some : {X : Type 0} (x : X) → ¬ (None ≡ Some x)
none_is_some x e = cc

-- a text is itself, whatever it is
pub is_itself : (x : Text) → same_text x x ≡ true
is_itself x = nat_list_eq_equiv.refl x

-- texts that the test tells apart differ
pub texts_differ : (x y : Text) → same_text x y ≡ false → ¬ (x ≡ y)
texts_differ x y apart same =
    let itself : same_text x x ≡ true = is_itself x in
    let other : same_text x x ≡ false = subst (λ z. same_text x z ≡ false) (sym same) apart in
    cc

-- a list of one has nothing else, and the empty list has nothing
pub only_one : {X : Type 0} (t u : X) → Contains (t ∷ []) u → t ≡ u
only_one t u (zero, below, is) = is
only_one t u (suc k, below, is) = absurd (omega (arith, below))

pub nothing_there : {X : Type 0} (u : X) → ¬ Contains [] u
nothing_there u (k, below, is) = omega (arith, below)

-- the first of a list is in it
pub first_there : {X : Type 0} (t : X) (more : List X) → Contains (t ∷ more) t
first_there t more = (0, omega arith, refl)

-- how many of the same
abbrev pub many : {X : Type 0} → ℕ → X → List X
many zero x = []
many (suc n) x = x ∷ many n x
