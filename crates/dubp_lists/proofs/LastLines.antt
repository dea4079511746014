-- A chain has a last line that passes where it has one at all. Its time never falls.
use Rattle.std.proofs.Common.{◌≡◌, ◌≤◌, Bool, true, false, cond, ◌||◌, List, [], ◌∷◌, ◌++◌, Option, Some, None, option_map, is_some, refl, ap, sym, ◌∙◌, arith}
use Rattle.std.specs.Option.{option_or}
use Rattle.std.specs.List.{list_any, flat_map}
use Rattle.std.proofs.lemmas.List.Folds.{list_any-append}
use Rattle.dubp_chain.specs.OfBlock.{Block}
use Rattle.dubp_chain.specs.Words.{last_of}
use Rattle.dubp_chain.specs.Chains.{Chain}
use Rattle.dubp_chain.specs.Heads.{time_of}
use Rattle.dubp_chain.specs.People.{written_in, last_line}

some_or : {X : Type 0} (o p : Option X) → is_some (option_or o p) ≡ (is_some o || is_some p)
some_or None p = refl
some_or (Some x) p = refl

some_map : {X Y : Type 0} (f : X → Y) (o : Option X) → is_some (option_map f o) ≡ is_some o
some_map f None = refl
some_map f (Some x) = refl

pub last_any : {X : Type 0} (p : X → Bool) (xs : List X) → is_some (last_of p xs) ≡ list_any p xs
last_any p [] = refl
last_any p (x ∷ xs) =
    some_or (last_of p xs) (cond (p x) (Some x) None)
    ∙ (λ i. last_any p xs i || one (p x) i)
    ∙ either (list_any p xs) (p x)
  where
    one : (b : Bool) → is_some (cond b (Some x) None) ≡ b
    one true = refl
    one false = refl

    either : (a b : Bool) → (a || b) ≡ (b || a)
    either true true = refl
    either true false = refl
    either false true = refl
    either false false = refl

pub last_line-any : {Line : Type 0} (lines : Block → List Line) (test : Line → Bool) (c : Chain)
    → is_some (last_line lines test c) ≡ list_any test (flat_map lines c)
last_line-any lines test [] = refl
last_line-any lines test (b ∷ c) =
    some_or (option_map (written_in b c) (last_of test (lines b))) (last_line lines test c)
    ∙ (λ i. some_map (written_in b c) (last_of test (lines b)) i || last_line-any lines test c i)
    ∙ ap (λ x. x || list_any test (flat_map lines c)) (last_any test (lines b))
    ∙ sym (list_any-append test (lines b) (flat_map lines c))

-- of two lists the second has the last
pub last_of-append : {X : Type 0} (p : X → Bool) (xs ys : List X) → last_of p (xs ++ ys) ≡ option_or (last_of p ys) (last_of p xs)
last_of-append p [] ys = sym (or_none (last_of p ys))
  where
    or_none : {X : Type 0} (o : Option X) → option_or o None ≡ o
    or_none None = refl
    or_none (Some x) = refl
last_of-append p (x ∷ xs) ys =
    ap (λ o. option_or o (cond (p x) (Some x) None)) (last_of-append p xs ys)
    ∙ or_assoc (last_of p ys) (last_of p xs) (cond (p x) (Some x) None)
  where
    or_assoc : {X : Type 0} (o p q : Option X) → option_or (option_or o p) q ≡ option_or o (option_or p q)
    or_assoc None p q = refl
    or_assoc (Some x) p q = refl

-- the time never falls
pub time_of-rises : (b : Block) (c : Chain) → time_of c ≤ time_of (b ∷ c)
time_of-rises b [] = omega arith
time_of-rises b (a ∷ c) = omega arith
