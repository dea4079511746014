-- Pieces that are added one after another are added as one.
use Rattle.std.proofs.Common.{ℕ, List, [], ◌++◌, append_assoc, append-nil, subst, sym}
use Rattle.dubp_atoms.specs.Adding.{Adds}

pub adds_then : {S : Type 0} {has : S → List ℕ → Type 0} {a b c : S} {x y : List ℕ} → Adds has a b x → Adds has b c y → Adds has a c (x ++ y)
adds_then {has = has} {c = c} {x = x} {y = y} p q =
    record { goes_on = λ text h. subst (has c) (append_assoc text x y) (q.goes_on (text ++ x) (p.goes_on text h)) }

-- the last of them
pub adds_last : {S : Type 0} {has : S → List ℕ → Type 0} {a b : S} {x : List ℕ} → Adds has a b x → Adds has a b (x ++ [])
adds_last {has = has} {a = a} {b = b} {x = x} p = subst (Adds has a b) (sym (append-nil x)) p

pub adds_none : {S : Type 0} {has : S → List ℕ → Type 0} (a : S) → Adds has a a []
adds_none {has = has} a = record { goes_on = λ text h. subst (has a) (sym (append-nil text)) h }
