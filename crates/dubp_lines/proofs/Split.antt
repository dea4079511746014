-- A text in lines.
use Rattle.std.proofs.Common.{◌≡◌, ℕ, zero, suc, ◌+◌, Bool, true, false, cond, eqb, List, [], ◌∷◌, ◌++◌, length, Option, Some, None, refl, sym, ap, ◌∙◌, append_assoc, arith}
use Rattle.std.specs.Prelude.{count_by}
use Rattle.std.specs.List.{AllByRecursion}
use Rattle.std.proofs.lemmas.Bool.{ne_eqb, eqb-true}
use Rattle.std.proofs.lemmas.List.{append-nil, nil_from_length}
use Rattle.std.proofs.lemmas.List.Recursion.{is_count_by}
use Rattle.std.proofs.lemmas.List.Concat.{flat_map-cons}
use Rattle.std.specs.Option.{IfSome, IfNone}
use Rattle.dubp_atoms.specs.Reading.{Lacks}
use Rattle.dubp_lines.specs.Lines.{Place, lines_from, split, unlines}

-- a line and its LF, and what follows
abbrev pub before : List ℕ → Place → Place
before line p = (line ∷ p.0, p.1)

from_line : (line x rest : List ℕ) → Lacks 10 x → lines_from line (x ++ 10 ∷ rest) ≡ before (line ++ x) (lines_from [] rest)
from_line line [] rest clear = ap (λ l. before l (lines_from [] rest)) (sym (append-nil line))
from_line line (c ∷ cs) rest clear =
    rw (ne_eqb c 10 (clear zero)) (from_line (line ++ c ∷ []) cs rest (λ k. clear (suc k)) ∙ ap (λ l. before l (lines_from [] rest)) (append_assoc line (c ∷ []) cs))

from_tail : (line x : List ℕ) → Lacks 10 x → lines_from line x ≡ ([], line ++ x)
from_tail line [] clear = ap (λ (l : List ℕ). ([], l)) (sym (append-nil line))
from_tail line (c ∷ cs) clear =
    rw (ne_eqb c 10 (clear zero)) (from_tail (line ++ c ∷ []) cs (λ k. clear (suc k)) ∙ ap (λ (l : List ℕ). ([], l)) (append_assoc line (c ∷ []) cs))

pub split_line : (text x rest : List ℕ) → Lacks 10 x → text ≡ x ++ 10 ∷ rest → split text ≡ before x (split rest)
unfolding split
split_line text x rest clear e = ap (lines_from []) e ∙ from_line [] x rest clear

pub split_tail : (text : List ℕ) → Lacks 10 text → split text ≡ ([], text)
unfolding split
split_tail text clear = from_tail [] text clear

count_step : (b : Bool) (line cs : List ℕ) (c n : ℕ) → n ≡ length (lines_from [] cs).0 → n ≡ length (lines_from (line ++ c ∷ []) cs).0
    → cond b (suc n) n ≡ length (cond b (before line (lines_from [] cs)) (lines_from (line ++ c ∷ []) cs)).0
count_step true line cs c n p q = ap suc p
count_step false line cs c n p q = q

-- how many LF there are
ends : List ℕ → ℕ
ends [] = 0
ends (c ∷ cs) = cond (eqb c 10) (suc (ends cs)) (ends cs)

count_from : (line text : List ℕ) → ends text ≡ length (lines_from line text).0
unfolding ends
count_from line [] = refl
count_from line (c ∷ cs) = count_step (eqb c 10) line cs c (ends cs) (count_from [] cs) (count_from (line ++ c ∷ []) cs)

unlines_step : (b : Bool) (line cs : List ℕ) (c : ℕ) → (b ≡ true → c ≡ 10) → unlines (lines_from [] cs).0 ++ (lines_from [] cs).1 ≡ cs → unlines (lines_from (line ++ c ∷ []) cs).0 ++ (lines_from (line ++ c ∷ []) cs).1 ≡ (line ++ c ∷ []) ++ cs
    → unlines (cond b (before line (lines_from [] cs)) (lines_from (line ++ c ∷ []) cs)).0 ++ (cond b (before line (lines_from [] cs)) (lines_from (line ++ c ∷ []) cs)).1 ≡ line ++ c ∷ cs
unlines_step true line cs c is p q = rw (flat_map-cons, append_assoc, append_assoc, p, is refl) refl
unlines_step false line cs c is p q = q ∙ append_assoc line (c ∷ []) cs

unlines_from : (line text : List ℕ) → unlines (lines_from line text).0 ++ (lines_from line text).1 ≡ line ++ text
unlines_from line [] = sym (append-nil line)
unlines_from line (c ∷ cs) = unlines_step (eqb c 10) line cs c (eqb-true c 10) (unlines_from [] cs) (unlines_from (line ++ c ∷ []) cs)

-- the lines and the tail make the text
pub text_is : (text : List ℕ) → text ≡ unlines (split text).0 ++ (split text).1
unfolding split
text_is text = sym (unlines_from [] text)

pub count_is : (text : List ℕ) → count_by (λ c. eqb c 10) text ≡ length (split text).0
unfolding split ends
count_is text = sym (is_count_by ends (λ c. eqb c 10) refl (λ x xs. ap (λ n. cond (eqb x 10) n (ends xs)) (omega arith)) text) ∙ count_from [] text

done_step : (text : List ℕ) (c : ℕ) (cs : List ℕ) (p : Place) → c ∷ cs ≡ unlines p.0 ++ p.1 → length p.0 + length p.1 ≡ 0 → ⊥
done_step text c cs p e z =
    let a : p.0 ≡ [] = nil_from_length p.0 (omega arith) in
    let b : p.1 ≡ [] = nil_from_length p.1 (omega arith) in
    let f : c ∷ cs ≡ [] = e ∙ ap (λ (x : List (List ℕ)). unlines x ++ p.1) a ∙ b in
    cc

-- nothing is left exactly where no byte is
pub done_is : (text : List ℕ) → eqb (length text) 0 ≡ eqb (length (split text).0 + length (split text).1) 0
unfolding split
done_is [] = refl
done_is (c ∷ cs) = ne_eqb (length (c ∷ cs)) 0 (λ z. omega arith) ∙ sym (ne_eqb _ 0 (done_step (c ∷ cs) c cs (split (c ∷ cs)) (text_is (c ∷ cs))))

-- lines without LF, and clear tail
pub split_unlines : (ls : List (List ℕ)) → AllByRecursion (Lacks 10) ls → split (unlines ls) ≡ (ls, [])
split_unlines [] clear = split_tail [] (λ k. λ z. omega arith)
split_unlines (l ∷ ls) clear = split_line (unlines (l ∷ ls)) l (unlines ls) clear.0 (flat_map-cons (λ l. l ++ 10 ∷ []) l ls ∙ append_assoc l (10 ∷ []) (unlines ls)) ∙ ap (before l) (split_unlines ls clear.1)

module _ {B : Type 0} (text : List ℕ) where
  pub is_split : (o : Option (B × B)) (now : B → List ℕ) → IfSome o (λ p. Lacks 10 (now p.0) × (text ≡ now p.0 ++ 10 ∷ now p.1)) → IfSome o (λ p. split text ≡ (now p.0 ∷ (split (now p.1)).0, (split (now p.1)).1))
  is_split (Some p) now h = split_line text (now p.0) (now p.1) h.0 h.1
  is_split None now h = tt

  pub no_lines : (o : Option (B × B)) → IfNone o (Lacks 10 text) → IfNone o ((split text).0 ≡ [])
  no_lines (Some p) h = tt
  no_lines None h = ap (λ (p : Place). p.0) (split_tail text h)
