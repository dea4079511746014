-- The line that is not taken at its place is the first with which the lines begin no block any more.
use Rattle.std.proofs.Common.{◌≡◌, inl, inr, ℕ, zero, suc, ◌+◌, ◌≤◌, ◌<◌, ◌==◌, Bool, true, false, cond, List, [], ◌∷◌, ◌++◌, length, take, drop, Result, Ok, Err, refl, sym, ap, subst, ◌∙◌, append_assoc, append-nil, arith}
use Rattle.std.proofs.lemmas.Bool.{eqb-true}
use Rattle.std.proofs.lemmas.Bool.Decides.{nat_tests}
use Rattle.std.specs.Prelude.{nat_lt}
use Rattle.dubp_lines.specs.Lines.{Place, split}
use Rattle.dubp_lines.specs.Taking.{line_number}
use Rattle.dubp_lines.proofs.Readers.{Rows}
use Rattle.dubp_block.specs.declared.block.Block.{Block}
use Rattle.dubp_block.specs.Text.{block_lines}
use Rattle.dubp_block.specs.RefusedLine.{BeginBlock, IsRefusedLine}
use Rattle.dubp_block.specs.Reading.{block_at, block_of, if_last}
use Rattle.dubp_block.proofs.BlockReads.{block_reads}
use Rattle.dubp_block.proofs.Whole.{text_refused}
use Rattle.dubp_places.specs.Places.{PlacesNameTheLine, line_by_places, taken}
use Rattle.dubp_places.specs.Places.Spot.{AtVersion, AtEnd}
use Rattle.dubp_places.proofs.Following.{Goes}
use Rattle.dubp_places.proofs.Table.{block_follows}

-- ---- there is one such line

take_drop : (n : ℕ) (xs : Rows) → take n xs ++ drop n xs ≡ xs
take_drop zero xs = refl
take_drop (suc n) [] = refl
take_drop (suc n) (x ∷ xs) = ap (λ r. x ∷ r) (take_drop n xs)

take_take : (n m : ℕ) (xs : Rows) → n ≤ m → take n (take m xs) ≡ take n xs
take_take zero m xs le = refl
take_take (suc n) zero xs le = absurd (omega arith)
take_take (suc n) (suc m) [] le = refl
take_take (suc n) (suc m) (x ∷ xs) le = ap (λ r. x ∷ r) (take_take n m xs (omega arith))

-- fewer lines begin the same block
begin_fewer : (n m : ℕ) (xs : Rows) → n ≤ m → BeginBlock (take m xs) → BeginBlock (take n xs)
begin_fewer n m xs le b =
    subst BeginBlock (take_take n m xs le) (record {
      block = b.block;
      is = b.is;
      more = drop n (take m xs) ++ b.more;
      text = b.text ∙ ap (λ r. r ++ b.more) (sym (take_drop n (take m xs))) ∙ append_assoc (take n (take m xs)) (drop n (take m xs)) b.more;
    })

no_less : (bytes : List ℕ) (a b : ℕ) → IsRefusedLine bytes a → IsRefusedLine bytes b → a < b → ⊥
no_less bytes a b x y less = elim x.ends [
  | inl all ↦ (let n = x.is in let m = y.is in let s = y.some in omega (arith, all, n, m, s, less))
  | inr none ↦ none (begin_fewer a y.taken (split bytes).0 (let m = y.is in omega (arith, m, less)) y.begins)
]

one_line : (bytes : List ℕ) (a b : ℕ) → IsRefusedLine bytes a → IsRefusedLine bytes b → a ≡ b
one_line bytes a b x y =
    let p = no_less bytes a b x y in
    let q = no_less bytes b a y x in
    by_order (nat_lt a b) (nat_lt b a) refl refl p q
  where
    by_order : (s t : Bool) → nat_lt a b ≡ s → nat_lt b a ≡ t → (a < b → ⊥) → (b < a → ⊥) → a ≡ b
    by_order true t e f p q = absurd (p (grind (arith, nat_tests)))
    by_order false true e f p q = absurd (q (grind (arith, nat_tests)))
    by_order false false e f p q = grind (arith, nat_tests)

-- ---- it is the line by places

abbrev done : Block → Place → Result (Block × Place) ℕ
done b p = Ok (b, p)

-- where the block is read whole, each line is taken
whole_line : (bytes : List ℕ) (b : Block) (q : Place) → block_at (split bytes) ≡ done b q → length q.0 ≡ 0 → IsRefusedLine bytes (length (split bytes).0 + 1)
whole_line bytes b q e none =
    let f = block_reads.found (split bytes) b q e in
    let lines : (split bytes).0 ≡ block_lines b = f.lines ∙ ap (λ r. block_lines b ++ r) (no_lines q.0 none) ∙ append-nil (block_lines b) in
    record {
      taken = length (split bytes).0;
      is = refl;
      some = omega arith;
      begins = record { block = b; is = f.good; more = []; text = sym lines ∙ sym (take_all (split bytes).0) ∙ sym (append-nil (take (length (split bytes).0) (split bytes).0)) };
      ends = inl refl;
    }
  where
    no_lines : (r : Rows) → length r ≡ 0 → r ≡ []
    no_lines [] e = refl
    no_lines (l ∷ r) e = absurd (omega arith)

    take_all : (r : Rows) → take (length r) r ≡ r
    take_all [] = refl
    take_all (l ∷ r) = ap (λ x. l ∷ x) (take_all r)

-- behind the end no line is taken
taken_none : (ls : Rows) → taken AtEnd ls ≡ 0
taken_none [] = refl
taken_none (l ∷ ls) = refl

refused_line : (bytes : List ℕ) (m : ℕ) → block_of (split bytes) ≡ Err m → taken AtVersion (split bytes).0 + m ≡ length (split bytes).0 → IsRefusedLine bytes (line_by_places bytes)
refused_line bytes m e g =
    let number : line_number bytes m ≡ line_by_places bytes = omega (arith, g) in
    subst (IsRefusedLine bytes) number (text_refused bytes m e)

by_places : (bytes : List ℕ) (o : Result (Block × Place) ℕ) → block_at (split bytes) ≡ o → Goes o (split bytes).0 AtVersion (λ b. AtEnd) → IsRefusedLine bytes (line_by_places bytes)
unfolding block_of
by_places bytes (Err m) e g = refused_line bytes m (ap if_last e) g
by_places bytes (Ok y) e g = by_left (length y.1.0 == 0) (length y.1.0 + length y.1.1 == 0) refl refl
  where
    none : taken AtEnd y.1.0 ≡ 0
    none = taken_none y.1.0

    by_left : (s t : Bool) → (length y.1.0 == 0) ≡ s → (length y.1.0 + length y.1.1 == 0) ≡ t → IsRefusedLine bytes (line_by_places bytes)
    by_left true t es et =
        let empty = eqb-true (length y.1.0) 0 es in
        let all : length (split bytes).0 + 1 ≡ line_by_places bytes = omega (arith, g, none, empty) in
        subst (IsRefusedLine bytes) all (whole_line bytes y.0 y.1 e empty)
    by_left false true es et = absurd (grind (arith, eqb-true (length y.1.0 + length y.1.1) 0 et, es))
    by_left false false es et =
        refused_line bytes (length y.1.0) (ap if_last e ∙ ap (λ b. cond b (Ok y.0) (Err (length y.1.0))) et) (omega (arith, g, none))

pub names_the_line : PlacesNameTheLine
names_the_line bytes line =
    let is = by_places bytes (block_at (split bytes)) refl (block_follows (split bytes)) in
    (λ x. one_line bytes line (line_by_places bytes) x is, λ e. subst (IsRefusedLine bytes) (sym e) is)
