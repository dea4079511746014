-- The laws of a whole text: what is read is a block's text, a block's text is read, and the refused line is the first with which the
-- lines begin no block any more.
use Rattle.std.proofs.Common.{◌≡◌, ◌⊎◌, inl, inr, ℕ, suc, ◌+◌, ◌-◌, Bool, true, false, cond, eqb, List, [], ◌∷◌, ◌++◌, length, length-append, take, Result, Ok, Err, refl, sym, ap, subst, ◌∙◌, append_assoc, append-nil, arith}
use Rattle.std.proofs.lemmas.Bool.{eqb-true}
use Rattle.std.proofs.lemmas.List.{take_at}
use Rattle.dubp_lines.specs.Lines.{Place, split}
use Rattle.dubp_lines.specs.Taking.{line_number}
use Rattle.dubp_lines.proofs.Split.{split_unlines}
use Rattle.dubp_lines.proofs.Taken.{nothing_left, text_of_lines}
use Rattle.dubp_lines.proofs.Readers.{Rows, Reading, Refusal, left_in}
use Rattle.dubp_block.specs.Text.{IsBlock, block_lines, block_text}
use Rattle.dubp_block.specs.RefusedLine.{BeginBlock, IsRefusedLine}
use Rattle.dubp_block.specs.Reading.{block_at, block_of, if_last}
use Rattle.dubp_block.specs.declared.block.Block.{Block}
use Rattle.dubp_block.proofs.BlockReads.{block_reads}

abbrev done : Block → Place → Result (Block × Place) ℕ
done b p = Ok (b, p)

done_is : (b c : Block) (p q : Place) → done b p ≡ done c q → (b ≡ c) × (p ≡ q)
done_is b c p q e = (ap block_in e, ap place_in e)
  where
    block_in : Result (Block × Place) ℕ → Block
    block_in (Ok y) = y.0
    block_in (Err n) = b

    place_in : Result (Block × Place) ℕ → Place
    place_in (Ok y) = y.1
    place_in (Err n) = p

-- ---- a block's text is read

pub text_again : (b : Block) → IsBlock b → block_of (split (block_text b)) ≡ Ok b
unfolding block_of block_text
text_again b is =
    ap (λ (p : Place). if_last (block_at p)) (split_unlines (block_lines b) (block_reads.clear b is) ∙ ap (λ (ls : Rows). (ls, [])) (sym (append-nil (block_lines b))))
    ∙ ap if_last (block_reads.again b [] [] is tt)

-- ---- what is read is a block's text

record Read (p : Place) (b : Block) : Type 0 where
  is : IsBlock b
  lines : p.0 ≡ block_lines b
  tail : p.1 ≡ []

abbrev chosen : Bool → Block → ℕ → Result Block ℕ
chosen t b n = cond t (Ok b) (Err n)

chosen_ok : (t : Bool) (c b : Block) (n : ℕ) → chosen t c n ≡ Ok b → (t ≡ true) × (c ≡ b)
chosen_ok true c b n e = (refl, cc)
chosen_ok false c b n e = absurd cc

read_by : (p : Place) (o : Result (Block × Place) ℕ) (b : Block) → block_at p ≡ o → if_last o ≡ Ok b → Read p b
read_by p (Ok y) b e h =
    let c = chosen_ok (eqb (length y.1.0 + length y.1.1) 0) y.0 b (length y.1.0) h in
    let n = nothing_left y.1 (eqb-true _ _ c.0) in
    let f = block_reads.found p y.0 y.1 e in
    subst (λ (x : Block). Read p x) c.1 (record { is = f.good; lines = f.lines ∙ ap (λ ls. block_lines y.0 ++ ls) n.0 ∙ append-nil (block_lines y.0); tail = f.tail ∙ n.1 })
read_by p (Err n) b e h = absurd cc

pub text_found : (text : List ℕ) (b : Block) → block_of (split text) ≡ Ok b → IsBlock b × (text ≡ block_text b)
unfolding block_of block_text
text_found text b e =
    let r = read_by (split text) (block_at (split text)) b refl e in
    (r.is, text_of_lines text (block_lines b) r.lines r.tail)

-- ---- the refused line

-- the lines that were taken, and the next one
taken_lines : (taken rest : Rows) → take (length taken) (taken ++ rest) ≡ taken
taken_lines taken rest = take_at taken rest (length taken) refl

next_lines : (taken : Rows) (l : List ℕ) (ks : Rows) → take (length taken + 1) (taken ++ l ∷ ks) ≡ taken ++ l ∷ []
next_lines taken l ks =
    ap (λ (ls : Rows). take (length taken + 1) ls) (sym (append_assoc taken (l ∷ []) ks))
    ∙ take_at (taken ++ l ∷ []) ks (length taken + 1) (length-append taken (l ∷ []) ∙ omega arith)

-- What is known where a reading ends at these lines.
record Ended (ls : Rows) (n : ℕ) : Type 0 where
  taken : Rows
  rest : Rows
  lines : ls ≡ taken ++ rest
  left : n ≡ length rest
  begins : BeginBlock taken
  stops : (l : List ℕ) (ks : Rows) → rest ≡ l ∷ ks → BeginBlock (taken ++ l ∷ []) → ⊥

-- the lines of a block that begin so are read to their end
begun : (taken : Rows) (l : List ℕ) (x : BeginBlock (taken ++ l ∷ [])) → block_at (taken ++ l ∷ x.more, []) ≡ done x.block ([], [])
begun taken l x =
    ap (λ (ls : Rows). block_at (ls, [])) (sym (append_assoc taken (l ∷ []) x.more) ∙ sym x.text ∙ sym (append-nil (block_lines x.block)))
    ∙ block_reads.again x.block [] [] x.is tt

ended_at_refusal : (ls : Rows) (n : ℕ) → Refusal block_at block_lines IsBlock ls n → Ended ls n
ended_at_refusal ls n y = record {
  taken = y.taken;
  rest = y.rest;
  lines = y.lines;
  left = y.left;
  begins = record { block = y.value; is = y.good; more = y.more; text = y.begins };
  stops = λ l ks at x. not_both (block_at (y.taken ++ l ∷ x.more, [])) x.block (suc (length x.more)) (begun y.taken l x) (y.local l ks x.more [] at);
}
  where
    not_both : (r : Result (Block × Place) ℕ) (b : Block) (m : ℕ) → r ≡ done b ([], []) → r ≡ Err m → ⊥
    not_both r b m e f = cc

ended_behind : (ls : Rows) (t : List ℕ) (b : Block) (q : Place) → Reading block_at block_lines IsBlock (ls, t) b q → Ended ls (length q.0)
ended_behind ls t b q f = record {
  taken = block_lines b;
  rest = q.0;
  lines = f.lines;
  left = refl;
  begins = record { block = b; is = f.good; more = []; text = sym (append-nil (block_lines b)) };
  stops = λ l ks at x. nothing l x.more (ap (λ (p : Place). p.0) (done_is x.block b ([], []) (l ∷ x.more, []) (sym (begun (block_lines b) l x) ∙ f.local [] l ks x.more [] at)).1);
}
  where
    nothing : (l : List ℕ) (ks : Rows) → [] ≡ l ∷ ks → ⊥
    nothing l ks e = cc

chosen_err : (t : Bool) (c : Block) (m n : ℕ) → chosen t c m ≡ Err n → n ≡ m
chosen_err true c m n e = absurd cc
chosen_err false c m n e = sym (ap left_in e)

ended_by : (p : Place) (o : Result (Block × Place) ℕ) (n : ℕ) → block_at p ≡ o → if_last o ≡ Err n → Ended p.0 n
ended_by p (Ok y) n e h =
    let m = chosen_err (eqb (length y.1.0 + length y.1.1) 0) y.0 (length y.1.0) n h in
    subst (Ended p.0) (sym m) (ended_behind p.0 p.1 y.0 y.1 (block_reads.found p y.0 y.1 e))
ended_by p (Err m) n e h = subst (Ended p.0) (ap left_in h) (ended_at_refusal p.0 m (block_reads.refused p m e))

refused_by : (text : List ℕ) (ls : Rows) (n : ℕ) → (split text).0 ≡ ls → Ended ls n → IsRefusedLine text (length ls - n + 1)
refused_by text ls n same y =
    let count : length ls ≡ length y.taken + length y.rest = ap length y.lines ∙ length-append y.taken y.rest in
    let number : length ls - n ≡ length y.taken = omega (arith, y.left) in
    rw (number) (record {
      taken = length y.taken;
      is = refl;
      some = omega (arith, ap length same);
      begins = subst BeginBlock (sym (ap (λ (x : Rows). take (length y.taken) x) (same ∙ y.lines) ∙ taken_lines y.taken y.rest)) y.begins;
      ends = ends_by y.rest refl count;
    })
  where
    ends_by : (rest : Rows) → y.rest ≡ rest → length ls ≡ length y.taken + length y.rest → (length y.taken ≡ length (split text).0) ⊎ (BeginBlock (take (length y.taken + 1) (split text).0) → ⊥)
    ends_by [] e count = inl (omega (arith, ap length e, ap length same))
    ends_by (l ∷ ks) e count = inr (λ x. y.stops l ks e (subst BeginBlock (ap (λ (z : Rows). take (length y.taken + 1) z) (same ∙ y.lines ∙ ap (λ z. y.taken ++ z) e) ∙ next_lines y.taken l ks) x))

pub text_refused : (text : List ℕ) (n : ℕ) → block_of (split text) ≡ Err n → IsRefusedLine text (line_number text n)
unfolding block_of
text_refused text n e = refused_by text (split text).0 n refl (ended_by (split text) (block_at (split text)) n refl e)

pub same_read : (b c : Block) (r : Result Block ℕ) → r ≡ Ok b → r ≡ Ok c → b ≡ c
same_read b c r p q = cc

pub no_error : (b : Block) (n : ℕ) (r : Result Block ℕ) → r ≡ Ok b → r ≡ Err n → ⊥
no_error b n r p q = cc
