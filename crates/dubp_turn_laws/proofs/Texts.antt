-- Where bytes are the text of no block, one line is refused.
use Rattle.std.proofs.Common.{◌≡◌, ◌<◌, ◌+◌, ℕ, List, ◌++◌, take, drop, sym, ap, subst, ◌∙◌, inl, inr, append_assoc, take-append-drop, take-take, arith}
use Rattle.dubp_block.specs.RefusedLine.{BeginBlock, IsRefusedLine}

begin_before : (n : ℕ) (lines : List (List ℕ)) → BeginBlock lines → BeginBlock (take n lines)
begin_before n lines x = record {
  block = x.block;
  is = x.is;
  more = drop n lines ++ x.more;
  text = x.text ∙ ap (λ l. l ++ x.more) (sym (take-append-drop n lines)) ∙ append_assoc (take n lines) (drop n lines) x.more;
}

-- a line behind the first that is refused is not refused: the lines before it begin no block
none_behind : (bytes : List ℕ) (n m : ℕ) (p : IsRefusedLine bytes n) (q : IsRefusedLine bytes m) → p.taken < q.taken → ⊥
none_behind bytes n m p q less =
    elim p.ends as (λ _. ⊥) [
      | inl all ↦ omega (arith, all, less, q.some)
      | inr stops ↦ stops (subst BeginBlock (take-take n q.taken _ (omega (arith, p.is, less))) (begin_before n _ q.begins))
    ]

neither_less : (n m : ℕ) → (n < m → ⊥) → (m < n → ⊥) → n ≡ m
neither_less n m f g = omega (arith, f, g)

pub one_line : (bytes : List ℕ) (n m : ℕ) → IsRefusedLine bytes n → IsRefusedLine bytes m → n ≡ m
one_line bytes n m p q = p.is ∙ ap (λ k. k + 1) (neither_less p.taken q.taken (none_behind bytes n m p q) (none_behind bytes m n q p)) ∙ sym q.is
