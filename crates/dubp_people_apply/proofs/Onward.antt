-- The rows of identities behind some of the lines of a block, and behind all of them.
use Rattle.std.proofs.Common.{◌≡◌, ℕ, zero, suc, ◌+◌, ◌<◌, ◌≤◌, List, [], ◌∷◌, length, take, fold, refl, sym, ap, subst, ◌∙◌, arith}
use Rattle.std.specs.Prelude.{get_or}
use Rattle.std.proofs.lemmas.List.Sums.{fold_more}
use Rattle.dubp_moving.specs.States.{states}
use Rattle.dubp_chain.specs.Chains.{Chain}
use Rattle.dubp_left.specs.Left.{identities_left}
use Rattle.dubp_block.specs.declared.block.IdentityLine.{IdentityLine}
use Rattle.dubp_iindex.specs.declared.index.IIndex.{IIndex}
use Rattle.dubp_iindex.specs.contracts.index.IIndexTablesIdentityRows.TheImpl as tables
use Rattle.dubp_iindex.specs.Rows.{Rows}
use Rattle.dubp_people_apply.specs.Writing.{created, IsNewLine, AreNewLines}

-- the line at hand is new behind the lines before it
pub new_at : (number : ℕ) (lines : List IdentityLine) (rows : Rows) (i : ℕ) (line : IdentityLine) → AreNewLines number rows lines → i < length lines → line ≡ get_or lines i line → IsNewLine (fold (created number) rows (take i lines)) line
new_at number [] rows i line new below at = absurd (omega (arith, below))
new_at number (x ∷ xs) rows zero line new below at = subst (IsNewLine rows) (sym at) new.0
new_at number (x ∷ xs) rows (suc i) line new below at = new_at number xs (created number rows x) i line new.1 (omega (arith, below)) at

module _ {X R : Type 0} (f : R → X → R) where
  pub fold_next : (xs : List X) (rows : R) (i : ℕ) (x : X) → i < length xs → x ≡ get_or xs i x → fold f rows (take (i + 1) xs) ≡ f (fold f rows (take i xs)) x
  fold_next xs rows i x below at = fold_more f rows xs i x below ∙ ap (f (fold f rows (take i xs))) (sym at)

  pub fold_whole : (xs : List X) (rows : R) (i : ℕ) → length xs ≤ i → fold f rows (take i xs) ≡ fold f rows xs
  fold_whole [] rows zero h = refl
  fold_whole [] rows (suc i) h = refl
  fold_whole (y ∷ ys) rows zero h = absurd (omega (arith, h))
  fold_whole (y ∷ ys) rows (suc i) h = fold_whole ys (f rows y) i (omega (arith, h))

-- the index of a chain is that of its newest rows, whatever stands behind them
pub restated : (index : IIndex) (c : Chain) (t : List Rows) → (tables.ghosts).at index (states identities_left c) → (tables.ghosts).at index (identities_left c ∷ t)
restated index [] t at = at
restated index (b ∷ c) t at = at
