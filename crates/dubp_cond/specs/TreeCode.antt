-- A tree as a list of symbols, by which a proof tells two trees apart: each node after its parts.
use Rattle.std.specs.Prelude.{ℕ, zero, suc, ◌≡◌, List, [], ◌∷◌, ◌++◌, refl}
use Rattle.std.proofs.Common.{append_assoc, ◌∙◌, ap, sym}
use Rattle.std.proofs.lemmas.List.{append-nil}
use Rattle.std.specs.Coded.{Coded, code_by, coded_ℕ, coded_list, coded×}
use Rattle.dubp_cond.specs.Tree.{ItemTree, sig, xhx, csv, cltv, group, AllTree, no_items, add_item, CondTree, no_alls, add_all}

abbrev pub Symbol : Type 0
Symbol = ℕ × List ℕ

abbrev mutual
  pub code_item : ItemTree → List Symbol
  code_item (sig k) = (0, k) ∷ []
  code_item (xhx h) = (1, h) ∷ []
  code_item (csv n) = (2, n ∷ []) ∷ []
  code_item (cltv n) = (3, n ∷ []) ∷ []
  code_item (group c) = code_cond c ++ (4, []) ∷ []

  pub code_all : AllTree → List Symbol
  code_all no_items = (5, []) ∷ []
  code_all (add_item t ts) = code_item t ++ (code_all ts ++ (6, []) ∷ [])

  pub code_cond : CondTree → List Symbol
  code_cond no_alls = (7, []) ∷ []
  code_cond (add_all t cs) = code_all t ++ (code_cond cs ++ (8, []) ∷ [])

-- what is made so far
pub data Piece : Type 0 where
  is_item : ItemTree → Piece
  is_all : AllTree → Piece
  is_cond : CondTree → Piece

abbrev pub number_of : List ℕ → ℕ
number_of [] = 0
number_of (n ∷ ns) = n

abbrev pub grouped : List Piece → List Piece
grouped (is_cond c ∷ s) = is_item (group c) ∷ s
grouped s = s

abbrev pub tested : List Piece → List Piece
tested (is_all ts ∷ is_item t ∷ s) = is_all (add_item t ts) ∷ s
tested s = s

abbrev pub chosen : List Piece → List Piece
chosen (is_cond cs ∷ is_all t ∷ s) = is_cond (add_all t cs) ∷ s
chosen s = s

abbrev pub step : ℕ → List ℕ → List Piece → List Piece
step zero t s = is_item (sig t) ∷ s
step (suc zero) t s = is_item (xhx t) ∷ s
step (suc (suc zero)) t s = is_item (csv (number_of t)) ∷ s
step (suc (suc (suc zero))) t s = is_item (cltv (number_of t)) ∷ s
step (suc (suc (suc (suc zero)))) t s = grouped s
step (suc (suc (suc (suc (suc zero))))) t s = is_all no_items ∷ s
step (suc (suc (suc (suc (suc (suc zero)))))) t s = tested s
step (suc (suc (suc (suc (suc (suc (suc zero))))))) t s = is_cond no_alls ∷ s
step (suc (suc (suc (suc (suc (suc (suc (suc n)))))))) t s = chosen s

abbrev pub cond_made : List Piece → CondTree
cond_made (is_cond c ∷ s) = c
cond_made s = no_alls

abbrev pub run : List Symbol → List Piece → List Piece
run [] s = s
run (x ∷ xs) s = run xs (step x.0 x.1 s)

abbrev pub cond_of_code : List Symbol → CondTree
cond_of_code xs = cond_made (run xs [])

mutual
  pub run_item : (t : ItemTree) (rest : List Symbol) (s : List Piece) → run (code_item t ++ rest) s ≡ run rest (is_item t ∷ s)
  run_item (sig k) rest s = refl
  run_item (xhx h) rest s = refl
  run_item (csv n) rest s = refl
  run_item (cltv n) rest s = refl
  run_item (group c) rest s = ap (λ v. run v s) (append_assoc (code_cond c) ((4, []) ∷ []) rest) ∙ run_cond c ((4, []) ∷ rest) s

  pub run_all : (ts : AllTree) (rest : List Symbol) (s : List Piece) → run (code_all ts ++ rest) s ≡ run rest (is_all ts ∷ s)
  run_all no_items rest s = refl
  run_all (add_item t ts) rest s =
      ap (λ v. run v s) (append_assoc (code_item t) (code_all ts ++ (6, []) ∷ []) rest ∙ ap (λ v. code_item t ++ v) (append_assoc (code_all ts) ((6, []) ∷ []) rest))
      ∙ run_item t (code_all ts ++ (6, []) ∷ rest) s ∙ run_all ts ((6, []) ∷ rest) (is_item t ∷ s)

  pub run_cond : (cs : CondTree) (rest : List Symbol) (s : List Piece) → run (code_cond cs ++ rest) s ≡ run rest (is_cond cs ∷ s)
  run_cond no_alls rest s = refl
  run_cond (add_all t cs) rest s =
      ap (λ v. run v s) (append_assoc (code_all t) (code_cond cs ++ (8, []) ∷ []) rest ∙ ap (λ v. code_all t ++ v) (append_assoc (code_cond cs) ((8, []) ∷ []) rest))
      ∙ run_all t (code_cond cs ++ (8, []) ∷ rest) s ∙ run_cond cs ((8, []) ∷ rest) (is_all t ∷ s)

pub back : (c : CondTree) → cond_of_code (code_cond c) ≡ c
back c = ap (λ v. cond_made (run v [])) (sym (append-nil (code_cond c))) ∙ ap cond_made (run_cond c [] [])

abbrev pub cond_code : Coded CondTree
cond_code = code_by (List Symbol) (coded_list (coded× coded_ℕ (coded_list coded_ℕ))) code_cond cond_of_code back
