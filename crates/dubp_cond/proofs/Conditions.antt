-- What is read as a condition is its text, and the text of a condition in range is read as it.
use Rattle.std.proofs.Common.{◌≡◌, ℕ, zero, suc, ◌≤◌, List, [], ◌∷◌, ◌++◌, length, map, Some, None, nat_le, true, refl, sym, ap, ◌∙◌, arith}
use Rattle.std.proofs.lemmas.Bool.Decides.{nat_tests}
use Rattle.std.proofs.lemmas.List.{append-nil}
use Rattle.std.specs.List.{AllByRecursion}
use Rattle.dubp_atoms.specs.Reading.{◌>>=◌}
use Rattle.dubp_atoms.proofs.Numbers.{bind_some, by_test}
use Rattle.dubp_cond.specs.Tree.{ItemTree, AllTree, no_items, add_item, CondTree, no_alls, add_all, depth_of_all, depth}
use Rattle.dubp_cond.specs.Joined.{joined}
use Rattle.dubp_cond.specs.Conditions.{and_word, or_word, item_text, item_texts, all_texts, all_text, cond_text, FitsAll, FitItems, FitsCond, FitAlls, IsCond}
use Rattle.dubp_cond.specs.Lists.{all_of, cond_of}
use Rattle.dubp_cond.specs.Separated.{Read, after, read_map, if_last, separated}
use Rattle.dubp_cond.specs.Finding.{Finds, Again, OneOrMore}
use Rattle.dubp_cond.specs.Reading.{all_with, cond_with, item_at, cond_at, cond_of_text}
use Rattle.dubp_cond.proofs.Readers.{mapped_finds, last_found}
use Rattle.dubp_cond.proofs.Separated.{list_text, separated_finds, separated_again}
use Rattle.dubp_cond.proofs.Items.{GoodItem, item_with_finds, item_with_again}

abbrev pub GoodAll : ℕ → AllTree → Type 0
GoodAll d a = FitsAll a × (depth_of_all a ≤ d)

abbrev pub GoodCond : ℕ → CondTree → Type 0
GoodCond d c = FitsCond c × (depth c ≤ d)

-- ---- a tree and its lists

abbrev items_of : AllTree → List ItemTree
items_of no_items = []
items_of (add_item i more) = i ∷ items_of more

abbrev alls_of : CondTree → List AllTree
alls_of no_alls = []
alls_of (add_all a more) = a ∷ alls_of more

all_of-items_of : (a : AllTree) → all_of (items_of a) ≡ a
all_of-items_of no_items = refl
all_of-items_of (add_item i more) = ap (add_item i) (all_of-items_of more)

cond_of-alls_of : (c : CondTree) → cond_of (alls_of c) ≡ c
cond_of-alls_of no_alls = refl
cond_of-alls_of (add_all a more) = ap (add_all a) (cond_of-alls_of more)

item_texts-all_of : (xs : List ItemTree) → item_texts (all_of xs) ≡ map item_text xs
item_texts-all_of [] = refl
item_texts-all_of (x ∷ xs) = ap (λ v. item_text x ∷ v) (item_texts-all_of xs)

all_texts-cond_of : (xs : List AllTree) → all_texts (cond_of xs) ≡ map all_text xs
all_texts-cond_of [] = refl
all_texts-cond_of (x ∷ xs) = ap (λ v. all_text x ∷ v) (all_texts-cond_of xs)

module _ (d : ℕ) where
  more_items : (xs : List ItemTree) → AllByRecursion (GoodItem d) xs → FitItems (all_of xs) × (depth_of_all (all_of xs) ≤ d)
  more_items [] h = (tt, omega arith)
  more_items (x ∷ xs) h = let m = more_items xs h.1 in ((h.0.0, m.0), omega arith)

  good_items : (xs : List ItemTree) → OneOrMore (GoodItem d) xs → GoodAll d (all_of xs)
  good_items [] h = absurd h
  good_items (x ∷ xs) h = let m = more_items xs h.1 in ((h.0.0, m.0), omega arith)

  more_alls : (xs : List AllTree) → AllByRecursion (GoodAll d) xs → FitAlls (cond_of xs) × (depth (cond_of xs) ≤ d)
  more_alls [] h = (tt, omega arith)
  more_alls (x ∷ xs) h = let m = more_alls xs h.1 in ((h.0.0, m.0), omega arith)

  good_alls : (xs : List AllTree) → OneOrMore (GoodAll d) xs → GoodCond d (cond_of xs)
  good_alls [] h = absurd h
  good_alls (x ∷ xs) h = let m = more_alls xs h.1 in ((h.0.0, m.0), omega arith)

  each_item : (a : AllTree) → FitItems a → depth_of_all a ≤ d → AllByRecursion (GoodItem d) (items_of a)
  each_item no_items f h = tt
  each_item (add_item i more) f h = ((f.0, omega arith), each_item more f.1 (omega arith))

  items_good : (a : AllTree) → GoodAll d a → OneOrMore (GoodItem d) (items_of a)
  items_good no_items g = absurd g.0
  items_good (add_item i more) g = ((g.0.0, omega arith), each_item more g.0.1 (omega arith))

  each_all : (c : CondTree) → FitAlls c → depth c ≤ d → AllByRecursion (GoodAll d) (alls_of c)
  each_all no_alls f h = tt
  each_all (add_all a more) f h = ((f.0, omega arith), each_all more f.1 (omega arith))

  alls_good : (c : CondTree) → GoodCond d c → OneOrMore (GoodAll d) (alls_of c)
  alls_good no_alls g = absurd g.0
  alls_good (add_all a more) g = ((g.0.0, omega arith), each_all more g.0.1 (omega arith))

-- ---- an ALL and a condition, where items are found and read again

-- what may follow an ALL, and a condition
abbrev EndsAll : List ℕ → Type 0
EndsAll rest = after and_word rest ≡ None

abbrev EndsCond : List ℕ → Type 0
EndsCond rest = (after and_word rest ≡ None) × (after or_word rest ≡ None)

module _ (item : Read ItemTree) (d : ℕ) where
  pub all_with_finds : Finds item item_text (GoodItem d) → Finds (all_with item) all_text (GoodAll d)
  all_with_finds finds =
      mapped_finds (separated item and_word) (list_text item_text and_word) (OneOrMore (GoodItem d)) all_of all_text (GoodAll d)
      (separated_finds item item_text (GoodItem d) and_word finds) (λ xs. ap (joined and_word) (sym (item_texts-all_of xs))) (good_items d)

  pub cond_with_finds : Finds item item_text (GoodItem d) → Finds (cond_with item) cond_text (GoodCond d)
  cond_with_finds finds =
      mapped_finds (separated (all_with item) or_word) (list_text all_text or_word) (OneOrMore (GoodAll d)) cond_of cond_text (GoodCond d)
      (separated_finds (all_with item) all_text (GoodAll d) or_word (all_with_finds finds)) (λ xs. ap (joined or_word) (sym (all_texts-cond_of xs))) (good_alls d)

  all_with_again : Again item item_text (GoodItem d) (λ rest. Unit {0}) → Again (all_with item) all_text (GoodAll d) EndsAll
  all_with_again again a rest good ends =
      let s = separated_again item item_text (GoodItem d) and_word (λ rest. Unit {0}) again (omega arith) (λ rest. tt) (items_of a) rest (items_good d a good) (tt, ends) in
      ap (λ v. read_map all_of (separated item and_word (joined and_word v ++ rest))) (ap item_texts (sym (all_of-items_of a)) ∙ item_texts-all_of (items_of a))
      ∙ ap (read_map all_of) s ∙ ap (λ v. Some (v, rest)) (all_of-items_of a)

  cond_with_again : Again item item_text (GoodItem d) (λ rest. Unit {0}) → Again (cond_with item) cond_text (GoodCond d) EndsCond
  cond_with_again again c rest good ends =
      let s = separated_again (all_with item) all_text (GoodAll d) or_word EndsAll (all_with_again again) (omega arith) (λ rest. refl) (alls_of c) rest (alls_good d c good) ends in
      ap (λ v. read_map cond_of (separated (all_with item) or_word (joined or_word v ++ rest))) (ap all_texts (sym (cond_of-alls_of c)) ∙ all_texts-cond_of (alls_of c))
      ∙ ap (read_map cond_of) s ∙ ap (λ v. Some (v, rest)) (cond_of-alls_of c)

-- ---- at each number of groups

pub item_at_finds : (d : ℕ) → Finds (item_at d) item_text (GoodItem d)
unfolding item_at
item_at_finds zero = item_with_finds (λ text. None) zero (λ text c rest h. absurd cc)
item_at_finds (suc d) =
    item_with_finds (cond_with (item_at d)) (suc d) (λ text c rest h.
    let f = cond_with_finds (item_at d) d (item_at_finds d) text c rest h in (f.0, (f.1.0, omega arith)))

pub item_at_again : (d : ℕ) → Again (item_at d) item_text (GoodItem d) (λ rest. Unit {0})
unfolding item_at
item_at_again zero = item_with_again (λ text. None) zero (λ c rest good ends. absurd (omega arith))
item_at_again (suc d) =
    item_with_again (cond_with (item_at d)) (suc d) (λ c rest good ends. cond_with_again (item_at d) d (item_at_again d) c rest (good.0, omega arith) ends)

-- ---- a whole text

is_short : (n : ℕ) → nat_le n 1000 ≡ true → n ≤ 1000
is_short n h = grind (arith, nat_tests)

passes : (n : ℕ) → n ≤ 1000 → nat_le n 1000 ≡ true
passes n h = grind (arith, nat_tests)

pub cond_found : (text : List ℕ) (c : CondTree) → cond_of_text text ≡ Some c → IsCond c × (text ≡ cond_text c)
unfolding cond_of_text
cond_found text c h =
    let t = by_test (nat_le (length text) 1000) (cond_at 64 text >>= if_last) c h in
    let b = bind_some (cond_at 64 text) if_last c t.1 in
    let f = cond_with_finds (item_at 64) 64 (item_at_finds 64) text b.0.0 b.0.1 b.1 in
    let l = last_found b.0 c b.2 in
    done b.0.0 b.0.1 f.0 f.1 l.0 l.1 (is_short (length text) t.0)
  where
    done : (x : CondTree) (rest : List ℕ) → text ≡ cond_text x ++ rest → GoodCond 64 x → x ≡ c → rest ≡ [] → length text ≤ 1000 → IsCond c × (text ≡ cond_text c)
    done x rest f g e z short =
        let all : text ≡ cond_text x = f ∙ ap (λ v. cond_text x ++ v) z ∙ append-nil (cond_text x) in
        rw (← e) (record { fits = g.0; nests = g.1; short = omega (arith, ap length all) }, all)

pub cond_again : (c : CondTree) → IsCond c → cond_of_text (cond_text c) ≡ Some c
unfolding cond_of_text
cond_again c r =
    let a = cond_with_again (item_at 64) 64 (item_at_again 64) c [] (r.fits, r.nests) (refl, refl) in
    let b : cond_at 64 (cond_text c) ≡ Some (c, []) = ap (cond_at 64) (sym (append-nil (cond_text c))) ∙ a in
    rw (passes (length (cond_text c)) r.short, b) refl
