-- The one spelling of a condition, and which conditions have one. Protocol: conditions.
use Rattle.std.specs.Prelude.{ℕ, ◌≤◌, ◌≡◌, true, List, [], ◌∷◌, ◌++◌, length, codes, decimal}
use Rattle.dubp_atoms.specs.Letters.{is_key, is_hash}
use Rattle.dubp_atoms.specs.Spelling.{IsNumber}
use Rattle.dubp_cond.specs.Joined.{joined}
use Rattle.dubp_cond.specs.Tree.{ItemTree, sig, xhx, csv, cltv, group, AllTree, no_items, add_item, CondTree, no_alls, add_all, depth}

-- what stands between two items
abbrev pub and_word : List ℕ
and_word = codes " && "

-- what stands between two ALLs
abbrev pub or_word : List ℕ
or_word = codes " || "

abbrev mutual
  pub item_text : ItemTree → List ℕ
  item_text (sig key) = codes "SIG(" ++ (key ++ codes ")")
  item_text (xhx hash) = codes "XHX(" ++ (hash ++ codes ")")
  item_text (csv seconds) = codes "CSV(" ++ (decimal seconds ++ codes ")")
  item_text (cltv time) = codes "CLTV(" ++ (decimal time ++ codes ")")
  item_text (group c) = codes "(" ++ (joined or_word (all_texts c) ++ codes ")")

  pub item_texts : AllTree → List (List ℕ)
  item_texts no_items = []
  item_texts (add_item i more) = item_text i ∷ item_texts more

  pub all_texts : CondTree → List (List ℕ)
  all_texts no_alls = []
  all_texts (add_all a more) = joined and_word (item_texts a) ∷ all_texts more

abbrev pub all_text : AllTree → List ℕ
all_text a = joined and_word (item_texts a)

abbrev pub cond_text : CondTree → List ℕ
cond_text c = joined or_word (all_texts c)

-- each atom is one, and no list is empty
abbrev mutual
  pub FitsItem : ItemTree → Type 0
  FitsItem (sig key) = is_key key ≡ true
  FitsItem (xhx hash) = is_hash hash ≡ true
  FitsItem (csv seconds) = IsNumber seconds
  FitsItem (cltv time) = IsNumber time
  FitsItem (group c) = FitsCond c

  pub FitsAll : AllTree → Type 0
  FitsAll no_items = ⊥
  FitsAll (add_item i more) = FitsItem i × FitItems more

  pub FitItems : AllTree → Type 0
  FitItems no_items = Unit {0}
  FitItems (add_item i more) = FitsItem i × FitItems more

  pub FitsCond : CondTree → Type 0
  FitsCond no_alls = ⊥
  FitsCond (add_all a more) = FitsAll a × FitAlls more

  pub FitAlls : CondTree → Type 0
  FitAlls no_alls = Unit {0}
  FitAlls (add_all a more) = FitsAll a × FitAlls more

-- COND: at most 64 groups open at once, and at most 1,000 characters
pub record IsCond (c : CondTree) : Type 0 where
  pub fits : FitsCond c
  pub nests : depth c ≤ 64
  pub short : length (cond_text c) ≤ 1000
