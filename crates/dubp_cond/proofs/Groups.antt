-- Groups are read from the innermost outwards: what each step of it knows of `item_at`.
use Rattle.std.proofs.Common.{◌≡◌, ◌≢◌, ℕ, suc, ◌+◌, ◌-◌, ◌≤◌, List, Option, Some, None, refl, ap, ◌∙◌, arith, add-one}
use Rattle.dubp_atoms.specs.Reading.{◌>>=◌}
use Rattle.dubp_cond.specs.Tree.{ItemTree}
use Rattle.dubp_cond.specs.Conditions.{and_word, or_word}
use Rattle.dubp_cond.specs.Lists.{all_of, cond_of}
use Rattle.dubp_cond.specs.View.{item_tree, all_tree}
use Rattle.dubp_cond.specs.Separated.{after, read_map, go_on, separated}
use Rattle.dubp_cond.specs.Reading.{front_at, item_at, all_at, cond_at, all_from, cond_from, group_from, in_open, shut}
use Rattle.dubp_cond.specs.Gives.{Gives, front_view}
use Rattle.dubp_cond.specs.declared.tree.Item.{Item}
use Rattle.dubp_cond.specs.declared.tree.All.{All}
use Rattle.dubp_cond.specs.declared.front.Front.{Front}
use Rattle.dubp_cond.specs.declared.front.Front.TheVariants.{Leaf}
use Rattle.dubp_cond.proofs.Turns.{separated_step}
use Rattle.dubp_cond.proofs.Loops.{given_none, given_some}
use Rattle.dubp_cond.proofs.ItemSteps.{item_shrinks, all_shrinks, item_none, item_leaf, item_shut, opens}

bind_bind : {A B C : Type 0} (o : Option A) (f : A → Option B) (g : B → Option C) → ((o >>= f) >>= g) ≡ (o >>= (λ x. f x >>= g))
bind_bind None f g = refl
bind_bind (Some x) f g = refl

map_bind : {A B C : Type 0} (o : Option (A × List ℕ)) (f : A × List ℕ → Option (B × List ℕ)) (make : B → C) → read_map make (o >>= f) ≡ (o >>= (λ x. read_map make (f x)))
map_bind None f make = refl
map_bind (Some x) f make = refl

pub all_step : (groups : ℕ) (text : List ℕ) → all_at groups text ≡ (item_at groups text >>= all_from groups)
all_step groups text =
    ap (read_map all_of) (separated_step (item_at groups) and_word (item_shrinks groups) (omega arith) text)
    ∙ map_bind (item_at groups text) (λ r. go_on (separated (item_at groups) and_word) r.0 (after and_word r.1) r.1) all_of

pub cond_step : (groups : ℕ) (text : List ℕ) → cond_at groups text ≡ (all_at groups text >>= cond_from groups)
cond_step groups text =
    ap (read_map cond_of) (separated_step (all_at groups) or_word (all_shrinks groups) (omega arith) text)
    ∙ map_bind (all_at groups text) (λ r. go_on (separated (all_at groups) or_word) r.0 (after or_word r.1) r.1) cond_of

-- a group is its first item, and what follows it
group_step : (groups : ℕ) (text : List ℕ) → (cond_at groups text >>= shut) ≡ (item_at groups text >>= group_from groups)
group_step groups text =
    ap (λ o. o >>= shut) (cond_step groups text ∙ ap (λ o. o >>= cond_from groups) (all_step groups text))
    ∙ bind_bind (item_at groups text >>= all_from groups) (cond_from groups) shut
    ∙ bind_bind (item_at groups text) (all_from groups) (λ a. cond_from groups a >>= shut)

-- the whole item is what is read at the cursor, and the groups that are open around it
abbrev pub IsOpened : ℕ → List ℕ → ℕ → List ℕ → Type 0
IsOpened groups self left at = item_at groups self ≡ (item_at left at >>= in_open (groups - left) left)

pub none_opened : (groups : ℕ) (self : List ℕ) → IsOpened groups self groups self
none_opened groups self = let z : groups - groups ≡ 0 = omega arith in rw z (same (item_at groups self))
  where
    same : (o : Option (ItemTree × List ℕ)) → o ≡ (o >>= in_open 0 groups)
    same None = refl
    same (Some p) = refl

-- one more group is open around it
around : (more left inner : ℕ) → left ≡ suc inner → (o : Option (ItemTree × List ℕ)) → ((o >>= group_from inner) >>= in_open more left) ≡ (o >>= in_open (suc more) inner)
around more left inner e None = refl
around more left inner e (Some p) = rw e refl

pub opened_none : (groups : ℕ) (self : List ℕ) (left : ℕ) (at : List ℕ) → IsOpened groups self left at → front_at at ≡ None → item_at groups self ≡ None
opened_none groups self left at so_far h = so_far ∙ rw (item_none left at h) refl

module _ (groups : ℕ) (self : List ℕ) (left : ℕ) (at rest : List ℕ) (f : Front) (so_far : IsOpened groups self left at) (h : Some (front_view f, rest) ≡ front_at at) where
  pub opened_leaf : (x : Item) → f ≡ Leaf x → item_at groups self ≡ in_open (groups - left) left (item_tree x, rest)
  opened_leaf x e = so_far ∙ rw (item_leaf left at rest f h x e) refl

  pub opened_all : left ≡ 0 → f ≡ Front.Group → item_at groups self ≡ None
  opened_all z e = so_far ∙ rw (item_shut left at rest f h z e) refl

  pub opened_one : left ≤ groups → left ≢ 0 → f ≡ Front.Group → IsOpened groups self (left - 1) rest
  opened_one within some e =
      let one : groups - (left - 1) ≡ suc (groups - left) = omega arith in
      so_far ∙ ap (λ o. o >>= in_open (groups - left) left) (opens left at rest f some h e ∙ group_step (left - 1) rest)
      ∙ around (groups - left) left (left - 1) (omega arith) (item_at (left - 1) rest) ∙ rw one refl

-- the innermost group is taken
module _ (groups : ℕ) (whole : Option (ItemTree × List ℕ)) (left : ℕ) (p : ItemTree × List ℕ) (so_far : whole ≡ in_open (groups - left) left p) (some : left ≢ groups) (within : left ≤ groups) where
  step : whole ≡ (group_from left p >>= in_open (groups - (left + 1)) (left + 1))
  step =
      let one : groups - left ≡ suc (groups - (left + 1)) = omega arith in
      so_far ∙ rw (one, add-one) refl

  pub group_taken : (o : Option Item) (x : Item) (rest : List ℕ) → Gives item_tree o rest (group_from left p) → o ≡ Some x → whole ≡ in_open (groups - (left + 1)) (left + 1) (item_tree x, rest)
  group_taken o x rest gives is = step ∙ rw (given_some item_tree o x rest (group_from left p) gives is) refl

  pub group_lacks : (o : Option Item) (rest : List ℕ) → Gives item_tree o rest (group_from left p) → o ≡ None → whole ≡ None
  group_lacks o rest gives none = step ∙ rw (given_none item_tree o rest (group_from left p) gives none) refl

-- the first item of an ALL, and the first ALL of a condition, are taken
module _ (groups : ℕ) (text rest : List ℕ) (o : Option Item) (gives : Gives item_tree o rest (item_at groups text)) where
  pub first_item : (x : Item) → o ≡ Some x → all_at groups text ≡ all_from groups (item_tree x, rest)
  first_item x is = all_step groups text ∙ rw (given_some item_tree o x rest (item_at groups text) gives is) refl

  pub no_item : o ≡ None → all_at groups text ≡ None
  no_item none = all_step groups text ∙ rw (given_none item_tree o rest (item_at groups text) gives none) refl

module _ (groups : ℕ) (text rest : List ℕ) (o : Option All) (gives : Gives all_tree o rest (all_at groups text)) where
  pub first_all : (x : All) → o ≡ Some x → cond_at groups text ≡ cond_from groups (all_tree x, rest)
  first_all x is = cond_step groups text ∙ rw (given_some all_tree o x rest (all_at groups text) gives is) refl

  pub no_all : o ≡ None → cond_at groups text ≡ None
  no_all none = cond_step groups text ∙ rw (given_none all_tree o rest (all_at groups text) gives none) refl
