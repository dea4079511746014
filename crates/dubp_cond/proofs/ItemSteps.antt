-- What the code knows of `item_at` in each case of a front.
use Rattle.std.proofs.Common.{◌≡◌, ◌≢◌, ℕ, zero, suc, ◌-◌, Bool, true, false, List, codes, Option, Some, None, option_map, refl, sym, ap, ◌∙◌, arith, if◌then◌else◌}
use Rattle.dubp_cond.specs.Tree.{CondTree, group}
use Rattle.dubp_cond.specs.Conditions.{item_text, all_text}
use Rattle.dubp_cond.specs.View.{item_tree}
use Rattle.dubp_cond.specs.Separated.{after}
use Rattle.dubp_cond.specs.Reading.{front_at, item_at, all_at, cond_at, group_with}
use Rattle.dubp_cond.specs.Gives.{left_of, Passes, front_view}
use Rattle.dubp_cond.specs.declared.tree.Item.{Item}
use Rattle.dubp_cond.specs.declared.front.Front.{Front}
use Rattle.dubp_cond.specs.declared.front.Front.TheVariants.{Leaf}
use Rattle.dubp_cond.proofs.Turns.{Shrinks, shrinks}
use Rattle.dubp_cond.proofs.Loops.{no_value, a_value}
use Rattle.dubp_cond.proofs.Items.{GoodItem}
use Rattle.dubp_cond.proofs.Conditions.{GoodAll, item_at_finds, all_with_finds}

pub item_shrinks : (groups : ℕ) → Shrinks (item_at groups)
item_shrinks groups = shrinks (item_at groups) item_text (GoodItem groups) (item_at_finds groups)

pub all_shrinks : (groups : ℕ) → Shrinks (all_at groups)
all_shrinks groups = shrinks (all_at groups) all_text (GoodAll groups) (all_with_finds (item_at groups) groups (item_at_finds groups))

pub item_none : (groups : ℕ) (at : List ℕ) → front_at at ≡ None → item_at groups at ≡ None
unfolding item_at
item_none zero at h = rw h refl
item_none (suc n) at h = rw h refl

module _ (groups : ℕ) (at rest : List ℕ) (f : Front) (h : Some (front_view f, rest) ≡ front_at at) where
  pub item_leaf : (x : Item) → f ≡ Leaf x → item_at groups at ≡ Some (item_tree x, rest)
  unfolding item_at
  item_leaf x e = elim groups as (λ n. item_at n at ≡ Some (item_tree x, rest)) [ zero ↦ rw (← h, e) refl | suc n ↦ rw (← h, e) refl ]

  pub item_shut : groups ≡ 0 → f ≡ Front.Group → item_at groups at ≡ None
  unfolding item_at
  item_shut z e = rw (z, ← h, e) refl

pub opens : (groups : ℕ) (at rest : List ℕ) (f : Front) → groups ≢ 0 → Some (front_view f, rest) ≡ front_at at → f ≡ Front.Group → item_at groups at ≡ group_with (cond_at (groups - 1)) rest
unfolding item_at
opens zero at rest f z h e = absurd (z refl)
opens (suc n) at rest f z h e = let i : suc n - 1 ≡ n = omega arith in rw (← h, e, i) refl

-- a group is passed
closing_left : (c : CondTree) (o : Option (List ℕ)) → left_of (option_map (λ rest. (group c, rest)) o) ≡ o
closing_left c None = refl
closing_left c (Some r) = refl

module _ (groups : ℕ) (at rest : List ℕ) (f : Front) (some : groups ≢ 0) (h : Some (front_view f, rest) ≡ front_at at) (e : f ≡ Front.Group) (left : List ℕ) (passed : Bool)
    (p : Passes passed left (cond_at (groups - 1) rest)) where
  pub pass_no_cond : passed ≡ false → left_of (item_at groups at) ≡ None
  pass_no_cond none = ap left_of (opens groups at rest f some h e) ∙ rw (no_value (cond_at (groups - 1) rest) (p ∙ rw none refl)) refl

  pub pass_group : (next : List ℕ) (taken : Bool) → passed ≡ true → (if taken then Some next else None) ≡ after (codes ")") left → left_of (item_at groups at) ≡ (if taken then Some next else None)
  pass_group next taken there w =
      let v = a_value (cond_at (groups - 1) rest) left (p ∙ rw there refl) in
      ap left_of (opens groups at rest f some h e) ∙ rw v.1 (closing_left v.0 (after (codes ")") left) ∙ sym w)
