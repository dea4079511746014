-- The definitions on small conditions whose texts and truth are known.
use Rattle.std.proofs.Common.{◌≡◌, ℕ, [], codes, refl, inl, inr, arith}
use Rattle.dubp_cond.specs.Tree.{ItemTree, sig, xhx, csv, cltv, group, AllTree, no_items, add_item, CondTree, no_alls, add_all, depth}
use Rattle.dubp_cond.specs.Conditions.{cond_text}
use Rattle.dubp_cond.specs.Truth.{Moment, IsTrueAt}

abbrev one : ItemTree → AllTree
one item = add_item item no_items

abbrev two : ItemTree → ItemTree → AllTree
two item other = add_item item (one other)

-- the texts of conditions, with letters in place of keys and hashes
abbrev either : CondTree
either = add_all (two (sig (codes "A")) (xhx (codes "B"))) (add_all (one (sig (codes "C"))) no_alls)

abbrev in_group : CondTree
in_group = add_all (two (group either) (sig (codes "D"))) no_alls

either_text : cond_text either ≡ codes "SIG(A) && XHX(B) || SIG(C)"
either_text = refl

in_group_text : cond_text in_group ≡ codes "(SIG(A) && XHX(B) || SIG(C)) && SIG(D)"
in_group_text = refl

in_group_depth : depth in_group ≡ 1
in_group_depth = refl

-- an hour since the source was written and the time 9,000, or the time 20,000
abbrev waits : CondTree
waits = add_all (two (csv 3600) (cltv 9000)) (add_all (one (cltv 20000)) no_alls)

abbrev at : ℕ → Moment
at now = record { unlocks = []; issuers = []; now = now; written = 6000 }

true_at_9600 : IsTrueAt (at 9600) waits
true_at_9600 = inl (omega arith, (omega arith, tt))

not_at_9599 : IsTrueAt (at 9599) waits → ⊥
not_at_9599 h = elim h [
  | inl both ↦ omega (arith, both.0)
  | inr later ↦ elim later [ inl item ↦ omega (arith, item.0) | inr none ↦ none ]
]
