-- The keys that have to be excluded, in order, and the next of them.
use Rattle.std.proofs.Common.{◌≡◌, ◌||◌, inl, inr, Bool, true, false, cond, IsTrue, List, [], ◌∷◌, Option, None, Some, Contains, filter, refl, sym, subst}
use Rattle.dubp_atoms.specs.Same.{Text, same_text}
use Rattle.std.specs.List.{AllByRecursion}
use Rattle.std.specs.List.Sorted.{IsStrictlySortedBy}
use Rattle.std.specs.Ordering.{nat_cmp}
use Rattle.std.specs.declared.cmp.Ordering.TheVariants.{Less}
use Rattle.std.specs.Cmp.Lexicographic.{slice_cmp}
use Rattle.dubp_chain.specs.Words.{names}
use Rattle.dubp_chain.specs.Chains.{Chain}
use Rattle.dubp_chain.specs.Members.{members}
use Rattle.dubp_chain.specs.Live.{kick, is_kicked}
use Rattle.dubp_chain.specs.Tables.{is_to_be_excluded}
use Rattle.dubp_validity.specs.Rules.{IsSound}
use Rattle.dubp_lists.proofs.InOrder.{same_text_own}
use Rattle.dubp_iindex.specs.Order as index
use Rattle.dubp_wot.specs.Order.{IsInOrder, IsNextMember}
use Rattle.dubp_wot.proofs.Members.{Contains-cases, Contains-none}
use Rattle.dubp_people_views.proofs.Webs.{members_rise}
use Rattle.dubp_people_views.proofs.MembersWalked.{names_contains}

contains_names : (k : Text) (xs : List Text) → Contains xs k → names xs k ≡ true
contains_names k [] there = absurd (Contains-none k there)
contains_names k (x ∷ xs) there =
    elim (Contains-cases x k xs there) [
      | inl e ↦ let h : same_text k x ≡ true = subst (λ z. same_text k z ≡ true) (sym e) (same_text_own k) in rw h refl
      | inr later ↦ elim (same_text k x) as (λ t. (t || names xs k) ≡ true) [ true ↦ refl | false ↦ contains_names k xs later ]
    ]

pub next_kicked_told : (c : Chain) (after answer : Option Text) → index.IsNext (λ k. IsTrue (is_to_be_excluded c k)) after answer → IsNextMember (kick c) after answer
next_kicked_told c None None h = λ a there. h a (contains_names a (kick c) there)
next_kicked_told c None (Some k) h = (names_contains k (kick c) h.0, h.1, λ a there above. h.2 a (contains_names a (kick c) there) above)
next_kicked_told c (Some j) None h = λ a there. h a (contains_names a (kick c) there)
next_kicked_told c (Some j) (Some k) h = (names_contains k (kick c) h.0, h.1, λ a there above. h.2 a (contains_names a (kick c) there) above)

all_kept : (P : Text → Type 0) (p : Text → Bool) (xs : List Text) → AllByRecursion P xs → AllByRecursion P (filter p xs)
all_kept P p [] all = tt
all_kept P p (x ∷ xs) all = elim (p x) as (λ t. AllByRecursion P (cond t (x ∷ filter p xs) (filter p xs))) [ true ↦ (all.0, all_kept P p xs all.1) | false ↦ all_kept P p xs all.1 ]

order_kept : (p : Text → Bool) (xs : List Text) → IsInOrder xs → IsInOrder (filter p xs)
unfolding IsStrictlySortedBy
order_kept p [] order = tt
order_kept p (x ∷ xs) order =
    elim (p x) as (λ t. IsStrictlySortedBy (slice_cmp nat_cmp) (cond t (x ∷ filter p xs) (filter p xs))) [
      | true ↦ (all_kept (λ y. slice_cmp nat_cmp x y ≡ Less) p xs order.0, order_kept p xs order.1)
      | false ↦ order_kept p xs order.1
    ]

pub kick_rises : (c : Chain) → IsSound c → IsInOrder (kick c)
kick_rises c sound = order_kept (is_kicked c) (members c) (members_rise c sound)
