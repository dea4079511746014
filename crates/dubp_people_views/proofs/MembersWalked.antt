-- Keys in order that are taken one after the other, each the next behind the last.
use Rattle.std.proofs.Common.{◌≡◌, ◌||◌, true, false, not, List, [], ◌∷◌, ◌++◌, Option, None, Some, Contains, refl, ap, sym, subst, ◌∙◌, true≢false, arith}
use Rattle.dubp_atoms.specs.Same.{Text, same_text}
use Rattle.dubp_chain.specs.Words.{names}
use Rattle.dubp_registry.proofs.OfLists.{IsIn, in_any, filter_on, filter_true}
use Rattle.dubp_registry.proofs.OfLists.{same_text_is, same_text_own}
use Rattle.dubp_wot.specs.Order.{is_above, IsInOrder, IsNextMember}
use Rattle.dubp_wot.specs.Search.{up_to}
use Rattle.dubp_wot.proofs.Members.{Contains-there, up_to-next}

pub names_contains : (k : Text) (xs : List Text) → names xs k ≡ true → Contains xs k
names_contains k [] e = absurd (true≢false (sym e))
names_contains k (x ∷ xs) e =
    elim (same_text k x) as (λ t. same_text k x ≡ t → (t || names xs k) ≡ true → Contains (x ∷ xs) k) [
      | true ↦ λ is _. subst (Contains (x ∷ xs)) (sym (same_text_is k x is)) (0, omega arith, refl)
      | false ↦ λ _ later. Contains-there x k xs (names_contains k xs later)
    ] refl e

in_contains : (k : Text) (xs : List Text) → IsIn k xs → Contains xs k
in_contains k xs there = names_contains k xs (in_any (same_text k) xs k there (same_text_own k))

-- one key more
pub one_taken : (xs : List Text) → IsInOrder xs → (after : Option Text) (k : Text) → IsNextMember xs after (Some k) → (items new : List Text)
    → items ≡ up_to after xs → new ≡ items ++ k ∷ [] → new ≡ up_to (Some k) xs
one_taken xs order after k next items new before is = is ∙ ap (λ (ys : List Text). ys ++ k ∷ []) before ∙ sym (up_to-next after k xs order next)

-- where there is no next key, all were taken
pub all_taken : (xs : List Text) (after : Option Text) → IsNextMember xs after None → (items : List Text) → items ≡ up_to after xs → items ≡ xs
all_taken xs after none items before =
    before ∙ filter_on (λ k. not (is_above after k)) (λ k. true) xs (λ k there. ap not (none k (in_contains k xs there))) ∙ filter_true xs
