-- Stored blocks as a choice looks at them.
use Rattle.std.proofs.Common.{◌≡◌, ◌≢◌, ℕ, ◌+◌, ◌-◌, ◌≤◌, ◌||◌, Bool, true, false, cond, List, [], ◌∷◌, ◌++◌, map, find, length, Option, Some, None, option_map, refl, sym, ap, subst, ◌∙◌, arith}
use Rattle.std.specs.List.{AllByRecursion, list_any}
use Rattle.std.specs.Option.{MatchOption, option_map_or}
use Rattle.std.proofs.lemmas.List.{length-map}
use Rattle.std.proofs.lemmas.List.Elements.{All-from_recursion}
use Rattle.dubp_atoms.specs.declared.stamp.Stamp.{Stamp}
use Rattle.dubp_block.specs.declared.block.Block.{Block}
use Rattle.dubp_block.specs.Text.{IsBlock, IsPrevious, stamp_of}
use Rattle.dubp_rules.specs.declared.rule.Rule.TheVariants.{G51}
use Rattle.dubp_chain.specs.Chains.{Chain}
use Rattle.dubp_validity.specs.Rules.{IsSound}
use Rattle.dubp_resolve.specs.Choice as choice
use Rattle.dubp_resolve.specs.Known.{AreApart, AreOffers, IsNumbered}
use Rattle.dubp_resolve.specs.Laws.{AreCounted}
use Rattle.dubp_resolve.proofs.Apart.{found_apart}
use Rattle.dubp_resolve.proofs.Paths.{found_passes}
use Rattle.dubp_resolve.proofs.Stamps.{same_is}
use Rattle.dubp_replay.specs.Turns.{IsPath, is_stamped, most_stored, offered, previous_stamp, stored}

-- a stored block is found among them by its stamp
pub offered_stored : (store : List Block) (s : Stamp) → choice.stored (map offered store) s ≡ option_map offered (stored store s)
offered_stored [] s = refl
offered_stored (b ∷ bs) s =
    elim (is_stamped s b) as (λ r. cond r (Some (offered b)) (choice.stored (map offered bs) s) ≡ option_map offered (cond r (Some b) (stored bs s))) [
      | true ↦ refl
      | false ↦ offered_stored bs s
    ]

-- a path is one of theirs
pub offered_path : (store : List Block) (s : Stamp) (path : List Block) (end : Option Stamp) → IsPath store s path end → choice.IsPath (map offered store) s (map offered path) end
offered_path store s [] end p = (offered_stored store s ∙ ap (option_map offered) p.0, p.1)
offered_path store s (b ∷ path) end p = (
  offered_stored store s ∙ ap (option_map offered) p.0,
  elim (previous_stamp b) as (λ o. MatchOption o ((path ≡ []) × (end ≡ None)) (λ t. IsPath store t path end) → MatchOption o ((map offered path ≡ []) × (end ≡ None)) (λ t. choice.IsPath (map offered store) t (map offered path) end)) [
    | None ↦ λ h. (ap (map offered) h.0, h.1)
    | Some t ↦ λ h. offered_path store t path end h
  ] p.1,
)

-- ---- numbers
numbered : (b : Block) → IsBlock b → IsNumbered (offered b)
numbered b is = by b.previous is.previous
  where
    by : (p : Option (List ℕ × List ℕ)) → IsPrevious b.number p → option_map_or (λ (s : Stamp). s.number + 1) (option_map (λ p. record { number = b.number - 1; hash = p.0 }) p) 0 ≡ b.number
    by None h = sym h
    by (Some (hash, issuer)) h = let some : b.number ≢ 0 = h.0 in omega arith

all_numbered : (store : List Block) → AllByRecursion IsBlock store → AllByRecursion IsNumbered (map offered store)
all_numbered [] all = tt
all_numbered (b ∷ bs) all = (numbered b all.0, all_numbered bs all.1)

-- a choice can be made among them
pub offers_are : (store : List Block) → AllByRecursion IsBlock store → AreApart (map offered store) → length store ≤ most_stored → AreOffers (map offered store)
offers_are store all apart few = record {
  numbered = All-from_recursion IsNumbered (map offered store) (all_numbered store all);
  apart = found_apart (map offered store) apart;
  few = subst (λ n. n ≤ most_stored) (sym (length-map store offered)) few;
}

pub counted : (c : Chain) → IsSound c → AreCounted (map stamp_of c)
counted [] sound = tt
counted (b ∷ c) sound = let n : b.number ≡ length c = sound.0 G51 refl in (n ∙ sym (length-map c stamp_of), counted c sound.1)

-- ---- what stands on a path
found_any : {X : Type 0} (test : X → Bool) (xs : List X) (x : X) → find test xs ≡ Some x → list_any test xs ≡ true
found_any test [] x e = absurd cc
found_any {X} test (y ∷ xs) x e =
    elim (test y) as (λ r. cond r (Some y) (find test xs) ≡ Some x → (r || list_any test xs) ≡ true) [
      | true ↦ λ f. refl
      | false ↦ λ f. found_any test xs x f
    ] e

pub stored_stamp : (store : List Block) (s : Stamp) (b : Block) → stored store s ≡ Some b → s ≡ stamp_of b
stored_stamp store s b f = same_is s (stamp_of b) (found_passes (is_stamped s) store b f)

abbrev IsThere : List Block → Block → Type 0
IsThere store b = list_any (is_stamped (stamp_of b)) store ≡ true

-- each of its blocks is stored
pub path_stored : (store : List Block) (s : Stamp) (path : List Block) (end : Option Stamp) → IsPath store s path end → AllByRecursion (IsThere store) path
path_stored store s [] end p = tt
path_stored store s (b ∷ path) end p = (
  subst (λ t. list_any (is_stamped t) store ≡ true) (stored_stamp store s b p.0) (found_any (is_stamped s) store b p.0),
  elim (previous_stamp b) as (λ o. MatchOption o ((path ≡ []) × (end ≡ None)) (λ t. IsPath store t path end) → AllByRecursion (IsThere store) path) [
    | None ↦ λ h. subst (AllByRecursion (IsThere store)) (sym h.0) tt
    | Some t ↦ λ h. path_stored store t path end h
  ] p.1,
)

pub all_at : {X : Type 0} (P : X → Type 0) (before : List X) (x : X) (after : List X) → AllByRecursion P (before ++ x ∷ after) → P x
all_at P [] x after all = all.0
all_at P (y ∷ before) x after all = all_at P before x after all.1

any_true : (a : Bool) → (a || true) ≡ true
any_true true = refl
any_true false = refl

pub any_at : {X : Type 0} (test : X → Bool) (before : List X) (x : X) (after : List X) → test x ≡ true → list_any test (before ++ x ∷ after) ≡ true
any_at test [] x after e = ap (λ r. r || list_any test after) e
any_at test (y ∷ before) x after e = ap (λ r. test y || r) (any_at test before x after e) ∙ any_true (test y)
