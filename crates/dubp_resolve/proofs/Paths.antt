-- Where the path of a block stands, from where that of the block before stands.
use Rattle.std.proofs.Common.{◌≡◌, ℕ, zero, suc, ◌+◌, ◌-◌, ◌≤◌, ◌&&◌, ◌||◌, Bool, true, false, not, cond, List, [], ◌∷◌, length, find, nat_le, Option, Some, None, refl, sym, ap, subst, ◌∙◌, true≢false, arith, add-one}
use Rattle.std.specs.List.{All, Contains}
use Rattle.std.specs.Option.{MatchOption, option_map, option_map_or}
use Rattle.dubp_atoms.specs.declared.stamp.Stamp.{Stamp}
use Rattle.dubp_resolve.specs.declared.view.Offered.{Offered}
use Rattle.dubp_resolve.specs.Choice.{IsPath, behind, stored_then, Choices, Path, ends, with_tip, path, path_of, has_stamp, stored, is_among, is_detached, has_failed, height_under, is_candidate, most_stored}
use Rattle.dubp_resolve.specs.Known.{AreOffers, IsFound, IsNumbered, height_of, height_at}
use Rattle.dubp_resolve.proofs.Stamps.{same_is}

same_some : {X : Type 0} (x y : X) → Some x ≡ Some y → x ≡ y
same_some x y e = cc

pub found_contains : {X : Type 0} (test : X → Bool) (xs : List X) (c : X) → find test xs ≡ Some c → Contains xs c
found_contains test [] c e = cc
found_contains {X} test (x ∷ xs) c e =
    elim (test x) as (λ r. cond r (Some x) (find test xs) ≡ Some c → Contains (x ∷ xs) c) [
      | true ↦ λ f. (0, omega arith, same_some x c f)
      | false ↦ λ f. let r = found_contains test xs c f in (suc r.0, omega arith, r.2)
    ] e

pub found_passes : {X : Type 0} (test : X → Bool) (xs : List X) (c : X) → find test xs ≡ Some c → test c ≡ true
found_passes test [] c e = cc
found_passes {X} test (x ∷ xs) c e =
    elim (test x) as (λ r. test x ≡ r → cond r (Some x) (find test xs) ≡ Some c → test c ≡ true) [
      | true ↦ λ t f. ap test (sym (same_some x c f)) ∙ t
      | false ↦ λ t f. found_passes test xs c f
    ] refl e

-- what holds of all holds of what is found
pub all_found : {X : Type 0} (P : X → Type 0) (test : X → Bool) (xs : List X) (c : X) → All P xs → find test xs ≡ Some c → P c
all_found {X} P test xs c all f =
    let r = found_contains test xs c f in subst P r.2 (all r.0 c r.1)

pub stored_stamp : (offers : List Offered) (s : Stamp) (b : Offered) → stored offers s ≡ Some b → s ≡ b.stamp
stored_stamp offers s b f = same_is s b.stamp (found_passes (has_stamp s) offers b f)

-- ---- one block more
-- the path below a block
abbrev pub below : Choices → Offered → Path
below v b = path v.offers b.stamp.number b.previous

pub path_tip : (v : Choices) (b : Offered) → IsFound v.offers b → path_of v b ≡ with_tip b (below v b)
path_tip v b f = ap (λ o. option_map_or (λ c. with_tip c (path v.offers b.stamp.number c.previous)) o (ends (Some b.stamp))) f

pub height_failed : (v : Choices) (b : Offered) → IsFound v.offers b → is_among v.failed b.stamp ≡ true → height_of v (path_of v b) ≡ None
height_failed v b f e =
    ap (height_of v) (path_tip v b f) ∙ by (is_detached v (below v b)) (is_among v.failed b.stamp) (has_failed v (below v b)) (height_under (below v b)) e
  where
    by : (d a h : Bool) (n : ℕ) → a ≡ true → cond (d || (a || h)) None (Some n) ≡ None
    by true a h n e = refl
    by false true h n e = refl
    by false false h n e = absurd (true≢false (sym e))

pub height_sound : (v : Choices) (b : Offered) → IsFound v.offers b → is_among v.failed b.stamp ≡ false → height_of v (path_of v b) ≡ height_of v (below v b)
height_sound v b f e =
    ap (height_of v) (path_tip v b f) ∙ ap (λ a. cond (is_detached v (below v b) || (a || has_failed v (below v b))) None (Some (height_under (below v b)))) e

path_none : (offers : List Offered) (n : ℕ) → path offers n None ≡ ends None
path_none offers zero = refl
path_none offers (suc n) = refl

pub height_first : (v : Choices) (b : Offered) → IsFound v.offers b → b.previous ≡ None → is_among v.failed b.stamp ≡ false → height_of v (path_of v b) ≡ Some 0
height_first v b f p e =
    height_sound v b f e ∙ ap (λ o. height_of v (path v.offers b.stamp.number o)) p ∙ ap (height_of v) (path_none v.offers b.stamp.number)

-- by what is known of the block before
pub height_next : (v : Choices) (b : Offered) (s : Stamp) → IsFound v.offers b → IsNumbered b → b.previous ≡ Some s → is_among v.failed b.stamp ≡ false
    → height_of v (path_of v b) ≡ option_map_or (λ h. h) (height_at v s) (cond (is_among v.recent s) (Some (s.number + 1)) None)
height_next v b s f numbered p e =
    let n : suc s.number ≡ b.stamp.number = sym (add-one s.number) ∙ ap (λ o. option_map_or (λ (s : Stamp). s.number + 1) o 0) (sym p) ∙ numbered in
    height_sound v b f e ∙ ap (λ o. height_of v (path v.offers b.stamp.number o)) p ∙ ap (λ m. height_of v (path v.offers m (Some s))) (sym n) ∙ by (stored v.offers s) refl
  where
    by : (o : Option Offered) → stored v.offers s ≡ o
        → height_of v (option_map_or (λ b. with_tip b (path v.offers s.number b.previous)) (stored v.offers s) (ends (Some s)))
        ≡ option_map_or (λ h. h) (option_map (λ b. height_of v (path_of v b)) (stored v.offers s)) (cond (is_among v.recent s) (Some (s.number + 1)) None)
    by None g =
        ap (λ o. height_of v (option_map_or (λ b. with_tip b (path v.offers s.number b.previous)) o (ends (Some s)))) g
        ∙ flip (is_among v.recent s) (s.number + 1)
        ∙ sym (ap (λ o. option_map_or (λ h. h) (option_map (λ b. height_of v (path_of v b)) o) (cond (is_among v.recent s) (Some (s.number + 1)) None)) g)
      where
        flip : (r : Bool) (n : ℕ) → cond (not r || false) None (Some n) ≡ cond r (Some n) None
        flip true n = refl
        flip false n = refl
    by (Some c) g =
        ap (λ t. height_of v (path v.offers (suc t.number) (Some t))) (stored_stamp v.offers s c g)
        ∙ sym (ap (λ o. option_map_or (λ h. h) (option_map (λ b. height_of v (path_of v b)) o) (cond (is_among v.recent s) (Some (s.number + 1)) None)) g)

-- where so much is known of the stamps before
module _ (v : Choices) (G : Stamp → Option (Option ℕ)) (b : Offered) (s : Stamp) (f : IsFound v.offers b) (numbered : IsNumbered b) (p : b.previous ≡ Some s)
    (e : is_among v.failed b.stamp ≡ false) (known : MatchOption b.previous (Unit {0}) (λ s. G s ≡ height_at v s)) where
  at_before : G s ≡ height_at v s
  at_before = subst (λ (o : Option Stamp). MatchOption o (Unit {0}) (λ s. G s ≡ height_at v s)) p known

  pub height_known : (h : Option ℕ) → Some h ≡ G s → h ≡ height_of v (path_of v b)
  height_known h g =
      sym (height_next v b s f numbered p e ∙ ap (λ o. option_map_or (λ h. h) o (cond (is_among v.recent s) (Some (s.number + 1)) None)) (sym (g ∙ at_before)))

  pub height_unknown : None ≡ G s → cond (is_among v.recent s) (Some b.stamp.number) None ≡ height_of v (path_of v b)
  height_unknown g =
      ap (λ n. cond (is_among v.recent s) (Some n) None) (sym (ap (λ o. option_map_or (λ (s : Stamp). s.number + 1) o 0) (sym p) ∙ numbered))
      ∙ sym (height_next v b s f numbered p e ∙ ap (λ o. option_map_or (λ h. h) o (cond (is_among v.recent s) (Some (s.number + 1)) None)) (sym (g ∙ at_before)))

-- ---- how long a path is
abbrev pub after : Option Stamp → ℕ
after o = option_map_or (λ (s : Stamp). s.number + 1) o 0

pub path_long : (offers : List Offered) → All IsNumbered offers → (n : ℕ) (o : Option Stamp) → after o ≡ n → length (path offers n o).blocks + height_under (path offers n o) ≡ n
path_long offers all zero o e = omega (arith, e)
path_long offers all (suc n) None e = omega (arith, e)
path_long offers all (suc n) (Some s) e =
    elim (stored offers s) as (λ r. stored offers s ≡ r
    → length (option_map_or (λ b. with_tip b (path offers n b.previous)) r (ends (Some s))).blocks
    + height_under (option_map_or (λ b. with_tip b (path offers n b.previous)) r (ends (Some s))) ≡ suc n) [
      | None ↦ λ g. omega arith
      | Some c ↦ λ g.
          let here : s.number ≡ c.stamp.number = ap (λ (t : Stamp). t.number) (stored_stamp offers s c g) in
          let numbered : after c.previous ≡ c.stamp.number = all_found IsNumbered (has_stamp s) offers c all g in
          let rest = path_long offers all n c.previous (omega arith) in
          omega arith
    ] refl

pub path_of_long : (v : Choices) → All IsNumbered v.offers → (b : Offered) → length (path_of v b).blocks + height_under (path_of v b) ≡ b.stamp.number + 1
path_of_long v all b = path_long v.offers all (suc b.stamp.number) (Some b.stamp) (omega arith) ∙ sym (add-one b.stamp.number)

-- a candidate stands somewhere, and is told by where
pub candidate_none : (v : Choices) (b : Offered) → None ≡ height_of v (path_of v b) → is_candidate v b ≡ false
candidate_none v b e = by (nat_le (v.length + 2) b.stamp.number) (is_detached v (path_of v b)) _ _ (has_failed v (path_of v b)) _ e
  where
    by : (n d k s h : Bool) (x : ℕ) → None ≡ cond (d || h) None (Some x) → (n && (not d && (k && (s && not h)))) ≡ false
    by false d k s h x e = refl
    by true true k s h x e = refl
    by true false false s h x e = refl
    by true false true false h x e = refl
    by true false true true true x e = refl
    by true false true true false x e = cc

pub candidate_at : (v : Choices) → All IsNumbered v.offers → (b : Offered) (h : ℕ) → Some h ≡ height_of v (path_of v b)
    → (nat_le (v.length + 2) b.stamp.number && (nat_le (v.length - h) v.kept && nat_le ((length v.offers - (b.stamp.number + 1 - h)) + (v.length - h)) most_stored)) ≡ is_candidate v b
candidate_at v all b h e =
    let long = path_of_long v all b in
    by (nat_le (v.length + 2) b.stamp.number) (is_detached v (path_of v b)) (has_failed v (path_of v b)) (height_under (path_of v b)) (length (path_of v b).blocks) e long
  where
    by : (n d f : Bool) (x m : ℕ) → Some h ≡ cond (d || f) None (Some x) → m + x ≡ b.stamp.number + 1
        → (n && (nat_le (v.length - h) v.kept && nat_le ((length v.offers - (b.stamp.number + 1 - h)) + (v.length - h)) most_stored))
        ≡ (n && (not d && (nat_le (v.length - x) v.kept && (nat_le ((length v.offers - m) + (v.length - x)) most_stored && not f))))
    by n true f x m e l = cc
    by n false true x m e l = cc
    by n false false x m e l =
        let here : h ≡ x = same_some h x e in
        let rest : b.stamp.number + 1 - h ≡ m = omega arith in
        ap (λ m. n && (nat_le (v.length - h) v.kept && nat_le ((length v.offers - m) + (v.length - h)) most_stored)) rest
        ∙ ap (λ y. n && (nat_le (v.length - y) v.kept && nat_le ((length v.offers - m) + (v.length - y)) most_stored)) here
        ∙ ap (λ r. n && (nat_le (v.length - x) v.kept && r)) (and_true (nat_le ((length v.offers - m) + (v.length - x)) most_stored))
      where
        and_true : (r : Bool) → r ≡ (r && true)
        and_true true = refl
        and_true false = refl

pub height_low : (v : Choices) → All IsNumbered v.offers → (b : Offered) → IsFound v.offers b → (h : ℕ) → Some h ≡ height_of v (path_of v b) → h ≤ b.stamp.number
height_low v all b f h e =
    by (is_detached v (path_of v b)) (has_failed v (path_of v b)) _ e (path_of_long v all b) (ap (λ (p : Path). length p.blocks) (path_tip v b f))
  where
    by : (d g : Bool) (x : ℕ) → Some h ≡ cond (d || g) None (Some x) → length (path_of v b).blocks + x ≡ b.stamp.number + 1
        → length (path_of v b).blocks ≡ length (b ∷ (below v b).blocks) → h ≤ b.stamp.number
    by true g x e l t = cc
    by false true x e l t = cc
    by false false x e l t = let here : h ≡ x = same_some h x e in omega arith

-- what is known of the stamp of a stored block
pub height_here : (v : Choices) (b : Offered) → IsFound v.offers b → (h : Option ℕ) → Some h ≡ height_at v b.stamp → h ≡ height_of v (path_of v b)
height_here v b f h e = same_some h _ (e ∙ ap (option_map (λ b. height_of v (path_of v b))) f)

-- the path as a relation has one answer, which the function gives
pub path_is : (offers : List Offered) → All IsNumbered offers → (s : Stamp) (blocks : List Offered) (end : Option Stamp) → IsPath offers s blocks end
    → (n : ℕ) → n ≡ suc s.number → path offers n (Some s) ≡ record { blocks = blocks; end = end }
path_is offers all s blocks end p zero e = absurd (omega arith)
path_is offers all s [] end p (suc n) e =
    ap (λ o. option_map_or (λ b. with_tip b (path offers n b.previous)) o (ends (Some s))) p.0 ∙ ap ends (sym p.1)
path_is offers all s (b ∷ bs) end p (suc n) e =
    let here : s.number ≡ b.stamp.number = ap (λ (t : Stamp). t.number) (stored_stamp offers s b p.0) in
    let numbered : after b.previous ≡ b.stamp.number = all_found IsNumbered (has_stamp s) offers b all p.0 in
    ap (λ o. option_map_or (λ b. with_tip b (path offers n b.previous)) o (ends (Some s))) p.0
    ∙ elim b.previous as (λ o. after o ≡ b.stamp.number → MatchOption o ((bs ≡ []) × (end ≡ None)) (λ t. IsPath offers t bs end) → with_tip b (path offers n o) ≡ record { blocks = b ∷ bs; end = end }) [
      | None ↦ λ m q.
          let l = q.0 in
          let f = q.1 in
          ap (with_tip b) (path_none offers n) ∙ sym (λ i. record { blocks = b ∷ l i; end = f i })
      | Some t ↦ λ m q. ap (with_tip b) (path_is offers all t bs end q n (omega arith))
    ] numbered p.1

-- a branch that is longer than the chain by two blocks fits into the store behind the switch
pub fits_always : (v : Choices) → AreOffers v.offers → v.kept ≤ most_stored → (b : Offered) → v.length + 2 ≤ b.stamp.number → behind v (path_of v b) ≤ v.kept
    → stored_then v (path_of v b) ≤ most_stored
fits_always v offers k b n d =
    by (length v.offers) (length (path_of v b).blocks) (height_under (path_of v b)) offers.few (path_of_long v offers.numbered b) d
  where
    by : (f m h : ℕ) → f ≤ 1024 → m + h ≡ b.stamp.number + 1 → v.length - h ≤ v.kept → (f - m) + (v.length - h) ≤ 1024
    by f m h l e d = omega arith
