-- A walk over one owner's pairs by the next above the last, and the list that it goes through: those of the rows up to the last.
use Rattle.std.proofs.Common.{◌≡◌, Bool, true, false, not, cond, ◌&&◌, List, [], ◌∷◌, ◌++◌, Option, Some, None, filter, refl, ap, sym, ◌∙◌, subst, true≢false, inl, inr}
use Rattle.std.specs.Prelude.{is_some, ⊤, ◌⊎◌}
use Rattle.std.specs.Cmp.Lexicographic.{nat_list_cmp_total}
use Rattle.std.specs.List.{AllByRecursion}
use Rattle.std.specs.Ordering.{is_lt, ordering_reverse}
use Rattle.std.specs.declared.cmp.Ordering.TheVariants.{Less, Equal, Greater}
use Rattle.std.proofs.lemmas.Option.{none-some}
use Rattle.dubp_atoms.specs.Same.{Text}
use Rattle.dubp_undo.specs.MovingTable.{get}
use Rattle.dubp_cindex.specs.declared.row.CertRow.{CertRow}
use Rattle.dubp_cindex.specs.Orders.{text_cmp, Place, place_cmp, less, is_above}
use Rattle.dubp_cindex.specs.Following.{Follows}
use Rattle.dubp_cindex.specs.Rows.{Entry, lives, one_if}
use Rattle.dubp_cindex.proofs.Texts.{is_less, text_exact, text_itself}

abbrev pub IsIn : {X : Type 0} → X → List X → Type 0
IsIn x [] = ⊥
IsIn x (y ∷ ys) = (y ≡ x) ⊎ IsIn x ys

pub all_in : {X : Type 0} (P : X → Type 0) (x : X) (xs : List X) → AllByRecursion P xs → IsIn x xs → P x
all_in P x [] all there = absurd there
all_in P x (y ∷ ys) all (inl e) = subst P e all.0
all_in P x (y ∷ ys) all (inr there) = all_in P x ys all.1 there

-- each key above one that is above `after` is so too
above_more : (after : Option Text) (k a : Text) → is_above after k ≡ true → text_cmp k a ≡ Less → is_above after a ≡ true
above_more None k a h f = refl
above_more (Some b) k a h f = ap is_lt (nat_list_cmp_total.trans b k a (is_less _ h) f)

not_itself : (k : Text) → is_above (Some k) k ≡ false
not_itself k = ap is_lt (text_itself k)

not_back : (k a : Text) → text_cmp k a ≡ Less → less a k ≡ false
not_back k a h = ap is_lt (nat_list_cmp_total.antisymm a k) ∙ ap (λ r. is_lt (ordering_reverse r)) h

-- a key that is neither this one nor before it stands behind it
pub apart_above : (k a : Text) → (a ≡ k → ⊥) → less a k ≡ false → is_above (Some k) a ≡ true
apart_above k a apart not_less =
    elim (text_cmp k a) as (λ o. text_cmp k a ≡ o → is_lt o ≡ true) [
      | Less ↦ λ _. refl
      | Equal ↦ λ e. absurd (apart (sym (text_exact k a e)))
      | Greater ↦ λ e. absurd (true≢false (sym (ap is_lt (nat_list_cmp_total.antisymm a k) ∙ ap (λ r. is_lt (ordering_reverse r)) e) ∙ not_less))
    ] refl

-- what is not above `after` is not above a key that is
not_above_more : (after : Option Text) (k a : Text) → is_above after k ≡ true → is_above after a ≡ false → is_above (Some k) a ≡ false
not_above_more after k a above not_above =
    elim (is_above (Some k) a) as (λ t. is_above (Some k) a ≡ t → t ≡ false) [
      | true ↦ λ h. absurd (true≢false (sym (above_more after k a above (is_less _ h)) ∙ not_above))
      | false ↦ λ h. refl
    ] refl

module _ (P : Entry → Bool) (pos : Entry → Text) where
  -- those that pass rise strictly
  abbrev pub Climbs : List Entry → Type 0
  Climbs [] = ⊤
  Climbs (e ∷ es) = (P e ≡ true → AllByRecursion (λ x. P x ≡ true → text_cmp (pos e) (pos x) ≡ Less) es) × Climbs es

  -- those that pass, up to a key
  abbrev pub up_to : Option Text → List Entry → List Entry
  up_to after es = filter (λ e. P e && not (is_above after (pos e))) es

  pub up_to-none : (es : List Entry) → up_to None es ≡ []
  up_to-none [] = refl
  up_to-none (e ∷ es) = elim (P e) as (λ b. cond (b && false) (e ∷ up_to None es) (up_to None es) ≡ []) [ true ↦ up_to-none es | false ↦ up_to-none es ]

  all_above : (after : Option Text) (es : List Entry) → AllByRecursion (λ x. P x ≡ true → is_above after (pos x) ≡ true) es → up_to after es ≡ []
  all_above after [] all = refl
  all_above after (e ∷ es) all =
      elim (P e) as (λ b. P e ≡ b → cond (b && not (is_above after (pos e))) (e ∷ up_to after es) (up_to after es) ≡ []) [
        | true ↦ λ p. ap (λ t. cond (not t) (e ∷ up_to after es) (up_to after es)) (all.0 p) ∙ all_above after es all.1
        | false ↦ λ p. all_above after es all.1
      ] refl

  weaken : {Q R : Entry → Type 0} → ((x : Entry) → Q x → R x) → (es : List Entry) → AllByRecursion Q es → AllByRecursion R es
  weaken f [] all = tt
  weaken f (e ∷ es) all = (f e all.0, weaken f es all.1)

  pub up_to-next : (after : Option Text) (e : Entry) (es : List Entry) → Climbs es → IsIn e es → P e ≡ true → is_above after (pos e) ≡ true
      → ((x : Entry) → IsIn x es → P x ≡ true → is_above after (pos x) ≡ true → less (pos x) (pos e) ≡ false) → up_to (Some (pos e)) es ≡ up_to after es ++ e ∷ []
  up_to-next after e [] c there p above least = absurd there
  up_to-next after e (x ∷ es) c (inl same) p above least =
      let first : P x ≡ true = ap P same ∙ p in
      let rest = c.0 first in
      let apart : AllByRecursion (λ y. P y ≡ true → text_cmp (pos e) (pos y) ≡ Less) es = subst (λ z. AllByRecursion (λ y. P y ≡ true → text_cmp (pos z) (pos y) ≡ Less) es) same rest in
      (λ i. cond (first i && not (is_above (Some (pos e)) (pos (same i)))) (same i ∷ up_to (Some (pos e)) es) (up_to (Some (pos e)) es))
      ∙ ap (λ t. cond (not t) (e ∷ up_to (Some (pos e)) es) (up_to (Some (pos e)) es)) (not_itself (pos e))
      ∙ ap (λ l. e ∷ l) (all_above (Some (pos e)) es (weaken (λ y f q. ap is_lt (f q)) es apart))
      ∙ sym ((λ i. cond (first i && not (is_above after (pos (same i)))) (same i ∷ up_to after es) (up_to after es) ++ e ∷ [])
      ∙ ap (λ t. cond (not t) (e ∷ up_to after es) (up_to after es) ++ e ∷ []) above
      ∙ ap (λ l. l ++ e ∷ []) (all_above after es (weaken (λ y f q. above_more after (pos e) (pos y) above (f q)) es apart)))
  up_to-next after e (x ∷ es) c (inr there) p above least =
      let rest = up_to-next after e es c.1 there p above (λ y in_es. least y (inr in_es)) in
      elim (P x) as (λ b. P x ≡ b → cond (b && not (is_above (Some (pos e)) (pos x))) (x ∷ up_to (Some (pos e)) es) (up_to (Some (pos e)) es)
      ≡ cond (b && not (is_above after (pos x))) (x ∷ up_to after es) (up_to after es) ++ e ∷ []) [
        | true ↦ λ q.
            let before : text_cmp (pos x) (pos e) ≡ Less = all_in (λ y. P y ≡ true → text_cmp (pos x) (pos y) ≡ Less) e es (c.0 q) there p in
            let behind : is_above (Some (pos e)) (pos x) ≡ false = not_back (pos x) (pos e) before in
            let passed : is_above after (pos x) ≡ false = elim (is_above after (pos x)) as (λ t. is_above after (pos x) ≡ t → t ≡ false) [
              | true ↦ λ h. absurd (true≢false (sym (ap is_lt before) ∙ least x (inl refl) q h))
              | false ↦ λ h. refl
            ] refl in
            ap (λ t. cond (not t) (x ∷ up_to (Some (pos e)) es) (up_to (Some (pos e)) es)) behind
            ∙ ap (λ l. x ∷ l) rest
            ∙ sym (ap (λ t. cond (not t) (x ∷ up_to after es) (up_to after es) ++ e ∷ []) passed)
        | false ↦ λ q. rest
      ] refl

  -- no entry that passes stands at the key, nor between `after` and it
  pub up_to-same : (after : Option Text) (k : Text) (es : List Entry) → is_above after k ≡ true
      → ((x : Entry) → IsIn x es → P x ≡ true → is_above after (pos x) ≡ true → is_above (Some k) (pos x) ≡ true) → up_to (Some k) es ≡ up_to after es
  up_to-same after k [] above more = refl
  up_to-same after k (e ∷ es) above more =
      let rest = up_to-same after k es above (λ x there. more x (inr there)) in
      elim (P e) as (λ b. P e ≡ b → cond (b && not (is_above (Some k) (pos e))) (e ∷ up_to (Some k) es) (up_to (Some k) es) ≡ cond (b && not (is_above after (pos e))) (e ∷ up_to after es) (up_to after es)) [
        | true ↦ λ q.
            elim (is_above after (pos e)) as (λ t. is_above after (pos e) ≡ t → cond (not (is_above (Some k) (pos e))) (e ∷ up_to (Some k) es) (up_to (Some k) es) ≡ cond (not t) (e ∷ up_to after es) (up_to after es)) [
              | true ↦ λ h. ap (λ t. cond (not t) (e ∷ up_to (Some k) es) (up_to (Some k) es)) (more e (inl refl) q h) ∙ rest
              | false ↦ λ h. ap (λ t. cond (not t) (e ∷ up_to (Some k) es) (up_to (Some k) es)) (not_above_more after k (pos e) above h) ∙ ap (λ l. e ∷ l) rest
            ] refl
        | false ↦ λ q. rest
      ] refl

  pub up_to-all : (after : Option Text) (es : List Entry) → ((x : Entry) → IsIn x es → P x ≡ true → is_above after (pos x) ≡ false) → up_to after es ≡ filter P es
  up_to-all after [] none = refl
  up_to-all after (e ∷ es) none =
      let rest = up_to-all after es (λ x there. none x (inr there)) in
      elim (P e) as (λ b. P e ≡ b → cond (b && not (is_above after (pos e))) (e ∷ up_to after es) (up_to after es) ≡ cond b (e ∷ filter P es) (filter P es)) [
        | true ↦ λ q. ap (λ t. cond (not t) (e ∷ up_to after es) (up_to after es)) (none e (inl refl) q) ∙ ap (λ l. e ∷ l) rest
        | false ↦ λ q. rest
      ] refl

  -- the entries that pass, as the owner's table has them
  module _ (es : List Entry) (make : Text → CertRow → Entry) (view : Text → Option CertRow)
      (place : (a : Text) (r : CertRow) → pos (make a r) ≡ a)
      (shown : (a : Text) (r : CertRow) → view a ≡ Some r → r.live ≡ true → IsIn (make a r) es × (P (make a r) ≡ true))
      (shows : (x : Entry) → IsIn x es → P x ≡ true → lives (view (pos x)) ≡ true) (climbs : Climbs es) where
    has_one : (o : Option CertRow) → one_if (lives o) ≡ Some tt → (r : CertRow) × (o ≡ Some r) × (r.live ≡ true)
    has_one None h = absurd (none-some tt h)
    has_one (Some r) h = (r, refl, elim (r.live) as (λ b. one_if b ≡ Some tt → b ≡ true) [ true ↦ λ _. refl | false ↦ λ n. absurd (none-some tt n) ] h)

    pub walk-next : (m : List (Place × Unit {0})) (owner : Text) → ((a : Text) → get place_cmp m (owner, Some a) ≡ one_if (lives (view a))) → (after : Option Text) (a : Text)
        → Follows m owner after (Some (a, tt)) → (r : CertRow) × (view a ≡ Some r) × (up_to (Some a) es ≡ up_to after es ++ make a r ∷ [])
    walk-next m owner is after a f =
        let one = has_one (view a) (sym (is a) ∙ f.0) in
        let r = one.0 in
        let there = shown a r one.1 one.2 in
        let at = place a r in
        let next = up_to-next after (make a r) es climbs there.0 there.1 (ap (is_above after) at ∙ f.1)
        (λ x in_es p above. ap (less (pos x)) at ∙ f.2 (pos x) above (ap is_some (is (pos x) ∙ ap one_if (shows x in_es p)))) in
        (r, one.1, ap (λ k. up_to (Some k) es) (sym at) ∙ next)

    pub walk-end : (m : List (Place × Unit {0})) (owner : Text) → ((a : Text) → get place_cmp m (owner, Some a) ≡ one_if (lives (view a))) → (after : Option Text) → Follows m owner after None → up_to after es ≡ filter P es
    walk-end m owner is after f =
        up_to-all after es (λ x in_es p. elim (is_above after (pos x)) as (λ t. is_above after (pos x) ≡ t → t ≡ false) [
          | true ↦ λ h. absurd (none-some tt (sym (f (pos x) h) ∙ is (pos x) ∙ ap one_if (shows x in_es p)))
          | false ↦ λ h. refl
        ] refl)
