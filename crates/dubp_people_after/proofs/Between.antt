-- A map from keys to the keys that they have a line with: one partner more under a key.
use Rattle.std.proofs.Common.{◌≡◌, Bool, true, false, cond, ◌&&◌, ◌||◌, [], ◌∷◌, ◌++◌, Option, Some, refl, sym, ap, ◌∙◌}
use Rattle.std.specs.Option.{option_map_or}
use Rattle.std.specs.Global.{Vec}
use Rattle.std.specs.List.{list_any}
use Rattle.std.proofs.lemmas.List.Folds.{list_any-append}
use Rattle.indexmap.specs.IndexMap.{IndexMap, get}
use Rattle.dubp_atoms.specs.Same.{Text, same_text}
use Rattle.dubp_registry.proofs.OfLists.{same_text_is}
use Rattle.dubp_people_after.specs.Partners.{is_partner}
use Rattle.dubp_lists.proofs.OneMore.{text_flip}

-- a key put into a set that may have it
pub put_or : (t s : Bool) → cond t true s ≡ (s || t)
put_or true true = refl
put_or true false = refl
put_or false true = refl
put_or false false = refl

or_none : (t : Bool) → (t || false) ≡ t
or_none true = refl
or_none false = refl

abbrev is_among : Text → Option (Vec Text) → Bool
is_among y o = option_map_or (λ (v : Vec Text). list_any (same_text y) v.items) o false

module _ {S : Type 0} (map new : IndexMap Text (Vec Text) S) (key partner : Text) (partners : Vec Text)
    (put : (x : Text) → get same_text new x ≡ cond (same_text key x) (Some partners) (get same_text map x)) where
  -- under the key stand these, whatever stood there
  put_under : (x y : Text) → is_partner new x y ≡ cond (same_text x key) (list_any (same_text y) partners.items) (is_partner map x y)
  put_under x y =
      ap (is_among y) (put x ∙ ap (λ (t : Bool). cond t (Some partners) (get same_text map x)) (text_flip key x))
      ∙ elim (same_text x key) as (λ t. is_among y (cond t (Some partners) (get same_text map x)) ≡ cond t (list_any (same_text y) partners.items) (is_partner map x y)) [
        | true ↦ refl
        | false ↦ refl
      ]

  pub one_partner : partners.items ≡ partner ∷ [] → (x y : Text) → is_partner new x y ≡ cond (same_text x key) (same_text y partner) (is_partner map x y)
  one_partner items x y =
      put_under x y ∙ ap (λ (t : Bool). cond (same_text x key) t (is_partner map x y)) (ap (list_any (same_text y)) items ∙ or_none (same_text y partner))

  -- behind those of before stands the partner
  pub one_partner_more : (before : Vec Text) → Some before ≡ get same_text map key → partners.items ≡ before.items ++ partner ∷ []
      → (x y : Text) → is_partner new x y ≡ (is_partner map x y || (same_text x key && same_text y partner))
  one_partner_more before was items x y =
      put_under x y ∙ elim (same_text x key) as (λ t. same_text x key ≡ t → cond t (list_any (same_text y) partners.items) (is_partner map x y) ≡ (is_partner map x y || (t && same_text y partner))) [
        | true ↦ λ same.
            ap (list_any (same_text y)) items ∙ list_any-append (same_text y) before.items (partner ∷ [])
            ∙ (λ i. is_among y (was i) || or_none (same_text y partner) i) ∙ ap (λ k. is_partner map k y || same_text y partner) (sym (same_text_is x key same))
        | false ↦ λ _. sym (or_none (is_partner map x y))
      ] refl
