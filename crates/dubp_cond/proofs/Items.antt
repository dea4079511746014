-- An item is found, and read again, where the conditions in its groups are.
use Rattle.std.proofs.Common.{◌≡◌, ℕ, ◌+◌, ◌≤◌, true, inl, inr, List, ◌∷◌, ◌++◌, codes, Option, Some, None, option_map, refl, sym, ap, ◌∙◌, arith, append_assoc, decimal}
use Rattle.dubp_atoms.specs.Letters.{is_key, is_hash}
use Rattle.dubp_atoms.specs.Reading.{◌>>=◌, text_if, number_of}
use Rattle.dubp_atoms.specs.Spelling.{IsNumber}
use Rattle.dubp_atoms.proofs.Numbers.{bind_some, number_found, number_again}
use Rattle.dubp_atoms.proofs.Fields.{text_found, text_again}
use Rattle.dubp_atoms.proofs.Stamps.{IsApart, number_lacks, key_lacks, hash_lacks}
use Rattle.dubp_cond.specs.Tree.{ItemTree, sig, xhx, csv, cltv, group, CondTree, depth_of_item, depth}
use Rattle.dubp_cond.specs.Conditions.{and_word, or_word, item_text, cond_text, FitsItem, FitsCond}
use Rattle.dubp_cond.specs.Separated.{Read, after, read_map, closed}
use Rattle.dubp_cond.specs.Finding.{Finds, Again}
use Rattle.dubp_cond.specs.Reading.{group_with, leaf_at, front_at, item_on, item_with}
use Rattle.dubp_cond.proofs.Readers.{map_some, either_some, after_found, Unparses, with_end, closed_finds, closed_again}

-- no atom has a `)` in it
pub closing : IsApart 41
closing = record { some = omega arith; key = refl; hash = refl; sig = refl; uid = refl; currency = refl; digit = refl; sign = λ e. omega arith; dash = λ e. omega arith }

abbrev pub itself : List ℕ → List ℕ
itself t = t

pub key_unparses : Unparses (text_if is_key) itself (λ t. is_key t ≡ true)
key_unparses t h = (text_again is_key t h, key_lacks 41 closing t h)

pub hash_unparses : Unparses (text_if is_hash) itself (λ t. is_hash t ≡ true)
hash_unparses t h = (text_again is_hash t h, hash_lacks 41 closing t h)

pub number_unparses : Unparses number_of decimal IsNumber
number_unparses n h = (number_again n h, number_lacks 41 closing n h)

-- an item that fits, with at most so many groups open at once
abbrev pub GoodItem : ℕ → ItemTree → Type 0
GoodItem d i = FitsItem i × (depth_of_item i ≤ d)

-- what a group of such an item may hold
abbrev pub GoodInner : ℕ → CondTree → Type 0
GoodInner d c = FitsCond c × (depth c + 1 ≤ d)

-- what a front is, and what is left behind it
abbrev Fronts : ℕ → List ℕ → Option ItemTree → List ℕ → Type 0
Fronts d text (Some i) rest = (text ≡ item_text i ++ rest) × GoodItem d i
Fronts d text None rest = text ≡ codes "(" ++ rest

tagged : {A : Type 0} (word : List ℕ) (read : Read A) (make : A → ItemTree) (spell : A → List ℕ) (Good : A → Type 0) (d : ℕ) → Finds read spell Good →
    ((x : A) → Good x → GoodItem d (make x)) → ((x : A) → word ++ spell x ≡ item_text (make x)) →
    (text : List ℕ) (i : ItemTree) (rest : List ℕ) → (r : List ℕ) × (after word text ≡ Some r) × (read_map make (read r) ≡ Some (i, rest)) →
    (text ≡ item_text i ++ rest) × GoodItem d i
tagged {A} word read make spell Good d finds good spells text i rest a =
    let m = map_some (λ (p : A × List ℕ). (make p.0, p.1)) (read a.0) (i, rest) a.2 in
    let f = finds a.0 m.0.0 m.0.1 m.1 in
    done m.0.0 a.0 m.0.1 (after_found word text a.0 a.1) f.0 f.1 (ap (λ p. p.0) m.2) (ap (λ p. p.1) m.2)
  where
    done : (x : A) (r at : List ℕ) → text ≡ word ++ r → r ≡ spell x ++ at → Good x → make x ≡ i → at ≡ rest → (text ≡ item_text i ++ rest) × GoodItem d i
    done x r at w f g e s = rw (← e, ← s) (w ∙ ap (λ v. word ++ v) f ∙ sym (append_assoc word (spell x) at) ∙ ap (λ v. v ++ at) (spells x), good x g)

module _ (d : ℕ) (text : List ℕ) where
  pub leaf_found : (i : ItemTree) (rest : List ℕ) → leaf_at text ≡ Some (i, rest) → (text ≡ item_text i ++ rest) × GoodItem d i
  leaf_found i rest h =
      elim (either_some (after (codes "SIG(") text) _ _ (i, rest) h) [
        | inl a ↦ tagged (codes "SIG(") (closed (text_if is_key)) sig (with_end itself) (λ k. is_key k ≡ true) d (closed_finds (text_if is_key) itself (λ k. is_key k ≡ true) (text_found is_key))
            (λ k g. (g, omega arith)) (λ k. refl) text i rest a
        | inr h ↦
            elim (either_some (after (codes "XHX(") text) _ _ (i, rest) h) [
              | inl a ↦ tagged (codes "XHX(") (closed (text_if is_hash)) xhx (with_end itself) (λ k. is_hash k ≡ true) d (closed_finds (text_if is_hash) itself (λ k. is_hash k ≡ true) (text_found is_hash))
                  (λ k g. (g, omega arith)) (λ k. refl) text i rest a
              | inr h ↦
                  elim (either_some (after (codes "CSV(") text) _ _ (i, rest) h) [
                    | inl a ↦ tagged (codes "CSV(") (closed number_of) csv (with_end decimal) IsNumber d (closed_finds number_of decimal IsNumber number_found)
                        (λ k g. (g, omega arith)) (λ k. refl) text i rest a
                    | inr h ↦
                        elim (either_some (after (codes "CLTV(") text) _ None (i, rest) h) [
                          | inl a ↦ tagged (codes "CLTV(") (closed number_of) cltv (with_end decimal) IsNumber d (closed_finds number_of decimal IsNumber number_found)
                              (λ k g. (g, omega arith)) (λ k. refl) text i rest a
                          | inr h ↦ absurd cc
                        ]
                  ]
            ]
      ]

  pub front_found : (o : Option ItemTree) (rest : List ℕ) → front_at text ≡ Some (o, rest) → Fronts d text o rest
  front_found o rest h =
      elim (either_some (after (codes "(") text) _ _ (o, rest) h) [
        | inl a ↦
            let p : ◌≡◌ {A = Option ItemTree × List ℕ} (None, a.0) (o, rest) = cc in
            rw (← ap (λ q. q.0) p, ← ap (λ q. q.1) p) (after_found (codes "(") text a.0 a.1)
        | inr h ↦
            let m = map_some (λ (p : ItemTree × List ℕ). (Some p.0, p.1)) (leaf_at text) (o, rest) h in
            leaf m.0.0 m.0.1 (leaf_found m.0.0 m.0.1 m.1) (ap (λ q. q.0) m.2) (ap (λ q. q.1) m.2)
      ]
    where
      leaf : (i : ItemTree) (at : List ℕ) → (text ≡ item_text i ++ at) × GoodItem d i → Some i ≡ o → at ≡ rest → Fronts d text o rest
      leaf i at f e s = rw (← e, ← s) f

module _ (inner : Read CondTree) (d : ℕ) where
  group_found : Finds inner cond_text (GoodInner d) → (text r : List ℕ) (i : ItemTree) (rest : List ℕ) → text ≡ codes "(" ++ r → group_with inner r ≡ Some (i, rest) →
      (text ≡ item_text i ++ rest) × GoodItem d i
  group_found finds text r i rest w h =
      let b = bind_some (inner r) (λ (c : CondTree × List ℕ). option_map (λ rest. (group c.0, rest)) (after (codes ")") c.1)) (i, rest) h in
      let f = finds r b.0.0 b.0.1 b.1 in
      let m = map_some (λ (rest : List ℕ). (group b.0.0, rest)) (after (codes ")") b.0.1) (i, rest) b.2 in
      done b.0.0 b.0.1 m.0 f.0 f.1 (after_found (codes ")") b.0.1 m.0 m.1) (ap (λ p. p.0) m.2) (ap (λ p. p.1) m.2)
    where
      done : (c : CondTree) (at end : List ℕ) → r ≡ cond_text c ++ at → GoodInner d c → at ≡ codes ")" ++ end → group c ≡ i → end ≡ rest →
          (text ≡ item_text i ++ rest) × GoodItem d i
      done c at end f g z e s = rw (← e, ← s) (w ∙ ap (λ v. 40 ∷ v) (f ∙ ap (λ v. cond_text c ++ v) z ∙ sym (append_assoc (cond_text c) (codes ")") end)), g)

  on_found : Finds inner cond_text (GoodInner d) → (text r : List ℕ) (o : Option ItemTree) → Fronts d text o r → (i : ItemTree) (rest : List ℕ) → item_on inner o r ≡ Some (i, rest) →
      (text ≡ item_text i ++ rest) × GoodItem d i
  on_found finds text r None w i rest h = group_found finds text r i rest w h
  on_found finds text r (Some j) w i rest h =
      let p : ◌≡◌ {A = ItemTree × List ℕ} (j, r) (i, rest) = cc in
      rw (← ap (λ q. q.0) p, ← ap (λ q. q.1) p) w

  pub item_with_finds : Finds inner cond_text (GoodInner d) → Finds (item_with inner) item_text (GoodItem d)
  item_with_finds finds text i rest h =
      let b = bind_some (front_at text) (λ (p : Option ItemTree × List ℕ). item_on inner p.0 p.1) (i, rest) h in
      on_found finds text b.0.1 b.0.0 (front_found d text b.0.0 b.0.1 b.1) i rest b.2

  -- what follows a condition is neither of the words between its parts
  pub item_with_again : Again inner cond_text (GoodInner d) (λ rest. (after and_word rest ≡ None) × (after or_word rest ≡ None)) → Again (item_with inner) item_text (GoodItem d) (λ rest. Unit {0})
  item_with_again again (sig k) rest good ends = ap (λ o. read_map (λ i. Some i) (read_map (λ x. sig x) o) >>= (λ p. item_on inner p.0 p.1)) (closed_again (text_if is_key) itself (λ t. is_key t ≡ true) key_unparses k rest good.0 tt)
  item_with_again again (xhx k) rest good ends = ap (λ o. read_map (λ i. Some i) (read_map (λ x. xhx x) o) >>= (λ p. item_on inner p.0 p.1)) (closed_again (text_if is_hash) itself (λ t. is_hash t ≡ true) hash_unparses k rest good.0 tt)
  item_with_again again (csv n) rest good ends = ap (λ o. read_map (λ i. Some i) (read_map (λ x. csv x) o) >>= (λ p. item_on inner p.0 p.1)) (closed_again number_of decimal IsNumber number_unparses n rest good.0 tt)
  item_with_again again (cltv n) rest good ends = ap (λ o. read_map (λ i. Some i) (read_map (λ x. cltv x) o) >>= (λ p. item_on inner p.0 p.1)) (closed_again number_of decimal IsNumber number_unparses n rest good.0 tt)
  item_with_again again (group c) rest good ends =
      ap (group_with inner) (append_assoc (cond_text c) (codes ")") rest) ∙ rw (again c (41 ∷ rest) good (refl, refl)) refl
