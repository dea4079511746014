-- The numbers of conditions in a list of texts: two that are there have one number only where they are one, and more texts behind
-- change none.
use Rattle.std.proofs.Common.{◌≡◌, ℕ, ◌+◌, ◌<◌, Bool, true, false, cond, not, ◌||◌, ◌==◌, List, [], ◌∷◌, ◌++◌, Some, None, map, filter, length, refl, ap, sym, ◌∙◌, subst, true≢false, arith}
use Rattle.std.specs.Prelude.{unwrap_or}
use Rattle.std.specs.List.{list_any, position_or_len}
use Rattle.std.proofs.lemmas.Bool.{lt-ltb}
use Rattle.std.proofs.lemmas.Bool.Decides.{Decides-eqb}
use Rattle.dubp_atoms.specs.Same.{Text, same_text}
use Rattle.dubp_cond.specs.Conditions.{cond_text}
use Rattle.dubp_block.specs.declared.block.Block.{Block}
use Rattle.dubp_chain.specs.Chains.{Chain}
use Rattle.dubp_chain.specs.Money.{Source, is_left, made_by, made_sources, cleared, unspent}
use Rattle.dubp_laws.proofs.OfLists.{is_false, IsIn, in_all, all_from_in, in_filter, in_left}
use Rattle.dubp_laws.proofs.OfLists.{same_text_is, same_text_own}
use Rattle.dubp_money_steps.specs.Steps.{rest, numbered, numbered_rest}
use Rattle.dubp_money_steps.specs.Left.{account_in, text_of, entries_of, HasTexts}
use Rattle.dubp_money_steps.specs.Laws.{SourcesStay, StatesStay}
use Rattle.dubp_money_steps.proofs.Entries.{TellsApart, rest_numbered, without_numbers, in_map_of}

-- the place of a text that is there

place_within : (p : Text → Bool) (texts : List Text) → list_any p texts ≡ true → position_or_len p texts < length texts
place_within p [] there = absurd (true≢false (sym there))
place_within p (x ∷ xs) there =
    elim (p x) as (λ r. (r || list_any p xs) ≡ true → cond (not r) (1 + position_or_len p xs) 0 < length (x ∷ xs)) [
      | true ↦ λ _. omega arith
      | false ↦ λ later. omega (arith, place_within p xs later)
    ] there

account_is : (texts : List Text) (t : Text) → list_any (same_text t) texts ≡ true → account_in texts t ≡ position_or_len (same_text t) texts
account_is texts t there =
    ap (λ r. unwrap_or (cond r (Some (position_or_len (same_text t) texts)) None) 0) (lt-ltb (position_or_len (same_text t) texts) (length texts) (place_within (same_text t) texts there))

place_stays : (p : Text → Bool) (texts more : List Text) → list_any p texts ≡ true → position_or_len p (texts ++ more) ≡ position_or_len p texts
place_stays p [] more there = absurd (true≢false (sym there))
place_stays p (x ∷ xs) more there =
    elim (p x) as (λ r. (r || list_any p xs) ≡ true → cond (not r) (1 + position_or_len p (xs ++ more)) 0 ≡ cond (not r) (1 + position_or_len p xs) 0) [
      | true ↦ λ _. refl
      | false ↦ λ later. ap (λ n. 1 + n) (place_stays p xs more later)
    ] there

any_more : (p : Text → Bool) (texts more : List Text) → list_any p texts ≡ true → list_any p (texts ++ more) ≡ true
any_more p [] more there = absurd (true≢false (sym there))
any_more p (x ∷ xs) more there =
    elim (p x) as (λ r. (r || list_any p xs) ≡ true → (r || list_any p (xs ++ more)) ≡ true) [ true ↦ λ _. refl | false ↦ λ later. any_more p xs more later ] there

-- more texts behind change no number
pub account_stays : (texts more : List Text) (t : Text) → list_any (same_text t) texts ≡ true → account_in (texts ++ more) t ≡ account_in texts t
account_stays texts more t there =
    account_is (texts ++ more) t (any_more (same_text t) texts more there) ∙ place_stays (same_text t) texts more there ∙ sym (account_is texts t there)

-- texts at one place are one
one_at : (texts : List Text) (t u : Text) → list_any (same_text t) texts ≡ true → list_any (same_text u) texts ≡ true
    → position_or_len (same_text t) texts ≡ position_or_len (same_text u) texts → t ≡ u
one_at [] t u there there' same = absurd (true≢false (sym there))
one_at (x ∷ xs) t u there there' same =
    elim (same_text t x) as (λ r. same_text t x ≡ r → (r || list_any (same_text t) xs) ≡ true → cond (not r) (1 + position_or_len (same_text t) xs) 0 ≡ position_or_len (same_text u) (x ∷ xs) → t ≡ u) [
      | true ↦ λ is _ at. first (same_text_is t x is) at
      | false ↦ λ is later at. second later (λ later' both. one_at xs t u later later' both) at
    ] refl there same
  where
    first : t ≡ x → 0 ≡ position_or_len (same_text u) (x ∷ xs) → t ≡ u
    first is at =
        elim (same_text u x) as (λ r. same_text u x ≡ r → 0 ≡ cond (not r) (1 + position_or_len (same_text u) xs) 0 → t ≡ u) [
          | true ↦ λ own _. is ∙ sym (same_text_is u x own)
          | false ↦ λ _ apart. absurd (omega (arith, apart))
        ] refl at

    second : list_any (same_text t) xs ≡ true → (list_any (same_text u) xs ≡ true → position_or_len (same_text t) xs ≡ position_or_len (same_text u) xs → t ≡ u)
        → 1 + position_or_len (same_text t) xs ≡ position_or_len (same_text u) (x ∷ xs) → t ≡ u
    second later one at =
        elim (same_text u x) as (λ r. (r || list_any (same_text u) xs) ≡ true → 1 + position_or_len (same_text t) xs ≡ cond (not r) (1 + position_or_len (same_text u) xs) 0 → t ≡ u) [
          | true ↦ λ _ apart. absurd (omega (arith, apart))
          | false ↦ λ later' both. one later' (omega (arith, both))
        ] there' at

apart_in : (texts : List Text) (t u : Text) → list_any (same_text t) texts ≡ true → list_any (same_text u) texts ≡ true
    → (account_in texts t == account_in texts u) ≡ same_text t u
apart_in texts t u there there' =
    elim (same_text t u) as (λ r. same_text t u ≡ r → (account_in texts t == account_in texts u) ≡ r) [
      | true ↦ λ same. (Decides-eqb (account_in texts t) (account_in texts u)).1 (ap (account_in texts) (same_text_is t u same))
      | false ↦ λ other. is_false (account_in texts t == account_in texts u) (λ same.
          let one : t ≡ u = one_at texts t u there there' (sym (account_is texts t there) ∙ (Decides-eqb (account_in texts t) (account_in texts u)).0 same ∙ account_is texts u there') in
          true≢false (sym (subst (λ w. same_text t w ≡ true) one (same_text_own t)) ∙ other))
    ] refl

-- the texts of sources, and of the sources with their places

abbrev HasText : List Text → Source → Type 0
HasText texts s = list_any (same_text (cond_text s.cond)) texts ≡ true

numbered_text : (texts : List Text) (qs : List (ℕ × Source)) → HasTexts texts (map (λ (q : ℕ × Source). q.1) qs) → (q : ℕ × Source) → IsIn q qs → list_any (same_text (text_of q)) texts ≡ true
numbered_text texts qs has q there = in_all (HasText texts) (map (λ (q : ℕ × Source). q.1) qs) has q.1 (in_map_of (λ (q : ℕ × Source). q.1) qs q there)

pub tells_apart : (texts : List Text) (qs : List (ℕ × Source)) → HasTexts texts (map (λ (q : ℕ × Source). q.1) qs) → TellsApart (account_in texts) qs
tells_apart texts qs has =
    all_from_in _ qs (λ x in_x. all_from_in _ qs (λ y in_y. apart_in texts (text_of x) (text_of y) (numbered_text texts qs has x in_x) (numbered_text texts qs has y in_y)))

entries_stay : (texts more : List Text) (qs : List (ℕ × Source)) → HasTexts texts (map (λ (q : ℕ × Source). q.1) qs) → entries_of (account_in (texts ++ more)) qs ≡ entries_of (account_in texts) qs
entries_stay texts more [] has = refl
entries_stay texts more (q ∷ qs) has =
    λ i. (q.1.id, record { amount = q.1.amount; base = q.1.base; account = account_stays texts more (text_of q) has.0 i; made_at = q.1.time; order = q.0 }) ∷ entries_stay texts more qs has.1 i

numbered_unspent : (c : Chain) → map (λ (q : ℕ × Source). q.1) (numbered c) ≡ unspent c
numbered_unspent c = without_numbers (is_left c (cleared c)) 0 (made_sources c)

pub rest_apart : (texts : List Text) (c : Chain) (b : Block) → HasTexts texts (rest c b) → TellsApart (account_in texts) (numbered_rest c b)
rest_apart texts c b has = tells_apart texts (numbered_rest c b) (subst (HasTexts texts) (sym (rest_numbered c b)) has)

pub sources_stay : SourcesStay
sources_stay texts more c has = entries_stay texts more (numbered c) (subst (HasTexts texts) (sym (numbered_unspent c)) has)

filter_has : (texts : List Text) (p : Source → Bool) (ss : List Source) → HasTexts texts ss → HasTexts texts (filter p ss)
filter_has texts p ss has = all_from_in (HasText texts) (filter p ss) (λ s there. in_all (HasText texts) ss has s (in_filter p ss s there).0)

made_before_has : (texts : List Text) (xs ys : List Source) → HasTexts texts (xs ++ ys) → HasTexts texts xs
made_before_has texts xs ys has = all_from_in (HasText texts) xs (λ s there. in_all (HasText texts) (xs ++ ys) has s (in_left s xs ys there))

pub states_stay : StatesStay
states_stay texts more [] has = refl
states_stay texts more (b ∷ c) has =
    let here = sources_stay texts more (b ∷ c) (filter_has texts (is_left (b ∷ c) (cleared (b ∷ c))) (made_sources (b ∷ c)) has) in
    let before = states_stay texts more c (made_before_has texts (made_sources c) (made_by c b) has) in
    λ i. here i ∷ before i
