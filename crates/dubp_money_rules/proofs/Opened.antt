-- The conditions of the sources that inputs spend, and their unlocks.
use Rattle.std.proofs.Common.{◌≡◌, ℕ, zero, suc, ◌+◌, ◌<◌, ◌≤◌, ◌↔◌, Bool, true, false, cond, not, ◌||◌, ◌==◌, IsTrue, List, [], ◌∷◌, ◌++◌, Option, Some, None, option_map, take, get_or, length, refl, ap, sym, ◌∙◌, subst, append-nil, arith, true≢false}
use Rattle.std.specs.Prelude.{find, slice_get, unwrap_or, filter, ⊤}
use Rattle.std.specs.Option.{option_map_or, MatchOption}
use Rattle.std.specs.List.{list_any, flat_map, count_by, AllByRecursion, position_or_len}
use Rattle.std.proofs.lemmas.Option.{none-some}
use Rattle.std.proofs.lemmas.Bool.Decides.{Decides-ltb}
use Rattle.std.proofs.lemmas.List.Sums.{sum_by-cons}
use Rattle.dubp_atoms.specs.Same.{Text, same_text}
use Rattle.dubp_cond.specs.Tree.{CondTree}
use Rattle.dubp_cond.specs.Conditions.{IsCond, cond_text}
use Rattle.dubp_cond.specs.declared.source.Input.{Input}
use Rattle.dubp_cond.specs.declared.unlock.UnlockLine.{UnlockLine}
use Rattle.dubp_cond.specs.Truth.{IsTrueAt}
use Rattle.dubp_cond.specs.declared.tx.Tx.{Tx}
use Rattle.dubp_chain.specs.Heads.{time_of}
use Rattle.dubp_chain.specs.Chains.{Chain}
use Rattle.dubp_chain.specs.Money.{Source, made_sources, unspent}
use Rattle.dubp_validity.specs.MoneyRules.{IsOpened, is_spent_by, moment_of, spent, unlocks_of}
use Rattle.dubp_lists.proofs.InOrder.{same_text_is}
use Rattle.dubp_sindex.specs.declared.rows.SourceRow.{SourceRow}
use Rattle.dubp_money.specs.OfMoneySteps.{account_in, HasTexts}
use Rattle.dubp_money_rules.specs.Spending.{HaveConditions, IsSeenOpened, seen_in}
use Rattle.dubp_money_rules.proofs.Early.{made_times, unspent_all}

-- ---- the text of an account

module _ (t : Text) where
  place_within : (texts : List Text) → list_any (same_text t) texts ≡ true → position_or_len (same_text t) texts < length texts
  place_within [] there = absurd (true≢false (sym there))
  place_within (x ∷ xs) there =
      elim (same_text t x) as (λ r. (r || list_any (same_text t) xs) ≡ true → cond (not r) (1 + position_or_len (same_text t) xs) 0 < length (x ∷ xs)) [
        | true ↦ λ _. omega arith
        | false ↦ λ later. omega (arith, place_within xs later)
      ] there

  text_there : (texts : List Text) → list_any (same_text t) texts ≡ true → slice_get texts (position_or_len (same_text t) texts) ≡ Some t
  text_there [] there = absurd (true≢false (sym there))
  text_there (x ∷ xs) there =
      elim (same_text t x) as (λ r. same_text t x ≡ r → (r || list_any (same_text t) xs) ≡ true → slice_get (x ∷ xs) (cond (not r) (1 + position_or_len (same_text t) xs) 0) ≡ Some t) [
        | true ↦ λ e _. ap Some (sym (same_text_is t x e))
        | false ↦ λ _ later. let next : 1 + position_or_len (same_text t) xs ≡ suc (position_or_len (same_text t) xs) = omega arith in ap (slice_get (x ∷ xs)) next ∙ text_there xs later
      ] refl there

  text_at : (texts : List Text) → list_any (same_text t) texts ≡ true → slice_get texts (account_in texts t) ≡ Some t
  text_at texts there =
      let k = position_or_len (same_text t) texts in
      ap (λ r. slice_get texts (unwrap_or (cond r (Some k) None) 0)) ((Decides-ltb k (length texts)).1 (place_within texts there)) ∙ text_there texts there

-- ---- what the index tells of a source

abbrev pub told_source : List Text → Source → ℕ × ℕ
told_source texts s = (s.time, account_in texts (cond_text s.cond))

record IsKnown (texts : List Text) (s : Source) : Type 0 where
  known_text : IsTrue (list_any (same_text (cond_text s.cond)) texts)
  known_cond : IsCond s.cond

all_known : (texts : List Text) (ss : List Source) → HasTexts texts ss → AllByRecursion (λ s. IsCond s.cond) ss → AllByRecursion (IsKnown texts) ss
all_known texts [] has are = tt
all_known texts (s ∷ ss) has are = (record { known_text = has.0; known_cond = are.0 }, all_known texts ss has.1 are.1)

found_holds : (P : Source → Type 0) (p : Source → Bool) (ss : List Source) → AllByRecursion P ss → MatchOption (find p ss) ⊤ P
found_holds P p [] all = tt
found_holds P p (s ∷ ss) all = elim (p s) as (λ r. MatchOption (cond r (Some s) (find p ss)) ⊤ P) [ true ↦ all.0 | false ↦ found_holds P p ss all.1 ]

abbrev Reads : List Text → SourceRow → Option (ℕ × CondTree) → Type 0
Reads texts row found = (k : CondTree) → IsCond k → slice_get texts row.account ≡ Some (cond_text k) → found ≡ Some (row.made_at, k)

read_known : (texts : List Text) (row : SourceRow) (found : Option (ℕ × CondTree)) (o : Option Source) → MatchOption o ⊤ (IsKnown texts) → Some (row.made_at, row.account) ≡ option_map (told_source texts) o → Reads texts row found → found ≡ seen_in o
read_known texts row found None known e reads = absurd (none-some (row.made_at, row.account) (sym e))
read_known texts row found (Some s) known e reads =
    let made : row.made_at ≡ s.time = ap (λ o. option_map_or (λ (v : ℕ × ℕ). v.0) o 0) e in
    let account : row.account ≡ account_in texts (cond_text s.cond) = ap (λ o. option_map_or (λ (v : ℕ × ℕ). v.1) o 0) e in
    reads s.cond known.known_cond (ap (slice_get texts) account ∙ text_at (cond_text s.cond) texts known.known_text) ∙ ap (λ m. Some (m, s.cond)) made

pub found_source : (texts : List Text) (c : Chain) (input : Input) (row : SourceRow) (found : Option (ℕ × CondTree)) → HasTexts texts (made_sources c) → HaveConditions c
    → Some (row.made_at, row.account) ≡ option_map (told_source texts) (spent (unspent c) input) → Reads texts row found → found ≡ seen_in (spent (unspent c) input)
found_source texts c input row found has are e reads =
    read_known texts row found (spent (unspent c) input) (found_holds (IsKnown texts) (is_spent_by input) (unspent c) (unspent_all (IsKnown texts) c (all_known texts (made_sources c) has are))) e reads

pub no_source : (texts : List Text) (o : Option Source) → None ≡ option_map (told_source texts) o → None ≡ seen_in o
no_source texts None e = refl
no_source texts (Some s) e = absurd (none-some (told_source texts s) e)

-- ---- the unlocks of an input

abbrev pub AreOthers : ℕ → List UnlockLine → Type 0
AreOthers place lines = AllByRecursion (λ line. (line.input == place) ≡ false) lines

module _ (place : ℕ) where
  abbrev is_here : UnlockLine → Bool
  is_here line = line.input == place

  none_counted : (lines : List UnlockLine) → count_by is_here lines ≡ 0 → filter is_here lines ≡ []
  none_counted [] none = refl
  none_counted (x ∷ xs) none =
      let split = sum_by-cons (λ (l : UnlockLine). cond (is_here l) 1 0) x xs in
      elim (is_here x) as (λ r. cond r 1 0 + count_by is_here xs ≡ 0 → cond r (x ∷ filter is_here xs) (filter is_here xs) ≡ []) [
        | true ↦ λ e. absurd (omega (arith, e))
        | false ↦ λ e. none_counted xs (omega (arith, e))
      ] (sym split ∙ none)

  others_counted : (lines : List UnlockLine) → AreOthers place lines → count_by is_here lines ≡ 0
  others_counted [] others = refl
  others_counted (x ∷ xs) others =
      let later = others_counted xs others.1 in
      let sum : 0 + count_by is_here xs ≡ 0 = omega (arith, later) in
      sum_by-cons (λ (l : UnlockLine). cond (is_here l) 1 0) x xs ∙ ap (λ r. cond r 1 0 + count_by is_here xs) others.0 ∙ sum

  pub others_more : (lines : List UnlockLine) (i : ℕ) (line : UnlockLine) → i < length lines → line ≡ get_or lines i line → AreOthers place (take i lines) → is_here line ≡ false → AreOthers place (take (i + 1) lines)
  others_more lines i line below is others e = let next : suc i ≡ i + 1 = omega arith in subst (λ n. AreOthers place (take n lines)) next (more lines i below is others)
    where
      more : (lines : List UnlockLine) (i : ℕ) → i < length lines → line ≡ get_or lines i line → AreOthers place (take i lines) → AreOthers place (take (suc i) lines)
      more [] i below is others = absurd (omega (arith, below))
      more (x ∷ xs) zero below is others = (ap is_here (sym is) ∙ e, tt)
      more (x ∷ xs) (suc i) below is others = (others.0, more xs i (omega (arith, below)) is others.1)

  pub unlocks_found : (lines : List UnlockLine) (i : ℕ) (line : UnlockLine) → i < length lines → line ≡ get_or lines i line → AreOthers place (take i lines) → is_here line ≡ true → count_by is_here lines ≡ 1
      → line.list ≡ flat_map (λ (l : UnlockLine). l.list) (filter is_here lines)
  unlocks_found [] i line below is others e one = absurd (omega (arith, below))
  unlocks_found (x ∷ xs) zero line below is others e one =
      let here : is_here x ≡ true = ap is_here (sym is) ∙ e in
      let split = sum_by-cons (λ (l : UnlockLine). cond (is_here l) 1 0) x xs in
      let count : 1 + count_by is_here xs ≡ 1 = ap (λ r. cond r 1 0 + count_by is_here xs) (sym here) ∙ sym split ∙ one in
      let none : filter is_here xs ≡ [] = none_counted xs (omega (arith, count)) in
      ap (λ (l : UnlockLine). l.list) is ∙ sym (append-nil x.list) ∙ ap (λ ls. x.list ++ flat_map (λ (l : UnlockLine). l.list) ls) (sym none)
      ∙ ap (λ r. flat_map (λ (l : UnlockLine). l.list) (cond r (x ∷ filter is_here xs) (filter is_here xs))) (sym here)
  unlocks_found (x ∷ xs) (suc i) line below is others e one =
      let split = sum_by-cons (λ (l : UnlockLine). cond (is_here l) 1 0) x xs in
      let sum : 0 + count_by is_here xs ≡ 1 = ap (λ r. cond r 1 0 + count_by is_here xs) (sym others.0) ∙ sym split ∙ one in
      let count : count_by is_here xs ≡ 1 = omega (arith, sum) in
      unlocks_found xs i line (omega (arith, below)) is others.1 e count
      ∙ ap (λ r. flat_map (λ (l : UnlockLine). l.list) (cond r (x ∷ filter is_here xs) (filter is_here xs))) (sym others.0)

  pub some_is_here : (lines : List UnlockLine) → AreOthers place lines → count_by is_here lines ≡ 1 → ⊥
  some_is_here lines others one = let none = others_counted lines others in omega (arith, none, one)

-- ---- what was found, on the chain or in the block

pub opened_seen : (t : ℕ) (tx : Tx) (i : ℕ) (sources : List Source) (input : Input) (answer : Bool) (seen : Option (ℕ × CondTree)) → seen ≡ seen_in (spent sources input)
    → (IsTrue answer ↔ IsSeenOpened t (unlocks_of tx i) tx.issuers seen) → IsTrue answer ↔ IsOpened t tx sources (i, input)
opened_seen t tx i sources input answer seen e says = each (spent sources input) (subst (λ o. IsTrue answer ↔ IsSeenOpened t (unlocks_of tx i) tx.issuers o) e says)
  where
    each : (o : Option Source) → (IsTrue answer ↔ IsSeenOpened t (unlocks_of tx i) tx.issuers (seen_in o)) → IsTrue answer ↔ MatchOption o ⊤ (λ s. IsTrueAt (moment_of t tx i s) s.cond)
    each None says = says
    each (Some s) says = says

pub found_early : (c : Chain) (input : Input) (made : ℕ) (k : CondTree) → Some (made, k) ≡ seen_in (spent (unspent c) input) → made ≤ time_of c
found_early c input made k e = each (spent (unspent c) input) (found_holds (λ s. s.time ≤ time_of c) (is_spent_by input) (unspent c) (unspent_all (λ s. s.time ≤ time_of c) c (made_times c))) e
  where
    each : (o : Option Source) → MatchOption o ⊤ (λ s. s.time ≤ time_of c) → Some (made, k) ≡ seen_in o → made ≤ time_of c
    each None early e = absurd (none-some (made, k) (sym e))
    each (Some s) early e =
        let same : made ≡ s.time = ap (λ o. option_map_or (λ (v : ℕ × CondTree). v.0) o 0) e in
        omega (arith, same, early)
