-- Live pairs, how many a key has received and issued, and the last block of an issuer.
use Rattle.std.proofs.Common.{◌≡◌, ◌+◌, Bool, true, false, cond, ◌||◌, ◌&&◌, List, [], ◌∷◌, Option, Some, None, option_map, is_some, map, filter, refl, ap, sym, ◌∙◌, subst, nat_lt}
use Rattle.std.specs.Option.{option_or, option_map_or}
use Rattle.std.specs.List.{list_any, flat_map, IsDistinct, AllByRecursion}
use Rattle.std.specs.Set.{unique_keys}
use Rattle.std.specs.Cmp.Lexicographic.{nat_list_eq_equiv}
use Rattle.std.proofs.lemmas.List.Folds.{list_any-append}
use Rattle.std.proofs.lemmas.Map.Made.{length-from_keys}
use Rattle.dubp_atoms.specs.Same.{Text, same_text}
use Rattle.dubp_block.specs.declared.block.Block.{Block}
use Rattle.dubp_block.specs.declared.block.CertLine.{CertLine}
use Rattle.dubp_chain.specs.Words.{names, last_of}
use Rattle.dubp_chain.specs.Chains.{Chain, params}
use Rattle.dubp_chain.specs.Heads.{time_of}
use Rattle.dubp_chain.specs.People.{Written, written_in}
use Rattle.dubp_chain.specs.Live.{certification, made_of, live, certified_pairs, live_pairs, received, last_from}
use Rattle.dubp_chain.specs.Tables.{CertificationRow}
use Rattle.dubp_lists.proofs.Elements.{and_left, and_right, or_left, or_right, in_any, any_in, in_filter, kept_in, list_any-map}
use Rattle.dubp_lists.proofs.InOrder.{same_text_is}
use Rattle.dubp_lists.proofs.LastLines.{last_line-any}
use Rattle.dubp_steps.specs.AfterLines.{of_pair}
use Rattle.dubp_steps.specs.Steps.{LiveIsOfRow, ReceivedIsCount, StockIsCount, WroteStep}
use Rattle.dubp_steps.proofs.Rising.{same_truth}

pub live_is_of_row : LiveIsOfRow
live_is_of_row c x y = by_cases (certification c x y) (live c x y) refl
  where
    by_cases : (w : Option (Written CertLine)) (l : Bool) → l ≡ option_map_or (λ w. nat_lt (time_of c) (made_of w + (params c).sig_validity)) w false
        → l ≡ option_map_or (λ (row : CertificationRow). row.is_live) (option_map (λ w. record { made = made_of w; written = w.block.number; is_live = l }) w) false
    by_cases None l is = is
    by_cases (Some w) l is = refl

-- the pairs of a chain are those that have a certification

abbrev pub is_pair : Text → Text → Text × Text → Bool
is_pair x y p = same_text x p.0 && same_text y p.1

pub pairs_certified : (c : Chain) (x y : Text) → is_some (certification c x y) ≡ list_any (is_pair x y) (certified_pairs c)
pairs_certified c x y = last_line-any (λ block. block.certifications) (of_pair x y) c ∙ lines c
  where
    lines : (c : Chain) → list_any (of_pair x y) (flat_map (λ (block : Block). block.certifications) c) ≡ list_any (is_pair x y) (certified_pairs c)
    lines [] = refl
    lines (b ∷ c) =
        list_any-append (of_pair x y) b.certifications (flat_map (λ (block : Block). block.certifications) c)
        ∙ (λ i. sym (list_any-map (is_pair x y) (λ (line : CertLine). (line.from, line.to)) b.certifications) i || lines c i)
        ∙ sym (list_any-append (is_pair x y) (map (λ (line : CertLine). (line.from, line.to)) b.certifications) (certified_pairs c))

pub live_some : (c : Chain) (x y : Text) → live c x y ≡ true → list_any (is_pair x y) (certified_pairs c) ≡ true
live_some c x y is = sym (pairs_certified c x y) ∙ some (certification c x y) is
  where
    some : (w : Option (Written CertLine)) → option_map_or (λ w. nat_lt (time_of c) (made_of w + (params c).sig_validity)) w false ≡ true → is_some w ≡ true
    some None is = is
    some (Some w) is = refl

abbrev is_live : Chain → Text × Text → Bool
is_live c p = live c p.0 p.1

-- of those that a test of the pairs keeps, the keys on one side
named : (c : Chain) (side other : Text × Text → Text) (k a : Text)
    → names (map side (filter (λ p. same_text k (other p)) (live_pairs c))) a ≡ list_any (λ q. same_text a (side q) && same_text k (other q)) (live_pairs c)
named c side other k a = list_any-map (same_text a) side (filter (λ p. same_text k (other p)) (live_pairs c)) ∙ same_truth _ _ there again
  where
    there : list_any (λ p. same_text a (side p)) (filter (λ p. same_text k (other p)) (live_pairs c)) ≡ true → list_any (λ q. same_text a (side q) && same_text k (other q)) (live_pairs c) ≡ true
    there e =
        let h = any_in (λ p. same_text a (side p)) (filter (λ p. same_text k (other p)) (live_pairs c)) e in
        let g = in_filter (λ p. same_text k (other p)) (live_pairs c) h.0 h.1 in
        in_any (λ q. same_text a (side q) && same_text k (other q)) (live_pairs c) h.0 g.0 (rw (h.2, g.1) refl)

    again : list_any (λ q. same_text a (side q) && same_text k (other q)) (live_pairs c) ≡ true → list_any (λ p. same_text a (side p)) (filter (λ p. same_text k (other p)) (live_pairs c)) ≡ true
    again e =
        let h = any_in (λ q. same_text a (side q) && same_text k (other q)) (live_pairs c) e in
        in_any (λ p. same_text a (side p)) (filter (λ p. same_text k (other p)) (live_pairs c)) h.0
        (kept_in (λ p. same_text k (other p)) (live_pairs c) h.0 h.1 (and_right (same_text a (side h.0)) _ h.2))
        (and_left _ (same_text k (other h.0)) h.2)

-- a pair stands among the live ones exactly where it is live
live_named : (c : Chain) (x y : Text) → list_any (is_pair x y) (live_pairs c) ≡ live c x y
live_named c x y = same_truth _ _ there back
  where
    there : list_any (is_pair x y) (live_pairs c) ≡ true → live c x y ≡ true
    there e =
        let h = any_in (is_pair x y) (live_pairs c) e in
        let g = in_filter (is_live c) (certified_pairs c) h.0 h.1 in
        let from = same_text_is x h.0.0 (and_left _ (same_text y h.0.1) h.2) in
        let to = same_text_is y h.0.1 (and_right (same_text x h.0.0) _ h.2) in
        (λ i. live c (from i) (to i)) ∙ g.1

    back : live c x y ≡ true → list_any (is_pair x y) (live_pairs c) ≡ true
    back is =
        let h = any_in (is_pair x y) (certified_pairs c) (live_some c x y is) in
        let from = same_text_is x h.0.0 (and_left _ (same_text y h.0.1) h.2) in
        let to = same_text_is y h.0.1 (and_right (same_text x h.0.0) _ h.2) in
        in_any (is_pair x y) (live_pairs c) h.0 (kept_in (is_live c) (certified_pairs c) h.0 h.1 ((λ i. live c (sym from i) (sym to i)) ∙ is)) h.2

swap : (xs : List (Text × Text)) (a k : Text) → list_any (λ q. same_text a q.1 && same_text k q.0) xs ≡ list_any (is_pair k a) xs
swap [] a k = refl
swap (p ∷ xs) a k = λ i. either (same_text a p.1) (same_text k p.0) i || swap xs a k i
  where
    either : (x y : Bool) → (x && y) ≡ (y && x)
    either true true = refl
    either true false = refl
    either false true = refl
    either false false = refl

-- the issuers of what k has received, and the receivers of what it has issued
abbrev pub issuers_to : Chain → Text → List Text
issuers_to c k = map (λ p. p.0) (filter (λ p. same_text k p.1) (live_pairs c))

abbrev pub receivers_from : Chain → Text → List Text
receivers_from c k = map (λ p. p.1) (filter (λ p. same_text k p.0) (live_pairs c))

pub issuers_named : (c : Chain) (k a : Text) → names (issuers_to c k) a ≡ live c a k
issuers_named c k a = named c (λ p. p.0) (λ p. p.1) k a ∙ live_named c a k

pub receivers_named : (c : Chain) (k a : Text) → names (receivers_from c k) a ≡ live c k a
receivers_named c k a = named c (λ p. p.1) (λ p. p.0) k a ∙ swap (live_pairs c) a k ∙ live_named c k a

pub received_is_count : ReceivedIsCount
received_is_count c k keys distinct each =
    length-from_keys nat_list_eq_equiv keys (issuers_to c k) distinct (λ a. each a ∙ sym (issuers_named c k a))

pub stock_is_count : StockIsCount
stock_is_count c k keys distinct each =
    length-from_keys nat_list_eq_equiv keys (receivers_from c k) distinct (λ a. each a ∙ sym (receivers_named c k a))

-- each key once has the same keys, and none twice
unique_named : (xs : List Text) (q : Text) → names (unique_keys same_text xs) q ≡ names xs q
unique_named [] q = refl
unique_named (x ∷ xs) q =
    elim (names xs x) as (λ r. names xs x ≡ r → names (cond r (unique_keys same_text xs) (x ∷ unique_keys same_text xs)) q ≡ (same_text q x || names xs q)) [
      | true ↦ λ e. unique_named xs q ∙ whole (same_text q x) (names xs q) (λ same. subst (λ k. names xs k ≡ true) (sym (same_text_is q x same)) e)
      | false ↦ λ _. ap (λ r. same_text q x || r) (unique_named xs q)
    ] refl
  where
    whole : (same there : Bool) → (same ≡ true → there ≡ true) → there ≡ (same || there)
    whole true there then = then refl
    whole false there then = refl

absent : (x : Text) (ys : List Text) → names ys x ≡ false → AllByRecursion (λ y. same_text x y ≡ false) ys
absent x [] e = tt
absent x (y ∷ ys) e = (or_left (same_text x y) (names ys x) e, absent x ys (or_right (same_text x y) (names ys x) e))

unique_distinct : (xs : List Text) → IsDistinct same_text (unique_keys same_text xs)
unfolding IsDistinct
unique_distinct [] = tt
unique_distinct (x ∷ xs) =
    elim (names xs x) as (λ r. names xs x ≡ r → IsDistinct same_text (cond r (unique_keys same_text xs) (x ∷ unique_keys same_text xs))) [
      | true ↦ λ _. unique_distinct xs
      | false ↦ λ e. (absent x (unique_keys same_text xs) (unique_named xs x ∙ e), unique_distinct xs)
    ] refl

-- where the same pairs to k are live, it has received as many
pub same_received : (c d : Chain) (k : Text) → ((a : Text) → live c a k ≡ live d a k) → received c k ≡ received d k
same_received c d k same =
    length-from_keys nat_list_eq_equiv (unique_keys same_text (issuers_to c k)) (issuers_to d k) (unique_distinct (issuers_to c k))
    (λ a. unique_named (issuers_to c k) a ∙ issuers_named c k a ∙ same a ∙ sym (issuers_named d k a))

pub wrote_step : WroteStep
wrote_step c b a = by_cases (last_of (λ (line : CertLine). same_text a line.from) b.certifications) (last_from c a)
  where
    by_cases : (line : Option CertLine) (w : Option (Written CertLine))
        → option_map (λ (w : Written CertLine). w.block.number) (option_or (option_map (written_in b c) line) w)
        ≡ option_or (option_map (λ (line : CertLine). b.number) line) (option_map (λ (w : Written CertLine). w.block.number) w)
    by_cases None w = refl
    by_cases (Some l) w = refl
