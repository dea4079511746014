-- One block more, and one less, in the last blocks of each issuer.
use Rattle.std.proofs.Common.{◌≡◌, ℕ, suc, ◌+◌, ◌<◌, ◌≤◌, Bool, true, false, cond, List, [], ◌∷◌, ◌++◌, length, reverse, if◌then◌else◌, Option, Some, None, is_some, IsSome, count_by, refl, sym, ap, ◌∙◌, true≢false, arith}
use Rattle.std.specs.Map.{lookup}
use Rattle.std.specs.Option.{is_none, option_to_list, unwrap_or}
use Rattle.std.proofs.lemmas.List.{reverse-append, length-reverse, same_from_push}
use Rattle.std.proofs.lemmas.List.Sums.{sum_by-append, count_by-le-length}
use Rattle.dubp_atoms.specs.Same.{Text, same_text}
use Rattle.dubp_head.specs.LastBlocks.{IssuersState, AreIssuers, last_place, places_before}
use Rattle.dubp_head.proofs.Entries.{FindsAt, same_text_is, same_text_itself}

length-places_before : (is : List Text) → length (places_before is) ≡ length is
length-places_before [] = refl
length-places_before (i ∷ is) = ap suc (length-places_before is)

-- there is a number for each block
pub length-before : (s : IssuersState) (issuers : List Text) → AreIssuers s issuers → length s.before ≡ length issuers
length-before s issuers kept = ap length kept.before ∙ length-reverse (places_before issuers) ∙ length-places_before issuers

-- and no more entries than blocks
pub length-last : (s : IssuersState) (issuers : List Text) → AreIssuers s issuers → length s.last ≤ length issuers
length-last s issuers kept = omega (arith, kept.count, count_by-le-length is_none s.before, length-before s issuers kept)

count-push : (before : List (Option ℕ)) (o : Option ℕ) → count_by is_none (before ++ o ∷ []) ≡ count_by is_none before + (if is_none o then 1 else 0)
count-push before o = sum_by-append (λ x. cond (is_none x) 1 0) before (o ∷ []) ∙ omega arith

-- the place of a block is how many there were before it
pub AreIssuers-push : (s new : IssuersState) (k : Text) (issuers : List Text) → AreIssuers s issuers
    → FindsAt s.last new.last k (Some (length s.before))
    → length new.last ≡ length s.last + (if is_some (lookup (same_text k) s.last) then 0 else 1)
    → new.before ≡ s.before ++ lookup (same_text k) s.last ∷ []
    → AreIssuers new (k ∷ issuers)
AreIssuers-push s new k issuers kept finds longer before = record {
  last = λ q. finds q ∙ (λ j. if same_text q k then Some (length-before s issuers kept j) else kept.last q j);
  before = before ∙ (λ j. kept.before j ++ kept.last k j ∷ []) ∙ sym (reverse-append (last_place issuers k ∷ []) (places_before issuers));
  count = rw before (by (lookup (same_text k) s.last) longer);
}
  where
    by : (o : Option ℕ) → length new.last ≡ length s.last + (if is_some o then 0 else 1) → length new.last ≡ count_by is_none (s.before ++ o ∷ [])
    by None longer = omega (arith, count-push s.before None, kept.count)
    by (Some p) longer = omega (arith, count-push s.before (Some p), kept.count)

-- the block before takes the place of the last one
pub AreIssuers-pop : (s new : IssuersState) (k : Text) (issuers : List Text) (popped : Option (Option ℕ)) (w : Option ℕ) → AreIssuers s (k ∷ issuers)
    → s.before ≡ new.before ++ option_to_list popped
    → (0 < length s.before → IsSome popped)
    → w ≡ unwrap_or popped None
    → FindsAt s.last new.last k w
    → length new.last + (if is_some w then 0 else 1) ≡ length s.last
    → AreIssuers new issuers
AreIssuers-pop s new k issuers popped w kept items there value finds shorter = record {
  last = λ q. finds q ∙ by q (same_text q k) refl (kept.last q);
  before = parts.0;
  count = count w shorter before;
}
  where
    ended : (o : Option (Option ℕ)) → IsSome o → s.before ≡ new.before ++ option_to_list o → w ≡ unwrap_or o None → s.before ≡ new.before ++ w ∷ []
    ended None some items value = absurd (true≢false (sym some))
    ended (Some o) some items value = items ∙ ap (λ v. new.before ++ v ∷ []) (sym value)

    before : s.before ≡ new.before ++ w ∷ []
    before = ended popped (there (omega (arith, length-before s (k ∷ issuers) kept))) items value

    parts : (new.before ≡ reverse (places_before issuers)) × (w ≡ last_place issuers k)
    parts = same_from_push new.before (reverse (places_before issuers)) w (last_place issuers k) (sym before ∙ kept.before ∙ reverse-append (last_place issuers k ∷ []) (places_before issuers))

    by : (q : Text) (b : Bool) → same_text q k ≡ b → lookup (same_text q) s.last ≡ (if b then Some (length issuers) else last_place issuers q) → (if b then w else lookup (same_text q) s.last) ≡ last_place issuers q
    by q true same was = parts.1 ∙ ap (last_place issuers) (sym (same_text_is q k same))
    by q false same was = was

    count : (o : Option ℕ) → length new.last + (if is_some o then 0 else 1) ≡ length s.last → s.before ≡ new.before ++ o ∷ [] → length new.last ≡ count_by is_none new.before
    count None shorter before = omega (arith, count-push new.before None, ap (count_by is_none) before, kept.count)
    count (Some p) shorter before = omega (arith, count-push new.before (Some p), ap (count_by is_none) before, kept.count)

-- the issuer of the last block has an entry
pub last-IsSome : (s : IssuersState) (k : Text) (issuers : List Text) → AreIssuers s (k ∷ issuers) → IsSome (lookup (same_text k) s.last)
last-IsSome s k issuers kept = rw (kept.last k, same_text_itself k) refl
