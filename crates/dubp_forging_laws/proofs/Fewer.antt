-- A draft that breaks no rule breaks none with fewer transactions, the last ones left out.
use Rattle.std.proofs.Common.{◌≡◌, ◌⊎◌, inl, inr, ℕ, ◌+◌, ◌≤◌, ◌<◌, Bool, true, false, not, ◌&&◌, ◌||◌, List, [], ◌∷◌, ◌++◌, length, length-append, map, Option, Some, None, refl, sym, ap, subst, ◌∙◌, append_assoc, arith, decimal}
use Rattle.std.specs.Prelude.{codes, IsTrue}
use Rattle.std.specs.List.{AllByRecursion, list_any, flat_map}
use Rattle.std.proofs.lemmas.List.{map-append}
use Rattle.std.proofs.lemmas.List.Concat.{flat_map-append}
use Rattle.dubp_atoms.specs.Same.{Text, same_text}
use Rattle.dubp_atoms.specs.Hashing.{hash_of}
use Rattle.dubp_lines.specs.Lines.{unlines}
use Rattle.dubp_cond.specs.declared.source.Input.{Input}
use Rattle.dubp_cond.specs.declared.source.SourceId.{SourceId}
use Rattle.dubp_cond.specs.declared.tx.Tx.{Tx}
use Rattle.dubp_block.specs.Sections.{compact_lines, transaction_lines, section, identity_text, member_text, revoked_text, certification_text}
use Rattle.dubp_block.specs.Text.{block_text, inner_text, inner_lines, signed_lines, block_lines, opening_lines, dividend_lines, issuer_lines, previous_lines, params_lines, size_of}
use Rattle.dubp_block.specs.declared.block.Block.{Block}
use Rattle.dubp_rules.specs.declared.rule.Rule.{Rule}
use Rattle.dubp_rules.specs.declared.rule.Rule.TheVariants.{X01, X07, L01, L05, L18, L19, L20, L21, L22, L23, L24, G50, G62, X05, G103, G87, G88, G89, G90}
use Rattle.dubp_verdict.specs.Verdicts.{Verdicts}
use Rattle.dubp_chain.specs.Chains.{Chain}
use Rattle.dubp_chain.specs.Words.{each_once, names}
use Rattle.dubp_chain.specs.Heads.{time_of}
use Rattle.dubp_chain.specs.Money.{Source, same_source, inputs_of, hashes_in, hashes_of, outputs_made, unspent}
use Rattle.dubp_chain.specs.OfDocs.{tx_hash}
use Rattle.dubp_validity.specs.LocalRules.{InnerHashIsRight, SourcesStandOnce}
use Rattle.dubp_validity.specs.MoneyRules.{EachMay, TransactionsAreNew}
use Rattle.dubp_validity.specs.Rules.{Holds, longest_block}
use Rattle.dubp_forging_laws.proofs.Others.{holds_same}
use Rattle.dubp_forging_laws.specs.Laws.{with_transactions}
use Rattle.dubp_validity.specs.Drafts.{is_of_sealing, HoldsWritten}

-- ---- what holds of a list holds of its first elements

all_front : {X : Type 0} (P : X → Type 0) (xs ys : List X) → AllByRecursion P (xs ++ ys) → AllByRecursion P xs
all_front P [] ys all = tt
all_front P (x ∷ xs) ys all = (all.0, all_front P xs ys all.1)

any_front : {X : Type 0} (p : X → Bool) (xs ys : List X) → list_any p (xs ++ ys) ≡ false → list_any p xs ≡ false
any_front p [] ys e = refl
any_front p (x ∷ xs) ys e = by_first (p x) (list_any p (xs ++ ys)) (list_any p xs) e (any_front p xs ys)
  where
    by_first : (a b d : Bool) → (a || b) ≡ false → (b ≡ false → d ≡ false) → (a || d) ≡ false
    by_first true b d e f = absurd cc
    by_first false b d e f = f e

once_front : {X : Type 0} (same : X → X → Bool) (xs ys : List X) → each_once same (xs ++ ys) ≡ true → each_once same xs ≡ true
once_front same [] ys e = refl
once_front same (x ∷ xs) ys e = by_first (list_any (same x) (xs ++ ys)) (each_once same (xs ++ ys)) (list_any (same x) xs) (each_once same xs) e (any_front (same x) xs ys) (once_front same xs ys)
  where
    by_first : (a b d f : Bool) → (not a && b) ≡ true → (a ≡ false → d ≡ false) → (b ≡ true → f ≡ true) → (not d && f) ≡ true
    by_first true b d f e g h = absurd cc
    by_first false b d f e g h = let n = g refl in let m = h e in cc

may_front : (P : Tx → List Source → Type 0) (outputs : Tx → List Source) (sources : List Source) (xs ys : List Tx) → EachMay P outputs sources (xs ++ ys) → EachMay P outputs sources xs
may_front P outputs sources [] ys all = tt
may_front P outputs sources (x ∷ xs) ys all = (all.0, may_front P outputs (sources ++ outputs x) xs ys all.1)

-- ---- the text is no longer

abbrev front_lines : Block → List Text
front_lines b =
    opening_lines b.version b.currency b.number b.pow_min b.time b.median_time
    ++ (dividend_lines b.dividend
    ++ (issuer_lines b.unit_base b.issuer b.frame b.frame_var b.issuers
    ++ (previous_lines b.previous
    ++ (params_lines b.params
    ++ ((codes "MembersCount: " ++ decimal b.members)
    ∷ (section (codes "Identities:") (map identity_text b.identities)
    ++ (section (codes "Joiners:") (map member_text b.joiners)
    ++ (section (codes "Actives:") (map member_text b.actives)
    ++ (section (codes "Leavers:") (map member_text b.leavers)
    ++ (section (codes "Revoked:") (map revoked_text b.revoked)
    ++ (section (codes "Excluded:") b.excluded
    ++ (section (codes "Certifications:") (map certification_text b.certifications)
    ++ (codes "Transactions:" ∷ [])))))))))))))

joined : (o d i p q : List Text) (m : Text) (s1 s2 s3 s4 s5 s6 s7 : List Text) (h : Text) (t : List Text)
    → o ++ (d ++ (i ++ (p ++ (q ++ (m ∷ (s1 ++ (s2 ++ (s3 ++ (s4 ++ (s5 ++ (s6 ++ (s7 ++ (h ∷ t))))))))))))) ≡ (o ++ (d ++ (i ++ (p ++ (q ++ (m ∷ (s1 ++ (s2 ++ (s3 ++ (s4 ++ (s5 ++ (s6 ++ (s7 ++ (h ∷ [])))))))))))))) ++ t
joined o d i p q m s1 s2 s3 s4 s5 s6 s7 h t = simp (append_assoc)

inner_is : (b : Block) → inner_lines b ≡ front_lines b ++ transaction_lines b.transactions
inner_is b =
    joined (opening_lines b.version b.currency b.number b.pow_min b.time b.median_time) (dividend_lines b.dividend) (issuer_lines b.unit_base b.issuer b.frame b.frame_var b.issuers) (previous_lines b.previous) (params_lines b.params) (codes "MembersCount: " ++ decimal b.members)
    (section (codes "Identities:") (map identity_text b.identities)) (section (codes "Joiners:") (map member_text b.joiners)) (section (codes "Actives:") (map member_text b.actives)) (section (codes "Leavers:") (map member_text b.leavers))
    (section (codes "Revoked:") (map revoked_text b.revoked)) (section (codes "Excluded:") b.excluded) (section (codes "Certifications:") (map certification_text b.certifications)) (codes "Transactions:") (transaction_lines b.transactions)

abbrev written : List Text → ℕ
written ls = length (unlines ls)

written-append : (xs ys : List Text) → written (xs ++ ys) ≡ written xs + written ys
written-append xs ys = ap length (flat_map-append (λ l. l ++ 10 ∷ []) xs ys) ∙ length-append (unlines xs) (unlines ys)

abbrev closing : Block → List Text
closing b = signed_lines b ++ b.sig ∷ []

length_is : (b : Block) → length (block_text b) ≡ (written (front_lines b) + written (transaction_lines b.transactions)) + written (closing b)
unfolding block_text
length_is b =
    written-append (inner_lines b) (closing b)
    ∙ ap (λ n. n + written (closing b)) (ap written (inner_is b) ∙ written-append (front_lines b) (transaction_lines b.transactions))

-- a line as long as another
line_long : (k l : Text) (rest : List Text) → length k ≡ length l → written (k ∷ rest) ≡ written (l ∷ rest)
line_long k l rest e =
    omega (arith, e, length-append (k ++ 10 ∷ []) (unlines rest), length-append (l ++ 10 ∷ []) (unlines rest), length-append k (10 ∷ []), length-append l (10 ∷ []))

-- the inner hash is that of the block
pub inner_right : (b : Block) (txs : List Tx) → InnerHashIsRight (with_transactions b txs)
unfolding inner_text
inner_right b txs = refl

-- ---- the rules

module _ (v : Verdicts) (a : Block) (c : Chain) (b : Block) (txs more : List Tx) (cut : b.transactions ≡ txs ++ more) where
  abbrev fewer : Block
  fewer = with_transactions b txs

  text_short : length fewer.inner_hash ≡ length b.inner_hash → length (block_text b) ≤ longest_block → length (block_text fewer) ≤ longest_block
  text_short long h =
      let name = codes "InnerHash: " in
      let closes : written (closing fewer) ≡ written (closing b) =
      line_long (name ++ fewer.inner_hash) (name ++ b.inner_hash) ((codes "Nonce: " ++ decimal b.nonce) ∷ b.sig ∷ []) (length-append name fewer.inner_hash ∙ ap (λ n. length name + n) long ∙ sym (length-append name b.inner_hash)) in
      let all : written (transaction_lines b.transactions) ≡ written (transaction_lines txs) + written (transaction_lines more) =
      ap (λ l. written (transaction_lines l)) cut ∙ ap written (flat_map-append compact_lines txs more) ∙ written-append (transaction_lines txs) (transaction_lines more) in
      omega (arith, h, closes, all, length_is b, length_is fewer)

  front : (P : Tx → Type 0) → AllByRecursion P b.transactions → AllByRecursion P txs
  front P all = all_front P txs more (subst (AllByRecursion P) cut all)

  spends : (P : Tx → List Source → Type 0) (outputs : Tx → List Source) → EachMay P outputs (unspent (a ∷ c)) b.transactions → EachMay P outputs (unspent (a ∷ c)) txs
  spends P outputs all = may_front P outputs (unspent (a ∷ c)) txs more (subst (EachMay P outputs (unspent (a ∷ c))) cut all)

  sources_once : SourcesStandOnce b → SourcesStandOnce fewer
  sources_once e =
      let of : Tx → List Input = λ tx. tx.inputs in
      let name : Input → SourceId = λ i. i.source in
      once_front same_source (map name (flat_map of txs)) (map name (flat_map of more))
      (subst (λ l. each_once same_source l ≡ true) (ap (λ l. map name (flat_map of l)) cut ∙ ap (map name) (flat_map-append of txs more) ∙ map-append name (flat_map of txs) (flat_map of more)) e)

  hashes_new : TransactionsAreNew (a ∷ c) b → TransactionsAreNew (a ∷ c) fewer
  hashes_new e =
      let hash : Tx → Text = tx_hash b.currency in
      let is : map hash b.transactions ≡ map hash txs ++ map hash more = ap (map hash) cut ∙ map-append hash txs more in (
        once_front same_text (map hash txs) (map hash more) (subst (λ l. each_once same_text l ≡ true) is e.0),
        all_front (λ h. IsTrue (not (names (hashes_of (a ∷ c)) h))) (map hash txs) (map hash more) (subst (AllByRecursion (λ h. IsTrue (not (names (hashes_of (a ∷ c)) h)))) is e.1),
      )

  lines_fewer : length (transaction_lines txs) ≤ length (transaction_lines b.transactions)
  lines_fewer = omega (arith, ap (λ l. length (transaction_lines l)) cut, ap length (flat_map-append compact_lines txs more), length-append (transaction_lines txs) (transaction_lines more))

  pub hold_fewer : length fewer.inner_hash ≡ length b.inner_hash → (r : Rule) → is_of_sealing r ≡ false → HoldsWritten v (a ∷ c) b r → HoldsWritten v (a ∷ c) fewer r
  hold_fewer long L01 e h = inner_right b txs
  hold_fewer long L05 e h = absurd cc
  hold_fewer long G62 e h = absurd cc
  hold_fewer long L18 e h = front _ h
  hold_fewer long L19 e h = front _ h
  hold_fewer long L20 e h = front _ h
  hold_fewer long L21 e h = sources_once h
  hold_fewer long L22 e h = front _ h
  hold_fewer long L23 e h = front _ h
  hold_fewer long L24 e h = front _ h
  hold_fewer long G50 e h = omega (arith, h, lines_fewer)
  hold_fewer long X05 e h = hashes_new h
  hold_fewer long G103 e h = front _ h
  hold_fewer long G87 e h = spends _ _ h
  hold_fewer long G88 e h = spends _ _ h
  hold_fewer long G89 e h = spends _ _ h
  hold_fewer long G90 e h = front _ h
  hold_fewer long X01 e h = text_short long h
  hold_fewer long r e h = holds_same v a c b txs fewer.inner_hash b.nonce b.sig r refl h
