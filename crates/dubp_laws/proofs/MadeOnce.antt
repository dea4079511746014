-- No source of a sound chain is made twice. An output has the hash of its transaction, which is new, and its place in it; a
-- dividend has its key, each once in a block, and the number of its block, which is new.
use Rattle.std.proofs.Common.{◌≡◌, ℕ, ◌+◌, ◌<◌, ◌≤◌, true, false, not, List, [], ◌∷◌, ◌++◌, Option, Some, None, map, length, refl, ap, sym, ◌∙◌, subst, true≢false, arith, inl, inr}
use Rattle.std.specs.List.{AllByRecursion, flat_map, enumerate_from}
use Rattle.std.proofs.lemmas.List.Folds.{list_any-append}
use Rattle.dubp_atoms.specs.Same.{Text, same_text}
use Rattle.dubp_cond.specs.declared.source.SourceId.{SourceId}
use Rattle.dubp_cond.specs.declared.source.SourceId.TheVariants.{D, T}
use Rattle.dubp_cond.specs.declared.output.Output.{Output}
use Rattle.dubp_cond.specs.declared.tx.Tx.{Tx}
use Rattle.dubp_chain.specs.OfDocs.{tx_hash}
use Rattle.dubp_block.specs.declared.block.Block.{Block}
use Rattle.dubp_rules.specs.declared.rule.Rule.TheVariants.{G51, X05}
use Rattle.dubp_chain.specs.declared.head.Head.{Head}
use Rattle.dubp_chain.specs.Words.{names, each_once}
use Rattle.dubp_chain.specs.Chains.{Chain}
use Rattle.dubp_chain.specs.Members.{members}
use Rattle.dubp_chain.specs.Heads.{head_of, time_of}
use Rattle.dubp_chain.specs.Money.{Source, same_source, output_source, outputs_made, dividend_source, dividends_made, dividends_at, made_by, made_sources, hashes_in, hashes_of}
use Rattle.dubp_validity.specs.Rules.{IsSound}
use Rattle.dubp_lists.proofs.Elements.{and_left, and_right, and_false, not_true, or_true, is_false, unequal, IsIn, in_append, in_all, in_any, none_in, any_left}
use Rattle.dubp_lists.proofs.InOrder.{same_text_is, same_text_own, members-once}
use Rattle.dubp_laws.proofs.Sources.{SourcesApart, sources-append}

-- ---- outputs

-- one of the outputs from place n on
at_place : (time n : ℕ) (hash : Text) (outputs : List Output) (y : Source) → IsIn y (map (output_source time hash) (enumerate_from n outputs))
    → (p : ℕ) × (n ≤ p) × (y.id ≡ T hash p)
at_place time n hash [] y there = absurd there
at_place time n hash (o ∷ outputs) y (inl e) = (n, omega arith, ap (λ (s : Source). s.id) e)
at_place time n hash (o ∷ outputs) y (inr there) = let h = at_place time (n + 1) hash outputs y there in (h.0, omega (arith, h.1), h.2)

outputs_once : (time n : ℕ) (hash : Text) (outputs : List Output) → SourcesApart (map (output_source time hash) (enumerate_from n outputs))
outputs_once time n hash [] = refl
outputs_once time n hash (o ∷ outputs) =
    let none = none_in (λ (y : Source). same_source (T hash n) y.id) (map (output_source time hash) (enumerate_from (n + 1) outputs))
    (λ y there. let h = at_place time (n + 1) hash outputs y there in
    subst (λ id. same_source (T hash n) id ≡ false) (sym h.2) (and_false (same_text hash hash) _ (unequal n h.0 (omega (arith, h.1))))) in
    rw none (outputs_once time (n + 1) hash outputs)

abbrev hashes : Text → List Tx → List Text
hashes currency txs = map (tx_hash currency) txs

-- an output has the hash of one of the transactions
of_transaction : (time : ℕ) (currency : Text) (txs : List Tx) (y : Source) → IsIn y (flat_map (outputs_made time currency) txs)
    → (hash : Text) × (p : ℕ) × (y.id ≡ T hash p) × IsIn hash (hashes currency txs)
of_transaction time currency [] y there = absurd there
of_transaction time currency (tx ∷ txs) y there =
    elim (in_append y (outputs_made time currency tx) (flat_map (outputs_made time currency) txs) there) [
      | inl here ↦ let h = at_place time 0 (tx_hash currency tx) tx.outputs y here in (tx_hash currency tx, h.0, h.2, inl refl)
      | inr later ↦ let h = of_transaction time currency txs y later in (h.0, h.1, h.2, inr h.3)
    ]

differs : (a b : Text) (texts : List Text) → names texts a ≡ false → IsIn b texts → same_text a b ≡ false
differs a b texts none there = is_false (same_text a b) (λ e. true≢false (sym (in_any (same_text a) texts b there e) ∙ none))

all_outputs_once : (time : ℕ) (currency : Text) (txs : List Tx) → each_once same_text (hashes currency txs) ≡ true
    → SourcesApart (flat_map (outputs_made time currency) txs)
all_outputs_once time currency [] once = refl
all_outputs_once time currency (tx ∷ txs) once =
    let hash = tx_hash currency tx in
    let none : names (hashes currency txs) hash ≡ false = not_true _ (and_left _ (each_once same_text (hashes currency txs)) once) in
    sources-append (outputs_made time currency tx) (flat_map (outputs_made time currency) txs) (outputs_once time 0 hash tx.outputs)
    (all_outputs_once time currency txs (and_right (not (names (hashes currency txs) hash)) _ once))
    (λ x y here later.
    let h = at_place time 0 hash tx.outputs x here in
    let k = of_transaction time currency txs y later in
    let apart : same_source (T hash h.0) (T k.0 k.1) ≡ false = rw (differs hash k.0 (hashes currency txs) none k.3) in
    rw (h.2, k.2) apart)

-- ---- dividends

of_member : (time number amount base : ℕ) (ks : List Text) (y : Source) → IsIn y (map (dividend_source time number amount base) ks)
    → (k : Text) × IsIn k ks × (y.id ≡ D k number)
of_member time number amount base [] y there = absurd there
of_member time number amount base (k ∷ ks) y (inl e) = (k, inl refl, ap (λ (s : Source). s.id) e)
of_member time number amount base (k ∷ ks) y (inr there) = let h = of_member time number amount base ks y there in (h.0, inr h.1, h.2)

shares_once : (time number amount base : ℕ) (ks : List Text) → each_once same_text ks ≡ true
    → SourcesApart (map (dividend_source time number amount base) ks)
shares_once time number amount base [] once = refl
shares_once time number amount base (k ∷ ks) once =
    let none = none_in (λ (y : Source). same_source (D k number) y.id) (map (dividend_source time number amount base) ks)
    (λ y there. let h = of_member time number amount base ks y there in
    let apart : same_source (D k number) (D h.0 number) ≡ false =
    rw (differs k h.0 ks (not_true _ (and_left _ (each_once same_text ks) once)) h.1) in
    subst (λ id. same_source (D k number) id ≡ false) (sym h.2) apart) in
    rw none (shares_once time number amount base ks (and_right (not (names ks k)) _ once))

paid_once : (time number : ℕ) (paid : Option ℕ) (base : ℕ) (ks : List Text) → each_once same_text ks ≡ true
    → SourcesApart (dividends_made time number paid base ks)
paid_once time number None base ks once = refl
paid_once time number (Some amount) base ks once = shares_once time number amount base ks once

dividends_once : (number : ℕ) (h : Option Head) (ks : List Text) → each_once same_text ks ≡ true → SourcesApart (dividends_at number h ks)
dividends_once number None ks once = refl
dividends_once number (Some h) ks once = paid_once h.median_time number h.ud h.unit_base ks once

of_paid : (time number : ℕ) (paid : Option ℕ) (base : ℕ) (ks : List Text) (y : Source) → IsIn y (dividends_made time number paid base ks)
    → (k : Text) × (y.id ≡ D k number)
of_paid time number None base ks y there = absurd there
of_paid time number (Some amount) base ks y there = let h = of_member time number amount base ks y there in (h.0, h.2)

of_dividend : (number : ℕ) (h : Option Head) (ks : List Text) (y : Source) → IsIn y (dividends_at number h ks) → (k : Text) × (y.id ≡ D k number)
of_dividend number None ks y there = absurd there
of_dividend number (Some h) ks y there = of_paid h.median_time number h.ud h.unit_base ks y there

-- ---- what one block makes: its outputs and its dividends, whatever its time and its head

abbrev makes : ℕ → Text → List Tx → ℕ → Option Head → List Text → List Source
makes time currency txs number h ks = flat_map (outputs_made time currency) txs ++ dividends_at number h ks

makes_once : (time : ℕ) (currency : Text) (txs : List Tx) (number : ℕ) (h : Option Head) (ks : List Text)
    → each_once same_text (hashes currency txs) ≡ true → each_once same_text ks ≡ true → SourcesApart (makes time currency txs number h ks)
makes_once time currency txs number h ks once keys =
    sources-append (flat_map (outputs_made time currency) txs) (dividends_at number h ks)
    (all_outputs_once time currency txs once)
    (dividends_once number h ks keys)
    (λ x y output dividend.
    let p = of_transaction time currency txs x output in
    let q = of_dividend number h ks y dividend in
    rw (p.2, q.1))

-- ---- old and new sources

-- it was made on the chain
abbrev IsOld : Chain → SourceId → Type 0
IsOld c (T hash n) = names (hashes_of c) hash ≡ true
IsOld c (D k n) = n < length c

-- it is made by the next block, whose transactions have these hashes
abbrev IsNew : Chain → List Text → SourceId → Type 0
IsNew c texts (T hash n) = IsIn hash texts
IsNew c texts (D k n) = n ≡ length c

makes_new : (c : Chain) (time : ℕ) (currency : Text) (txs : List Tx) (number : ℕ) (h : Option Head) (ks : List Text)
    → number ≡ length c → (s : Source) → IsIn s (makes time currency txs number h ks) → IsNew c (hashes currency txs) s.id
makes_new c time currency txs number h ks next s there =
    elim (in_append s (flat_map (outputs_made time currency) txs) (dividends_at number h ks) there) [
      | inl output ↦ let p = of_transaction time currency txs s output in subst (IsNew c (hashes currency txs)) (sym p.2) p.3
      | inr dividend ↦ let q = of_dividend number h ks s dividend in subst (IsNew c (hashes currency txs)) (sym q.1) next
    ]

is_new : (c : Chain) (b : Block) → b.number ≡ length c → (s : Source) → IsIn s (made_by c b) → IsNew c (hashes_in b) s.id
is_new c b = makes_new c (time_of (b ∷ c)) b.currency b.transactions b.number (head_of (b ∷ c)) (members (b ∷ c))

old_later : (c : Chain) (b : Block) (id : SourceId) → IsOld c id → IsOld (b ∷ c) id
old_later c b (T hash n) old = list_any-append (same_text hash) (hashes_in b) (hashes_of c) ∙ or_true _ _ (inr old)
old_later c b (D k n) old = omega arith

new_later : (c : Chain) (b : Block) (id : SourceId) → IsNew c (hashes_in b) id → IsOld (b ∷ c) id
new_later c b (T hash n) new = any_left (same_text hash) (hashes_in b) (hashes_of c) (in_any (same_text hash) (hashes_in b) hash new (same_text_own hash))
new_later c b (D k n) new = omega arith

old_not_new : (c : Chain) (texts : List Text) → AllByRecursion (λ hash. not (names (hashes_of c) hash) ≡ true) texts
    → (old new : SourceId) → IsOld c old → IsNew c texts new → same_source old new ≡ false
old_not_new c texts fresh (T hash n) (T hash' n') old new =
    let none : names (hashes_of c) hash' ≡ false = not_true _ (in_all _ texts fresh hash' new) in
    let apart : same_text hash hash' ≡ false =
    is_false _ (λ e. true≢false (sym (subst (λ h. names (hashes_of c) h ≡ true) (same_text_is hash hash' e) old) ∙ none)) in
    rw apart
old_not_new c texts fresh (D k n) (D k' n') old new = and_false (same_text k k') _ (unequal n n' (omega arith))
old_not_new c texts fresh (T hash n) (D k n') old new = refl
old_not_new c texts fresh (D k n') (T hash n) old new = refl

-- what a sound chain made is old: it has a hash of the chain, or the number of one of its blocks
is_old : (c : Chain) → IsSound c → (s : Source) → IsIn s (made_sources c) → IsOld c s.id
is_old [] sound s there = absurd there
is_old (b ∷ c) sound s there =
    elim (in_append s (made_sources c) (made_by c b) there) [
      | inl old ↦ old_later c b s.id (is_old c sound.1 s old)
      | inr new ↦ new_later c b s.id (is_new c b (sound.0 G51 refl) s new)
    ]

-- what a block makes was not made before
pub old_apart : (c : Chain) (b : Block) → IsSound (b ∷ c) → (x y : Source) → IsIn x (made_sources c) → IsIn y (made_by c b) → same_source x.id y.id ≡ false
old_apart c b sound x y old new =
    old_not_new c (hashes_in b) (sound.0 X05 refl).1 x.id y.id (is_old c sound.1 x old) (is_new c b (sound.0 G51 refl) y new)

-- no source of a sound chain is made twice
pub made_sources-once : (c : Chain) → IsSound c → SourcesApart (made_sources c)
made_sources-once [] sound = refl
made_sources-once (b ∷ c) sound =
    sources-append (made_sources c) (made_by c b) (made_sources-once c sound.1)
    (makes_once (time_of (b ∷ c)) b.currency b.transactions b.number (head_of (b ∷ c)) (members (b ∷ c)) (sound.0 X05 refl).0 (members-once (b ∷ c)))
    (old_apart c b sound)
