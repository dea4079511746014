-- The rows of a chain while a block is written: they are those of the numbered sources, transaction by transaction.
use Rattle.std.proofs.Common.{◌≡◌, ℕ, ◌+◌, ◌^◌, ◌<◌, ◌≤◌, Bool, true, false, not, cond, ◌||◌, List, [], ◌∷◌, ◌++◌, map, filter, fold, length, sum_by, refl, ap, sym, ◌∙◌, subst, length-append, arith}
use Rattle.std.specs.List.{list_any, AllByRecursion, enumerate_from}
use Rattle.dubp_atoms.specs.Same.{Text, same_text}
use Rattle.dubp_cond.specs.Conditions.{cond_text}
use Rattle.dubp_cond.specs.declared.source.Input.{Input}
use Rattle.dubp_cond.specs.declared.tx.Tx.{Tx}
use Rattle.dubp_block.specs.declared.block.Block.{Block}
use Rattle.dubp_block.specs.Text.{IsBlock}
use Rattle.dubp_chain.specs.Chains.{Chain}
use Rattle.dubp_chain.specs.Heads.{time_of}
use Rattle.dubp_chain.specs.Money as money
use Rattle.dubp_chain.specs.Money.{Source, named_by, is_left, outputs_made, made_by, made_sources, cleared, unspent}
use Rattle.dubp_validity.specs.Rules.{IsSound, IsShort}
use Rattle.dubp_lists.proofs.Elements.{in_all, all_from_in, all_append, in_filter}
use Rattle.dubp_lists.proofs.Once.{each_once-map}
use Rattle.dubp_money_steps.proofs.OfLaws.{SourcesApart, sources-filter}
use Rattle.dubp_money_steps.proofs.OfLaws.{pays, at_hand-is}
use Rattle.dubp_sindex.specs.Rows.{Entry, units_of_entry, same_source, is_named, each_once, AreRows}
use Rattle.dubp_money_steps.specs.Steps.{rest, numbered, outputs_of, dividends_of, transacted, all_transacted}
use Rattle.dubp_money_steps.specs.Left.{account_in, entry_of, entries_of, HasTexts, IsSmall, AreSmall, sources_left, sources_before_clearing}
use Rattle.dubp_money_steps.proofs.Names.{same_name, each_once-same}
use Rattle.dubp_money_steps.proofs.Entries.{names_of, without_numbers}
use Rattle.dubp_money_steps.proofs.Numbering.{sources_stay}
use Rattle.dubp_money_steps.proofs.Ranges.{sources_are_rows, made_are_small, sources_are_rows_before_clearing}
use Rattle.dubp_money_steps.proofs.Bounds.{made_stay_few, places_are_there}
use Rattle.dubp_money_steps.proofs.Units.{units_fit, units_left}
use Rattle.dubp_money_steps.proofs.Cleared.{clears_rows}
use Rattle.dubp_money_steps.specs.Clearing.{kept, taken, clear_record}
use Rattle.dubp_validity.specs.Records.{clearing_records}
use Rattle.dubp_money_steps.proofs.Transacted.{spends_and_makes}
use Rattle.dubp_money.specs.Texts.{Grows, Fits}
use Rattle.dubp_money.specs.Writing.{without_inputs}
use Rattle.dubp_money.specs.Making.{CanFollow, with_made}
use Rattle.dubp_money.specs.Transactions.{all_written}
use Rattle.dubp_money.proofs.Growing.{grows_on, has_more}
use Rattle.dubp_money.proofs.Units.{units_made}
use Rattle.dubp_money.proofs.Made.{map-both, same_flip}
use Rattle.dubp_money.specs.Blocks.{IsCleared}
use Rattle.dubp_money.proofs.Written.{can_first, IsSoFar, so_far, written-more}

-- ---- the inputs of a transaction

named_alike : (inputs : List Input) (account : Text → ℕ) (q : ℕ × Source) → list_any (λ (i : Input). is_named i.source (entry_of account q)) inputs ≡ list_any (λ (i : Input). named_by i q.1) inputs
named_alike [] account q = refl
named_alike (x ∷ inputs) account q =
    let here : same_source x.source q.1.id ≡ money.same_source q.1.id x.source = same_flip x.source q.1.id ∙ same_name q.1.id x.source in
    λ i. here i || named_alike inputs account q i

inputs-entries : (inputs : List Input) (account : Text → ℕ) (qs : List (ℕ × Source)) → without_inputs inputs (entries_of account qs) ≡ entries_of account (filter (λ q. not (list_any (λ (i : Input). named_by i q.1) inputs)) qs)
inputs-entries inputs account [] = refl
inputs-entries inputs account (q ∷ qs) =
    let later = inputs-entries inputs account qs in
    let kept = filter (λ q. not (list_any (λ (i : Input). named_by i q.1) inputs)) qs in
    rw (named_alike inputs account q) (by (not (list_any (λ (i : Input). named_by i q.1) inputs)) later)
  where
    by : (b : Bool) → without_inputs inputs (entries_of account qs) ≡ entries_of account (filter (λ q. not (list_any (λ (i : Input). named_by i q.1) inputs)) qs)
        → cond b (entry_of account q ∷ without_inputs inputs (entries_of account qs)) (without_inputs inputs (entries_of account qs))
        ≡ entries_of account (cond b (q ∷ filter (λ q. not (list_any (λ (i : Input). named_by i q.1) inputs)) qs) (filter (λ q. not (list_any (λ (i : Input). named_by i q.1) inputs)) qs))
    by true later = ap (λ l. entry_of account q ∷ l) later
    by false later = later

-- transactions do to the rows what they do to the numbered sources
written_is : (texts : List Text) (time : ℕ) (currency : Text) (txs : List Tx) (n : ℕ) (qs : List (ℕ × Source))
    → all_written texts time currency n (entries_of (account_in texts) qs) txs
    ≡ ((fold (transacted time currency) (n, qs) txs).0, entries_of (account_in texts) (fold (transacted time currency) (n, qs) txs).1)
written_is texts time currency [] n qs = refl
written_is texts time currency (tx ∷ txs) n qs =
    let made = outputs_made time currency tx in
    let kept = filter (λ q. not (list_any (λ (i : Input). named_by i q.1) tx.inputs)) qs in
    ap (λ l. all_written texts time currency (n + length made) (l ++ entries_of (account_in texts) (enumerate_from n made)) txs) (inputs-entries tx.inputs (account_in texts) qs)
    ∙ ap (λ l. all_written texts time currency (n + length made) l txs) (sym (map-both (entry_of (account_in texts)) kept (enumerate_from n made)))
    ∙ written_is texts time currency txs (n + length made) (kept ++ enumerate_from n made)

-- ---- what a block makes can follow

unspent_is : (c : Chain) → map (λ (q : ℕ × Source). q.1) (numbered c) ≡ unspent c
unspent_is c = without_numbers (is_left c (cleared c)) 0 (made_sources c)

below_from : (account : Text → ℕ) (p : Source → Bool) (n k : ℕ) (ss : List Source) → n + length ss ≤ k → AllByRecursion (λ (e : Entry). e.1.order < k) (entries_of account (filter (λ (q : ℕ × Source). p q.1) (enumerate_from n ss)))
below_from account p n k [] le = tt
below_from account p n k (s ∷ ss) le =
    let later = below_from account p (n + 1) k ss (omega (arith, le)) in
    elim (p s) as (λ r. AllByRecursion (λ (e : Entry). e.1.order < k) (entries_of account (cond r ((n, s) ∷ filter (λ (q : ℕ × Source). p q.1) (enumerate_from (n + 1) ss)) (filter (λ (q : ℕ × Source). p q.1) (enumerate_from (n + 1) ss))))) [
      | true ↦ (omega (arith, le), later)
      | false ↦ later
    ]

-- with the block all that the chain made is in its bounds
pub small_next : (c : Chain) (b : Block) → IsSound (b ∷ c) → IsBlock b → IsShort b → AreSmall c → AreSmall (b ∷ c)
small_next c b sound is short small = record {
  each = all_append IsSmall (made_sources c) (made_by c b) small.each (made_are_small c b sound is);
  count = made_stay_few c b sound short small.count;
}

pub can_make : (texts : List Text) (c : Chain) (b : Block) → IsSound (b ∷ c) → IsBlock b → IsShort b → AreSmall c → CanFollow (sources_left texts c) (length (made_sources c)) (made_by c b)
can_make texts c b sound is short small =
    let p = pays c b sound in
    record {
      apart =
          ap (λ l. each_once same_source (l ++ map (λ (s : Source). s.id) (made_by c b))) (names_of (account_in texts) (numbered c) ∙ ap (map (λ (s : Source). s.id)) (unspent_is c))
          ∙ ap (each_once same_source) (sym (map-both (λ (s : Source). s.id) (unspent c) (made_by c b)))
          ∙ each_once-same (map (λ (s : Source). s.id) (unspent c ++ made_by c b))
          ∙ each_once-map money.same_source (λ (s : Source). s.id) (unspent c ++ made_by c b)
          ∙ subst SourcesApart (at_hand-is c b p) (sources-filter (is_left c (cleared c)) (made_sources (b ∷ c)) p.once);
      behind = below_from (account_in texts) (is_left c (cleared c)) 0 (length (made_sources c)) (made_sources c) (omega arith);
      small = made_are_small c b sound is;
      few = omega (arith, places_are_there (b ∷ c) sound (small_next c b sound is short small), length-append (made_sources c) (made_by c b));
      fits = omega (arith, units_fit c b sound is short, units_left texts c);
    }

-- the chain with the block fits
pub fits_next : (texts texts' : List Text) → Grows texts texts' → (c : Chain) (b : Block) → IsSound (b ∷ c) → IsBlock b → IsShort b → Fits texts c → HasTexts texts' (made_by c b) → Fits texts' (b ∷ c)
fits_next texts texts' g c b sound is short fits has = record {
  has = all_append (λ s. list_any (same_text (cond_text s.cond)) texts' ≡ true) (made_sources c) (made_by c b) (has_more texts texts' g (made_sources c) fits.has) has;
  small = small_next c b sound is short fits.small;
}

-- ---- the rows before clearing

module _ (c : Chain) (b : Block) (sound : IsSound (b ∷ c)) (is : IsBlock b) (short : IsShort b) (texts : List Text) (fits : Fits texts c) where
  abbrev time : ℕ
  time = time_of (b ∷ c)

  abbrev count : ℕ
  count = length (made_sources c)

  pub are_rows : AreRows (sources_left texts c)
  are_rows = sources_are_rows texts c sound.1 fits.small

  pub can_transact : CanFollow (sources_left texts c) count (outputs_of c b)
  can_transact = can_first (sources_left texts c) count (outputs_of c b) (dividends_of c b) (can_make texts c b sound is short fits.small)

  pub transacted_so_far : (texts' : List Text) → IsSoFar (all_written texts' time b.currency count (sources_left texts c) b.transactions) count (outputs_of c b) (dividends_of c b)
  transacted_so_far texts' = so_far time b.currency texts' b.transactions (dividends_of c b) count (sources_left texts c) are_rows (can_make texts c b sound is short fits.small)

  unspent_has : HasTexts texts (unspent c)
  unspent_has =
      all_from_in (λ s. list_any (same_text (cond_text s.cond)) texts ≡ true) (unspent c)
      (λ s there. in_all (λ s. list_any (same_text (cond_text s.cond)) texts ≡ true) (made_sources c) fits.has s (in_filter (is_left c (cleared c)) (made_sources c) s there).0)

  pub left_same : (texts' : List Text) → Grows texts texts' → sources_left texts' c ≡ sources_left texts c
  left_same texts' g = ap (λ l. sources_left l c) g.1 ∙ sources_stay texts g.0 c unspent_has

  -- with the dividends behind
  pub before_clearing : (texts' : List Text) → with_made texts' (all_written texts' time b.currency count (sources_left texts' c) b.transactions).1 (all_written texts' time b.currency count (sources_left texts' c) b.transactions).0 (dividends_of c b)
      ≡ sources_before_clearing texts' c b
  before_clearing texts' =
      let rest = all_transacted c b in
      ap (λ s. with_made texts' s.1 s.0 (dividends_of c b)) (written_is texts' time b.currency b.transactions count (numbered c))
      ∙ sym (map-both (entry_of (account_in texts')) rest.1 (enumerate_from rest.0 (dividends_of c b)))
      ∙ ap (entries_of (account_in texts')) (sym (spends_and_makes c b sound))

  -- whose units are a number of 128 bits
  pub units_before_clearing : sum_by units_of_entry (sources_before_clearing texts c b) < 2 ^ 128
  units_before_clearing =
      let state = all_written texts time b.currency count (sources_left texts c) b.transactions in
      subst (λ l. sum_by units_of_entry l < 2 ^ 128) (before_clearing texts) (omega (arith, (transacted_so_far texts).can.fits, units_made texts state.1 state.0 (dividends_of c b)))

  -- so do the calls one after the other
  pub block_rows : (Has Has' Has'' : List Entry → Type 0) (texts' texts'' : List Text) → Grows texts texts' → Grows texts' texts'' → (behind : ℕ)
      → HasTexts texts' (outputs_of c b) → behind ≡ count + length (outputs_of c b)
      → ((rows : List Entry) → AreRows rows → CanFollow rows count (outputs_of c b) → Has rows → Has' (all_written texts' time b.currency count rows b.transactions).1)
      → ((rows : List Entry) → AreRows rows → CanFollow rows behind (dividends_of c b) → Has' rows → Has'' (with_made texts'' rows behind (dividends_of c b)))
      → Has (sources_left texts c) → Has'' (sources_before_clearing texts'' c b)
  block_rows Has Has' Has'' texts' texts'' g h behind known counted spend pay has =
      let rows = sources_left texts c in
      let state = all_written texts' time b.currency count rows b.transactions in
      let p = transacted_so_far texts' in
      let same : behind ≡ state.0 = counted ∙ sym p.count in
      let paid = pay state.1 p.are (subst (λ n. CanFollow state.1 n (dividends_of c b)) (sym same) p.can) (spend rows are_rows can_transact has) in
      let more = sym (written-more time b.currency texts' texts'' h b.transactions count rows known)
      ∙ ap (λ l. all_written texts'' time b.currency count l b.transactions) (sym (left_same texts'' (grows_on texts texts' texts'' g h))) in
      subst Has''
      (ap (λ n. with_made texts'' state.1 n (dividends_of c b)) same
      ∙ ap (λ s. with_made texts'' s.1 s.0 (dividends_of c b)) more
      ∙ before_clearing texts'')
      paid

-- what stands before clearing has texts, and is rows
rest_has : (texts : List Text) (c : Chain) (b : Block) → Fits texts (b ∷ c) → HasTexts texts (rest c b)
rest_has texts c b fits =
    all_from_in (λ s. list_any (same_text (cond_text s.cond)) texts ≡ true) (rest c b)
    (λ s there. in_all (λ s. list_any (same_text (cond_text s.cond)) texts ≡ true) (made_sources (b ∷ c)) fits.has s (in_filter (is_left (b ∷ c) (cleared c)) (made_sources (b ∷ c)) s there).0)

pub cleared_are_rows : (texts : List Text) (c : Chain) (b : Block) (limit : ℕ) → IsCleared c b limit texts → AreRows (sources_before_clearing texts c b)
cleared_are_rows texts c b limit w = sources_are_rows_before_clearing texts c b w.sound w.fits.small

pub kept_is : (texts : List Text) (c : Chain) (b : Block) (limit : ℕ) → IsCleared c b limit texts → kept limit (sources_before_clearing texts c b) ≡ sources_left texts (b ∷ c)
kept_is texts c b limit w = ap (λ n. kept n (sources_before_clearing texts c b)) w.limited ∙ (clears_rows texts c b w.sound (rest_has texts c b w.fits)).left

pub taken_is : (texts : List Text) (c : Chain) (b : Block) (limit : ℕ) → IsCleared c b limit texts → map clear_record (taken limit (sources_before_clearing texts c b)) ≡ clearing_records c b
taken_is texts c b limit w = ap (λ n. map clear_record (taken n (sources_before_clearing texts c b))) w.limited ∙ (clears_rows texts c b w.sound (rest_has texts c b w.fits)).taken
