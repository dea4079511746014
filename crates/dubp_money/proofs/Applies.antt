-- A block that is written behind a chain: what its head pays and clears is what the chain with it has, and how many steps that takes.
use Rattle.std.proofs.Common.{◌≡◌, ℕ, ◌+◌, ◌^◌, ◌<◌, ◌≤◌, List, [], ◌∷◌, ◌++◌, Option, Some, None, map, length, sum_by, refl, ap, sym, ◌∙◌, subst, append_assoc, length-append, arith}
use Rattle.std.specs.Prelude.{IfSome, ⊤}
use Rattle.std.specs.Option.{MatchOption, option_map_or}
use Rattle.std.specs.List.{AllByRecursion, flat_map}
use Rattle.std.proofs.Math.Nat.{mul-le-mul_left, pow-le-pow_right}
use Rattle.std.proofs.lemmas.List.{length-map}
use Rattle.std.proofs.lemmas.List.Sums.{sum_by-cons}
use Rattle.std.proofs.lemmas.List.Elements.{recursion_from_All}
use Rattle.dubp_atoms.specs.Same.{Text}
use Rattle.dubp_cond.specs.declared.tx.Tx.{Tx}
use Rattle.dubp_cond.specs.Transactions.{IsTx}
use Rattle.dubp_block.specs.declared.block.Block.{Block}
use Rattle.dubp_chain.specs.declared.head.Head.{Head}
use Rattle.dubp_docs.specs.declared.hashing.TxHashes.{TxHashes}
use Rattle.dubp_docs.specs.Spelling.{tx_hash}
use Rattle.dubp_chain.specs.Chains.{Chain}
use Rattle.dubp_chain.specs.Members.{members}
use Rattle.dubp_chain.specs.Heads.{units, time_of, unit_base_of, issued}
use Rattle.dubp_chain.specs.Money.{Source, units_of, dividend_source, dividends_made, dividends_at, outputs_made, made_sources, cleared_by, cleared, cleared_units, hashes_in}
use Rattle.dubp_validity.specs.declared.record.Record.{Record}
use Rattle.dubp_validity.specs.declared.record.Record.TheVariants.{Spend, Dividend, Clear}
use Rattle.dubp_validity.specs.Records.{input_of, make_record, transaction_records, dividend_records, clearing_records}
use Rattle.dubp_money_steps.proofs.OfLaws.{conserves}
use Rattle.dubp_undo.specs.States.{states}
use Rattle.dubp_sindex.specs.declared.sindex.SIndex.{SIndex}
use Rattle.dubp_sindex.specs.contracts.sindex.SIndexTablesSourceRows.TheImpl as tables
use Rattle.dubp_sindex.specs.Rows.{Entry, units_of_entry}
use Rattle.dubp_money_steps.specs.Steps.{outputs_of, dividends_of, cleared_units_by}
use Rattle.dubp_money_steps.specs.Left.{AreSmall, sources_left, sources_before_clearing}
use Rattle.dubp_money_steps.specs.Clearing.{has_little, taken, clear_record}
use Rattle.dubp_money_steps.proofs.Totals.{totals_go_on}
use Rattle.dubp_money_steps.proofs.Bounds.{places_are_there}
use Rattle.dubp_rules.specs.declared.rule.Rule.TheVariants.{X04}
use Rattle.dubp_money.specs.declared.paying.Payment.{Payment}
use Rattle.dubp_money.specs.declared.money.Totals.{Totals}
use Rattle.dubp_money.specs.Index.{HasRows}
use Rattle.dubp_money.specs.Texts.{Fits}
use Rattle.dubp_money.specs.Transactions.{all_outputs, records_of}
use Rattle.dubp_money.specs.Blocks.{paid, IsWritten, IsCleared}
use Rattle.dubp_money.specs.Tables.{totals_of}
use Rattle.dubp_money.specs.Applied.{IsApplied, ArePaid, money_records}
use Rattle.dubp_money.proofs.Units.{units_filter}
use Rattle.dubp_money.proofs.BlockRows.{units_before_clearing, taken_is}

-- the index of a chain has its rows
pub rows_at : (index : SIndex) (texts : List Text) (c : Chain) → (tables.ghosts).at index (states (sources_left texts) c) → HasRows index (sources_left texts c)
rows_at index texts [] at = at
rows_at index texts (b ∷ c) at = at

-- members are looked at only where they are paid
paid_alike : (number : ℕ) (h : Head) (keys keys' : List Text) → IfSome h.ud (λ amount. keys ≡ keys') → dividends_at number (Some h) keys ≡ dividends_at number (Some h) keys'
paid_alike number h keys keys' same =
    elim h.ud as (λ o. IfSome o (λ amount. keys ≡ keys') → dividends_made h.median_time number o h.unit_base keys ≡ dividends_made h.median_time number o h.unit_base keys') [
      | None ↦ λ _. refl
      | Some amount ↦ λ e. ap (map (dividend_source h.median_time number amount h.unit_base)) e
    ] same

-- ---- the units of what is cleared

abbrev units_of_record : Record → ℕ
units_of_record (Clear input) = units input.amount input.base
units_of_record other = 0

sum_taken : (taken : List Entry) → sum_by units_of_record (map clear_record taken) ≡ sum_by units_of_entry taken
sum_taken [] = refl
sum_taken (e ∷ taken) = sum_by-cons units_of_record (clear_record e) (map clear_record taken) ∙ ap (λ n. units_of_entry e + n) (sum_taken taken) ∙ sym (sum_by-cons units_of_entry e taken)

sum_cleared : (sources : List Source) → sum_by units_of_record (map (λ s. Clear (input_of s)) sources) ≡ sum_by units_of sources
sum_cleared [] = refl
sum_cleared (s ∷ sources) =
    sum_by-cons units_of_record (Clear (input_of s)) (map (λ s. Clear (input_of s)) sources) ∙ ap (λ n. units_of s + n) (sum_cleared sources) ∙ sym (sum_by-cons units_of s sources)

cleared_units_are : (c : Chain) (b : Block) (taken : List Entry) → map clear_record taken ≡ clearing_records c b → sum_by units_of_entry taken ≡ cleared_units_by c b
cleared_units_are c b taken are = sym (sum_taken taken) ∙ ap (sum_by units_of_record) are ∙ sum_cleared (cleared_by c b (cleared c))

-- ---- at least one record a transaction

records_some : (c : Chain) (b : Block) (txs : List Tx) → AllByRecursion IsTx txs → length txs ≤ length (flat_map (transaction_records c b) txs)
records_some c b [] are = omega arith
records_some c b (tx ∷ txs) are =
    omega (
      arith,
      records_some c b txs are.1,
      are.0.inputs.some,
      length-append (transaction_records c b tx) (flat_map (transaction_records c b) txs),
      length-append (map Spend tx.inputs) (map make_record (outputs_made (time_of (b ∷ c)) b.currency tx)),
      length-map tx.inputs Spend,
    )

module _ (c : Chain) (b : Block) (h : Head) (applied : IsApplied c b h) where
  pub hashes_few : (hashes : List TxHashes) → map (λ (x : TxHashes). x.whole) hashes ≡ hashes_in b → length hashes ≤ length (money_records c b)
  hashes_few hashes are =
      omega (
        arith,
        ap length are,
        length-map hashes (λ (x : TxHashes). x.whole),
        length-map b.transactions (tx_hash b.currency),
        records_some c b b.transactions (recursion_from_All IsTx b.transactions applied.block.transactions),
        length-append (flat_map (transaction_records c b) b.transactions) (dividend_records c b ++ clearing_records c b),
      )

  time_is : h.median_time ≡ time_of (b ∷ c)
  time_is = sym (ap (λ o. option_map_or (λ (g : Head). g.median_time) o 0) applied.head)

  base_is : h.unit_base ≡ unit_base_of (b ∷ c)
  base_is = sym (ap (λ o. option_map_or (λ (g : Head). g.unit_base) o 0) applied.head)

  -- the unit base has a bound, and so the limit
  limit_fits : units 100 h.unit_base < 2 ^ 128
  limit_fits =
      let base : h.unit_base ≤ 15 = subst (λ n. n ≤ 15) (sym base_is) (applied.sound.0 X04 refl) in
      let most : units 100 h.unit_base ≤ units 100 15 = mul-le-mul_left 100 (pow-le-pow_right (omega arith) base) in
      omega (arith, most)

  pub is_cleared : (limit : ℕ) (texts : List Text) → (units 100 h.unit_base < 2 ^ 128 → limit ≡ units 100 h.unit_base) → Fits texts (b ∷ c) → IsCleared c b limit texts
  is_cleared limit texts is fits = record { sound = applied.sound; limited = is limit_fits ∙ ap (units 100) base_is; fits = fits }

  mass_is : h.mass ≡ issued (b ∷ c)
  mass_is = subst (λ o. MatchOption o ⊤ (λ (g : Head). g.mass ≡ issued (b ∷ c))) applied.head (conserves (b ∷ c) applied.sound).mass

  -- no more was cleared than the head says was issued
  cleared_within : cleared_units c + cleared_units_by c b ≤ h.mass
  cleared_within = omega (arith, mass_is, (totals_go_on c b applied.sound).cleared, (conserves (b ∷ c) applied.sound).units)

  -- the units of what the block clears are a number of 128 bits
  pub cleared_is : (limit : ℕ) (texts : List Text) → Fits texts c → IsCleared c b limit texts → (took : List Entry) (gone : ℕ) → map clear_record took ≡ clearing_records c b
      → (sum_by units_of_entry took < 2 ^ 128 → gone ≡ sum_by units_of_entry took) → gone ≡ cleared_units_by c b
  cleared_is limit texts fits w took gone are summed =
      let rows = sources_before_clearing texts c b in
      let same = cleared_units_are c b took are in
      let all = cleared_units_are c b (taken limit rows) (taken_is texts c b limit w) in
      summed (omega (arith, same, all, units_filter (has_little limit rows) rows, units_before_clearing c b applied.sound applied.block applied.short texts fits)) ∙ same

  -- the totals are those of the chain with the block
  pub totals_are : (t before : Totals) (gone made : ℕ) → before ≡ totals_of c → gone ≡ cleared_units_by c b → made ≡ length (made_sources (b ∷ c))
      → t.issued ≡ h.mass → (before.cleared + gone ≤ h.mass → h.mass ≡ t.unspent + t.cleared) → (before.cleared + gone ≤ h.mass → t.cleared ≡ before.cleared + gone) → t.made ≡ made → t ≡ totals_of (b ∷ c)
  totals_are t before gone made was clears makes issued_is whole sums made_is =
      let go = totals_go_on c b applied.sound in
      let within : before.cleared + gone ≤ h.mass = omega (arith, ap (λ (x : Totals). x.cleared) was, clears, cleared_within) in
      let cleared : t.cleared ≡ (totals_of (b ∷ c)).cleared = omega (arith, sums within, ap (λ (x : Totals). x.cleared) was, clears, go.cleared) in
      let unspent : t.unspent ≡ (totals_of (b ∷ c)).unspent = omega (arith, whole within, cleared, mass_is, (conserves (b ∷ c) applied.sound).units) in
      λ i. record { issued = (issued_is ∙ mass_is) i; unspent = unspent i; cleared = cleared i; made = (made_is ∙ makes) i }

  module _ (payment : Option Payment) (keys : List Text) (made : ℕ) (pays : (ks : List Text) → paid payment ks ≡ dividends_at b.number (Some h) ks)
      (are : ArePaid (b ∷ c) h keys) (behind : made ≡ length (made_sources c)) where
    pub is_written : IsWritten c b h.median_time payment keys made
    is_written = record {
      sound = applied.sound;
      short = applied.short;
      at_time = time_is;
      pays = pays keys ∙ paid_alike b.number h keys (members (b ∷ c)) are ∙ ap (λ o. dividends_at b.number o (members (b ∷ c))) (sym applied.head);
      behind = behind;
    }

    all_made : made + length (all_outputs h.median_time b.currency b.transactions) + length (paid payment keys) ≡ length (made_sources (b ∷ c))
    all_made =
        omega (
          arith,
          behind,
          ap length is_written.pays,
          ap (λ t. length (all_outputs t b.currency b.transactions)) time_is,
          length-append (made_sources c) (outputs_of c b ++ dividends_of c b),
          length-append (outputs_of c b) (dividends_of c b),
        )

    pub made_is : (n : ℕ) → AreSmall (b ∷ c)
        → (made + length (all_outputs h.median_time b.currency b.transactions) + length (paid payment keys) ≤ 2 ^ 63 → n ≡ made + length (all_outputs h.median_time b.currency b.transactions) + length (paid payment keys))
        → n ≡ length (made_sources (b ∷ c))
    made_is n small counted = counted (omega (arith, all_made, places_are_there (b ∷ c) applied.sound small)) ∙ all_made

    pub records_are : (old now new : List Record) → now ≡ old ++ (flat_map (records_of h.median_time b.currency) b.transactions ++ map (λ s. Dividend (input_of s)) (paid payment keys))
        → new ≡ now ++ clearing_records c b → new ≡ old ++ money_records c b
    records_are old now new was put =
        let spent = flat_map (records_of h.median_time b.currency) b.transactions in
        let shares = map (λ s. Dividend (input_of s)) (paid payment keys) in
        put
        ∙ ap (λ l. l ++ clearing_records c b) was
        ∙ append_assoc old (spent ++ shares) (clearing_records c b)
        ∙ ap (λ l. old ++ l) (append_assoc spent shares (clearing_records c b))
        ∙ (λ i. old ++ (flat_map (records_of (time_is i) b.currency) b.transactions ++ (map (λ s. Dividend (input_of s)) (is_written.pays i) ++ clearing_records c b)))

    -- and their number
    pub records_count : (taken : List Entry) → map clear_record taken ≡ clearing_records c b
        → length (money_records c b) ≡ length (flat_map (records_of h.median_time b.currency) b.transactions) + length (paid payment keys) + length taken
    records_count taken cleared =
        omega (
          arith,
          length-append (flat_map (transaction_records c b) b.transactions) (dividend_records c b ++ clearing_records c b),
          length-append (dividend_records c b) (clearing_records c b),
          ap length cleared,
          length-map taken clear_record,
          length-map (dividends_of c b) (λ s. Dividend (input_of s)),
          ap length is_written.pays,
          ap (λ t. length (flat_map (records_of t b.currency) b.transactions)) time_is,
        )
