-- The records of a chain leave its sources, each at its place in the order of making. Of a block they take away what its inputs name,
-- then what it clears; what it makes comes behind what was made before. A source is old, or an output of the block, or a dividend of it,
-- and what is new was neither used nor cleared before.
use Rattle.std.proofs.Common.{◌≡◌, ℕ, ◌+◌, Bool, true, false, cond, not, ◌||◌, ◌&&◌, List, [], ◌∷◌, ◌++◌, Option, Some, None, unwrap_or, length, refl, ap, sym, ◌∙◌, subst, true≢false, inl, inr, ◌⊎◌, arith, zero-add, length-append}
use Rattle.std.specs.Option.{option_or}
use Rattle.std.specs.List.{list_any, flat_map}
use Rattle.std.proofs.lemmas.List.Folds.{list_any-append}
use Rattle.dubp_atoms.specs.Same.{Text}
use Rattle.dubp_cond.specs.declared.source.SourceId.{SourceId}
use Rattle.dubp_block.specs.declared.block.Block.{Block}
use Rattle.dubp_block.specs.declared.block.IdentityLine.{IdentityLine}
use Rattle.dubp_block.specs.declared.block.MemberLine.{MemberLine}
use Rattle.dubp_block.specs.declared.block.RevokedLine.{RevokedLine}
use Rattle.dubp_block.specs.declared.block.CertLine.{CertLine}
use Rattle.dubp_rules.specs.declared.rule.Rule.TheVariants.{G87}
use Rattle.dubp_validity.specs.declared.record.Record.TheVariants.{Create, Enter, Exit, Join, Active, Leave, Revoke, Expire, ExpireRev, Cert, CertExpire, Dividend, Clear}
use Rattle.dubp_chain.specs.Chains.{Chain}
use Rattle.dubp_chain.specs.Members.{members}
use Rattle.dubp_chain.specs.Heads.{head_of, time_of}
use Rattle.dubp_chain.specs.Made.{certification_made}
use Rattle.dubp_chain.specs.Money.{Source, used, is_left, inputs_of, outputs_made, dividends_at, made_sources, cleared_by, cleared, unspent}
use Rattle.dubp_validity.specs.Records.{records, membership_time, input_of}
use Rattle.dubp_chain.specs.Tables.{SourceRow, source_row}
use Rattle.dubp_validity.specs.Reduced.{source_change, reduced_sources}
use Rattle.dubp_validity.specs.Rules.{IsSound}
use Rattle.dubp_lists.proofs.Elements.{or_true, is_false, any_in, any_left}
use Rattle.dubp_laws.proofs.Sources.{same_source_is, SourcesApart, sources-filter}
use Rattle.dubp_laws.proofs.Spending.{Pays, pays, at_hand-is}
use Rattle.dubp_lists.proofs.Folds.{Gives, gives_both, left_out, each_left_out}
use Rattle.dubp_laws.proofs.SourceRows.{has_id, names_id, not_in_both, apart_last, apart_first, found, found_none, found-append, found-where}
use Rattle.dubp_laws.proofs.SourceRecords.{State, makes, takes_away, MadeBefore, made_before, not_behind, dividends_make, transactions_at}

-- ---- one block more

-- the outputs and the dividends of b
abbrev outputs_of : Chain → Block → List Source
outputs_of c b = flat_map (outputs_made (time_of (b ∷ c)) b.currency) b.transactions

abbrev dividends_of : Chain → Block → List Source
dividends_of c b = dividends_at b.number (head_of (b ∷ c)) (members (b ∷ c))

abbrev clears : Chain → Block → List Source
clears c b = cleared_by c b (cleared c)

abbrev after_block : Chain → Block → SourceId → State → State
after_block c b id state =
    let count = state.0 + length (outputs_of c b) in (
      count + length (dividends_of c b),
      cond (list_any (has_id id) (clears c b)) None
          (option_or (found id count (dividends_of c b))
          (cond (list_any (names_id id) (inputs_of b)) None (option_or (found id state.0 (outputs_of c b)) state.1))),
    )

-- all other records leave the sources
block_gives : (c : Chain) (b : Block) (id : SourceId) → SourcesApart (outputs_of c b) → SourcesApart (dividends_of c b)
    → MadeBefore id (outputs_made (time_of (b ∷ c)) b.currency) (dividends_of c b) b.transactions
    → Gives (source_change (time_of (b ∷ c)) id) (records c b) (after_block c b id)
block_gives c b id outputs_apart dividends_apart before =
    let time = time_of (b ∷ c) in
    let change = source_change time id in
    gives_both change
    (gives_both change (left_out change (λ (line : IdentityLine). Create line.key line.uid line.stamp) (λ line row. refl) b.identities)
    (gives_both change (each_left_out change (λ (line : MemberLine). Enter line.key ∷ Join line.key (membership_time c b line) ∷ []) (λ line. record { at = λ row. refl }) b.joiners)
    (gives_both change (left_out change (λ (line : MemberLine). Active line.key (membership_time c b line)) (λ line row. refl) b.actives)
    (gives_both change (left_out change (λ (line : MemberLine). Leave line.key (membership_time c b line)) (λ line row. refl) b.leavers)
    (gives_both change (left_out change (λ (line : RevokedLine). Revoke line.key) (λ line row. refl) b.revoked)
    (gives_both change (left_out change Exit (λ key row. refl) b.excluded)
    (left_out change (λ (line : CertLine). Cert line.from line.to (unwrap_or (certification_made c b line) 0)) (λ line row. refl) b.certifications)))))))
    (gives_both change (left_out change Expire (λ key row. refl) _)
    (gives_both change (left_out change ExpireRev (λ key row. refl) _)
    (gives_both change (left_out change (λ (p : Text × Text). CertExpire p.0 p.1) (λ p row. refl) _)
    (gives_both change (record { at = λ state. transactions_at time b.currency id (dividends_of c b) b.transactions outputs_apart before state.0 state.1 })
    (gives_both change (makes time id (λ (s : Source). Dividend (input_of s)) (dividends_of c b) (dividends_make b.number (head_of (b ∷ c)) (members (b ∷ c))) dividends_apart)
    (takes_away time id (λ (s : Source). Clear (input_of s)) (λ (s : Source). s.id) (λ s n row. refl) (clears c b)))))))

-- ---- the law

-- an input of the chain names the source, and it was cleared
abbrev is_used : Chain → SourceId → Bool
is_used c id = list_any (λ b. list_any (names_id id) (inputs_of b)) c

abbrev is_cleared : Chain → SourceId → Bool
is_cleared c id = list_any (has_id id) (cleared c)

-- the row of a source, hidden where it was used or cleared
abbrev row_at : Chain → SourceId → Option SourceRow
row_at c id = cond (not (is_used c id) && not (is_cleared c id)) (found id 0 (made_sources c)) None

row_at-is : (c : Chain) (id : SourceId) → source_row c id ≡ row_at c id
row_at-is c id =
    found-where id (is_left c (cleared c)) (not (is_used c id) && not (is_cleared c id))
    (λ s same. ap (λ name. not (is_used c name) && not (is_cleared c name)) (sym (same_source_is id s.id same))) 0 (made_sources c)

-- Where a source of the chain with b comes from: it was made before b, and not in it, or it is an output of b, or a dividend. What is
-- new was neither used nor cleared, and no input of b names a dividend of b.
abbrev ComesFrom : Bool → Bool → Bool → Option SourceRow → Option SourceRow → Option SourceRow → Type 0
ComesFrom named used cleared old output dividend =
    ((output ≡ None) × (dividend ≡ None))
    ⊎ (((old ≡ None) × (dividend ≡ None) × (used ≡ false) × (cleared ≡ false))
    ⊎ ((old ≡ None) × (output ≡ None) × (used ≡ false) × (cleared ≡ false) × (named ≡ false)))

-- what b makes of the row is the row of the chain with b
by_origin : (named used cleared small : Bool) (old output dividend : Option SourceRow) → ComesFrom named used cleared old output dividend
    → cond small None (option_or dividend (cond named None (option_or output (cond (not used && not cleared) old None))))
    ≡ cond (not (named || used) && not (cleared || small)) (option_or old (option_or output dividend)) None
by_origin named used cleared small old output dividend (inl from) = rw (from.0, from.1) (was_old named used cleared small old)
  where
    was_old : (named used cleared small : Bool) (old : Option SourceRow)
        → cond small None (cond named None (cond (not used && not cleared) old None)) ≡ cond (not (named || used) && not (cleared || small)) (option_or old None) None
    was_old true used cleared true old = refl
    was_old true used cleared false old = refl
    was_old false true cleared true old = refl
    was_old false true cleared false old = refl
    was_old false false true true old = refl
    was_old false false true false old = refl
    was_old false false false true old = refl
    was_old false false false false None = refl
    was_old false false false false (Some x) = refl
by_origin named used cleared small old output dividend (inr (inl from)) = rw (from.0, from.1, from.2, from.3) (is_output named small output)
  where
    is_output : (named small : Bool) (output : Option SourceRow)
        → cond small None (cond named None (option_or output None)) ≡ cond (not (named || false) && not small) (option_or output None) None
    is_output true true output = refl
    is_output true false output = refl
    is_output false true output = refl
    is_output false false output = refl
by_origin named used cleared small old output dividend (inr (inr from)) = rw (from.0, from.1, from.2, from.3, from.4) (is_dividend small dividend)
  where
    is_dividend : (small : Bool) (dividend : Option SourceRow) → cond small None (option_or dividend None) ≡ cond (not small) dividend None
    is_dividend true dividend = refl
    is_dividend false None = refl
    is_dividend false (Some x) = refl

module _ (c : Chain) (b : Block) (sound : IsSound (b ∷ c)) (id : SourceId) where
  abbrev made : List Source
  made = made_sources c

  abbrev outputs : List Source
  outputs = outputs_of c b

  abbrev dividends : List Source
  dividends = dividends_of c b

  pays_block : Pays c b
  pays_block = pays c b sound

  new_apart : SourcesApart (outputs ++ dividends)
  new_apart = apart_last made (outputs ++ dividends) pays_block.once

  before : MadeBefore id (outputs_made (time_of (b ∷ c)) b.currency) dividends b.transactions
  before =
      made_before id (outputs_made (time_of (b ∷ c)) b.currency) (unspent c) dividends b.transactions
      (subst SourcesApart (at_hand-is c b pays_block) (sources-filter (is_left c (cleared c)) (made_sources (b ∷ c)) pays_block.once))
      (sound.0 G87 refl)

  -- what b makes was neither used nor cleared before
  fresh : list_any (has_id id) (outputs ++ dividends) ≡ true → (is_used c id ≡ false) × (is_cleared c id ≡ false)
  fresh new =
      let s = any_in (has_id id) (outputs ++ dividends) new in
      subst (λ name. (is_used c name ≡ false) × (is_cleared c name ≡ false)) (sym (same_source_is id s.0.id s.2)) (pays_block.fresh s.0 s.1)

  -- and it was not made before
  not_old : list_any (has_id id) (outputs ++ dividends) ≡ true → found id 0 made ≡ None
  not_old new =
      found_none id 0 made
      (is_false (list_any (has_id id) made) (λ old. true≢false (sym new ∙ not_in_both id made (outputs ++ dividends) pays_block.once old)))

  comes_from : (n m : ℕ) → ComesFrom (list_any (names_id id) (inputs_of b)) (is_used c id) (is_cleared c id) (found id 0 made) (found id n outputs) (found id m dividends)
  comes_from n m =
      elim (list_any (has_id id) outputs) as (λ r. list_any (has_id id) outputs ≡ r → ComesFrom (list_any (names_id id) (inputs_of b)) (is_used c id) (is_cleared c id) (found id 0 made) (found id n outputs) (found id m dividends)) [
        | true ↦ λ e.
            let new = any_left (has_id id) outputs dividends e in
            let h = fresh new in
            inr (inl (not_old new, found_none id m dividends (not_in_both id outputs dividends new_apart e), h.0, h.1))
        | false ↦ λ e. elim (list_any (has_id id) dividends) as (λ r. list_any (has_id id) dividends ≡ r → ComesFrom (list_any (names_id id) (inputs_of b)) (is_used c id) (is_cleared c id) (found id 0 made) (found id n outputs) (found id m dividends)) [
          | true ↦ λ d.
              let new : list_any (has_id id) (outputs ++ dividends) ≡ true = list_any-append (has_id id) outputs dividends ∙ or_true _ _ (inr d) in
              let h = fresh new in
              let unnamed = is_false (list_any (names_id id) (inputs_of b)) (λ named. true≢false (sym d ∙ not_behind id (outputs_made (time_of (b ∷ c)) b.currency) dividends b.transactions before named)) in
              inr (inr (not_old new, found_none id n outputs e, h.0, h.1, unnamed))
          | false ↦ λ d. inl (found_none id n outputs e, found_none id m dividends d)
        ] refl
      ] refl

  counted : length made + length outputs + length dividends ≡ length (made_sources (b ∷ c))
  counted = omega (arith, length-append made (outputs ++ dividends), length-append outputs dividends)

  placed : (after_block c b id (length made, row_at c id)).1 ≡ row_at (b ∷ c) id
  placed =
      by_origin (list_any (names_id id) (inputs_of b)) (is_used c id) (is_cleared c id) (list_any (has_id id) (clears c b)) (found id 0 made) (found id (length made) outputs) (found id (length made + length outputs) dividends)
      (comes_from (length made) (length made + length outputs))
      ∙ (λ i. cond (not (is_used (b ∷ c) id) && not (sym (list_any-append (has_id id) (cleared c) (clears c b)) i)) (whole i) None)
    where
      whole : option_or (found id 0 made) (option_or (found id (length made) outputs) (found id (length made + length outputs) dividends)) ≡ found id 0 (made_sources (b ∷ c))
      whole =
          ap (λ o. option_or (found id 0 made) o) (sym (found-append id (length made) outputs dividends))
          ∙ ap (λ n. option_or (found id 0 made) (found id n (outputs ++ dividends))) (sym (zero-add (length made)))
          ∙ sym (found-append id 0 made (outputs ++ dividends))

reduced_is : (c : Chain) → IsSound c → (id : SourceId) → reduced_sources c id ≡ (length (made_sources c), row_at c id)
reduced_is [] sound id = refl
reduced_is (b ∷ c) sound id =
    (block_gives c b id (apart_first (outputs_of c b) (dividends_of c b) (new_apart c b sound id)) (apart_last (outputs_of c b) (dividends_of c b) (new_apart c b sound id)) (before c b sound id)).at (reduced_sources c id)
    ∙ ap (after_block c b id) (reduced_is c sound.1 id)
    ∙ (λ i. (counted c b sound id i, placed c b sound id i))

pub sources_are : (c : Chain) → IsSound c → (id : SourceId) → (reduced_sources c id).1 ≡ source_row c id
sources_are c sound id = ap (λ (state : State). state.1) (reduced_is c sound id) ∙ sym (row_at-is c id)
