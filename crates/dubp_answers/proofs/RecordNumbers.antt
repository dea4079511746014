-- The numbers of the records of a chain are in the ranges of their spellings: what a line says is, since its block has a text; a time is the median time
-- of a block, which its header states; and so is what a dividend is, and in which base.
use Rattle.std.proofs.Common.{◌≡◌, ℕ, ◌+◌, ◌≤◌, ◌==◌, Bool, true, false, cond, List, [], ◌∷◌, length, map, filter, Option, Some, None, option_map, unwrap_or, ap, subst, arith}
use Rattle.std.specs.Prelude.{find, if◌then◌else◌}
use Rattle.std.specs.List.{AllByRecursion, enumerate_from, flat_map}
use Rattle.std.proofs.lemmas.Option.{none-some}
use Rattle.std.proofs.lemmas.List.Elements.{recursion_from_All}
use Rattle.dubp_atoms.specs.Same.{Text, same_stamp, empty_stamp}
use Rattle.dubp_atoms.specs.Spelling.{IsNumber}
use Rattle.dubp_atoms.specs.declared.stamp.Stamp.{Stamp}
use Rattle.dubp_cond.specs.Conditions.{cond_text}
use Rattle.dubp_cond.specs.Sources.{IsInput, IsSource}
use Rattle.dubp_cond.specs.Outputs.{IsOutput}
use Rattle.dubp_cond.specs.Transactions.{IsTx}
use Rattle.dubp_cond.specs.declared.source.SourceId.{SourceId}
use Rattle.dubp_cond.specs.declared.source.SourceId.TheVariants.{D, T}
use Rattle.dubp_cond.specs.declared.source.Input.{Input}
use Rattle.dubp_cond.specs.declared.output.Output.{Output}
use Rattle.dubp_cond.specs.declared.tx.Tx.{Tx}
use Rattle.dubp_block.specs.declared.block.Block.{Block}
use Rattle.dubp_block.specs.declared.block.CertLine.{CertLine}
use Rattle.dubp_block.specs.declared.block.IdentityLine.{IdentityLine}
use Rattle.dubp_block.specs.declared.block.MemberLine.{MemberLine}
use Rattle.dubp_block.specs.Sections.{IsIdentity, IsMembership}
use Rattle.dubp_block.specs.Text.{IsBlock, IsDividend}
use Rattle.dubp_chain.specs.declared.head.Head.{Head}
use Rattle.dubp_chain.specs.HeadStamp.{head_stamp}
use Rattle.dubp_chain.specs.Chains.{Chain}
use Rattle.dubp_chain.specs.Members.{members}
use Rattle.dubp_chain.specs.Heads.{heads_of, head_of, time_of, unit_base_of}
use Rattle.dubp_chain.specs.Made.{made, certification_made}
use Rattle.dubp_chain.specs.Money.{Source, output_source, outputs_made, dividend_source, dividends_made, dividends_at, made_by, made_sources, cleared, cleared_by, is_left}
use Rattle.dubp_validity.specs.HeadRules.{MedianTimeIsRight, DividendIsRight, UnitBaseIsRight}
use Rattle.dubp_validity.specs.declared.record.Record.{Record}
use Rattle.dubp_validity.specs.declared.record.Record.TheVariants.{Create, Enter, Exit, Join, Active, Leave, Revoke, Expire, ExpireRev, Cert, CertExpire, Spend, Dividend, Clear}
use Rattle.dubp_validity.specs.Records.{membership_time, line_records, expiry_records, revocation_records, ended_records, input_of, make_record, transaction_records, dividend_records, clearing_records, records, records_at}
use Rattle.dubp_lists.proofs.Elements.{all_append}
use Rattle.dubp_answers.specs.RecordNumbers.{place_in, HasInputNumbers, HasNumbers}

-- ---- lists of which each has what each of another has

module _ {X Y : Type 0} (Q : X → Type 0) (P : Y → Type 0) where
  mapped : (f : X → Y) → ((x : X) → Q x → P (f x)) → (xs : List X) → AllByRecursion Q xs → AllByRecursion P (map f xs)
  mapped f to [] all = tt
  mapped f to (x ∷ xs) all = (to x all.0, mapped f to xs all.1)

  mapped_flat : (f : X → List Y) → ((x : X) → Q x → AllByRecursion P (f x)) → (xs : List X) → AllByRecursion Q xs → AllByRecursion P (flat_map f xs)
  mapped_flat f to [] all = tt
  mapped_flat f to (x ∷ xs) all = all_append P (f x) (flat_map f xs) (to x all.0) (mapped_flat f to xs all.1)

each_mapped : {X Y : Type 0} (P : Y → Type 0) (f : X → Y) → ((x : X) → P (f x)) → (xs : List X) → AllByRecursion P (map f xs)
each_mapped P f to [] = tt
each_mapped P f to (x ∷ xs) = (to x, each_mapped P f to xs)

kept : {X : Type 0} (P : X → Type 0) (p : X → Bool) (xs : List X) → AllByRecursion P xs → AllByRecursion P (filter p xs)
kept P p [] all = tt
kept P p (x ∷ xs) all =
    let later = kept P p xs all.1 in
    elim (p x) as (λ b. AllByRecursion P (cond b (x ∷ filter p xs) (filter p xs))) [ true ↦ (all.0, later) | false ↦ later ]

-- ---- times

-- the header of each block states the median time, the dividend and the unit base of its head
abbrev pub HeadersAreRight : Chain → Type 0
HeadersAreRight [] = Unit {0}
HeadersAreRight (b ∷ c) = MedianTimeIsRight c b × DividendIsRight c b × UnitBaseIsRight c b × HeadersAreRight c

abbrev HasTime : Head → Type 0
HasTime h = IsNumber h.median_time

heads_have_times : (c : Chain) → HeadersAreRight c → AllByRecursion IsBlock c → AllByRecursion HasTime (heads_of c)
heads_have_times [] right are = tt
heads_have_times (b ∷ c) right are = (subst IsNumber right.0 are.0.median_time, heads_have_times c right.3 are.1)

found_time : (test : Head → Bool) (hs : List Head) → AllByRecursion HasTime hs → IsNumber (unwrap_or (option_map (λ h. h.median_time) (find test hs)) 0)
found_time test [] all = omega arith
found_time test (h ∷ hs) all =
    elim (test h) as (λ b. IsNumber (unwrap_or (option_map (λ h. h.median_time) (cond b (Some h) (find test hs))) 0)) [ true ↦ all.0 | false ↦ found_time test hs all.1 ]

made_number : (c : Chain) (b : Block) (s : Stamp) → HeadersAreRight c → AllByRecursion IsBlock c → IsNumber b.median_time → IsNumber (unwrap_or (made c b s) 0)
made_number [] b s right are time =
    elim (same_stamp empty_stamp s) as (λ t. IsNumber (unwrap_or (if t then Some b.median_time else None) 0)) [ true ↦ time | false ↦ omega arith ]
made_number (a ∷ c) b s right are time = found_time (λ h. same_stamp s (head_stamp h)) (heads_of (a ∷ c)) (heads_have_times (a ∷ c) right are)

certified_number : (c : Chain) (b : Block) (line : CertLine) → HeadersAreRight c → AllByRecursion IsBlock c → IsNumber b.median_time → IsNumber (unwrap_or (certification_made c b line) 0)
certified_number [] b line right are time = time
certified_number (a ∷ c) b line right are time = found_time (λ h. h.number == line.number) (heads_of (a ∷ c)) (heads_have_times (a ∷ c) right are)

-- ---- sources

abbrev HasSourceNumbers : Source → Type 0
HasSourceNumbers s = HasInputNumbers (input_of s)

abbrev IsOfOutput : Source → Type 0
IsOfOutput s = HasSourceNumbers s × (length (cond_text s.cond) ≤ 1000)

outputs_from : (time : ℕ) (hash : Text) (n : ℕ) (outputs : List Output) → AllByRecursion IsOutput outputs → n + length outputs ≤ 1000
    → AllByRecursion IsOfOutput (map (output_source time hash) (enumerate_from n outputs))
outputs_from time hash n [] are few = tt
outputs_from time hash n (o ∷ outputs) are few =
    ((record { amount = are.0.amount; base = are.0.base; place = omega (arith, few) }, are.0.cond.short), outputs_from time hash (n + 1) outputs are.1 (omega (arith, few)))

outputs_have : (time : ℕ) (currency : Text) (tx : Tx) → IsTx tx → AllByRecursion IsOfOutput (outputs_made time currency tx)
outputs_have time currency tx is = outputs_from time _ 0 tx.outputs (recursion_from_All IsOutput tx.outputs is.outputs.each) (omega (arith, is.outputs.few))

dividends_have : (time number : ℕ) (paid : Option ℕ) (base : ℕ) (keys : List Text) → IsNumber number → IsDividend paid → base ≤ 15
    → AllByRecursion HasSourceNumbers (dividends_made time number paid base keys)
dividends_have time number None base keys place is fits = tt
dividends_have time number (Some amount) base keys place is fits =
    each_mapped HasSourceNumbers (dividend_source time number amount base) (λ k. record { amount = is; base = fits; place = place }) keys

paid_have : (c : Chain) (b : Block) → HeadersAreRight (b ∷ c) → IsBlock b → AllByRecursion HasSourceNumbers (dividends_at b.number (head_of (b ∷ c)) (members (b ∷ c)))
paid_have c b right is =
    dividends_have (time_of (b ∷ c)) b.number _ (unit_base_of (b ∷ c)) (members (b ∷ c)) is.number
    (subst IsDividend right.1 is.dividend) (subst (λ n. n ≤ 15) right.2 is.unit_base)

made_have : (c : Chain) → HeadersAreRight c → AllByRecursion IsBlock c → AllByRecursion HasSourceNumbers (made_sources c)
made_have [] right are = tt
made_have (b ∷ c) right are =
    all_append HasSourceNumbers (made_sources c) (made_by c b) (made_have c right.3 are.1)
    (all_append HasSourceNumbers (flat_map (outputs_made (time_of (b ∷ c)) b.currency) b.transactions) (dividends_at b.number (head_of (b ∷ c)) (members (b ∷ c)))
    (mapped_flat IsTx HasSourceNumbers (outputs_made (time_of (b ∷ c)) b.currency)
    (λ tx is. without_cond (outputs_made (time_of (b ∷ c)) b.currency tx) (outputs_have (time_of (b ∷ c)) b.currency tx is)) b.transactions (recursion_from_All IsTx b.transactions are.0.transactions))
    (paid_have c b right are.0))
  where
    without_cond : (ss : List Source) → AllByRecursion IsOfOutput ss → AllByRecursion HasSourceNumbers ss
    without_cond [] all = tt
    without_cond (s ∷ ss) all = (all.0.0, without_cond ss all.1)

-- ---- records

abbrev all_of : List Record → Type 0
all_of rows = AllByRecursion HasNumbers rows

in_input : (i : Input) → IsInput i → HasInputNumbers i
in_input i is = record { amount = is.amount; base = is.base; place = placed i.source is.source }
  where
    placed : (s : SourceId) → IsSource s → IsNumber (place_in s)
    placed (D key block) h = h.1
    placed (T tx index) h = h.1

module _ (c : Chain) (b : Block) (right : HeadersAreRight (b ∷ c)) (are : AllByRecursion IsBlock (b ∷ c)) where
  membership_number : (line : MemberLine) → IsNumber (membership_time c b line)
  membership_number line = made_number c b line.stamp right.3 are.1 are.0.median_time

  lines_have : all_of (line_records c b)
  lines_have =
      all_append HasNumbers _ _ (mapped IsIdentity HasNumbers (λ (line : IdentityLine). Create line.key line.uid line.stamp) (λ line is. is.stamp.number) b.identities (recursion_from_All IsIdentity b.identities are.0.identities))
      (all_append HasNumbers _ _
      (mapped_flat IsMembership HasNumbers (λ (line : MemberLine). Enter line.key ∷ Join line.key (membership_time c b line) ∷ []) (λ line is. (tt, (membership_number line, tt))) b.joiners (recursion_from_All IsMembership b.joiners are.0.joiners))
      (all_append HasNumbers _ _ (each_mapped HasNumbers (λ (line : MemberLine). Active line.key (membership_time c b line)) membership_number b.actives)
      (all_append HasNumbers _ _ (each_mapped HasNumbers (λ (line : MemberLine). Leave line.key (membership_time c b line)) membership_number b.leavers)
      (all_append HasNumbers _ _ (each_mapped HasNumbers (λ line. Revoke line.key) (λ line. tt) b.revoked)
      (all_append HasNumbers _ _ (each_mapped HasNumbers Exit (λ key. tt) b.excluded)
      (each_mapped HasNumbers (λ (line : CertLine). Cert line.from line.to (unwrap_or (certification_made c b line) 0))
      (λ line. certified_number c b line right.3 are.1 are.0.median_time) b.certifications))))))

  transaction_has : (tx : Tx) → IsTx tx → all_of (transaction_records c b tx)
  transaction_has tx is =
      all_append HasNumbers (map Spend tx.inputs) (map make_record (outputs_made (time_of (b ∷ c)) b.currency tx))
      (mapped IsInput HasNumbers Spend in_input tx.inputs (recursion_from_All IsInput tx.inputs is.inputs.each))
      (mapped IsOfOutput HasNumbers make_record (λ s h. h) (outputs_made (time_of (b ∷ c)) b.currency tx) (outputs_have (time_of (b ∷ c)) b.currency tx is))

  cleared_have : AllByRecursion HasSourceNumbers (cleared_by c b (cleared c))
  cleared_have = kept HasSourceNumbers _ _ (kept HasSourceNumbers (is_left (b ∷ c) (cleared c)) (made_sources (b ∷ c)) (made_have (b ∷ c) right are))

  records_have : all_of (records c b)
  records_have =
      all_append HasNumbers (line_records c b) _ lines_have
      (all_append HasNumbers (expiry_records c b) _ (each_mapped HasNumbers Expire (λ k. tt) _)
      (all_append HasNumbers (revocation_records c b) _ (each_mapped HasNumbers ExpireRev (λ k. tt) _)
      (all_append HasNumbers (ended_records c b) _ (each_mapped HasNumbers (λ (p : Text × Text). CertExpire p.0 p.1) (λ p. tt) _)
      (all_append HasNumbers (flat_map (transaction_records c b) b.transactions) _
      (mapped_flat IsTx HasNumbers (transaction_records c b) transaction_has b.transactions (recursion_from_All IsTx b.transactions are.0.transactions))
      (all_append HasNumbers (dividend_records c b) (clearing_records c b)
      (mapped HasSourceNumbers HasNumbers (λ s. Dividend (input_of s)) (λ s h. h) (dividends_at b.number (head_of (b ∷ c)) (members (b ∷ c))) (paid_have c b right are.0))
      (mapped HasSourceNumbers HasNumbers (λ s. Clear (input_of s)) (λ s h. h) (cleared_by c b (cleared c)) cleared_have))))))

pub records_have_numbers : (c : Chain) (number : ℕ) (rows : List Record) → HeadersAreRight c → AllByRecursion IsBlock c → records_at c number ≡ Some rows → AllByRecursion HasNumbers rows
records_have_numbers [] number rows right are at = absurd (none-some rows at)
records_have_numbers (b ∷ c) number rows right are at =
    elim (number == length c) as (λ t. (if t then Some (records c b) else records_at c number) ≡ Some rows → AllByRecursion HasNumbers rows) [
      | true ↦ λ this. subst (AllByRecursion HasNumbers) (ap (λ o. unwrap_or o []) this) (records_have c b right are)
      | false ↦ λ earlier. records_have_numbers c number rows right.3 are.1 earlier
    ] at
