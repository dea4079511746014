-- One block more: its records tell what its transactions spend and make, what it pays and what it clears, and that leads from what a chain
-- has made and left to what the chain with the block has.
use Rattle.std.proofs.Common.{◌≡◌, ℕ, ◌+◌, ◌≤◌, Bool, true, false, not, ◌||◌, ◌&&◌, List, [], ◌∷◌, ◌++◌, map, filter, fold, length, sum_by, unwrap_or, refl, ap, sym, ◌∙◌, subst, arith, inl, inr, append_assoc, nat_lt}
use Rattle.std.specs.List.{list_any, flat_map, enumerate_from}
use Rattle.std.proofs.lemmas.List.Sums.{sum_by-cons, sum_by-append, fold-append}
use Rattle.std.proofs.lemmas.List.Concat.{flat_map-append}
use Rattle.std.proofs.lemmas.List.Elements.{filter_agree}
use Rattle.std.proofs.lemmas.List.Folds.{list_any-append}
use Rattle.std.proofs.lemmas.List.{map-append}
use Rattle.dubp_verdict.specs.OfAtoms.{Text}
use Rattle.dubp_chain.specs.OfBlock.{Block, IdentityLine, MemberLine, RevokedLine, CertLine}
use Rattle.dubp_chain.specs.OfCond.{Input, Output, Tx, cond_text}
use Rattle.dubp_chain.specs.OfDocs.{tx_hash}
use Rattle.dubp_rules.specs.declared.rule.Rule.TheVariants.{G87}
use Rattle.dubp_chain.specs.declared.head.Head.{Head}
use Rattle.dubp_chain.specs.Chains.{Chain, params}
use Rattle.dubp_chain.specs.Heads.{units, paid_units, next_head, heads_of, time_of, head_of, issued, unit_base_of}
use Rattle.dubp_chain.specs.Made.{certification_made}
use Rattle.dubp_chain.specs.Members.{members}
use Rattle.dubp_chain.specs.Money.{Source, same_source, units_of, units_of_cond, named_by, used, among, is_left, inputs_of, output_source, outputs_made, dividends_at, made_sources, cleared, cleared_by, unspent, unspent_units, cleared_units}
use Rattle.dubp_validity.specs.LocalRules.{output_units, IsBalanced}
use Rattle.dubp_validity.specs.Records.{records, membership_time, input_of, make_record, line_records}
use Rattle.dubp_validity.specs.declared.record.Record.{Record}
use Rattle.dubp_validity.specs.declared.record.Record.TheVariants.{Create, Enter, Exit, Join, Active, Leave, Revoke, Expire, ExpireRev, Cert, CertExpire, Spend, Dividend, Clear}
use Rattle.dubp_validity.specs.Rules.{IsSound}
use Rattle.dubp_laws.proofs.OfLists.{IsIn, in_left, in_right, in_append, in_filter, all_more, filter_twice, list_any-map}
use Rattle.dubp_laws.proofs.OfLists.{each_once-map}
use Rattle.dubp_chain.specs.Words.{each_once}
use Rattle.dubp_laws.proofs.Conservation.{conserves}
use Rattle.dubp_laws.proofs.Sources.{SourcesApart, sources-filter, sum_small}
use Rattle.dubp_laws.proofs.Spending.{Pays, pays, at_hand, at_hand-is}
use Rattle.dubp_laws.proofs.SourceRows.{apart_first}
use Rattle.dubp_moves.specs.Moves.{Change, told_by, changes_in}
use Rattle.dubp_moves.specs.Accounts.{Account, with_made, with_gone, with_transaction, with_cleared, with_block}
use Rattle.dubp_moves.specs.declared.moves.Kind.TheVariants.{Spent}
use Rattle.dubp_moves.proofs.Events.{Event, Comes, Spends, Clears, change, noted, Follows, follows-append}
use Rattle.dubp_moves.proofs.Ways.{AreIn, left, left-none, left-more, not-among, to-these, comes-follow, goes-follow, clears-going, Spending, found-spending, joined, inputs-joined, transaction_events, Before, transactions-follow}

-- ---- what the records tell

pub record Tells (rows : List Record) (changes : List Change) : Type 0 where
  pub told : flat_map told_by rows ≡ changes

tells-both : {xs ys : List Record} {cs ds : List Change} → Tells xs cs → Tells ys ds → Tells (xs ++ ys) (cs ++ ds)
tells-both {xs} {ys} p q = record { told = flat_map-append told_by xs ys ∙ (λ i. p.told i ++ q.told i) }

behind-nothing : {xs ys : List Record} {ds : List Change} → Tells xs [] → Tells ys ds → Tells (xs ++ ys) ds
behind-nothing {xs} {ys} {ds} p q = record { told = flat_map-append told_by xs ys ∙ (λ i. p.told i ++ q.told i) }

module _ {X : Type 0} where
  -- records that tell nothing of sources
  none-told : (of : X → Record) → ((x : X) → told_by (of x) ≡ []) → (xs : List X) → flat_map told_by (map of xs) ≡ []
  none-told of none [] = refl
  none-told of none (x ∷ xs) = λ i. none x i ++ none-told of none xs i

  none-told-each : (of : X → List Record) → ((x : X) → flat_map told_by (of x) ≡ []) → (xs : List X) → flat_map told_by (flat_map of xs) ≡ []
  none-told-each of none [] = refl
  none-told-each of none (x ∷ xs) = flat_map-append told_by (of x) (flat_map of xs) ∙ (λ i. none x i ++ none-told-each of none xs i)

  -- records that tell of one event each
  each-told : (of : X → Record) (event : X → Event) → ((x : X) → told_by (of x) ≡ change (event x) ∷ []) → (xs : List X)
      → flat_map told_by (map of xs) ≡ map change (map event xs)
  each-told of event one [] = refl
  each-told of event one (x ∷ xs) = λ i. one x i ++ each-told of event one xs i

  no-tells : (of : X → Record) → ((x : X) → told_by (of x) ≡ []) → (xs : List X) → Tells (map of xs) []
  no-tells of none xs = record { told = none-told of none xs }

  no-tells-each : (of : X → List Record) → ((x : X) → flat_map told_by (of x) ≡ []) → (xs : List X) → Tells (flat_map of xs) []
  no-tells-each of none xs = record { told = none-told-each of none xs }

  each-tells : (of : X → Record) (event : X → Event) → ((x : X) → told_by (of x) ≡ change (event x) ∷ []) → (xs : List X) → Tells (map of xs) (map change (map event xs))
  each-tells of event one xs = record { told = each-told of event one xs }

lines-tell : (c : Chain) (b : Block) → Tells (line_records c b) []
lines-tell c b =
    behind-nothing (no-tells (λ (line : IdentityLine). Create line.key line.uid line.stamp) (λ line. refl) b.identities)
    (behind-nothing (no-tells-each (λ (line : MemberLine). Enter line.key ∷ Join line.key (membership_time c b line) ∷ []) (λ line. refl) b.joiners)
    (behind-nothing (no-tells (λ (line : MemberLine). Active line.key (membership_time c b line)) (λ line. refl) b.actives)
    (behind-nothing (no-tells (λ (line : MemberLine). Leave line.key (membership_time c b line)) (λ line. refl) b.leavers)
    (behind-nothing (no-tells (λ (line : RevokedLine). Revoke line.key) (λ line. refl) b.revoked)
    (behind-nothing (no-tells Exit (λ key. refl) b.excluded)
    (no-tells (λ (line : CertLine). Cert line.from line.to (unwrap_or (certification_made c b line) 0)) (λ line. refl) b.certifications))))))

-- ---- transactions

module _ (outputs : Tx → List Source) where
  abbrev rows_of : Tx → List Record
  rows_of tx = map Spend tx.inputs ++ map make_record (outputs tx)

  spends-told : (ss : List Source) → flat_map told_by (map Spend (map input_of ss)) ≡ map change (map Spends ss)
  spends-told [] = refl
  spends-told (s ∷ ss) = ap (λ l. change (Spends s) ∷ l) (spends-told ss)

  transactions-told : (sources : List Source) (sss : List (List Source)) (txs : List Tx) → Spending outputs sources sss txs
      → flat_map told_by (flat_map rows_of txs) ≡ map change (transaction_events outputs sss txs)
  transactions-told sources [] [] are = refl
  transactions-told sources [] (tx ∷ txs) are = absurd are
  transactions-told sources (ss ∷ sss) [] are = absurd are
  transactions-told sources (ss ∷ sss) (tx ∷ txs) are =
      let later = transactions-told (sources ++ outputs tx) sss txs are.2 in
      let spent : flat_map told_by (map Spend tx.inputs) ≡ map change (map Spends ss) = ap (λ l. flat_map told_by (map Spend l)) (sym are.0) ∙ spends-told ss in
      flat_map-append told_by (rows_of tx) (flat_map rows_of txs)
      ∙ ap (λ l. l ++ flat_map told_by (flat_map rows_of txs)) (flat_map-append told_by (map Spend tx.inputs) (map make_record (outputs tx)))
      ∙ (λ i. (spent i ++ each-told make_record Comes (λ s. refl) (outputs tx) i) ++ later i)
      ∙ append_assoc (map change (map Spends ss)) (map change (map Comes (outputs tx))) (map change (transaction_events outputs sss txs))
      ∙ sym (map-append change (map Spends ss) (map Comes (outputs tx) ++ transaction_events outputs sss txs)
      ∙ ap (λ l. map change (map Spends ss) ++ l) (map-append change (map Comes (outputs tx)) (transaction_events outputs sss txs)))

  module _ (text : Text) (number : ℕ) where
    comes-noted : (a : Account) (ss : List Source) → fold (noted text number) a (map Comes ss) ≡ fold (with_made text number) a ss
    comes-noted a [] = refl
    comes-noted a (s ∷ ss) = comes-noted (with_made text number a s) ss

    clears-noted : (a : Account) (ss : List Source) → fold (noted text number) a (map Clears ss) ≡ fold (with_cleared number) a ss
    clears-noted a [] = refl
    clears-noted a (s ∷ ss) = clears-noted (with_cleared number a s) ss

    spends-noted : (a : Account) (ss : List Source) → fold (noted text number) a (map Spends ss) ≡ fold (with_gone Spent number) a (map input_of ss)
    spends-noted a [] = refl
    spends-noted a (s ∷ ss) = spends-noted (with_gone Spent number a (input_of s)) ss

    abbrev with_one : Account → Tx → Account
    with_one a tx = fold (with_made text number) (fold (with_gone Spent number) a tx.inputs) (outputs tx)

    transactions-noted : (sources : List Source) (sss : List (List Source)) (txs : List Tx) (a : Account) → Spending outputs sources sss txs
        → fold (noted text number) a (transaction_events outputs sss txs) ≡ fold with_one a txs
    transactions-noted sources [] [] a are = refl
    transactions-noted sources [] (tx ∷ txs) a are = absurd are
    transactions-noted sources (ss ∷ sss) [] a are = absurd are
    transactions-noted sources (ss ∷ sss) (tx ∷ txs) a are =
        let es = transaction_events outputs sss txs in
        let gone : fold (noted text number) a (map Spends ss) ≡ fold (with_gone Spent number) a tx.inputs = spends-noted a ss ∙ ap (λ l. fold (with_gone Spent number) a l) are.0 in
        fold-append (noted text number) a (map Spends ss) (map Comes (outputs tx) ++ es)
        ∙ ap (λ x. fold (noted text number) x (map Comes (outputs tx) ++ es)) gone
        ∙ fold-append (noted text number) (fold (with_gone Spent number) a tx.inputs) (map Comes (outputs tx)) es
        ∙ ap (λ x. fold (noted text number) x es) (comes-noted (fold (with_gone Spent number) a tx.inputs) (outputs tx))
        ∙ transactions-noted (sources ++ outputs tx) sss txs (with_one a tx) are.2

-- a transaction makes the units of its outputs
made-units : (time n : ℕ) (hash : Text) (outputs : List Output)
    → sum_by units_of (map (output_source time hash) (enumerate_from n outputs)) ≡ sum_by output_units outputs
made-units time n hash [] = refl
made-units time n hash (o ∷ outputs) =
    sum_by-cons units_of (output_source time hash (n, o)) (map (output_source time hash) (enumerate_from (n + 1) outputs))
    ∙ ap (λ m. output_units o + m) (made-units time (n + 1) hash outputs)
    ∙ sym (sum_by-cons output_units o outputs)

-- ---- what is at hand before the clearing, and behind it

abbrev rest : Chain → Block → List Source
rest c b = filter (is_left (b ∷ c) (cleared c)) (made_sources (b ∷ c))

abbrev small : Chain → Block → List Source
small c b = cleared_by c b (cleared c)

split-gone : (u a s : Bool) → (not u && not (a || s)) ≡ ((not u && not a) && not s)
split-gone true a s = refl
split-gone false true s = refl
split-gone false false s = refl

split-used : (i u a : Bool) → (not (i || u) && not a) ≡ ((not u && not a) && not i)
split-used true true a = refl
split-used true false true = refl
split-used true false false = refl
split-used false true a = refl
split-used false false true = refl
split-used false false false = refl

unspent-is : (c : Chain) (b : Block) → unspent (b ∷ c) ≡ left (small c b) (rest c b)
unspent-is c b =
    filter_agree (is_left (b ∷ c) (cleared c ++ small c b)) (λ s. is_left (b ∷ c) (cleared c) s && not (among (small c b) s))
    (λ s. ap (λ x. not (used (b ∷ c) s) && not x) (list_any-append (λ other. same_source s.id other.id) (cleared c) (small c b))
    ∙ split-gone (used (b ∷ c) s) (among (cleared c) s) (among (small c b) s)) (made_sources (b ∷ c))
    ∙ sym (filter_twice (λ s. not (among (small c b) s)) (is_left (b ∷ c) (cleared c)) (made_sources (b ∷ c)))

-- what the inputs name goes
rest-is : (c : Chain) (b : Block) → Pays c b → (gone : List Source) → map input_of gone ≡ inputs_of b → rest c b ≡ left gone (at_hand c b)
rest-is c b p gone inputs =
    filter_agree (is_left (b ∷ c) (cleared c)) (λ s. is_left c (cleared c) s && not (among gone s))
    (λ s. ap (λ is. not (list_any (λ input. named_by input s) is || used c s) && not (among (cleared c) s)) (sym inputs)
    ∙ ap (λ i. not (i || used c s) && not (among (cleared c) s)) (list_any-map (λ input. named_by input s) input_of gone)
    ∙ split-used (among gone s) (used c s) (among (cleared c) s)) (made_sources (b ∷ c))
    ∙ sym (filter_twice (λ s. not (among gone s)) (is_left c (cleared c)) (made_sources (b ∷ c)))
    ∙ ap (left gone) (at_hand-is c b p)

-- numbers: what is there before the clearing, and what was unspent, is within what was issued
pub more : (n m k : ℕ) → m ≡ k + n → n ≤ m
more n m k e = omega (arith, e)

rest-within : (issued unspent cleared rest left small before : ℕ) → issued ≡ unspent + cleared → unspent ≡ left → left + small ≡ rest → cleared ≡ before + small → rest ≤ issued
rest-within issued unspent cleared rest left small before whole is split gone = omega (arith, whole, is, split, gone)

pub before-within : (issued unspent cleared left later : ℕ) → issued ≡ unspent + cleared → left ≡ unspent → issued ≤ later → left ≤ later
before-within issued unspent cleared left later whole is le = omega (arith, whole, is, le)

-- more is issued with a block more
pub issued-more : (c : Chain) (b : Block) → issued c ≤ issued (b ∷ c)
issued-more c b =
    let h : Head = next_head (params (b ∷ c)) (length (members (b ∷ c))) (heads_of c) b in
    more (issued c) (issued (b ∷ c)) (paid_units h.ud h.unit_base h.members) (sum_by-cons (λ (h : Head). paid_units h.ud h.unit_base h.members) h (heads_of c))

-- what the transactions spend was at hand, or is one of their outputs
joined-within : (outputs : Tx → List Source) (sources : List Source) (sss : List (List Source)) (txs : List Tx) → Spending outputs sources sss txs
    → AreIn (joined sss) (sources ++ flat_map outputs txs)
joined-within outputs sources [] [] are x there = absurd there
joined-within outputs sources [] (tx ∷ txs) are x there = absurd are
joined-within outputs sources (ss ∷ sss) [] are x there = absurd are
joined-within outputs sources (ss ∷ sss) (tx ∷ txs) are x there =
    elim (in_append x ss (joined sss) there) [
      | inl here ↦ in_left x sources (outputs tx ++ flat_map outputs txs) (are.1 x here)
      | inr later ↦ subst (IsIn x) (append_assoc sources (outputs tx) (flat_map outputs txs)) (joined-within outputs (sources ++ outputs tx) sss txs are.2 x later)
    ]

-- ---- one block more

pub record IsWayOf (c : Chain) (b : Block) : Type 0 where
  pub events : List Event
  pub told : changes_in c b ≡ map change events
  pub noted_are : (text : Text) (a : Account) → fold (noted text b.number) a events ≡ with_block text c b a
  pub follows : (all : List Source) → AreIn (made_sources (b ∷ c)) all → Follows all (issued (b ∷ c)) (made_sources c) (unspent c) events (made_sources (b ∷ c)) (unspent (b ∷ c))

module _ (c : Chain) (b : Block) (sound : IsSound (b ∷ c)) where
  abbrev outputs : Tx → List Source
  outputs = outputs_made (time_of (b ∷ c)) b.currency

  abbrev outs : List Source
  outs = flat_map outputs b.transactions

  abbrev divs : List Source
  divs = dividends_at b.number (head_of (b ∷ c)) (members (b ∷ c))

  pays_block : Pays c b
  pays_block = pays c b sound

  abbrev Found : Type 0
  Found = (sss : List (List Source)) × Spending outputs (unspent c) sss b.transactions

  module _ (sss : List (List Source)) (spending : Spending outputs (unspent c) sss b.transactions) where
    abbrev gone : List Source
    gone = joined sss

    abbrev first : List Event
    first = transaction_events outputs sss b.transactions

    abbrev events : List Event
    events = first ++ (map Comes divs ++ map Clears (small c b))

    inputs : map input_of gone ≡ inputs_of b
    inputs = inputs-joined outputs (unspent c) sss b.transactions spending

    names-of : (ss : List Source) → map (λ (i : Input). i.source) (map input_of ss) ≡ map (λ (s : Source). s.id) ss
    names-of [] = refl
    names-of (s ∷ ss) = ap (λ l. s.id ∷ l) (names-of ss)

    gone-once : SourcesApart gone
    gone-once =
        sym (each_once-map same_source (λ (s : Source). s.id) gone)
        ∙ ap (each_once same_source) (sym (names-of gone))
        ∙ ap (λ is. each_once same_source (map (λ (i : Input). i.source) is)) inputs
        ∙ pays_block.inputs_once

    later_apart : SourcesApart ((made_sources c ++ outs) ++ divs)
    later_apart = subst SourcesApart (sym (append_assoc (made_sources c) outs divs)) pays_block.once

    unspent-once : SourcesApart (unspent c)
    unspent-once = sources-filter (is_left c (cleared c)) (made_sources c) (apart_first (made_sources c) (outs ++ divs) pays_block.once)

    unspent-made : AreIn (unspent c) (made_sources c)
    unspent-made x there = (in_filter (is_left c (cleared c)) (made_sources c) x there).0

    -- what goes was at hand, or is an output of the block
    gone-made : AreIn gone (made_sources c ++ outs)
    gone-made x there =
        elim (in_append x (unspent c) outs (joined-within outputs (unspent c) sss b.transactions spending x there)) [
          | inl old ↦ in_left x (made_sources c) outs (unspent-made x old)
          | inr new ↦ in_right x (made_sources c) outs new
        ]

    at-rest : left gone (unspent c ++ outs) ++ divs ≡ rest c b
    at-rest =
        left-more (unspent c ++ outs) divs gone (not-among (made_sources c ++ outs) divs gone later_apart gone-made)
        ∙ ap (left gone) (append_assoc (unspent c) outs divs)
        ∙ sym (rest-is c b pays_block gone inputs)

    rest-once : SourcesApart (rest c b)
    rest-once = sources-filter (is_left (b ∷ c) (cleared c)) (made_sources (b ∷ c)) pays_block.once

    abbrev is-small : Source → Bool
    is-small s = nat_lt (units_of_cond (cond_text s.cond) (rest c b)) (units 100 (unit_base_of (b ∷ c)))

    rest-fits : sum_by units_of (rest c b) ≤ issued (b ∷ c)
    rest-fits =
        rest-within (issued (b ∷ c)) (unspent_units (b ∷ c)) (cleared_units (b ∷ c)) (sum_by units_of (rest c b)) (sum_by units_of (left (small c b) (rest c b))) (sum_by units_of (small c b)) (cleared_units c)
        (conserves (b ∷ c) sound).units (ap (sum_by units_of) (unspent-is c b)) (sum_small is-small (rest c b) rest-once) (sum_by-append units_of (cleared c) (small c b))

    before : (all : List Source) → AreIn (made_sources (b ∷ c)) all → Before all (issued (b ∷ c)) outputs (made_sources c) (unspent c) [] divs sss b.transactions
    before all within = record {
      apart = pays_block.once;
      within = unspent-made;
      known = λ x there. within x (in_right x (made_sources c) (outs ++ divs) (in_left x outs divs there));
      once = unspent-once;
      spending = spending;
      gone_once = gone-once;
      gone_within = λ x there. absurd there;
      balanced = all_more IsBalanced _ (λ tx even. made-units (time_of (b ∷ c)) 0 (tx_hash b.currency tx) tx.outputs ∙ sym even) b.transactions pays_block.balanced;
      fits = fits-before;
    }
      where
        fits-before : sum_by units_of (left [] (unspent c)) ≤ issued (b ∷ c)
        fits-before =
            before-within (issued c) (unspent_units c) (cleared_units c) (sum_by units_of (left [] (unspent c))) (issued (b ∷ c))
            (conserves c sound.1).units (ap (sum_by units_of) (left-none (unspent c))) (issued-more c b)

    told-is : changes_in c b ≡ map change events
    told-is =
        let whole : Tells (records c b) (map change first ++ (map change (map Comes divs) ++ map change (map Clears (small c b)))) =
        behind-nothing (lines-tell c b)
        (behind-nothing (no-tells Expire (λ key. refl) _)
        (behind-nothing (no-tells ExpireRev (λ key. refl) _)
        (behind-nothing (no-tells (λ (p : Text × Text). CertExpire p.0 p.1) (λ p. refl) _)
        (tells-both (record { told = transactions-told outputs (unspent c) sss b.transactions spending })
        (tells-both (each-tells (λ (s : Source). Dividend (input_of s)) Comes (λ s. refl) divs)
        (each-tells (λ (s : Source). Clear (input_of s)) Clears (λ s. refl) (small c b))))))) in
        whole.told
        ∙ sym (map-append change first (map Comes divs ++ map Clears (small c b)) ∙ ap (λ l. map change first ++ l) (map-append change (map Comes divs) (map Clears (small c b))))

    noted-is : (text : Text) (a : Account) → fold (noted text b.number) a events ≡ with_block text c b a
    noted-is text a =
        let after = fold (with_transaction text b.number (time_of (b ∷ c)) b.currency) a b.transactions in
        fold-append (noted text b.number) a first (map Comes divs ++ map Clears (small c b))
        ∙ ap (λ x. fold (noted text b.number) x (map Comes divs ++ map Clears (small c b))) (transactions-noted outputs text b.number (unspent c) sss b.transactions a spending)
        ∙ fold-append (noted text b.number) after (map Comes divs) (map Clears (small c b))
        ∙ ap (λ x. fold (noted text b.number) x (map Clears (small c b))) (comes-noted outputs text b.number after divs)
        ∙ clears-noted outputs text b.number (fold (with_made text b.number) after divs) (small c b)

    follows-is : (all : List Source) → AreIn (made_sources (b ∷ c)) all → Follows all (issued (b ∷ c)) (made_sources c) (unspent c) events (made_sources (b ∷ c)) (unspent (b ∷ c))
    follows-is all within =
        let limit = issued (b ∷ c) in
        let made = made_sources c in
        let first-is = transactions-follow all limit outputs made (unspent c) [] divs sss b.transactions (before all within) in
        let start = subst (λ h. Follows all limit made h first (made ++ outs) (left gone (unspent c ++ outs))) (left-none (unspent c)) first-is.follows in
        let paid = to-these all limit (made ++ outs) (left gone (unspent c ++ outs)) (map Comes divs) ((made ++ outs) ++ divs) (left gone (unspent c ++ outs) ++ divs)
        (made_sources (b ∷ c)) (rest c b) (append_assoc made outs divs) at-rest
        (comes-follow all limit (made ++ outs) (left gone (unspent c ++ outs)) divs later_apart (λ x there. within x (in_right x made (outs ++ divs) (in_right x outs divs there)))
        (subst (λ l. sum_by units_of l ≤ limit) (sym at-rest) rest-fits)) in
        let clears = subst (λ h. Follows all limit (made_sources (b ∷ c)) h (map Clears (small c b)) (made_sources (b ∷ c)) (left (small c b) (rest c b))) (left-none (rest c b))
        (goes-follow all limit Clears (clears-going all limit) (made_sources (b ∷ c)) (rest c b) [] (small c b)
        (sources-filter is-small (rest c b) rest-once) (λ x there. (in_filter is-small (rest c b) x there).0)) in
        follows-append all limit made (unspent c) first (map Comes divs ++ map Clears (small c b)) (made ++ outs) (left gone (unspent c ++ outs)) (made_sources (b ∷ c)) (unspent (b ∷ c)) start
        (follows-append all limit (made ++ outs) (left gone (unspent c ++ outs)) (map Comes divs) (map Clears (small c b)) (made_sources (b ∷ c)) (rest c b) (made_sources (b ∷ c)) (unspent (b ∷ c)) paid
        (to-these all limit (made_sources (b ∷ c)) (rest c b) (map Clears (small c b)) (made_sources (b ∷ c)) (left (small c b) (rest c b)) (made_sources (b ∷ c)) (unspent (b ∷ c)) refl (sym (unspent-is c b)) clears))

    way : IsWayOf c b
    way = record {
      events = events;
      told = told-is;
      noted_are = λ text a. noted-is text a;
      follows = λ all within. follows-is all within;
    }

  pub block-way : IsWayOf c b
  block-way = let found : Found = found-spending outputs (unspent c) b.transactions (sound.0 G87 refl) in way found.0 found.1
