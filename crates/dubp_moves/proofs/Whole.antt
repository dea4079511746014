-- The statement of a whole chain, block by block: it is what is noted, its sums are right, and it goes on from that of each chain below.
use Rattle.std.proofs.Common.{◌≡◌, ℕ, ◌+◌, ◌≤◌, Bool, cond, List, [], ◌∷◌, ◌++◌, filter, sum_by, refl, ap, sym, ◌∙◌, subst, arith, append_assoc, append-nil, zero-add}
use Rattle.std.proofs.lemmas.List.Sums.{sum_by-cons}
use Rattle.dubp_verdict.specs.OfAtoms.{Text}
use Rattle.dubp_chain.specs.OfBlock.{Block}
use Rattle.dubp_chain.specs.OfCond.{SourceId}
use Rattle.dubp_chain.specs.Chains.{Chain}
use Rattle.dubp_chain.specs.Heads.{issued}
use Rattle.dubp_chain.specs.Money.{Source, units_of, is_left, made_by, made_sources, cleared, unspent, unspent_units, cleared_units, balance}
use Rattle.dubp_validity.specs.Rules.{IsSound}
use Rattle.dubp_laws.proofs.OfLists.{in_left, in_filter}
use Rattle.dubp_laws.proofs.Conservation.{conserves}
use Rattle.dubp_laws.proofs.MadeOnce.{made_sources-once}
use Rattle.dubp_laws.proofs.Sources.{SourcesApart, sources-filter}
use Rattle.dubp_moves.specs.declared.moves.Kind.{Kind}
use Rattle.dubp_moves.specs.declared.moves.Kind.TheVariants.{Made, Spent, Cleared}
use Rattle.dubp_moves.specs.declared.moves.Move.{Move}
use Rattle.dubp_moves.specs.Moves.{Change, names_with, is_about, changes_in, with_balances, last_balance, moves_about, moves_of}
use Rattle.dubp_moves.specs.Accounts.{Account, account_of}
use Rattle.dubp_moves.specs.Statements.{move_units, IsSum, AreSums, is_made, is_spent, is_cleared, units_of_kind, Statements}
use Rattle.dubp_moves.proofs.Weights.{weights-are}
use Rattle.dubp_moves.proofs.Events.{Stands, account-is, sums-are}
use Rattle.dubp_moves.proofs.Ways.{AreIn}
use Rattle.dubp_moves.proofs.Blocks.{block-way, before-within, issued-more}

-- ---- sums over moves one behind the other

last-append : (n : ℕ) (xs ys : List Move) → last_balance n (xs ++ ys) ≡ last_balance (last_balance n xs) ys
last-append n [] ys = refl
last-append n (x ∷ xs) ys = last-append x.balance xs ys

sums-append : (limit n : ℕ) (xs ys : List Move) → AreSums limit n xs → AreSums limit (last_balance n xs) ys → AreSums limit n (xs ++ ys)
sums-append limit n [] ys first then = then
sums-append limit n (x ∷ xs) ys first then = (first.0, first.1, sums-append limit x.balance xs ys first.2 then)

at-most : (n m k : ℕ) → n ≤ m → m ≤ k → n ≤ k
at-most n m k h l = omega (arith, h, l)

sums-more : (limit more n : ℕ) (xs : List Move) → limit ≤ more → AreSums limit n xs → AreSums more n xs
sums-more limit more n [] le sums = tt
sums-more limit more n (x ∷ xs) le sums = (sums.0, at-most x.balance limit more sums.1 le, sums-more limit more x.balance xs le sums.2)

-- the same of one move more, by what its kind is
abbrev Whole : ℕ → Move → List Move → Bool → Bool → Bool → Type 0
Whole n x xs made spent cleared =
    n + sum_by move_units (cond made (x ∷ filter (λ m. is_made m.kind) xs) (filter (λ m. is_made m.kind) xs))
    ≡ sum_by move_units (cond spent (x ∷ filter (λ m. is_spent m.kind) xs) (filter (λ m. is_spent m.kind) xs))
    + sum_by move_units (cond cleared (x ∷ filter (λ m. is_cleared m.kind) xs) (filter (λ m. is_cleared m.kind) xs)) + last_balance x.balance xs

made-more : (n units balance made all spent cleared last : ℕ) → balance ≡ n + units → all ≡ units + made → balance + made ≡ spent + cleared + last → n + all ≡ spent + cleared + last
made-more n units balance made all spent cleared last sum whole later = omega (arith, sum, whole, later)

spent-more : (n units balance made spent all cleared last : ℕ) → balance + units ≡ n → all ≡ units + spent → balance + made ≡ spent + cleared + last → n + made ≡ all + cleared + last
spent-more n units balance made spent all cleared last sum whole later = omega (arith, sum, whole, later)

cleared-more : (n units balance made spent cleared all last : ℕ) → balance + units ≡ n → all ≡ units + cleared → balance + made ≡ spent + cleared + last → n + made ≡ spent + all + last
cleared-more n units balance made spent cleared all last sum whole later = omega (arith, sum, whole, later)

by-kind : (n : ℕ) (x : Move) (xs : List Move) (k : Kind) → x.kind ≡ k → IsSum x.kind n (move_units x) x.balance
    → x.balance + units_of_kind is_made xs ≡ units_of_kind is_spent xs + units_of_kind is_cleared xs + last_balance x.balance xs
    → Whole n x xs (is_made x.kind) (is_spent x.kind) (is_cleared x.kind)
by-kind n x xs Made e sums later =
    let sum : x.balance ≡ n + move_units x = subst (λ k. IsSum k n (move_units x) x.balance) e sums in
    subst (λ k. Whole n x xs (is_made k) (is_spent k) (is_cleared k)) (sym e)
    (made-more n (move_units x) x.balance (units_of_kind is_made xs) (sum_by move_units (x ∷ filter (λ m. is_made m.kind) xs)) (units_of_kind is_spent xs) (units_of_kind is_cleared xs) (last_balance x.balance xs)
    sum (sum_by-cons move_units x (filter (λ m. is_made m.kind) xs)) later)
by-kind n x xs Spent e sums later =
    let sum : x.balance + move_units x ≡ n = subst (λ k. IsSum k n (move_units x) x.balance) e sums in
    subst (λ k. Whole n x xs (is_made k) (is_spent k) (is_cleared k)) (sym e)
    (spent-more n (move_units x) x.balance (units_of_kind is_made xs) (units_of_kind is_spent xs) (sum_by move_units (x ∷ filter (λ m. is_spent m.kind) xs)) (units_of_kind is_cleared xs) (last_balance x.balance xs)
    sum (sum_by-cons move_units x (filter (λ m. is_spent m.kind) xs)) later)
by-kind n x xs Cleared e sums later =
    let sum : x.balance + move_units x ≡ n = subst (λ k. IsSum k n (move_units x) x.balance) e sums in
    subst (λ k. Whole n x xs (is_made k) (is_spent k) (is_cleared k)) (sym e)
    (cleared-more n (move_units x) x.balance (units_of_kind is_made xs) (units_of_kind is_spent xs) (units_of_kind is_cleared xs) (sum_by move_units (x ∷ filter (λ m. is_cleared m.kind) xs)) (last_balance x.balance xs)
    sum (sum_by-cons move_units x (filter (λ m. is_cleared m.kind) xs)) later)

nothing-moved : (n : ℕ) → n + 0 ≡ 0 + 0 + n
nothing-moved n = omega arith

-- what was there and was made is spent, cleared or there
kinds-whole : (limit n : ℕ) (xs : List Move) → AreSums limit n xs
    → n + units_of_kind is_made xs ≡ units_of_kind is_spent xs + units_of_kind is_cleared xs + last_balance n xs
kinds-whole limit n [] sums = nothing-moved n
kinds-whole limit n (x ∷ xs) sums = by-kind n x xs x.kind refl sums.0 (kinds-whole limit x.balance xs sums.2)

-- ---- a chain

sound-below : (above below : Chain) → IsSound (above ++ below) → IsSound below
sound-below [] below sound = sound
sound-below (b ∷ above) below sound = sound-below above below sound.1

made-below : (above below : Chain) → AreIn (made_sources below) (made_sources (above ++ below))
made-below [] below x there = there
made-below (b ∷ above) below x there = in_left x (made_sources (above ++ below)) (made_by (above ++ below) b) (made-below above below x there)

stands : (all : List Source) (c : Chain) → IsSound c → SourcesApart all → AreIn (made_sources c) all → Stands all (made_sources c) (unspent c)
stands all c sound apart within = record {
  all_apart = apart;
  made_apart = made_sources-once c sound;
  hand_apart = sources-filter (is_left c (cleared c)) (made_sources c) (made_sources-once c sound);
  at_hand = λ x there. (in_filter (is_left c (cleared c)) (made_sources c) x there).0;
  known = within;
}

unspent-fits : (c : Chain) (b : Block) → IsSound c → sum_by units_of (unspent c) ≤ issued (b ∷ c)
unspent-fits c b sound = before-within (issued c) (unspent_units c) (cleared_units c) (unspent_units c) (issued (b ∷ c)) (conserves c sound).units refl (issued-more c b)

module _ (text : Text) (all : List Source) (apart : SourcesApart all) where
  abbrev names : List SourceId
  names = names_with text all

  within-before : (c : Chain) (b : Block) → AreIn (made_sources (b ∷ c)) all → AreIn (made_sources c) all
  within-before c b within x there = within x (in_left x (made_sources c) (made_by c b) there)

  -- what is noted block by block is the moves, whatever sources are made later
  account-moves : (c : Chain) → IsSound c → AreIn (made_sources c) all
      → account_of text c ≡ record { names = names_with text (made_sources c); moves = moves_about names c }
  account-moves [] sound within = refl
  account-moves (b ∷ c) sound within =
      let w = block-way c b sound in
      let before = account-moves c sound.1 (within-before c b within) in
      let a = account_of text c in
      let ms = ap (λ (x : Account). x.moves) before in
      sym (w.noted_are text a)
      ∙ account-is text b.number all (issued (b ∷ c)) (made_sources c) (unspent c) w.events (made_sources (b ∷ c)) (unspent (b ∷ c)) a
      (stands all c sound.1 apart (within-before c b within)) (w.follows all within) (ap (λ (x : Account). x.names) before)
      ∙ (λ i. record {
        names = names_with text (made_sources (b ∷ c));
        moves = ms i ++ with_balances b.number (last_balance 0 (ms i)) (filter (is_about names) (sym w.told i));
      })

  sums-of : (c : Chain) → IsSound c → AreIn (made_sources c) all
      → AreSums (issued c) 0 (moves_about names c) × (last_balance 0 (moves_about names c) ≡ balance c text)
  sums-of [] sound within = (tt, refl)
  sums-of (b ∷ c) sound within =
      let w = block-way c b sound in
      let before = sums-of c sound.1 (within-before c b within) in
      let moves = moves_about names c in
      let n = last_balance 0 moves in
      let later = sums-are text b.number all (issued (b ∷ c)) (made_sources c) (unspent c) w.events (made_sources (b ∷ c)) (unspent (b ∷ c)) n
      (stands all c sound.1 apart (within-before c b within)) (w.follows all within) (before.1 ∙ weights-are text (unspent c)) (unspent-fits c b sound.1) in
      let new = λ (xs : List Change). with_balances b.number n (filter (is_about names) xs) in (
        sums-append (issued (b ∷ c)) 0 moves (new (changes_in c b)) (sums-more (issued c) (issued (b ∷ c)) 0 moves (issued-more c b) before.0)
            (subst (λ xs. AreSums (issued (b ∷ c)) n (new xs)) (sym w.told) later.0),
        last-append 0 moves (new (changes_in c b))
            ∙ ap (λ xs. last_balance n (new xs)) w.told ∙ later.1 ∙ sym (weights-are text (unspent (b ∷ c))),
      )

  -- what follows behind the moves of a chain
  later-moves : (above below : Chain) → (later : List Move) × (moves_about names (above ++ below) ≡ moves_about names below ++ later)
  later-moves [] below = ([], sym (append-nil (moves_about names below)))
  later-moves (b ∷ above) below =
      let c = above ++ below in
      let new = with_balances b.number (last_balance 0 (moves_about names c)) (filter (is_about names) (changes_in c b)) in
      let h = later-moves above below in
      (h.0 ++ new, ap (λ l. l ++ new) h.1 ∙ append_assoc (moves_about names below) h.0 new)

-- the moves about the sources of a longer chain are those of the chain
moves-same : (text : Text) (all : List Source) → SourcesApart all → (c : Chain) → IsSound c → AreIn (made_sources c) all
    → moves_about (names_with text all) c ≡ moves_of c text
moves-same text all apart c sound within =
    sym (ap (λ (x : Account). x.moves) (account-moves text all apart c sound within))
    ∙ ap (λ (x : Account). x.moves) (account-moves text (made_sources c) (made_sources-once c sound) c sound (λ x there. there))

pub account-is-moves : (text : Text) (c : Chain) → IsSound c → (account_of text c).moves ≡ moves_of c text
account-is-moves text c sound = ap (λ (x : Account). x.moves) (account-moves text (made_sources c) (made_sources-once c sound) c sound (λ x there. there))

pub statements : Statements
statements c text sound =
    let all = made_sources c in
    let apart = made_sources-once c sound in
    let sums = sums-of text all apart c sound (λ x there. there) in record {
      is = refl;
      last = sums.1;
      whole =
          sym (zero-add (units_of_kind is_made (moves_of c text)))
          ∙ kinds-whole (issued c) 0 (moves_of c text) sums.0
          ∙ ap (λ n. units_of_kind is_spent (moves_of c text) + units_of_kind is_cleared (moves_of c text) + n) sums.1;
      sums = sums.0;
      goes_on = λ above below whole. goes-on above below whole;
    }
  where
    goes-on : (above below : Chain) → above ++ below ≡ c → (later : List Move) × (moves_of c text ≡ moves_of below text ++ later) × (last_balance 0 (moves_of below text) ≡ balance below text)
    goes-on above below whole =
        let sound' : IsSound (above ++ below) = subst IsSound (sym whole) sound in
        let under : IsSound below = sound-below above below sound' in
        let all = made_sources (above ++ below) in
        let apart = made_sources-once (above ++ below) sound' in
        let later = later-moves text all apart above below in (
          later.0,
          ap (λ d. moves_of d text) (sym whole) ∙ later.1 ∙ ap (λ l. l ++ later.0) (moves-same text all apart below under (made-below above below)),
          (sums-of text (made_sources below) (made_sources-once below under) below under (λ x there. there)).1,
        )
