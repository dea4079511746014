-- A tally through each of its moves.
use Rattle.std.proofs.Common.{◌≡◌, ℕ, ◌<◌, ◌^◌, Bool, true, false, true≢false, ◌||◌, List, [], ◌∷◌, ◌++◌, refl, ap, sym, subst, ◌∙◌}
use Rattle.std.specs.Prelude.{if◌then◌else◌}
use Rattle.std.specs.List.{list_any}
use Rattle.std.proofs.lemmas.List.Folds.{list_any-append}
use Rattle.dubp_chain.specs.OfCond.{SourceId, Input}
use Rattle.dubp_chain.specs.Money.{same_source}
use Rattle.dubp_replay.specs.OfMoves.{Account, Kind, Move, balance_behind, last_balance, move_of, with_gone}
use Rattle.dubp_statement.specs.Tallies.{AreNumbers, HasTally, IsTallyOf, with_move}
use Rattle.dubp_statement.specs.declared.tally.Tally.{Tally}

last_one : (n : ℕ) (moves : List Move) (m : Move) → last_balance n (moves ++ m ∷ []) ≡ m.balance
last_one n [] m = refl
last_one n (x ∷ moves) m = last_one x.balance moves m

-- where the balances of some moves and one behind them are numbers
split : (moves : List Move) (m : Move) → AreNumbers (moves ++ m ∷ []) → AreNumbers moves × (m.balance < 2 ^ 128)
split [] m are = (tt, are.0)
split (x ∷ moves) m are = let later = split moves m are.1 in ((are.0, later.0), later.1)

-- one move more
module _ (t u : Tally) (a : Account) (kind : Kind) (number : ℕ) (input : Input) (balance : ℕ) where
  abbrev behind : ℕ
  behind = balance_behind (last_balance 0 a.moves) kind input

  abbrev move : ℕ → Move
  move n = move_of number n (record { kind = kind; input = input })

  has_more : HasTally a t → u.names ≡ t.names → balance ≡ behind → u.balance ≡ balance → u.moves.items ≡ t.moves.items ++ move balance ∷ [] → HasTally (with_move kind number a input) u
  has_more has names right held pushed = record {
    names = λ x. ap (λ (names : _). list_any (λ name. same_source name x) names.keys) names ∙ has.names x;
    moves = pushed ∙ (λ i. has.moves i ++ move (right i) ∷ []);
    balance = held ∙ right ∙ sym (last_one 0 a.moves (move behind));
  }

  pub noted : IsTallyOf a t → u.names ≡ t.names → (balance_behind t.balance kind input < 2 ^ 128 → balance ≡ balance_behind t.balance kind input) → u.balance ≡ balance
      → u.moves.items ≡ t.moves.items ++ move_of number balance (record { kind = kind; input = input }) ∷ []
      → IsTallyOf (with_move kind number a input) u
  noted is names exact held pushed = record {
    has = λ numbers.
        let both = split a.moves (move behind) numbers in
        let has = is.has both.0 in
        let same : balance_behind t.balance kind input ≡ behind = ap (λ n. balance_behind n kind input) has.balance in
        has_more has names (exact (subst (λ n. n < 2 ^ 128) (sym same) both.1) ∙ same) held pushed;
  }

-- one name more
pub named : (t u : Tally) (a : Account) (source : SourceId) → IsTallyOf a t → u.moves ≡ t.moves → u.balance ≡ t.balance
    → ((x : SourceId) → list_any (λ name. same_source name x) u.names.keys ≡ (list_any (λ name. same_source name x) t.names.keys || same_source source x))
    → IsTallyOf (record a { names = a.names ++ source ∷ [] }) u
named t u a source is moves balance names = record {
  has = λ numbers.
      let has = is.has numbers in record {
        names = λ x. names x ∙ ap (λ b. b || same_source source x) (has.names x) ∙ or_last (list_any (λ name. same_source name x) a.names) (same_source source x)
            ∙ sym (list_any-append (λ name. same_source name x) a.names (source ∷ []));
        moves = ap (λ (m : _). m.items) moves ∙ has.moves;
        balance = balance ∙ has.balance;
      };
}
  where
    or_last : (a b : Bool) → (a || b) ≡ (a || (b || false))
    or_last true b = refl
    or_last false true = refl
    or_last false false = refl

-- a source that goes is one of the account, or not
module _ (t : Tally) (a : Account) (kind : Kind) (number : ℕ) (input : Input) (is : IsTallyOf a t) where
  abbrev is_known : Bool
  is_known = list_any (λ name. same_source name input.source) a.names

  abbrev knows : Bool
  knows = list_any (λ name. same_source name input.source) t.names.keys

  pub gone : (u : Tally) → knows ≡ true → IsTallyOf (with_move kind number a input) u → IsTallyOf (with_gone kind number a input) u
  gone u there now = by is_known refl
    where
      by : (known : Bool) → is_known ≡ known → IsTallyOf (if known then with_move kind number a input else a) u
      by true e = now
      by false e = record { has = λ numbers. absurd (true≢false (sym there ∙ (is.has numbers).names input.source ∙ e)) }

  pub not_gone : knows ≡ false → IsTallyOf (with_gone kind number a input) t
  not_gone other = by is_known refl
    where
      by : (known : Bool) → is_known ≡ known → IsTallyOf (if known then with_move kind number a input else a) t
      by true e = record {
        has = λ numbers.
            let before = split a.moves _ numbers in
            absurd (true≢false (sym e ∙ sym ((is.has before.0).names input.source) ∙ other));
      }
      by false e = is
