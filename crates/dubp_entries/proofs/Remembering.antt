-- Replies that are remembered while the state stays as it is.
use Rattle.std.proofs.Common.{◌≡◌, ◌⊎◌, ℕ, List, Option, Some, None, MatchOption, Result, Ok, Err, OnOk, inl, inr, refl, sym, subst}
use Rattle.std.specs.Borrow.{Bor}
use Rattle.std.specs.Option.{IsSomeAnd}
use Rattle.std.specs.List.{Contains}
use Rattle.std.proofs.lemmas.List.Elements.{All-contains, All-weaker}
use Rattle.dubp_replay.specs.Turns.{State}
use Rattle.dubp_entries.specs.Entries.{Entry, Line, IsWhole}
use Rattle.dubp_entries.specs.Reading.{IsNoLine, Shows}
use Rattle.dubp_entries.specs.Turns.{EntryTurn}
use Rattle.dubp_entries.specs.Remembered.{AreReplies, IsReply, Remembers, Reply, reply}
use Rattle.dubp_entries.specs.declared.item.Item.{Item}
use Rattle.dubp_entries.specs.declared.item.Item.TheVariants as item

-- the entry that this item shows is answered so in this state
abbrev pub Answers : State → Item → List ℕ → Type 0
Answers state shown answer = (entry : Entry) → IsWhole entry → Shows shown entry → EntryTurn state entry answer state

-- what is remembered is answered
pub recalled : (state : State) (replies : List Reply) (shown : Item) (asked : Option (Bor (List ℕ))) (answer : List ℕ) → MatchOption asked (IsNoLine shown) (λ line. shown ≡ item.Line line) → AreReplies state replies → IsSomeAnd asked (λ line. Contains replies (reply line.now answer)) → Answers state shown answer
recalled state replies shown None answer is all at = absurd at
recalled state replies shown (Some line) answer is all at = λ entry whole shows.
    let s = subst (λ (i : Item). Shows i entry) is shows in
    subst (λ (x : Entry). EntryTurn state x answer state) (sym s) (subst (IsReply state) at.2 (all at.0 (reply line.now answer) at.1) (subst IsWhole s whole))

-- an entry that asks is answered so, and the state stays
pub answers_of : (old new : State) (shown : Item) (told answer : List ℕ) → told ≡ answer → ((entry : Entry) → IsWhole entry → Shows shown entry → EntryTurn old entry answer new × (new ≡ old)) → Answers old shown told
answers_of old new shown told answer is turn = λ entry whole shows.
    let t = turn entry whole shows in
    subst (λ (a : List ℕ). EntryTurn old entry a old) (sym is) (subst (λ (s : State). EntryTurn old entry answer s) t.1 t.0)

-- what is answered may be remembered
pub remembered : (state : State) (old new : List Reply) (shown : Item) (asked : Option (Bor (List ℕ))) (answer : List ℕ) → MatchOption asked (IsNoLine shown) (λ line. shown ≡ item.Line line) → AreReplies state old → MatchOption asked (new ≡ old) (λ line. Remembers old (reply line.now answer) new) → Answers state shown answer → AreReplies state new
remembered state old new shown None answer is all same answers = subst (AreReplies state) (sym same) all
remembered state old new shown (Some line) answer is all grown answers =
    let this : IsReply state (reply line.now answer) = λ whole. answers (Line line.now) whole (subst (λ (i : Item). Shows i (Line line.now)) (sym is) refl) in
    All-weaker (λ r. Contains old r ⊎ (r ≡ reply line.now answer)) (IsReply state) (by_kind this) new grown
  where
    by_kind : IsReply state (reply line.now answer) → (r : Reply) → Contains old r ⊎ (r ≡ reply line.now answer) → IsReply state r
    by_kind this r (inl before) = All-contains (IsReply state) old r all before
    by_kind this r (inr is_this) = subst (IsReply state) (sym is_this) this

-- what holds in each case holds where the result is right
pub is_ok : {T E : Type 0} (r : Result T E) (P : Type 0) → P → OnOk r P
is_ok (Ok x) P p = p
is_ok (Err e) P p = tt
