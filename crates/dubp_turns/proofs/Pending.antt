-- Turns of the documents that wait.
use Rattle.std.proofs.Common.{◌≡◌, ◌∙◌, ◌<◌, ◌≤◌, ◌||◌, inl, inr, ℕ, Bool, true, false, not, cond, List, [], ◌∷◌, length, Ok, Err, refl, ap, sym, true≢false, arith}
use Rattle.std.specs.Prelude.{MatchBool, Result, Some, codes, nat_le}
use Rattle.std.proofs.lemmas.Bool.Decides.{nat_tests}
use Rattle.dubp_atoms.specs.Same.{Text}
use Rattle.dubp_pool.specs.Pools.{Pends, has_hash, is_pending, most_pending, without}
use Rattle.dubp_pool.specs.declared.refusal.PendRefusal.{PendRefusal}
use Rattle.dubp_pool.specs.declared.refusal.PendRefusal.TheVariants.{Unread, Known, Full, NoMemory}
use Rattle.dubp_validity.specs.Rules.{longest_block}
use Rattle.dubp_replay.specs.Answers.{forgotten_answer, known_document_answer, pending_answer, refused_answer, unknown_answer}
use Rattle.dubp_replay.specs.OfForging.{Doc}
use Rattle.dubp_replay.specs.declared.command.Command.TheVariants as command
use Rattle.dubp_replay.specs.Turns.{IsServed, State, UnpendTurn, branches_of}
use Rattle.dubp_turns.specs.Acting.{Acts, Forges, PendActs}
use Rattle.dubp_turns.specs.Texts.{pend_text}

in_true : (x : Bool) (P Q : Type 0) → x ≡ true → P → MatchBool x P Q
in_true true P Q e p = p
in_true false P Q e p = absurd (true≢false (sym e))

in_false : (x : Bool) (P Q : Type 0) → x ≡ false → Q → MatchBool x P Q
in_false true P Q e q = absurd (true≢false e)
in_false false P Q e q = q

is_within : (n m : ℕ) → n ≤ m → nat_le n m ≡ true
is_within n m l = grind (arith, nat_tests)

is_beyond : (n m : ℕ) → m < n → nat_le n m ≡ false
is_beyond n m l = grind (arith, nat_tests)

abbrev with_pool : State → List Doc → State
with_pool old pool = record old { pool = pool }

-- ---- PEND
module _ (old : State) (frame answer : List ℕ) (pool : List Doc) (short : length frame ≤ longest_block) where
  pub pended : (r : Result Text PendRefusal) → Pends old.pool frame r pool → answer ≡ pend_text r → PendActs old frame answer (with_pool old pool)
  pended (Ok hash) (d, read, (same, new, few, is)) e =
      inl (in_true _ _ _ (is_within (length frame) longest_block short) (inl (
        d,
        read,
        in_false _ _ _ (ap (is_pending old.pool) (sym same) ∙ new)
            (in_false _ _ _ (is_beyond most_pending (length old.pool) few) (e ∙ ap pending_answer same, ap (with_pool old) is)),
      )))
  pended (Err (Known hash)) (d, read, (same, there, is)) e =
      inl (in_true _ _ _ (is_within (length frame) longest_block short) (inl (
        d,
        read,
        in_true _ _ _ (ap (is_pending old.pool) (sym same) ∙ there) (e ∙ ap known_document_answer same, ap (with_pool old) is),
      )))
  pended (Err (Full held)) (d, read, (new, count, most, is)) e =
      inl (in_true _ _ _ (is_within (length frame) longest_block short) (inl (
        d,
        read,
        in_false _ _ _ new (in_true _ _ _ (is_within most_pending (length old.pool) (omega (arith, count, most))) (e, ap (with_pool old) is)),
      )))
  pended (Err Unread) (none, is) e =
      inl (in_true _ _ _ (is_within (length frame) longest_block short) (inr (none, (e, ap (with_pool old) is))))
  pended (Err NoMemory) (read, is) e = inr (e, ap (with_pool old) is)

pub long_pend_turn : (old : State) (len : ℕ) (bytes answer : List ℕ) → longest_block < length bytes → answer ≡ refused_answer (codes "X01") → IsServed old (Some (command.Pend len, bytes)) answer old
long_pend_turn old len bytes answer long is = inl (in_false _ _ _ (is_beyond (length bytes) longest_block long) (is, refl))

pub long_pend_acts : (old : State) (len : ℕ) (frame answer : List ℕ) → longest_block < len → answer ≡ refused_answer (codes "X01") → Acts old (command.Pend len) frame answer old
long_pend_acts old len frame answer long is = λ bytes handed. long_pend_turn old len bytes answer (omega (arith, handed.0, long)) is

-- ---- UNPEND
or_left : (a b : Bool) → (a || b) ≡ false → a ≡ false
or_left true b e = absurd (true≢false e)
or_left false b e = refl

or_right : (a b : Bool) → (a || b) ≡ false → b ≡ false
or_right true b e = absurd (true≢false e)
or_right false b e = e

without_none : (hash : Text) (pool : List Doc) → is_pending pool hash ≡ false → without hash pool ≡ pool
without_none hash [] none = refl
without_none hash (d ∷ pool) none =
    ap (λ r. cond (not r) (d ∷ without hash pool) (without hash pool)) (or_left (has_hash hash d) _ none)
    ∙ ap (λ l. d ∷ l) (without_none hash pool (or_right (has_hash hash d) _ none))

pub gone_turn : (old : State) (hash : Text) (answer : List ℕ) (pool : List Doc) → is_pending old.pool hash ≡ true → pool ≡ without hash old.pool → answer ≡ forgotten_answer → UnpendTurn old hash answer (with_pool old pool)
gone_turn old hash answer pool there is e = in_true _ _ _ there (e, ap (with_pool old) is)

pub absent_turn : (old : State) (hash : Text) (answer : List ℕ) (pool : List Doc) → is_pending old.pool hash ≡ false → pool ≡ without hash old.pool → answer ≡ unknown_answer → UnpendTurn old hash answer (with_pool old pool)
absent_turn old hash answer pool none is e = in_false _ _ _ none (e, ap (with_pool old) (is ∙ without_none hash old.pool none))

-- ---- FORGE
pub forge_acts : (old : State) (key : Text) (time : ℕ) (frame answer : List ℕ) → Forges (branches_of old) old.pool key time answer → Acts old (command.Forge key time) frame answer old
forge_acts old key time frame answer (inl forged) = λ bytes handed. inl (forged, refl)
forge_acts old key time frame answer (inr lack) = λ bytes handed. inr (tt, (lack, refl))
