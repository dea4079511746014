-- Answers that are gathered, one behind another, and then written.
use Rattle.std.proofs.Common.{◌≡◌, ◌⊎◌, inl, inr, ℕ, ◌<◌, List, [], ◌∷◌, ◌++◌, length, Option, Some, None, Result, Ok, Err, OnOk, OnErr, refl, sym, ◌∙◌, ap, subst, arith, drop, get_or, append_assoc, append-nil, length-append}
use Rattle.std.specs.Io.KnownBytes.{Appends}
use Rattle.dubp_outside.specs.Parts.{AppendsPart}
use Rattle.dubp_outside.proofs.Known.{appends_nothing, appends_then}
use Rattle.dubp_replay.specs.Turns.{State}
use Rattle.dubp_entries.specs.Entries.{Entry, text_of, IsWhole}
use Rattle.dubp_entries.specs.Turns.{EntryTurn, joined}
use Rattle.dubp_entries.specs.Session.{Served, Broke}
use Rattle.dubp_entries.specs.Reading.{Shows}
use Rattle.dubp_entries.specs.Serving.{TurnWritten, TurnBroke}
use Rattle.dubp_entries.specs.Gathering.{Passes, Owed, TurnOwed, TurnOwedBroke}
use Rattle.dubp_entries.specs.declared.item.Item.{Item}
use Rattle.dubp_entries.proofs.Sessions.{served_then, served_one, broke_then, broke_one}

pub on_ok_then : {T E : Type 0} (r : Result T E) (P Q : Type 0) → (P → Q) → OnOk r P → OnOk r Q
on_ok_then (Ok x) P Q f p = f p
on_ok_then (Err e) P Q f p = tt

pub on_err_then : {T E : Type 0} (r : Result T E) (P Q : Type 0) → (P → Q) → OnErr r P → OnErr r Q
on_err_then (Ok x) P Q f p = tt
on_err_then (Err e) P Q f p = f p

-- ---- bytes that were written in part

part_nothing : (a b : Option (List ℕ)) → AppendsPart a b [] → ⊥
part_nothing a b p = omega (arith, ap length p.whole, length-append p.front p.back, p.lacks)

-- a part of the front
pub part_front : (a b : Option (List ℕ)) (xs ys : List ℕ) → AppendsPart a b xs → AppendsPart a b (xs ++ ys)
part_front a b xs ys p = record {
  front = p.front;
  back = p.back ++ ys;
  whole = ap (λ t. t ++ ys) p.whole ∙ append_assoc p.front p.back ys;
  lacks = omega (arith, length-append p.back ys, p.lacks);
  held = p.held;
}

-- the front, and a part of what stands behind it
pub part_behind : (a b c : Option (List ℕ)) (xs ys : List ℕ) → Appends a b xs → AppendsPart b c ys → AppendsPart a c (xs ++ ys)
part_behind a b c xs ys h p = record {
  front = xs ++ p.front;
  back = p.back;
  whole = ap (λ t. xs ++ t) p.whole ∙ sym (append_assoc xs p.front p.back);
  lacks = p.lacks;
  held = appends_then a b c xs p.front h p.held;
}

appends_split : (a c : Option (List ℕ)) (xs ys : List ℕ) → Appends a c (xs ++ ys) → (b : Option (List ℕ)) × Appends a b xs × Appends b c ys
appends_split None c xs ys h = (None, tt, tt)
appends_split (Some x) None xs ys h = absurd h
appends_split (Some x) (Some z) xs ys h = (Some (x ++ xs), refl, h ∙ sym (append_assoc x xs ys))

-- of two fronts of a list one begins the other
abbrev Crosses : List ℕ → List ℕ → List ℕ → List ℕ → Type 0
Crosses xs ys front back =
    ((more : List ℕ) × (xs ≡ front ++ more) × (back ≡ more ++ ys)) ⊎ ((more : List ℕ) × (front ≡ xs ++ more) × (ys ≡ more ++ back))

crossing : (xs ys front back : List ℕ) → xs ++ ys ≡ front ++ back → Crosses xs ys front back
crossing xs ys [] back e = inl (xs, refl, sym e)
crossing [] ys (f ∷ front) back e = inr (f ∷ front, refl, e)
crossing (x ∷ xs) ys (f ∷ front) back e = under (ap (λ t. get_or t 0 x) e) (crossing xs ys front back (ap (drop 1) e))
  where
    under : x ≡ f → Crosses xs ys front back → Crosses (x ∷ xs) ys (f ∷ front) back
    under h (inl p) = inl (p.0, ap (λ t. x ∷ t) p.1 ∙ ap (λ y. y ∷ (front ++ p.0)) h, p.2)
    under h (inr p) = inr (p.0, ap (λ t. f ∷ t) p.1 ∙ ap (λ y. y ∷ (xs ++ p.0)) (sym h), p.2)

-- a part of both is a part of the front, or the front and a part of what stands behind it
part_split : (a c : Option (List ℕ)) (xs ys : List ℕ) → AppendsPart a c (xs ++ ys) → AppendsPart a c xs ⊎ ((b : Option (List ℕ)) × Appends a b xs × AppendsPart b c ys)
part_split a c xs ys p = split (crossing xs ys p.front p.back p.whole)
  where
    split : Crosses xs ys p.front p.back → AppendsPart a c xs ⊎ ((b : Option (List ℕ)) × Appends a b xs × AppendsPart b c ys)
    split (inl ([], all, rest)) =
        inr (c, subst (Appends a c) (sym (all ∙ append-nil p.front)) p.held, record { front = []; back = ys; whole = refl; lacks = subst (λ t. 0 < length t) rest p.lacks; held = appends_nothing c })
    split (inl (x ∷ more, all, rest)) =
        inl (record { front = p.front; back = x ∷ more; whole = all; lacks = omega arith; held = p.held })
    split (inr (more, all, rest)) =
        let s = appends_split a c xs more (subst (Appends a c) all p.held) in
        inr (s.0, s.1, record { front = more; back = p.back; whole = rest; lacks = p.lacks; held = s.2 })

-- what was gathered is written, and the answer behind it
pub passes_all : (a b c : Option (List ℕ)) (gathered answer left : List ℕ) → Appends a b gathered → Appends b c answer → left ≡ [] → Passes a c gathered answer left
passes_all a b c gathered answer left p q none = record {
  written = gathered ++ answer;
  all = sym (append-nil (gathered ++ answer)) ∙ ap (λ t. (gathered ++ answer) ++ t) (sym none);
  appends = appends_then a b c gathered answer p q;
}

-- ---- what is owed

-- where all was served, nothing is
pub owed_served : (old new : State) (before after : Option (List ℕ)) (bytes rest : List ℕ) → Served old new before after bytes rest → Owed old new before after bytes rest []
owed_served old new before after bytes rest s = record {
  whole = λ final h. record {
    entries = s.entries;
    answers = s.answers;
    bytes_are = s.bytes_are;
    each = s.each;
    run = s.run;
    written = subst (λ t. Appends before final t) (append-nil (joined s.answers)) (appends_then before after final (joined s.answers) [] s.written h);
  };
  part = λ final p. absurd (part_nothing after final p);
}

-- an answer that leaves the state as it is joins what is gathered
owed_asked : (old new : State) (before after : Option (List ℕ)) (bytes rest gathered answer : List ℕ) (entry : Entry) → IsWhole entry → EntryTurn new entry answer new → Owed old new before after bytes (text_of entry ++ rest) gathered → Owed old new before after bytes rest (gathered ++ answer)
owed_asked old new before after bytes rest gathered answer entry w t o = record {
  whole = λ final h.
      let s = appends_split after final gathered answer h in
      served_then old new new before s.0 final bytes (text_of entry ++ rest) rest (o.whole s.0 s.1)
      (served_one new new s.0 final (text_of entry ++ rest) rest answer entry refl w t s.2);
  part = λ final p. broken final (part_split after final gathered answer p);
}
  where
    broken : (final : Option (List ℕ)) → AppendsPart after final gathered ⊎ ((b : Option (List ℕ)) × Appends after b gathered × AppendsPart b final answer) → Broke old new before final bytes
    broken final (inl p) = o.part final p
    broken final (inr p) =
        broke_then old new new before p.0 final bytes (text_of entry ++ rest) (o.whole p.0 p.1)
        (broke_one new new p.0 final (text_of entry ++ rest) rest answer entry refl w t p.2)

-- the same of a turn that leads to a state that is no other
owed_turn : (middle new old : State) (before after : Option (List ℕ)) (bytes rest gathered answer : List ℕ) (entry : Entry) → IsWhole entry → EntryTurn middle entry answer new → new ≡ middle → Owed old middle before after bytes (text_of entry ++ rest) gathered → Owed old new before after bytes rest (gathered ++ answer)
owed_turn middle new old before after bytes rest gathered answer entry w t same o =
    owed_asked old new before after bytes rest gathered answer entry w (subst (λ s. EntryTurn s entry answer new) (sym same) t)
    (subst (λ s. Owed old s before after bytes (text_of entry ++ rest) gathered) (sym same) o)

-- of what is gathered a front is written
owed_passes : (old new : State) (before between after : Option (List ℕ)) (bytes rest gathered answer left : List ℕ) → Owed old new before between bytes rest (gathered ++ answer) → Passes between after gathered answer left → Owed old new before after bytes rest left
owed_passes old new before between after bytes rest gathered answer left o k = record {
  whole = λ final h. o.whole final (subst (Appends between final) (sym k.all) (appends_then between after final k.written left k.appends h));
  part = λ final p. o.part final (subst (AppendsPart between final) (sym k.all) (part_behind between after final k.written left k.appends p));
}

-- ---- turns

-- an entry that leaves the state as it is takes its turn, and of what is gathered then a front is written
pub turn_asked : (middle new : State) (between after : Option (List ℕ)) (gathered shown answer left : List ℕ) (item : Item) → shown ≡ answer → ((entry : Entry) → IsWhole entry → Shows item entry → EntryTurn middle entry answer new × (new ≡ middle)) → Passes between after gathered shown left → TurnOwed middle new between after gathered left item
turn_asked middle new between after gathered shown answer left item same asks k = λ entry whole shows old before bytes rest o.
    let t = asks entry whole shows in
    owed_passes old new before between after bytes rest gathered answer left (owed_turn middle new old before between bytes rest gathered answer entry whole t.0 t.1 o)
    (subst (λ u. Passes between after gathered u left) same k)

pub turn_asked_broke : (middle new : State) (between after : Option (List ℕ)) (gathered shown answer : List ℕ) (item : Item) → shown ≡ answer → ((entry : Entry) → IsWhole entry → Shows item entry → EntryTurn middle entry answer new × (new ≡ middle)) → AppendsPart between after (gathered ++ shown) → TurnOwedBroke middle new between after gathered item
turn_asked_broke middle new between after gathered shown answer item same asks p = λ entry whole shows old before bytes rest o.
    let t = asks entry whole shows in
    (owed_turn middle new old before between bytes rest gathered answer entry whole t.0 t.1 o).part after
    (subst (λ u. AppendsPart between after (gathered ++ u)) same p)

-- what was gathered is written, an entry takes its turn, and its answer is written
pub turn_written : (middle new : State) (between held after : Option (List ℕ)) (gathered left : List ℕ) (item : Item) → Appends between held gathered → left ≡ [] → TurnWritten middle new held after item → TurnOwed middle new between after gathered left item
turn_written middle new between held after gathered left item h none w = λ entry whole shows old before bytes rest o.
    let t = w entry whole shows in
    subst (Owed old new before after bytes rest) (sym none)
    (owed_served old new before after bytes rest
    (served_then old middle new before held after bytes (text_of entry ++ rest) rest (o.whole held h)
    (served_one middle new held after (text_of entry ++ rest) rest t.0 entry refl whole t.1 t.2)))

pub turn_broke : (middle new : State) (between held after : Option (List ℕ)) (gathered : List ℕ) (item : Item) → Appends between held gathered → TurnBroke middle new held after item → TurnOwedBroke middle new between after gathered item
turn_broke middle new between held after gathered item h w = λ entry whole shows old before bytes rest o.
    let t = w entry whole shows in
    broke_then old middle new before held after bytes (text_of entry ++ rest) (o.whole held h)
    (broke_one middle new held after (text_of entry ++ rest) rest t.0 entry refl whole t.1 t.2)
