-- The steps of the loop that answers the commands at hand, and the last line.
use Rattle.std.proofs.Common.{◌≡◌, ◌≢◌, ◌⊎◌, inl, inr, ℕ, ◌+◌, ◌-◌, ◌<◌, ◌≤◌, Bool, true, false, List, [], ◌∷◌, ◌++◌, length, drop, Option, Some, Result, Ok, Err, OnErr, refl, sym, ◌∙◌, ap, subst, arith, append_assoc, append-nil, length-append, length-drop, drop-drop, ◌==◌, ◌&&◌, not, if◌then◌else◌}
use Rattle.std.specs.List.{list_all}
use Rattle.std.specs.Io.KnownBytes.{Appends}
use Rattle.std.proofs.lemmas.Bool.Decides.{nat_tests}
use Rattle.dubp_outside.specs.Parts.{AppendsPart}
use Rattle.dubp_atoms.specs.Letters.{LF}
use Rattle.dubp_entries.specs.Entries.{Line, text_of, IsText, IsWhole, longest_line}
use Rattle.dubp_entries.proofs.Wholes.{frame_len, whole_line}
use Rattle.dubp_entries.specs.Cut.{BeginsNone, lacking}
use Rattle.dubp_entries.specs.Turns.{EntryTurn}
use Rattle.dubp_replay.specs.Turns.{State}
use Rattle.dubp_entries.specs.Session.{Broke}
use Rattle.dubp_entries.specs.Reading.{Stands, Takes, InLongLine}
use Rattle.dubp_entries.specs.Serving.{Finished}
use Rattle.dubp_entries.specs.Gathering.{Owed, OwedTo, TurnOwed, TurnOwedBroke}
use Rattle.dubp_entries.specs.declared.item.Item.{Item}
use Rattle.dubp_entries.specs.declared.ends.InputEnd.TheVariants.{OnBoundary, InsideFrame}
use Rattle.dubp_entries.specs.declared.reading.Phase.{Phase}
use Rattle.dubp_entries.specs.declared.reading.Phase.TheVariants.{Start}
use Rattle.dubp_entries.specs.declared.reading.Found.TheVariants.{Got}
use Rattle.dubp_entries.proofs.Cuts.{text_begins_none, part_begins_none, line_shape}
use Rattle.dubp_entries.proofs.Gatherings.{owed_served}
use Rattle.dubp_entries.proofs.Sessions.{served_nothing, served_one, broke_one}
use Rattle.dubp_entries.proofs.Taking.{is_text-append, long_no_head}

pub on_err : {T E : Type 0} (r : Result T E) (P : Type 0) → P → OnErr r P
on_err (Ok x) P p = tt
on_err (Err e) P p = p

pub owed_nothing : (state : State) (held : Option (List ℕ)) (bytes hand gathered : List ℕ) (phase : Phase) → gathered ≡ [] → Stands phase hand bytes → OwedTo state state held held bytes phase hand gathered
owed_nothing state held bytes hand gathered phase none s = record {
  rest = bytes;
  owed = subst (Owed state state held held bytes bytes) (sym none) (owed_served state state held held bytes bytes (served_nothing state held bytes));
  stands = s;
}

pub owed_got : (old middle new : State) (before between after : Option (List ℕ)) (bytes rest more gathered left : List ℕ) (phase : Phase) (item : Item) (used : ℕ) → OwedTo old middle before between bytes phase rest gathered → Takes phase rest (Got used item) → TurnOwed middle new between after gathered left item → more ≡ drop used rest → OwedTo old new before after bytes Start more left
owed_got old middle new before between after bytes rest more gathered left phase item used o t w e =
    let one = t.2 o.rest o.stands in
    record {
      rest = more;
      owed = w one.command one.whole one.shows old before bytes more
          (subst (λ u. Owed old middle before between bytes u gathered) (one.bytes_are ∙ ap (λ u. text_of one.command ++ u) (sym e)) o.owed);
      stands = refl;
    }

pub owed_broke : (old middle new : State) (before between after : Option (List ℕ)) (bytes rest gathered : List ℕ) (phase : Phase) (item : Item) (used : ℕ) → OwedTo old middle before between bytes phase rest gathered → Takes phase rest (Got used item) → TurnOwedBroke middle new between after gathered item → Broke old new before after bytes
owed_broke old middle new before between after bytes rest gathered phase item used o t w =
    let one = t.2 o.rest o.stands in
    w one.command one.whole one.shows old before bytes (drop used rest)
    (subst (λ u. Owed old middle before between bytes u gathered) one.bytes_are o.owed)

-- a list has a first LF or none
pub text_or_line : (xs : List ℕ) → IsText xs ⊎ ((front : List ℕ) × (back : List ℕ) × IsText front × (xs ≡ front ++ LF ∷ back))
text_or_line [] = inl tt
text_or_line (x ∷ xs) = at_head (text_or_line xs) (x == LF) refl
  where
    later : (x ≢ LF) → IsText xs ⊎ ((front : List ℕ) × (back : List ℕ) × IsText front × (xs ≡ front ++ LF ∷ back)) → IsText (x ∷ xs) ⊎ ((front : List ℕ) × (back : List ℕ) × IsText front × (x ∷ xs ≡ front ++ LF ∷ back))
    later ne (inl t) = inl (ne, t)
    later ne (inr f) = inr (x ∷ f.0, f.1, (ne, f.2), ap (λ t. x ∷ t) f.3)

    at_head : IsText xs ⊎ ((front : List ℕ) × (back : List ℕ) × IsText front × (xs ≡ front ++ LF ∷ back)) → (b : Bool) → (x == LF) ≡ b → IsText (x ∷ xs) ⊎ ((front : List ℕ) × (back : List ℕ) × IsText front × (x ∷ xs ≡ front ++ LF ∷ back))
    at_head r true e = let is : x ≡ LF = grind (arith, nat_tests) in inr ([], xs, tt, ap (λ t. t ∷ xs) is)
    at_head r false e = let ne : x ≢ LF = grind (arith, nat_tests) in later ne r

pub all_not_LF : (xs : List ℕ) → IsText xs → list_all (λ x. not (x == LF)) xs ≡ true
all_not_LF [] t = refl
all_not_LF (x ∷ xs) t =
    let ne : (x == LF) ≡ false = grind (arith, nat_tests) in
    ap (λ b. not b && list_all (λ x. not (x == LF)) xs) ne ∙ all_not_LF xs t.1

pub some_LF : (front back : List ℕ) → list_all (λ x. not (x == LF)) (front ++ LF ∷ back) ≡ false
some_LF [] back = refl
some_LF (x ∷ xs) back = ap (λ b. not (x == LF) && b) (some_LF xs back) ∙ and_false (not (x == LF))
  where
    and_false : (b : Bool) → (b && false) ≡ false
    and_false true = refl
    and_false false = refl

pub lacks_LF : (xs : List ℕ) → IsText xs → 0 < length xs → lacking xs ≡ LF ∷ []
lacks_LF [] t some = absurd (omega arith)
lacks_LF (x ∷ xs) t some = ap (λ b. if b then LF ∷ [] else []) (all_not_LF (x ∷ xs) t)

pub lacks_none : (front back : List ℕ) → lacking (front ++ LF ∷ back) ≡ []
lacks_none [] back = refl
lacks_none (x ∷ xs) back = ap (λ b. if b then LF ∷ [] else []) (some_LF (x ∷ xs) back)

-- nothing is answered
pub finished_inside : (state : State) (held : Option (List ℕ)) (bytes : List ℕ) → BeginsNone (bytes ++ lacking bytes) → 0 < length bytes → Finished state state held held bytes InsideFrame
finished_inside state held bytes none some = record {
  rest = bytes ++ lacking bytes;
  served = served_nothing state held (bytes ++ lacking bytes);
  no_more = none;
  over = omega (arith, length-append bytes (lacking bytes));
}

pub finished_frame : (state : State) (held : Option (List ℕ)) (front back : List ℕ) → BeginsNone (front ++ LF ∷ back) → Finished state state held held (front ++ LF ∷ back) InsideFrame
finished_frame state held front back none =
    finished_inside state held (front ++ LF ∷ back) (subst BeginsNone (sym (ap (λ t. (front ++ LF ∷ back) ++ t) (lacks_none front back) ∙ append-nil (front ++ LF ∷ back))) none)
    (omega (arith, length-append front (LF ∷ back)))

pub finished_head : (state : State) (held : Option (List ℕ)) (head : List ℕ) (n : ℕ) → IsText head → 0 < length head → frame_len head ≡ Some n → Finished state state held held head InsideFrame
finished_head state held head n t some f =
    finished_inside state held head (subst BeginsNone (sym (ap (λ u. head ++ u) (lacks_LF head t some))) (part_begins_none head [] n t f (omega arith))) some

pub finished_empty : (state : State) (held : Option (List ℕ)) → Finished state state held held [] OnBoundary
finished_empty state held = record {
  rest = [];
  served = served_nothing state held [];
  no_more = text_begins_none [] tt;
  over = refl;
}

pub finished_line : (old new : State) (before after : Option (List ℕ)) (bytes answer : List ℕ) → IsWhole (Line bytes) → 0 < length bytes → EntryTurn old (Line bytes) answer new → Appends before after answer → Finished old new before after bytes OnBoundary
finished_line old new before after bytes answer w some turn h = record {
  rest = [];
  served = served_one old new before after (bytes ++ lacking bytes) [] answer (Line bytes) (ap (λ u. bytes ++ u) (lacks_LF bytes w.0 some) ∙ sym (append-nil (bytes ++ LF ∷ []))) w turn h;
  no_more = text_begins_none [] tt;
  over = refl;
}

pub broke_line : (old new : State) (before after : Option (List ℕ)) (bytes answer : List ℕ) → IsWhole (Line bytes) → 0 < length bytes → EntryTurn old (Line bytes) answer new → AppendsPart before after answer → Broke old new before after (bytes ++ lacking bytes)
broke_line old new before after bytes answer w some turn h =
    broke_one old new before after (bytes ++ lacking bytes) [] answer (Line bytes) (ap (λ u. bytes ++ u) (lacks_LF bytes w.0 some) ∙ sym (append-nil (bytes ++ LF ∷ []))) w turn h

-- a long line of which no whole command is the first has no LF
pub long_line_open : (hand bytes : List ℕ) → InLongLine hand bytes → BeginsNone bytes → IsText bytes × (longest_line < length bytes)
long_line_open hand bytes f none =
    let long : longest_line < length bytes = omega (arith, f.long, ap length f.bytes_are, length-append f.gone hand) in
    (cases (text_or_line hand), long)
  where
    cases : IsText hand ⊎ ((front : List ℕ) × (back : List ℕ) × IsText front × (hand ≡ front ++ LF ∷ back)) → IsText bytes
    cases (inl t) = subst IsText (sym f.bytes_are) (is_text-append f.gone hand f.text t)
    cases (inr p) =
        let line = f.gone ++ p.0 in
        let is : bytes ≡ text_of (Line line) ++ p.1 = f.bytes_are ∙ ap (λ u. f.gone ++ u) p.3 ∙ sym (append_assoc f.gone p.0 (LF ∷ p.1)) ∙ sym (line_shape line p.1) in
        absurd (none (Line line) p.1 (whole_line line (is_text-append f.gone p.0 f.text p.2) (long_no_head line (omega (arith, f.long, length-append f.gone p.0)))) is)

-- the bytes at hand that are left, some further on
pub rest_more : (hand rest after : List ℕ) (used : ℕ) → rest ≡ drop (length hand - length rest) hand → length rest ≤ length hand → used ≤ length rest → after ≡ drop used rest → after ≡ drop (length hand - length after) hand
rest_more hand rest after used is shorter within e =
    let count : length hand - length rest + used ≡ length hand - length after = omega (arith, ap length e, length-drop used rest) in
    e ∙ ap (drop used) is ∙ drop-drop used (length hand - length rest) hand ∙ ap (λ n. drop n hand) count
