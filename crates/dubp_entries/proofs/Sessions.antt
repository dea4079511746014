-- Parts of a session, one after another.
use Rattle.std.proofs.Common.{◌≡◌, ℕ, List, [], ◌∷◌, ◌++◌, Option, refl, sym, ◌∙◌, ap, subst, append_assoc, append-nil}
use Rattle.std.specs.Io.KnownBytes.{Appends}
use Rattle.std.proofs.lemmas.Grind.{flat_map-append}
use Rattle.dubp_outside.specs.Parts.{AppendsPart}
use Rattle.dubp_outside.proofs.Known.{appends_nothing, appends_then}
use Rattle.dubp_entries.specs.Entries.{Entry, text_of, IsWhole, AllWhole}
use Rattle.dubp_entries.specs.Cut.{texts}
use Rattle.dubp_entries.specs.Turns.{EntryTurn, joined}
use Rattle.dubp_replay.specs.Turns.{State, Runs}
use Rattle.dubp_entries.specs.Session.{Served, Broke}

pub texts-append : (cs ds : List Entry) → texts (cs ++ ds) ≡ texts cs ++ texts ds
texts-append cs ds = flat_map-append text_of cs ds

pub joined-append : (xs ys : List (List ℕ)) → joined (xs ++ ys) ≡ joined xs ++ joined ys
joined-append xs ys = flat_map-append (λ (a : List ℕ). a) xs ys

pub all_whole-append : (cs ds : List Entry) → AllWhole cs → AllWhole ds → AllWhole (cs ++ ds)
all_whole-append [] ds p q = q
all_whole-append (c ∷ cs) ds p q = (p.0, all_whole-append cs ds p.1 q)

module _ {X : Type 0} (Serves : State → X → List ℕ → State → Type 0) where
  pub runs-append : (cs ds : List X) (xs ys : List (List ℕ)) (old mid new : State) → Runs Serves old cs xs mid → Runs Serves mid ds ys new → Runs Serves old (cs ++ ds) (xs ++ ys) new
  runs-append [] ds [] ys old mid new p q = subst (λ s. Runs Serves s ds ys new) p q
  runs-append [] ds (x ∷ xs) ys old mid new p q = absurd p
  runs-append (c ∷ cs) ds [] ys old mid new p q = absurd p
  runs-append (c ∷ cs) ds (x ∷ xs) ys old mid new p q = (p.0, p.1, runs-append cs ds xs ys p.0 mid new p.2 q)

pub served_nothing : (state : State) (held : Option (List ℕ)) (bytes : List ℕ) → Served state state held held bytes bytes
served_nothing state held bytes = record {
  entries = [];
  answers = [];
  bytes_are = refl;
  each = tt;
  run = refl;
  written = appends_nothing held;
}

pub served_then : (old mid new : State) (before between after : Option (List ℕ)) (bytes middle rest : List ℕ) → Served old mid before between bytes middle → Served mid new between after middle rest → Served old new before after bytes rest
served_then old mid new before between after bytes middle rest p q = record {
  entries = p.entries ++ q.entries;
  answers = p.answers ++ q.answers;
  bytes_are = p.bytes_are ∙ ap (λ t. texts p.entries ++ t) q.bytes_are ∙ sym (append_assoc (texts p.entries) (texts q.entries) rest) ∙ ap (λ t. t ++ rest) (sym (texts-append p.entries q.entries));
  each = all_whole-append p.entries q.entries p.each q.each;
  run = runs-append EntryTurn p.entries q.entries p.answers q.answers old mid new p.run q.run;
  written = subst (λ t. Appends before after t) (sym (joined-append p.answers q.answers)) (appends_then before between after (joined p.answers) (joined q.answers) p.written q.written);
}

-- more bytes come behind
pub served_more : (old new : State) (before after : Option (List ℕ)) (bytes rest more : List ℕ) → Served old new before after bytes rest → Served old new before after (bytes ++ more) (rest ++ more)
served_more old new before after bytes rest more p = record {
  entries = p.entries;
  answers = p.answers;
  bytes_are = ap (λ t. t ++ more) p.bytes_are ∙ append_assoc (texts p.entries) rest more;
  each = p.each;
  run = p.run;
  written = p.written;
}

-- one turn, whose answer was written whole
pub served_one : (old new : State) (before after : Option (List ℕ)) (bytes rest answer : List ℕ) (command : Entry) → bytes ≡ text_of command ++ rest → IsWhole command → EntryTurn old command answer new → Appends before after answer → Served old new before after bytes rest
served_one old new before after bytes rest answer command e w t h = record {
  entries = command ∷ [];
  answers = answer ∷ [];
  bytes_are = e ∙ ap (λ u. u ++ rest) (sym (append-nil (text_of command)));
  each = (w, tt);
  run = (new, t, refl);
  written = subst (λ u. Appends before after u) (sym (append-nil answer)) h;
}

-- one turn, whose answer was not
pub broke_one : (old new : State) (before after : Option (List ℕ)) (bytes rest answer : List ℕ) (command : Entry) → bytes ≡ text_of command ++ rest → IsWhole command → EntryTurn old command answer new → AppendsPart before after answer → Broke old new before after bytes
broke_one old new before after bytes rest answer command e w t h = record {
  entries = [];
  answers = [];
  entry = command;
  answer = answer;
  rest = rest;
  bytes_are = e ∙ ap (λ u. u ++ rest) (sym (append-nil (text_of command)));
  each = (w, tt);
  run = (new, t, refl);
  between = before;
  whole = appends_nothing before;
  part = h;
}

pub broke_then : (old mid new : State) (before between after : Option (List ℕ)) (bytes middle : List ℕ) → Served old mid before between bytes middle → Broke mid new between after middle → Broke old new before after bytes
broke_then old mid new before between after bytes middle p q =
    let all = q.entries ++ q.entry ∷ [] in
    record {
      entries = p.entries ++ q.entries;
      answers = p.answers ++ q.answers;
      entry = q.entry;
      answer = q.answer;
      rest = q.rest;
      bytes_are = subst (λ t. bytes ≡ texts t ++ q.rest) (sym (append_assoc p.entries q.entries (q.entry ∷ [])))
          (p.bytes_are ∙ ap (λ t. texts p.entries ++ t) q.bytes_are ∙ sym (append_assoc (texts p.entries) (texts all) q.rest) ∙ ap (λ t. t ++ q.rest) (sym (texts-append p.entries all)));
      each = subst AllWhole (sym (append_assoc p.entries q.entries (q.entry ∷ []))) (all_whole-append p.entries all p.each q.each);
      run = subst (λ t. Runs EntryTurn old t ((p.answers ++ q.answers) ++ q.answer ∷ []) new) (sym (append_assoc p.entries q.entries (q.entry ∷ [])))
          (subst (λ t. Runs EntryTurn old (p.entries ++ all) t new) (sym (append_assoc p.answers q.answers (q.answer ∷ [])))
          (runs-append EntryTurn p.entries all p.answers (q.answers ++ q.answer ∷ []) old mid new p.run q.run));
      between = q.between;
      whole = subst (λ t. Appends before q.between t) (sym (joined-append p.answers q.answers)) (appends_then before between q.between (joined p.answers) (joined q.answers) p.written q.whole);
      part = q.part;
    }
