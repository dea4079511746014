-- What is read as a command is its one text, and the text of a command is read as it.
use Rattle.std.proofs.Common.{◌≡◌, inl, inr, ℕ, Bool, true, false, cond, List, ◌∷◌, ◌++◌, Option, Some, None, refl, sym, ap, subst, ◌∙◌, arith, decimal, length, ◌≤◌}
use Rattle.std.specs.Prelude.{codes, is_some, IfSome, option_map}
use Rattle.std.specs.Option.{option_or}
use Rattle.arrayvec.specs.ArrayVec.{ArrayVec}
use Rattle.dubp_atoms.specs.Letters.{SPACE, is_base58, is_upper_hex, is_key, is_uid, is_hash, is_sig}
use Rattle.dubp_atoms.specs.Reading.{Lacks, number_of, stamp_of, text_if}
use Rattle.dubp_atoms.specs.Spelling.{IsNumber, stamp_text, IsStamp}
use Rattle.dubp_atoms.specs.declared.stamp.Stamp.{Stamp}
use Rattle.dubp_atoms.proofs.Numbers.{both, bind_some, by_test, some_is, number_found, number_again}
use Rattle.dubp_atoms.proofs.Fields.{Lacks-all, glue, field_found, field_again, text_found, text_again}
use Rattle.dubp_atoms.proofs.Stamps.{stamp_found, stamp_again}
use Rattle.dubp_cond.specs.Tree.{CondTree}
use Rattle.dubp_cond.specs.Reading.{cond_of_text}
use Rattle.dubp_cond.proofs.Conditions.{cond_found, cond_again}
use Rattle.dubp_lines.specs.Taking.{named}
use Rattle.dubp_lines.proofs.Taken.{named_found}
use Rattle.dubp_replay.specs.declared.query.Query.{Query}
use Rattle.dubp_replay.specs.declared.query.Query.TheVariants as query
use Rattle.dubp_replay.specs.declared.command.Command.{Command}
use Rattle.dubp_replay.specs.declared.command.Command.TheVariants as command
use Rattle.dubp_script.specs.Spelling.{IsCommand, IsQuery, IsCondText, command_text, query_text, Says}
use Rattle.dubp_script.specs.Reading.{bare, verdict_of, change_of, other_of, choice_of, cond_text_if, forging_of, statement_of, pending_of, one_line_of, many_lines_of, command_of}
use Rattle.dubp_script.proofs.Tried.{or_some, map_some, behind, bare_found}

-- whatever is read has this text and is in range
record Tells {X : Type 0} (Is : X → Type 0) (spell : X → List ℕ) (read : List ℕ → Option X) : Type 0 where
  tells : (line : List ℕ) (x : X) → read line ≡ Some x → Is x × (line ≡ spell x)

either_tells : {X : Type 0} {Is : X → Type 0} {spell : X → List ℕ} {f g : List ℕ → Option X} → Tells Is spell f → Tells Is spell g → Tells Is spell (λ line. option_or (f line) (g line))
either_tells {f = f} {g = g} p q = record { tells = λ line x e. elim (or_some (f line) (g line) x e) [ inl a ↦ p.tells line x a | inr b ↦ q.tells line x b ] }

-- a value behind its word
word_tells : {A X : Type 0} {Is : X → Type 0} {spell : X → List ℕ} (word : List ℕ) (read : List ℕ → Option A) (make : A → X) → ((text : List ℕ) (a : A) → read text ≡ Some a → Is (make a) × (word ++ text ≡ spell (make a))) → Tells Is spell (λ line. option_map make (named word read line))
word_tells {X = X} {Is = Is} {spell = spell} word read make law = record {
  tells = λ line x e.
      let b = behind word read make line x e in
      let f = law b.rest b.value b.reads in
      let P : X → Type 0 = λ d. Is d × (line ≡ spell d) in
      subst P b.is (f.0, b.line_is ∙ f.1);
}

number_tells : {X : Type 0} {Is : X → Type 0} {spell : X → List ℕ} (word : List ℕ) (make : ℕ → X) → ((n : ℕ) → IsNumber n → Is (make n)) → ((n : ℕ) → word ++ decimal n ≡ spell (make n)) → Tells Is spell (λ line. option_map make (named word number_of line))
number_tells word make is spells =
    word_tells word number_of make (λ text n e. let f = number_found text n e in (is n f.0, ap (λ t. word ++ t) f.1 ∙ spells n))

stamp_tells : {X : Type 0} {Is : X → Type 0} {spell : X → List ℕ} (word : List ℕ) (make : Stamp → X) → ((s : Stamp) → IsStamp s → Is (make s)) → ((s : Stamp) → word ++ stamp_text s ≡ spell (make s)) → Tells Is spell (λ line. option_map make (named word stamp_of line))
stamp_tells word make is spells =
    word_tells word stamp_of make (λ text s e. let f = stamp_found text s e in (is s f.0, ap (λ t. word ++ t) f.1 ∙ spells s))

text_tells : {X : Type 0} {Is : X → Type 0} {spell : X → List ℕ} (test : List ℕ → Bool) (word : List ℕ) (make : List ℕ → X) → ((t : List ℕ) → test t ≡ true → Is (make t)) → ((t : List ℕ) → word ++ t ≡ spell (make t)) → Tells Is spell (λ line. option_map make (named word (text_if test) line))
text_tells test word make is spells =
    word_tells word (text_if test) make (λ text t e. let f = text_found test text t e in (is t f.0, ap (λ x. word ++ x) f.1 ∙ spells t))

cond_found_in : (text : List ℕ) (o : Option CondTree) → cond_of_text text ≡ o → is_some o ≡ true → IsCondText text
cond_found_in text (Some c) e is = let f = cond_found text c e in (c, f.0, f.1)
cond_found_in text None e is = absurd cc

pub cond_text_found : (text : List ℕ) (t : ArrayVec ℕ) → cond_text_if text ≡ Some t → IsCondText text × (t ≡ record { items = text })
unfolding cond_text_if
cond_text_found text t e =
    let b = by_test (is_some (cond_of_text text)) (Some (record { items = text })) t e in
    (cond_found_in text (cond_of_text text) refl b.0, sym (some_is _ t b.1))

cond_tells : {X : Type 0} {Is : X → Type 0} {spell : X → List ℕ} (word : List ℕ) (make : ArrayVec ℕ → X) → ((text : List ℕ) → IsCondText text → Is (make (record { items = text }))) → ((text : List ℕ) → word ++ text ≡ spell (make (record { items = text }))) → Tells Is spell (λ line. option_map make (named word cond_text_if line))
cond_tells {Is = Is} {spell = spell} word make is spells =
    word_tells word cond_text_if make (λ text t e.
    let f = cond_text_found text t e in
    let P : ArrayVec ℕ → Type 0 = λ u. Is (make u) × (word ++ text ≡ spell (make u)) in
    subst P (sym f.1) (is text f.0, spells text))

bare_tells : {X : Type 0} {Is : X → Type 0} {spell : X → List ℕ} (word : List ℕ) (value : X) → Is value → word ≡ spell value → Tells Is spell (bare word value)
bare_tells {X = X} {Is = Is} {spell = spell} word value is spells = record {
  tells = λ line x e.
      let f = bare_found word value line x e in
      let P : X → Type 0 = λ d. Is d × (line ≡ spell d) in
      subst P f.1 (is, f.0 ∙ spells);
}

verdict_law : (text : List ℕ) (c : Command) → verdict_of text ≡ Some c → IsCommand c × (codes "VERDICT " ++ text ≡ command_text c)
unfolding verdict_of
verdict_law text c e =
    let k = field_found SPACE (text_if is_key) text _ c e in
    let h = field_found SPACE (text_if is_hash) k.rest _ c k.goes_on in
    let s = bind_some (text_if is_sig h.rest) (λ sig. Some (command.Verdict k.value h.value sig)) c h.goes_on in
    let key = text_found is_key k.front k.value k.reads in
    let hash = text_found is_hash h.front h.value h.reads in
    let sig = text_found is_sig h.rest s.0 s.1 in
    let P : Command → Type 0 = λ d. IsCommand d × (codes "VERDICT " ++ text ≡ command_text d) in
    subst P (some_is (command.Verdict k.value h.value s.0) c s.2) (
      (key.0, hash.0, sig.0),
      ap (λ t. codes "VERDICT " ++ t) (k.parts ∙ glue SPACE k.front k.rest k.value (h.value ++ SPACE ∷ s.0) key.1 (h.parts ∙ glue SPACE h.front h.rest h.value s.0 hash.1 sig.1)),
    )

verdict_tells : Tells IsCommand command_text (named (codes "VERDICT ") verdict_of)
verdict_tells = record {
  tells = λ line c e.
      let n = named_found (codes "VERDICT ") verdict_of line c e in
      let f = verdict_law n.0 c n.2 in
      (f.0, n.1 ∙ f.1);
}

change_tells : Tells IsCommand command_text change_of
unfolding change_of
change_tells =
    either_tells (number_tells (codes "BLOCK ") command.Block (λ n is. is) (λ n. refl))
    (either_tells (number_tells (codes "REVERT ") command.Revert (λ n is. is) (λ n. refl))
    (either_tells (number_tells (codes "OFFER ") command.Offer (λ n is. is) (λ n. refl))
    (either_tells (stamp_tells (codes "SWITCH ") command.Switch (λ s is. is) (λ s. refl))
    (stamp_tells (codes "FORGET ") command.Forget (λ s is. is) (λ s. refl)))))

choice_tells : Tells IsCommand command_text choice_of
unfolding choice_of
choice_tells =
    either_tells (bare_tells (codes "AUTO ON") (command.Auto true) tt refl)
    (either_tells (bare_tells (codes "AUTO OFF") (command.Auto false) tt refl)
    (bare_tells (codes "FAILED") command.Failures tt refl))

statement_tells : Tells IsCommand command_text statement_of
unfolding statement_of
statement_tells = cond_tells (codes "STATEMENT ") command.Statement (λ t is. is) (λ t. refl)

forging_law : (text : List ℕ) (c : Command) → forging_of text ≡ Some c → IsCommand c × (codes "FORGE " ++ text ≡ command_text c)
unfolding forging_of
forging_law text c e =
    let k = field_found SPACE (text_if is_key) text _ c e in
    let t = bind_some (number_of k.rest) (λ time. Some (command.Forge k.value time)) c k.goes_on in
    let key = text_found is_key k.front k.value k.reads in
    let time = number_found k.rest t.0 t.1 in
    let P : Command → Type 0 = λ d. IsCommand d × (codes "FORGE " ++ text ≡ command_text d) in
    subst P (some_is (command.Forge k.value t.0) c t.2) (
      (key.0, time.0),
      ap (λ x. codes "FORGE " ++ x) (k.parts ∙ glue SPACE k.front k.rest k.value (decimal t.0) key.1 time.1),
    )

forging_tells : Tells IsCommand command_text (named (codes "FORGE ") forging_of)
forging_tells = record {
  tells = λ line c e.
      let n = named_found (codes "FORGE ") forging_of line c e in
      let f = forging_law n.0 c n.2 in
      (f.0, n.1 ∙ f.1);
}

pending_tells : Tells IsCommand command_text pending_of
unfolding pending_of
pending_tells =
    either_tells (number_tells (codes "PEND ") command.Pend (λ n is. is) (λ n. refl))
    (either_tells (text_tells is_hash (codes "UNPEND ") command.Unpend (λ t is. is) (λ t. refl))
    forging_tells)

one_line_tells : Tells IsQuery query_text one_line_of
unfolding one_line_of
one_line_tells =
    either_tells (bare_tells (codes "HEAD") query.Head tt refl)
    (either_tells (bare_tells (codes "MONEY") query.Money tt refl)
    (either_tells (text_tells is_key (codes "IDENTITY ") query.Identity (λ t is. is) (λ t. refl))
    (either_tells (text_tells is_uid (codes "UID ") query.Uid (λ t is. is) (λ t. refl))
    (either_tells (cond_tells (codes "BALANCE ") query.Balance (λ t is. is) (λ t. refl))
    (either_tells (text_tells is_key (codes "DISTANCE ") query.Distance (λ t is. is) (λ t. refl))
    (text_tells is_key (codes "DIFF ") query.Diff (λ t is. is) (λ t. refl)))))))

pub one_line_says : (line : List ℕ) (q : Query) → one_line_of line ≡ Some q → IsQuery q × (line ≡ query_text q)
one_line_says line q e = one_line_tells.tells line q e

many_lines_tells : Tells IsQuery query_text many_lines_of
unfolding many_lines_of
many_lines_tells =
    either_tells (text_tells is_key (codes "CERTS ") query.Certs (λ t is. is) (λ t. refl))
    (either_tells (cond_tells (codes "SOURCES ") query.Sources (λ t is. is) (λ t. refl))
    (either_tells (number_tells (codes "RECORDS ") query.Records (λ n is. is) (λ n. refl))
    (number_tells (codes "SHOW ") query.Show (λ n is. is) (λ n. refl))))

asks_tells : {read : List ℕ → Option Query} → Tells IsQuery query_text read → Tells IsCommand command_text (λ line. option_map command.Ask (read line))
asks_tells {read = read} p = record {
  tells = λ line c e.
      let m = map_some command.Ask (read line) c e in
      let P : Command → Type 0 = λ d. IsCommand d × (line ≡ command_text d) in
      subst P m.2 (p.tells line m.0 m.1);
}

other_tells : Tells IsCommand command_text other_of
unfolding other_of
other_tells = either_tells change_tells (either_tells choice_tells (either_tells statement_tells (either_tells pending_tells (either_tells (asks_tells one_line_tells) (asks_tells many_lines_tells)))))

command_tells : Tells IsCommand command_text command_of
unfolding command_of
command_tells = either_tells verdict_tells other_tells

pub command_says : (line : List ℕ) (c : Command) → command_of line ≡ Some c → Says line c
command_says line c e = let f = command_tells.tells line c e in record { is = f.0; text = f.1 }

pub cond_text_again : (text : List ℕ) → IsCondText text → cond_text_if text ≡ Some (record { items = text })
unfolding cond_text_if
cond_text_again text is = rw (ap cond_of_text is.2 ∙ cond_again is.0 is.1) refl

-- neither a key nor a hash has a space
key_lacks : (t : List ℕ) → is_key t ≡ true → Lacks SPACE t
unfolding is_key
key_lacks t h = Lacks-all SPACE is_base58 t (omega arith) refl (both _ _ h).1

hash_lacks : (t : List ℕ) → is_hash t ≡ true → Lacks SPACE t
unfolding is_hash
hash_lacks t h = Lacks-all SPACE is_upper_hex t (omega arith) refl (both _ _ h).1

verdict_again : (key hash sig : List ℕ) → is_key key ≡ true → is_hash hash ≡ true → is_sig sig ≡ true → verdict_of (key ++ SPACE ∷ (hash ++ SPACE ∷ sig)) ≡ Some (command.Verdict key hash sig)
unfolding verdict_of
verdict_again key hash sig k h s =
    field_again SPACE (text_if is_key) key (hash ++ SPACE ∷ sig) key _ (key_lacks key k) (text_again is_key key k)
    ∙ field_again SPACE (text_if is_hash) hash sig hash _ (hash_lacks hash h) (text_again is_hash hash h)
    ∙ rw (text_again is_sig sig s) refl

forging_again : (key : List ℕ) (time : ℕ) → is_key key ≡ true → IsNumber time → forging_of (key ++ SPACE ∷ decimal time) ≡ Some (command.Forge key time)
unfolding forging_of
forging_again key time k t =
    field_again SPACE (text_if is_key) key (decimal time) key _ (key_lacks key k) (text_again is_key key k)
    ∙ rw (number_again time t) refl

pub command_again : (c : Command) → IsCommand c → command_of (command_text c) ≡ Some c
unfolding command_of other_of change_of choice_of statement_of pending_of one_line_of many_lines_of
command_again (command.Verdict key hash sig) is = rw (verdict_again key hash sig is.0 is.1 is.2) refl
command_again (command.Block len) is = rw (number_again len is) refl
command_again (command.Revert count) is = rw (number_again count is) refl
command_again (command.Offer len) is = rw (number_again len is) refl
command_again (command.Switch stamp) is = rw (stamp_again stamp is) refl
command_again (command.Forget stamp) is = rw (stamp_again stamp is) refl
command_again (command.Statement cond) is = rw (cond_text_again cond.items is) refl
command_again (command.Auto true) is = refl
command_again (command.Auto false) is = refl
command_again command.Failures is = refl
command_again (command.Pend len) is = rw (number_again len is) refl
command_again (command.Unpend hash) is = rw (text_again is_hash hash is) refl
command_again (command.Forge key time) is = rw (forging_again key time is.0 is.1) refl
command_again (command.Ask query.Head) is = refl
command_again (command.Ask query.Money) is = refl
command_again (command.Ask (query.Identity key)) is = rw (text_again is_key key is) refl
command_again (command.Ask (query.Uid uid)) is = rw (text_again is_uid uid is) refl
command_again (command.Ask (query.Certs key)) is = rw (text_again is_key key is) refl
command_again (command.Ask (query.Balance cond)) is = rw (cond_text_again cond.items is) refl
command_again (command.Ask (query.Sources cond)) is = rw (cond_text_again cond.items is) refl
command_again (command.Ask (query.Distance key)) is = rw (text_again is_key key is) refl
command_again (command.Ask (query.Diff key)) is = rw (text_again is_key key is) refl
command_again (command.Ask (query.Records number)) is = rw (number_again number is) refl
command_again (command.Ask (query.Show number)) is = rw (number_again number is) refl

pub command_is_found : (line : List ℕ) (o : Option Command) → o ≡ command_of line → IfSome o (λ c. IsCommand c × (line ≡ command_text c))
command_is_found line (Some c) e = let says = command_says line c (sym e) in (says.is, says.text)
command_is_found line None e = tt

none_in : (text : List ℕ) (o : Option CondTree) → cond_of_text text ≡ o → (IsCondText text → ⊥) → is_some o ≡ false
none_in text (Some c) e lacks = let f = cond_found text c e in absurd (lacks (c, f.0, f.1))
none_in text None e lacks = refl

-- what is no condition's text
pub no_cond_text : (text : List ℕ) → (IsCondText text → ⊥) → cond_text_if text ≡ None
unfolding cond_text_if
no_cond_text text lacks = rw (none_in text (cond_of_text text) refl lacks) refl

pub cond_text_short : (text : List ℕ) → IsCondText text → length text ≤ 1000
cond_text_short text is = rw is.2 is.1.short

-- a line says one command
pub says_once : (line : List ℕ) (c d : Command) → Says line c → Says line d → c ≡ d
says_once line c d p q =
    some_is c d (sym (command_again c p.is) ∙ ap command_of (sym p.text ∙ q.text) ∙ command_again d q.is)

-- what a line says is what is read of it
pub says_command : (line : List ℕ) (c : Command) → Says line c → command_of line ≡ Some c
says_command line c p = ap command_of p.text ∙ command_again c p.is
