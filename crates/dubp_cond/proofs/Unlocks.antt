-- What is read as an unlock line is its one text.
use Rattle.std.proofs.Common.{◌≡◌, ℕ, ◌≤◌, nat_le, true, List, [], ◌∷◌, ◌++◌, length, codes, decimal, Option, Some, refl, sym, ap, subst, ◌∙◌, arith, append_assoc, inl, inr}
use Rattle.std.proofs.lemmas.Bool.Decides.{nat_tests}
use Rattle.std.proofs.lemmas.List.{append-nil}
use Rattle.std.proofs.lemmas.List.Elements.{All-from_recursion, recursion_from_All}
use Rattle.std.specs.Prelude.{All}
use Rattle.dubp_atoms.specs.Reading.{◌>>=◌, text_if, number_of, field, Lacks}
use Rattle.dubp_atoms.specs.Spelling.{IsNumber}
use Rattle.dubp_atoms.proofs.Numbers.{both, bind_some, some_is, by_test, number_found, number_again}
use Rattle.dubp_atoms.proofs.Fields.{field_found, field_again, text_found, text_again, glue, Lacks-all}
use Rattle.dubp_atoms.proofs.Stamps.{colon, number_lacks}
use Rattle.dubp_cond.specs.Separated.{Read, after, read_map, closed, if_last}
use Rattle.dubp_cond.specs.Finding.{Finds, Again}
use Rattle.dubp_cond.specs.Unlocks.{is_password_letter, is_password, unlock_text, IsUnlock, unlock_line_text, IsUnlockLine}
use Rattle.dubp_cond.specs.ReadingLines.{unlock_at, unlocks_at, unlocks_of, unlock_line_of}
use Rattle.dubp_cond.specs.declared.unlock.Unlock.{Unlock}
use Rattle.dubp_cond.specs.declared.unlock.Unlock.TheVariants.{Sig, Xhx}
use Rattle.dubp_cond.specs.declared.unlock.UnlockLine.{UnlockLine}
use Rattle.dubp_cond.proofs.Readers.{map_some, either_some, after_found, with_end, closed_finds, closed_again, Unparses, last_found}
use Rattle.dubp_cond.proofs.Separated.{list_text, UpTo, each_good, separated_up_to_finds, separated_up_to_again}
use Rattle.dubp_cond.proofs.Items.{itself, number_unparses}

pub password_lacks : (t : List ℕ) → is_password t ≡ true → Lacks 41 t
unfolding is_password
password_lacks t h = Lacks-all 41 is_password_letter t (omega arith) refl (both _ _ h).1

password_unparses : Unparses (text_if is_password) itself (λ t. is_password t ≡ true)
password_unparses t h = (text_again is_password t h, password_lacks t h)

-- ---- one function

tagged : {A : Type 0} (word : List ℕ) (read : Read A) (make : A → Unlock) (spell : A → List ℕ) (Good : A → Type 0) → Finds read spell Good →
    ((x : A) → Good x → IsUnlock (make x)) → ((x : A) → word ++ spell x ≡ unlock_text (make x)) →
    (text : List ℕ) (u : Unlock) (rest : List ℕ) → (r : List ℕ) × (after word text ≡ Some r) × (read_map make (read r) ≡ Some (u, rest)) →
    (text ≡ unlock_text u ++ rest) × IsUnlock u
tagged {A} word read make spell Good finds good spells text u rest a =
    let m = map_some (λ (p : A × List ℕ). (make p.0, p.1)) (read a.0) (u, rest) a.2 in
    let f = finds a.0 m.0.0 m.0.1 m.1 in
    done m.0.0 a.0 m.0.1 (after_found word text a.0 a.1) f.0 f.1 (ap (λ p. p.0) m.2) (ap (λ p. p.1) m.2)
  where
    done : (x : A) (r at : List ℕ) → text ≡ word ++ r → r ≡ spell x ++ at → Good x → make x ≡ u → at ≡ rest → (text ≡ unlock_text u ++ rest) × IsUnlock u
    done x r at w f g e s = rw (← e, ← s) (w ∙ ap (λ v. word ++ v) f ∙ sym (append_assoc word (spell x) at) ∙ ap (λ v. v ++ at) (spells x), good x g)

pub unlock_finds : Finds unlock_at unlock_text IsUnlock
unlock_finds text u rest h = elim (either_some (after (codes "SIG(") text) _ _ (u, rest) h) [
  | inl a ↦ tagged (codes "SIG(") (closed number_of) Sig (with_end decimal) IsNumber (closed_finds number_of decimal IsNumber number_found) (λ n g. g) (λ n. refl) text u rest a
  | inr h ↦
      let a = bind_some (after (codes "XHX(") text) (λ r. read_map Xhx (closed (text_if is_password) r)) (u, rest) h in
      tagged (codes "XHX(") (closed (text_if is_password)) Xhx (with_end itself) (λ t. is_password t ≡ true) (closed_finds (text_if is_password) itself (λ t. is_password t ≡ true) (text_found is_password))
      (λ t g. g) (λ t. refl) text u rest a
]

pub unlock_again : Again unlock_at unlock_text IsUnlock (λ rest. Unit {0})
unlock_again (Sig n) rest good ends = ap (read_map Sig) (closed_again number_of decimal IsNumber number_unparses n rest good tt)
unlock_again (Xhx t) rest good ends = ap (read_map Xhx) (closed_again (text_if is_password) itself (λ t. is_password t ≡ true) password_unparses t rest good tt)

-- ---- a line

abbrev pub GoodList : List Unlock → Type 0
GoodList list = (1 ≤ length list) × (length list ≤ 8) × All IsUnlock list

good_list : (list : List Unlock) → UpTo 8 IsUnlock list → GoodList list
good_list [] h = absurd h.0
good_list (u ∷ us) h = (omega arith, h.1, All-from_recursion IsUnlock (u ∷ us) (each_good IsUnlock (u ∷ us) h.0))

list_good : (list : List Unlock) → GoodList list → UpTo 8 IsUnlock list
list_good [] h = absurd (omega arith)
list_good (u ∷ us) h = (recursion_from_All IsUnlock (u ∷ us) h.2, h.1)

unlocks_found : (text : List ℕ) (list : List Unlock) → unlocks_of text ≡ Some list → GoodList list × (text ≡ list_text unlock_text (codes " ") list)
unlocks_found text list e =
    let b = bind_some (unlocks_at 8 text) if_last list e in
    let f = separated_up_to_finds unlock_at unlock_text IsUnlock (codes " ") unlock_finds 8 text b.0.0 b.0.1 b.1 in
    let l = last_found b.0 list b.2 in
    done b.0.0 b.0.1 f.0 f.1 l.0 l.1
  where
    done : (x : List Unlock) (rest : List ℕ) → text ≡ list_text unlock_text (codes " ") x ++ rest → UpTo 8 IsUnlock x → x ≡ list → rest ≡ [] → GoodList list × (text ≡ list_text unlock_text (codes " ") list)
    done x rest f g e z = rw (← e) (good_list x g, f ∙ ap (λ v. list_text unlock_text (codes " ") x ++ v) z ∙ append-nil (list_text unlock_text (codes " ") x))

unlocks_again : (list : List Unlock) → GoodList list → unlocks_of (list_text unlock_text (codes " ") list) ≡ Some list
unlocks_again list good =
    let a = separated_up_to_again unlock_at unlock_text IsUnlock (codes " ") (λ rest. Unit {0}) unlock_again (λ rest. tt) 8 list [] (list_good list good) (tt, refl) in
    ap unlocks_of (sym (append-nil (list_text unlock_text (codes " ") list))) ∙ ap (λ o. o >>= if_last) a

abbrev after_input : ℕ → List ℕ → Option UnlockLine
after_input input rest = unlocks_of rest >>= (λ list. Some (record { input = input; list = list }))

is_short : (n : ℕ) → nat_le n 1000 ≡ true → n ≤ 1000
is_short n h = grind (arith, nat_tests)

passes : (n : ℕ) → n ≤ 1000 → nat_le n 1000 ≡ true
passes n h = grind (arith, nat_tests)

pub unlock_line_found : (text : List ℕ) (l : UnlockLine) → unlock_line_of text ≡ Some l → IsUnlockLine l × (text ≡ unlock_line_text l)
unfolding unlock_line_of
unlock_line_found text l e =
    let t = by_test (nat_le (length text) 1000) (field 58 number_of text after_input) l e in
    let f = field_found 58 number_of text after_input l t.1 in
    let s = bind_some (unlocks_of f.rest) _ l f.goes_on in
    let a = number_found f.front f.value f.reads in
    let u = unlocks_found f.rest s.0 s.1 in
    let made : UnlockLine = record { input = f.value; list = s.0 } in
    let spelled : text ≡ unlock_line_text made = f.parts ∙ glue 58 f.front f.rest (decimal f.value) _ a.1 u.1 in
    let short : length (unlock_line_text made) ≤ 1000 = subst (λ t. length t ≤ 1000) spelled (is_short (length text) t.0) in
    subst (λ x. IsUnlockLine x × (text ≡ unlock_line_text x)) (some_is made l s.2)
    (record { input = a.0; some = u.0.0; few = u.0.1; each = u.0.2; short = short }, spelled)

pub unlock_line_again : (l : UnlockLine) → IsUnlockLine l → unlock_line_of (unlock_line_text l) ≡ Some l
unfolding unlock_line_of
unlock_line_again l is =
    let rest = list_text unlock_text (codes " ") l.list in
    let f = field_again 58 number_of (decimal l.input) rest l.input after_input (number_lacks 58 colon l.input is.input) (number_again l.input is.input) in
    rw (passes (length (unlock_line_text l)) is.short) (f ∙ rw (unlocks_again l.list (is.some, is.few, is.each)) refl)
