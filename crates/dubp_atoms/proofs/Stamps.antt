-- What is read of a stamp is its one text, and which bytes no atom has.
use Rattle.std.proofs.Common.{◌≡◌, ◌≢◌, ℕ, zero, suc, get_or, take, drop, ◌^◌, ◌<◌, true, false, List, ◌∷◌, length, Option, Some, None, refl, sym, subst, ◌∙◌, arith, decimal}
use Rattle.std.specs.Prelude.{IfSome}
use Rattle.std.specs.Char.{is_ascii_digit}
use Rattle.std.proofs.lemmas.Bool.{eqb-true}
use Rattle.std.proofs.lemmas.List.{get_or-drop, get_or_past, length-drop, take-append-drop}
use Rattle.dubp_atoms.specs.declared.stamp.Stamp.{Stamp}
use Rattle.dubp_atoms.specs.Letters.{is_base58, is_upper_hex, is_base64, is_name, is_key, is_hash, is_sig, is_uid, is_currency_letter, is_currency}
use Rattle.dubp_atoms.specs.Reading.{◌>>=◌, text_if, Lacks, number_of, stamp_of}
use Rattle.dubp_atoms.specs.Spelling.{stamp_text, IsStamp}
use Rattle.dubp_atoms.proofs.Numbers.{both, bind_some, some_is, number_found, number_again}
use Rattle.dubp_atoms.proofs.Fields.{Lacks-append, Lacks-cons, field_found, field_again, text_found, text_again, decimal_lacks, glue, Lacks-all}

pub stamp_found : (text : List ℕ) (s : Stamp) → stamp_of text ≡ Some s → IsStamp s × (text ≡ stamp_text s)
unfolding stamp_of
stamp_found text s e =
    let last : ℕ → List ℕ → Option Stamp = λ number rest. text_if is_hash rest >>= (λ hash. Some (record { number = number; hash = hash })) in
    let f = field_found 45 number_of text last s e in
    let h = bind_some (text_if is_hash f.rest) (λ hash. Some (record { number = f.value; hash = hash })) s f.goes_on in
    let n = number_found f.front f.value f.reads in
    let t = text_found is_hash f.rest h.0 h.1 in
    let made : Stamp = record { number = f.value; hash = h.0 } in
    subst (λ (x : Stamp). IsStamp x × (text ≡ stamp_text x)) (some_is made s h.2) (record { number = n.0; hash = t.0 }, f.parts ∙ glue 45 f.front f.rest (decimal f.value) h.0 n.1 t.1)

pub stamp_again : (s : Stamp) → IsStamp s → stamp_of (stamp_text s) ≡ Some s
unfolding stamp_of
stamp_again s is =
    let last : ℕ → List ℕ → Option Stamp = λ number rest. text_if is_hash rest >>= (λ hash. Some (record { number = number; hash = hash })) in
    let hash : text_if is_hash s.hash ≡ Some s.hash = text_again is_hash s.hash is.hash in
    field_again 45 number_of (decimal s.number) s.hash s.number last (decimal_lacks 45 s.number is.number (omega arith) refl) (number_again s.number is.number) ∙ rw hash refl

pub stamp_is_found : (text : List ℕ) (o : Option Stamp) → o ≡ stamp_of text → IfSome o (λ s. IsStamp s × (text ≡ stamp_text s))
stamp_is_found text (Some s) e = stamp_found text s (sym e)
stamp_is_found text None e = tt

zero_apart : (b : ℕ) → 0 < b → 0 ≡ b → ⊥
zero_apart b p e = omega arith

-- what no text of these has in it
pub record IsApart (b : ℕ) : Type 0 where
  pub some : 0 < b
  pub key : is_base58 b ≡ false
  pub hash : is_upper_hex b ≡ false
  pub sig : is_base64 b ≡ false
  pub uid : is_name b ≡ false
  pub currency : is_currency_letter b ≡ false
  pub digit : is_ascii_digit b ≡ false
  pub sign : b ≢ 61
  pub dash : b ≢ 45

pub colon : IsApart 58
colon = record { some = omega arith; key = refl; hash = refl; sig = refl; uid = refl; currency = refl; digit = refl; sign = λ e. omega arith; dash = λ e. omega arith }

pub line_end : IsApart 10
line_end = record { some = omega arith; key = refl; hash = refl; sig = refl; uid = refl; currency = refl; digit = refl; sign = λ e. omega arith; dash = λ e. omega arith }

module _ (b : ℕ) (apart : IsApart b) where
  pub number_lacks : (n : ℕ) → n < 2 ^ 53 → Lacks b (decimal n)
  number_lacks n lt = decimal_lacks b n lt apart.some apart.digit

  pub key_lacks : (t : List ℕ) → is_key t ≡ true → Lacks b t
  unfolding is_key
  key_lacks t h = Lacks-all b is_base58 t apart.some apart.key (both _ _ h).1

  pub uid_lacks : (t : List ℕ) → is_uid t ≡ true → Lacks b t
  unfolding is_uid
  uid_lacks t h = Lacks-all b is_name t apart.some apart.uid (both _ _ h).1

  pub currency_lacks : (t : List ℕ) → is_currency t ≡ true → Lacks b t
  unfolding is_currency
  currency_lacks t h = Lacks-all b is_currency_letter t apart.some apart.currency (both _ _ h).1

  pub hash_lacks : (t : List ℕ) → is_hash t ≡ true → Lacks b t
  unfolding is_hash
  hash_lacks t h = Lacks-all b is_upper_hex t apart.some apart.hash (both _ _ h).1

  pub stamp_lacks : (s : Stamp) → IsStamp s → Lacks b (stamp_text s)
  stamp_lacks s is = Lacks-append b (decimal s.number) (45 ∷ s.hash) (number_lacks s.number is.number) (Lacks-cons b 45 s.hash (λ e. apart.dash (sym e)) (hash_lacks s.hash is.hash))

  tail_lacks : (t : List ℕ) → length t ≡ 88 → get_or t 86 0 ≡ 61 → get_or t 87 0 ≡ 61 → Lacks b (drop 86 t)
  tail_lacks t len p q zero = rw (get_or-drop 86 t 0 0, p) (λ e. apart.sign (sym e))
  tail_lacks t len p q (suc zero) = rw (get_or-drop 86 t 1 0, q) (λ e. apart.sign (sym e))
  tail_lacks t len p q (suc (suc k)) = rw (get_or_past (drop 86 t) (suc (suc k)) 0 (omega (arith, length-drop 86 t))) (λ e. zero_apart b apart.some e)

  pub sig_lacks : (t : List ℕ) → is_sig t ≡ true → Lacks b t
  unfolding is_sig
  sig_lacks t h =
      let d = both _ _ h in
      let c = both _ _ d.0 in
      let f = both _ _ c.0 in
      let front = Lacks-all b is_base64 (take 86 t) apart.some apart.sig f.1 in
      let back = tail_lacks t (eqb-true _ _ f.0) (eqb-true _ _ c.1) (eqb-true _ _ d.1) in
      subst (Lacks b) (take-append-drop 86 t) (Lacks-append b (take 86 t) (drop 86 t) front back)
