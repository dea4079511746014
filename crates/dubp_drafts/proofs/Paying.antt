-- What a payer makes is a transaction that is in range.
use Rattle.std.proofs.Common.{◌≡◌, ℕ, ◌-◌, ◌/◌, ◌%◌, ◌<◌, ◌≤◌, ◌==◌, Bool, true, false, if◌then◌else◌, List, [], ◌∷◌, ◌++◌, codes, decimal, length, refl, ap, sym, ◌∙◌, subst, arith, lit<, lit≤}
use Rattle.std.specs.Prelude.{Some}
use Rattle.std.proofs.lemmas.Fmt.{length-decimal-le}
use Rattle.std.proofs.lemmas.List.{length-append}
use Rattle.std.proofs.lemmas.List.Elements.{All-nil, All-cons}
use Rattle.dubp_atoms.specs.Same.{Text}
use Rattle.dubp_atoms.specs.Letters.{is_key, is_sig}
use Rattle.dubp_atoms.specs.Spelling.{IsNumber, IsStamp}
use Rattle.dubp_atoms.specs.declared.stamp.Stamp.{Stamp}
use Rattle.dubp_atoms.proofs.Fits.{key_fits}
use Rattle.dubp_cond.specs.Conditions.{IsCond}
use Rattle.dubp_cond.specs.Outputs.{IsOutput}
use Rattle.dubp_cond.specs.Sources.{IsInput}
use Rattle.dubp_cond.specs.Transactions.{IsList, IsTx, is_comment}
use Rattle.dubp_cond.specs.Unlocks.{IsUnlock, IsUnlockLine}
use Rattle.dubp_cond.specs.declared.source.Input.{Input}
use Rattle.dubp_cond.specs.declared.output.Output.{Output}
use Rattle.dubp_cond.specs.declared.unlock.Unlock.TheVariants.{Sig}
use Rattle.dubp_cond.specs.declared.unlock.UnlockLine.{UnlockLine}
use Rattle.dubp_cond.specs.declared.tx.Tx.{Tx}
use Rattle.dubp_docs.specs.Spelling.{signed_tx}
use Rattle.dubp_chain.specs.Money.{signed_by}
use Rattle.dubp_drafts.specs.Keys.{key_text}
use Rattle.dubp_drafts.specs.Sealing.{signature_of}
use Rattle.dubp_drafts.specs.Drafting.{blank_sig, currency, first_unlocks, Given, given, IsSpendable, output_to, outputs, paid, payee, payer, transaction, transaction_message, transactions_given, unsigned_transaction}
use Rattle.dubp_drafts.proofs.ByNumber.{digit_is_base58, three_digits}

pub key_is_key : (i : ℕ) → i < 195112 → is_key (key_text i) ≡ true
key_is_key i small =
    three_digits _ _ _ (digit_is_base58 (i / 3364) (omega arith)) (digit_is_base58 (i / 58 % 58) (omega arith)) (digit_is_base58 (i % 58) (omega arith))

signed_by_is_cond : (key : Text) → is_key key ≡ true → IsCond (signed_by key)
signed_by_is_cond key h = record {
  fits = ((h, tt), tt);
  nests = lit≤ tt;
  short = omega (arith, length-append key (codes ")"), key_fits key h);
}

output_is_output : (amount base i : ℕ) → IsNumber amount → base ≤ 15 → i < 8 → IsOutput (output_to amount base i)
output_is_output amount base i a b s = record {
  amount = a;
  base = b;
  cond = signed_by_is_cond (key_text i) (key_is_key i (omega arith));
}

one_is_list : {A : Type 0} (P : A → Type 0) (x : A) → P x → IsList P (x ∷ [])
one_is_list P x h = record { some = lit≤ tt; few = lit≤ tt; each = All-cons P x [] h (All-nil P) }

one_or_two : (b : Bool) (o p : Output) → IsOutput o → IsOutput p → IsList IsOutput (o ∷ (if b then [] else p ∷ []))
one_or_two true o p h k = one_is_list IsOutput o h
one_or_two false o p h k = record {
  some = lit≤ tt;
  few = lit≤ tt;
  each = All-cons IsOutput o (p ∷ []) h (All-cons IsOutput p [] k (All-nil IsOutput));
}

outputs_are_outputs : (x amount base : ℕ) → 1 ≤ amount → IsNumber amount → base ≤ 15 → IsList IsOutput (outputs x amount base)
outputs_are_outputs x amount base some a b =
    one_or_two (amount - paid x amount == 0) (output_to (paid x amount) base (payee x)) (output_to (amount - paid x amount) base (payer x))
    (output_is_output (paid x amount) base (payee x) (omega arith) b (omega arith))
    (output_is_output (amount - paid x amount) base (payer x) (omega arith) b (omega arith))

unlock_is_short : (input issuer : List ℕ) → length input ≤ 10 → length issuer ≤ 10 → length (input ++ 58 ∷ (codes "SIG(" ++ (issuer ++ codes ")"))) ≤ 1000
unlock_is_short input issuer h k = omega (arith, length-append input (58 ∷ (codes "SIG(" ++ (issuer ++ codes ")"))), length-append issuer (codes ")"))

first_unlocks_are_unlocks : IsUnlockLine (record { input = 0; list = Sig 0 ∷ [] })
first_unlocks_are_unlocks = record {
  input = lit< tt;
  some = lit≤ tt;
  few = lit≤ tt;
  each = All-cons IsUnlock (Sig 0) [] (lit< tt) (All-nil IsUnlock);
  short =
      let few : length (decimal 0) ≤ 10 = length-decimal-le 10 0 (omega arith) (omega arith) (omega arith) in
      unlock_is_short (decimal 0) (decimal 0) few few;
}

pub blank_sig_is_sig : is_sig blank_sig ≡ true
unfolding is_sig
blank_sig_is_sig = refl

no_comment : is_comment [] ≡ true
unfolding is_comment
no_comment = refl

pub transaction_is_tx : (x : ℕ) (s : Stamp) (source : Input) (sig : Text) → IsStamp s → IsSpendable (Some source) → is_sig sig ≡ true → IsTx (record (unsigned_transaction x s source) { sigs = sig ∷ [] })
transaction_is_tx x s source sig stamp spendable h = record {
  stamp = stamp;
  locktime = lit< tt;
  issuers = one_is_list (λ key. is_key key ≡ true) (key_text (payer x)) (key_is_key (payer x) (omega arith));
  inputs = one_is_list IsInput source spendable.0;
  unlocks = one_is_list IsUnlockLine _ first_unlocks_are_unlocks;
  outputs = outputs_are_outputs x source.amount source.base spendable.1 spendable.0.amount spendable.0.base;
  comment = no_comment;
  sigs = (one_is_list (λ t. is_sig t ≡ true) sig h).each;
  signed = refl;
}

pub unsigned_is_tx : (x : ℕ) (s : Stamp) (source : Input) → IsStamp s → IsSpendable (Some source) → IsTx (unsigned_transaction x s source)
unsigned_is_tx x s source stamp spendable = transaction_is_tx x s source blank_sig stamp spendable blank_sig_is_sig

-- the same, as it is put together
pub made_is_tx : (x : ℕ) (s : Stamp) (source : Input) (n : ℕ) (key blank : Text) (issuers : List Text) (inputs : List Input) (unlocks : List UnlockLine) (outs : List Output) (comment : List ℕ) (sigs : List Text)
    → n ≡ payer x
    → key ≡ key_text n
    → issuers ≡ key ∷ []
    → inputs ≡ source ∷ []
    → unlocks ≡ first_unlocks
    → outs ≡ outputs x source.amount source.base
    → comment ≡ []
    → blank ≡ blank_sig
    → sigs ≡ blank ∷ []
    → IsStamp s
    → IsSpendable (Some source)
    → IsTx (record { stamp = s; locktime = 0; issuers = issuers; inputs = inputs; unlocks = unlocks; outputs = outs; comment = comment; sigs = sigs })
made_is_tx x s source n key blank issuers inputs unlocks outs comment sigs of_payer of_key is ins us os cs of_blank ss stamp spendable =
    let issuer = is ∙ ap (λ k. k ∷ []) (of_key ∙ ap key_text of_payer) in
    let sig = ss ∙ ap (λ k. k ∷ []) of_blank in
    let e : record { stamp = s; locktime = 0; issuers = issuers; inputs = inputs; unlocks = unlocks; outputs = outs; comment = comment; sigs = sigs } ≡ unsigned_transaction x s source =
    λ i. record { stamp = s; locktime = 0; issuers = issuer i; inputs = ins i; unlocks = us i; outputs = os i; comment = cs i; sigs = sig i } in
    subst IsTx (sym e) (unsigned_is_tx x s source stamp spendable)

-- who signs, and what, as it is put together
message_is : (x : ℕ) (s : Stamp) (source : Input) (unsigned : Tx) (money : Text) (text message : List ℕ)
    → unsigned ≡ unsigned_transaction x s source
    → money ≡ currency
    → text ≡ signed_tx money unsigned
    → message ≡ text
    → message ≡ transaction_message x s source
message_is x s source unsigned money text message of_tx of_money of_text of_message =
    of_message ∙ of_text ∙ ap (λ m. signed_tx m unsigned) of_money ∙ ap (signed_tx currency) of_tx

pub transaction_is : (x : ℕ) (s : Stamp) (source : Input) (unsigned : Tx) (money : Text) (text message : List ℕ) (n : ℕ) (key sig : Text)
    → unsigned ≡ unsigned_transaction x s source
    → money ≡ currency
    → text ≡ signed_tx money unsigned
    → message ≡ text
    → n ≡ payer x
    → key ≡ key_text n
    → sig ≡ signature_of key message
    → record unsigned { sigs = sig ∷ [] } ≡ transaction x s source
transaction_is x s source unsigned money text message n key sig of_tx of_money of_text of_message of_payer of_key of_sig =
    let m = message_is x s source unsigned money text message of_tx of_money of_text of_message in
    let e = of_sig ∙ ap (λ k. signature_of k message) (of_key ∙ ap key_text of_payer) ∙ ap (signature_of (key_text (payer x))) m in
    λ i. record (of_tx i) { sigs = e i ∷ [] }

pub transaction_given_is : (x : ℕ) (s : Stamp) (source : Input) (unsigned : Tx) (money : Text) (text message : List ℕ) (n : ℕ) (key : Text) (old new : List Given)
    → unsigned ≡ unsigned_transaction x s source
    → money ≡ currency
    → text ≡ signed_tx money unsigned
    → message ≡ text
    → n ≡ payer x
    → key ≡ key_text n
    → new ≡ old ++ given key message ∷ []
    → new ≡ old ++ transactions_given x s (Some source)
transaction_given_is x s source unsigned money text message n key old new of_tx of_money of_text of_message of_payer of_key of_new =
    let m = message_is x s source unsigned money text message of_tx of_money of_text of_message in
    of_new ∙ ap (λ k. old ++ given k message ∷ []) (of_key ∙ ap key_text of_payer) ∙ ap (λ t. old ++ given (key_text (payer x)) t ∷ []) m

pub signed_is_tx : (x : ℕ) (s : Stamp) (source : Input) (unsigned : Tx) (sig : Text) → unsigned ≡ unsigned_transaction x s source → IsStamp s → IsSpendable (Some source) → is_sig sig ≡ true → IsTx (record unsigned { sigs = sig ∷ [] })
signed_is_tx x s source unsigned sig e stamp spendable h =
    subst (λ tx. IsTx (record tx { sigs = sig ∷ [] })) (sym e) (transaction_is_tx x s source sig stamp spendable h)
