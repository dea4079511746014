-- What each block of a generated chain says before it gets its header, and the verdicts that its lines need. Protocol: the generator.
use Rattle.std.specs.Prelude.{ℕ, ◌+◌, ◌-◌, ◌*◌, ◌/◌, ◌%◌, ◌^◌, ◌==◌, ◌≤◌, true, not, pos, ⊤, List, [], ◌∷◌, ◌++◌, codes, map, filter, replicate, Option, Some, None, if◌then◌else◌}
use Rattle.std.specs.List.{flat_map}
use Rattle.dubp_atoms.specs.Same.{Text, empty_stamp}
use Rattle.dubp_atoms.specs.Hashing.{hash_of}
use Rattle.dubp_atoms.specs.declared.dec.Dec.{Dec}
use Rattle.dubp_atoms.specs.declared.stamp.Stamp.{Stamp}
use Rattle.dubp_params.specs.declared.params.Params.{Params}
use Rattle.dubp_cond.specs.Sources.{IsInput}
use Rattle.dubp_cond.specs.declared.source.Input.{Input}
use Rattle.dubp_cond.specs.declared.unlock.Unlock.TheVariants.{Sig}
use Rattle.dubp_cond.specs.declared.unlock.UnlockLine.{UnlockLine}
use Rattle.dubp_cond.specs.declared.output.Output.{Output}
use Rattle.dubp_cond.specs.declared.tx.Tx.{Tx}
use Rattle.dubp_docs.specs.Spelling.{signed_text, signed_tx}
use Rattle.dubp_docs.specs.declared.doc.Doc.{Doc}
use Rattle.dubp_docs.specs.declared.doc.Doc.TheVariants.{Identity, Certification, Membership}
use Rattle.dubp_block.specs.declared.block.Block.{Block}
use Rattle.dubp_block.specs.declared.block.IdentityLine.{IdentityLine}
use Rattle.dubp_block.specs.declared.block.MemberLine.{MemberLine}
use Rattle.dubp_block.specs.declared.block.CertLine.{CertLine}
use Rattle.dubp_chain.specs.Money.{signed_by}
use Rattle.dubp_drafts.specs.Keys.{key_text, uid_text}
use Rattle.dubp_drafts.specs.Sealing.{signature_of}

abbrev pub currency : Text
currency = codes "test_currency"

abbrev pub decimal_of : ℕ → ℕ → Dec
decimal_of mantissa places = record { mantissa = mantissa; places = places }

-- 0.1:600:1000:300:50:10000:400000:1:10000:10000:0.5:100000:3:5:60:10:0.67:1000600:1006000:6000
abbrev pub parameters : Params
parameters = record {
  c = decimal_of 1 1;
  dt = 600;
  ud0 = 1000;
  sig_period = 300;
  sig_stock = 50;
  sig_window = 10000;
  sig_validity = 400000;
  sig_qty = 1;
  idty_window = 10000;
  ms_window = 10000;
  xpercent = decimal_of 5 1;
  ms_validity = 100000;
  step_max = 3;
  median_time_blocks = 5;
  avg_gen_time = 60;
  dt_diff_eval = 10;
  percent_rot = decimal_of 67 2;
  ud_time0 = 1000600;
  ud_reeval_time0 = 1006000;
  dt_reeval = 6000;
}

-- a signature and a hash that stand where the right ones are not known yet: 86 `A` and `==`, and 64 `0`
abbrev pub blank_sig : Text
blank_sig = replicate 86 65 ++ codes "=="

abbrev pub blank_hash : Text
blank_hash = replicate 64 48

-- the verdict on the signature by a key of a message: the key, the hash of the message, and the signature
abbrev pub Given : Type 0
Given = Text × Text × Text

abbrev pub given : Text → List ℕ → Given
given key message = (key, hash_of message, signature_of key message)

-- ---- who does what in the block of a number; people are named by the numbers of their keys

abbrev pub first_members : List ℕ
first_members = 0 ∷ 1 ∷ 2 ∷ 3 ∷ 4 ∷ 5 ∷ 6 ∷ 7 ∷ []

-- each twentieth block has one newcomer, and so has no other
abbrev pub newcomers : ℕ → List ℕ
newcomers n = if n == 0 then first_members else (if n % 20 == 0 then (7 + n / 20) ∷ [] else [])

-- who certifies whom
abbrev pub by_all_others : ℕ → List (ℕ × ℕ)
by_all_others i = map (λ j. (i, j)) (filter (λ j. not (i == j)) first_members)

abbrev pub certified : ℕ → List (ℕ × ℕ)
certified n = if n == 0 then flat_map by_all_others first_members else (if n % 20 == 0 then ((n / 20) % 8, 7 + n / 20) ∷ [] else [])

-- ten blocks behind each twentieth one of the first members renews
abbrev pub renewed : ℕ → List ℕ
renewed n = if n % 20 == 10 then ((n / 20) % 8) ∷ [] else []

-- who pays and who is paid, by the number that the block has in the run of numbers
abbrev pub payer : ℕ → ℕ
payer x = (x / 2 ^ 33) % 8

abbrev pub payee : ℕ → ℕ
payee x = (x / 2 ^ 40) % 8

-- ---- what they sign on the block of a stamp, and the lines with the signatures

abbrev pub identity_document : Stamp → ℕ → Doc
identity_document s i =
    Identity (record { currency = currency; issuer = key_text i; unique_id = uid_text i; timestamp = s; sig = blank_sig })

abbrev pub identity_message : Stamp → ℕ → List ℕ
identity_message s i = signed_text (identity_document s i)

abbrev pub identity_line : Stamp → ℕ → IdentityLine
identity_line s i =
    record { key = key_text i; sig = signature_of (key_text i) (identity_message s i); stamp = s; uid = uid_text i }

-- to be a member, by the stamp of the identity
abbrev pub membership_document : Stamp → Stamp → ℕ → Doc
membership_document s since i =
    Membership (record { currency = currency; issuer = key_text i; block = s; membership = true; user_id = uid_text i; cert_ts = since; sig = blank_sig })

abbrev pub membership_message : Stamp → Stamp → ℕ → List ℕ
membership_message s since i = signed_text (membership_document s since i)

abbrev pub member_line : Stamp → Stamp → ℕ → MemberLine
member_line s since i =
    record { key = key_text i; sig = signature_of (key_text i) (membership_message s since i); stamp = s; identity_stamp = since; uid = uid_text i }

-- i certifies j, whose identity has the same stamp
abbrev pub certification_document : Stamp → ℕ × ℕ → Doc
certification_document s (i, j) =
    Certification (record {
      currency = currency;
      issuer = key_text i;
      idty_issuer = key_text j;
      idty_unique_id = uid_text j;
      idty_timestamp = s;
      idty_signature = signature_of (key_text j) (identity_message s j);
      cert_timestamp = s;
      sig = blank_sig;
    })

abbrev pub certification_message : Stamp → ℕ × ℕ → List ℕ
certification_message s p = signed_text (certification_document s p)

-- in the block of number n, on the block before it
abbrev pub certification_line : ℕ → Stamp → ℕ × ℕ → CertLine
certification_line n s (i, j) =
    record { from = key_text i; to = key_text j; number = n - 1; sig = signature_of (key_text i) (certification_message s (i, j)) }

-- to the key of a number alone
abbrev pub output_to : ℕ → ℕ → ℕ → Output
output_to amount base i = record { amount = amount; base = base; cond = signed_by (key_text i) }

-- the payee gets from 1 to all of the source, and the payer the rest
abbrev pub paid : ℕ → ℕ → ℕ
paid x amount = 1 + (x / 2 ^ 48) % amount

abbrev pub outputs : ℕ → ℕ → ℕ → List Output
outputs x amount base =
    output_to (paid x amount) base (payee x)
    ∷ (if amount - paid x amount == 0 then [] else output_to (amount - paid x amount) base (payer x) ∷ [])

-- the first issuer unlocks the first input
abbrev pub first_unlocks : List UnlockLine
first_unlocks = record { input = 0; list = Sig 0 ∷ [] } ∷ []

-- the payer spends this source
abbrev pub unsigned_transaction : ℕ → Stamp → Input → Tx
unsigned_transaction x s source = record {
  stamp = s;
  locktime = 0;
  issuers = key_text (payer x) ∷ [];
  inputs = source ∷ [];
  unlocks = first_unlocks;
  outputs = outputs x source.amount source.base;
  comment = [];
  sigs = blank_sig ∷ [];
}

abbrev pub transaction_message : ℕ → Stamp → Input → List ℕ
transaction_message x s source = signed_tx currency (unsigned_transaction x s source)

abbrev pub transaction : ℕ → Stamp → Input → Tx
transaction x s source =
    record (unsigned_transaction x s source) { sigs = signature_of (key_text (payer x)) (transaction_message x s source) ∷ [] }

-- where there is such a source
abbrev pub transactions : ℕ → Stamp → Option Input → List Tx
transactions x s None = []
transactions x s (Some source) = transaction x s source ∷ []

abbrev pub transactions_given : ℕ → Stamp → Option Input → List Given
transactions_given x s None = []
transactions_given x s (Some source) = given (key_text (payer x)) (transaction_message x s source) ∷ []

-- ---- the block and the verdicts of its lines, in their order

-- a block without lines, whose header is that of a first block
abbrev pub blank : Text → ℕ → Block
blank issuer time = record {
  version = 10;
  currency = currency;
  number = 0;
  pow_min = 0;
  time = time;
  median_time = time;
  dividend = None;
  unit_base = 0;
  issuer = issuer;
  frame = 1;
  frame_var = pos 0;
  issuers = 0;
  previous = None;
  params = None;
  members = 0;
  identities = [];
  joiners = [];
  actives = [];
  leavers = [];
  revoked = [];
  excluded = [];
  certifications = [];
  transactions = [];
  inner_hash = blank_hash;
  nonce = 0;
  sig = blank_sig;
}

-- The block of number n behind the block of stamp s; x is its number in the run. The payer spends the source, where there is one.
abbrev pub draft_of : ℕ → ℕ → Stamp → Option Input → Block
draft_of n x s source = record (blank (key_text (n % 8)) (1000000 + 60 * n)) {
  identities = map (identity_line s) (newcomers n);
  joiners = map (member_line s s) (newcomers n);
  actives = map (member_line s empty_stamp) (renewed n);
  certifications = map (certification_line n s) (certified n);
  transactions = transactions x s source;
}

abbrev pub identity_given : Stamp → ℕ → Given
identity_given s i = given (key_text i) (identity_message s i)

abbrev pub membership_given : Stamp → Stamp → ℕ → Given
membership_given s since i = given (key_text i) (membership_message s since i)

abbrev pub certification_given : Stamp → ℕ × ℕ → Given
certification_given s p = given (key_text p.0) (certification_message s p)

abbrev pub given_of : ℕ → ℕ → Stamp → Option Input → List Given
given_of n x s source =
    map (identity_given s) (newcomers n)
    ++ (map (membership_given s s) (newcomers n)
    ++ (map (membership_given s empty_stamp) (renewed n)
    ++ (map (certification_given s) (certified n)
    ++ transactions_given x s source)))

-- a draft as a first block, with the parameters
abbrev pub with_parameters : Block → Block
with_parameters d = record d { params = Some parameters }

-- the first block, whose header is whole
abbrev pub first_draft : Block
first_draft = record (with_parameters (draft_of 0 0 empty_stamp None)) { members = 8 }

abbrev pub first_given : List Given
first_given = given_of 0 0 empty_stamp None

-- a source that can be spent: it is in range, and is worth something
abbrev pub IsSpendable : Option Input → Type 0
IsSpendable None = ⊤
IsSpendable (Some source) = IsInput source × (1 ≤ source.amount)
