-- The rules that a block is checked against by itself, with the verdicts and the parameters of the chain. Protocol: rules.
use Rattle.std.specs.Prelude.{◌≡◌, ◌⊎◌, ℕ, ◌+◌, ◌^◌, ◌<◌, ◌≤◌, ◌==◌, Bool, true, false, IsTrue, ◌&&◌, not, List, [], ◌∷◌, ◌++◌, map, length, count_by, sum_by, ⊤}
use Rattle.std.specs.Option.{MatchOption}
use Rattle.std.specs.List.{AllByRecursion, list_any, zip}
use Rattle.dubp_verdict.specs.OfAtoms.{Text, same_text, same_stamp, empty_stamp}
use Rattle.dubp_verdict.specs.OfAtoms.{hash_of}
use Rattle.dubp_chain.specs.OfParams.{IsInRange, greatest_acceleration}
use Rattle.dubp_chain.specs.OfCond.{Unlock}
use Rattle.dubp_chain.specs.OfCond.{Sig, Xhx}
use Rattle.dubp_chain.specs.OfCond.{Input}
use Rattle.dubp_chain.specs.OfCond.{Output}
use Rattle.dubp_chain.specs.OfCond.{Tx}
use Rattle.dubp_chain.specs.OfDocs.{signed_text as signed_document, signed_tx}
use Rattle.dubp_chain.specs.OfDocs.{Identity, Membership}
use Rattle.dubp_chain.specs.OfBlock.{compact_lines}
use Rattle.dubp_chain.specs.OfBlock.{inner_text, signed_text}
use Rattle.dubp_chain.specs.OfBlock.{Block}
use Rattle.dubp_chain.specs.OfBlock.{IdentityLine}
use Rattle.dubp_chain.specs.OfBlock.{MemberLine}
use Rattle.dubp_chain.specs.OfBlock.{CertLine}
use Rattle.dubp_chain.specs.Words.{names, each_once}
use Rattle.dubp_chain.specs.Chains.{Chain, params}
use Rattle.dubp_chain.specs.Members.{is_of}
use Rattle.dubp_chain.specs.People.{membership_lines}
use Rattle.dubp_chain.specs.Heads.{units}
use Rattle.dubp_chain.specs.Money.{same_source, inputs_of}
use Rattle.dubp_verdict.specs.Verdicts.{Verdicts, HasVerdict}

-- X02: The block has no Parameters, or each parameter is in its range and PoWMin is at most 1023.
abbrev pub ParamsAreInRange : Block → Type 0
ParamsAreInRange b = MatchOption b.params ⊤ (λ p. IsInRange p × (b.pow_min ≤ 1023))

-- X07: Number, Time and MedianTime are each below 2^40.
pub record NumbersAreSmall (b : Block) : Type 0 where
  pub number : b.number < 2 ^ 40
  pub time : b.time < 2 ^ 40
  pub median_time : b.median_time < 2 ^ 40

-- L01: InnerHash is the hash of the text above its line.
abbrev pub InnerHashIsRight : Block → Type 0
InnerHashIsRight b = b.inner_hash ≡ hash_of (inner_text b)

-- L02: In block 0, Time equals MedianTime.
abbrev pub FirstTimesAreEqual : Block → Type 0
FirstTimesAreEqual b = b.number ≡ 0 → b.time ≡ b.median_time

-- L03: The block number of each certification is below Number, or both are 0.
abbrev pub CertificationsAreOfEarlierBlocks : Block → Type 0
CertificationsAreOfEarlierBlocks b =
    AllByRecursion (λ line. (line.number < b.number) ⊎ ((line.number ≡ 0) × (b.number ≡ 0))) b.certifications

-- L04: In block 0, each stamp in Identities, Joiners, Actives and Leavers is the stamp of the empty text.
abbrev pub HaveEmptyStamps : MemberLine → Type 0
HaveEmptyStamps line = (line.stamp ≡ empty_stamp) × (line.identity_stamp ≡ empty_stamp)

abbrev pub FirstStampsAreEmpty : Block → Type 0
FirstStampsAreEmpty b =
    b.number ≡ 0 → AllByRecursion (λ line. line.stamp ≡ empty_stamp) b.identities × AllByRecursion HaveEmptyStamps (membership_lines b)

-- L05: The signature of the block has a verdict by Issuer.
abbrev pub BlockIsSigned : Verdicts → Block → Type 0
BlockIsSigned v b = HasVerdict v b.issuer (signed_text b) b.sig

-- L06: Number is 0, or the chain is empty, or Time is at least MedianTime and at most maxAcceleration above it.
abbrev pub TimeIsNear : Chain → Block → Type 0
TimeIsNear [] b = ⊤
TimeIsNear (a ∷ c) b =
    0 < b.number → (b.median_time ≤ b.time) × (b.time ≤ b.median_time + greatest_acceleration (params (a ∷ c)))

-- L07: Each signature in Identities has a verdict by its key over the identity document.
abbrev pub identity_document : Text → IdentityLine → List ℕ
identity_document currency line =
    signed_document (Identity (record { currency = currency; issuer = line.key; unique_id = line.uid; timestamp = line.stamp; sig = line.sig }))

abbrev pub IdentitiesAreSigned : Verdicts → Block → Type 0
IdentitiesAreSigned v b = AllByRecursion (λ line. HasVerdict v line.key (identity_document b.currency line) line.sig) b.identities

-- L08: No UID stands twice in Identities.
abbrev pub UidsStandOnce : Block → Type 0
UidsStandOnce b = IsTrue (each_once same_text (map (λ line. line.uid) b.identities))

-- L09: No key stands twice in Identities.
abbrev pub IdentitiesStandOnce : Block → Type 0
IdentitiesStandOnce b = IsTrue (each_once same_text (map (λ line. line.key) b.identities))

-- L10: Each line of Identities has a line of Joiners with its key and UID, whose identity stamp is its stamp.
abbrev pub joins : IdentityLine → MemberLine → Bool
joins identity line = same_text identity.key line.key && (same_text identity.uid line.uid && same_stamp identity.stamp line.identity_stamp)

abbrev pub IdentitiesJoin : Block → Type 0
IdentitiesJoin b = AllByRecursion (λ identity. IsTrue (list_any (joins identity) b.joiners)) b.identities

-- L11: Each line of Joiners and Actives has a verdict over its membership document with IN, each line of Leavers with OUT.
abbrev pub membership_document : Text → Bool → MemberLine → List ℕ
membership_document currency comes_in line =
    signed_document (Membership (record { currency = currency; issuer = line.key; block = line.stamp; membership = comes_in; user_id = line.uid; cert_ts = line.identity_stamp; sig = line.sig }))

abbrev pub AreSigned : Verdicts → Text → Bool → List MemberLine → Type 0
AreSigned v currency comes_in lines =
    AllByRecursion (λ line. HasVerdict v line.key (membership_document currency comes_in line) line.sig) lines

abbrev pub MembershipsAreSigned : Verdicts → Block → Type 0
MembershipsAreSigned v b =
    AreSigned v b.currency true (b.joiners ++ b.actives) × AreSigned v b.currency false b.leavers

-- L12: No key stands twice in Joiners, Actives, Leavers and Excluded taken together.
abbrev pub moving_keys : Block → List Text
moving_keys b = map (λ line. line.key) (membership_lines b) ++ b.excluded

abbrev pub MovingKeysStandOnce : Block → Type 0
MovingKeysStandOnce b = IsTrue (each_once same_text (moving_keys b))

-- L13: No key stands twice in Revoked, and no key of Revoked stands in Joiners, Actives or Leavers.
abbrev pub revoked_keys : Block → List Text
revoked_keys b = map (λ line. line.key) b.revoked

abbrev pub RevokedStandOnce : Block → Type 0
RevokedStandOnce b =
    IsTrue (each_once same_text (revoked_keys b)) × AllByRecursion (λ k. IsTrue (not (list_any (is_of k) (membership_lines b)))) (revoked_keys b)

-- L14: No pair of issuer and receiver stands twice in Certifications.
abbrev pub same_pair : CertLine → CertLine → Bool
same_pair p q = same_text p.from q.from && same_text p.to q.to

abbrev pub PairsStandOnce : Block → Type 0
PairsStandOnce b = IsTrue (each_once same_pair b.certifications)

-- L15: Nobody certifies their own key.
abbrev pub NobodyCertifiesThemselves : Block → Type 0
NobodyCertifiesThemselves b = AllByRecursion (λ line. IsTrue (not (same_text line.from line.to))) b.certifications

-- L16: Number is 0, or nobody issues two certifications in the block.
abbrev pub IssuersStandOnce : Block → Type 0
IssuersStandOnce b = (b.number ≡ 0) ⊎ IsTrue (each_once same_text (map (λ line. line.from) b.certifications))

-- L17: Nobody whom the block certifies stands in its Leavers, Revoked or Excluded.
abbrev pub parting_keys : Block → List Text
parting_keys b = map (λ line. line.key) b.leavers ++ (revoked_keys b ++ b.excluded)

abbrev pub NobodyCertifiedParts : Block → Type 0
NobodyCertifiedParts b = AllByRecursion (λ line. IsTrue (not (names (parting_keys b) line.to))) b.certifications

-- L18: Each transaction has at most 100 lines in its compact form.
abbrev pub TransactionsAreShort : Block → Type 0
TransactionsAreShort b = AllByRecursion (λ tx. length (compact_lines tx) ≤ 100) b.transactions

-- L19: No transaction names an issuer twice.
abbrev pub SendersStandOnce : Block → Type 0
SendersStandOnce b = AllByRecursion (λ tx. IsTrue (each_once same_text tx.issuers)) b.transactions

-- L20: In each transaction each input has exactly one unlock line, each unlock line is of an input, and each SIG(i) names an
-- issuer that is there.
abbrev pub NamesAnIssuer : ℕ → Unlock → Type 0
NamesAnIssuer count (Sig i) = i < count
NamesAnIssuer count (Xhx password) = ⊤

pub record IsUnlockedOnce (tx : Tx) : Type 0 where
  pub each : (i : ℕ) → i < length tx.inputs → count_by (λ line. line.input == i) tx.unlocks ≡ 1
  pub no_other : AllByRecursion (λ line. line.input < length tx.inputs) tx.unlocks
  pub issuers : AllByRecursion (λ line. AllByRecursion (NamesAnIssuer (length tx.issuers)) line.list) tx.unlocks

abbrev pub InputsAreUnlockedOnce : Block → Type 0
InputsAreUnlockedOnce b = AllByRecursion IsUnlockedOnce b.transactions

-- L21: No source stands twice among the inputs of the block.
abbrev pub SourcesStandOnce : Block → Type 0
SourcesStandOnce b = IsTrue (each_once same_source (map (λ input. input.source) (inputs_of b)))

-- L22: The amount of each input and output is at least 1.
abbrev pub MovesSomething : Tx → Type 0
MovesSomething tx = AllByRecursion (λ input. 1 ≤ input.amount) tx.inputs × AllByRecursion (λ output. 1 ≤ output.amount) tx.outputs

abbrev pub AmountsAreNotZero : Block → Type 0
AmountsAreNotZero b = AllByRecursion MovesSomething b.transactions

-- L23: In each transaction the inputs have as many units as the outputs.
abbrev pub input_units : Input → ℕ
input_units input = units input.amount input.base

abbrev pub output_units : Output → ℕ
output_units output = units output.amount output.base

abbrev pub IsBalanced : Tx → Type 0
IsBalanced tx = sum_by input_units tx.inputs ≡ sum_by output_units tx.outputs

abbrev pub TransactionsAreBalanced : Block → Type 0
TransactionsAreBalanced b = AllByRecursion IsBalanced b.transactions

-- L24: In each transaction each signature has a verdict, by the issuer at its place, over the signed text.
abbrev pub IsSignedByAll : Verdicts → Text → Tx → Type 0
IsSignedByAll v currency tx = AllByRecursion (λ p. HasVerdict v p.0 (signed_tx currency tx) p.1) (zip tx.issuers tx.sigs)

abbrev pub TransactionsAreSigned : Verdicts → Block → Type 0
TransactionsAreSigned v b = AllByRecursion (IsSignedByAll v b.currency) b.transactions
