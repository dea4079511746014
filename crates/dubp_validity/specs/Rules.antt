-- The rules of blocks in one table, the first that a block breaks, and which chains are valid. Protocol: rules.
use Rattle.std.specs.Prelude.{◌≡◌, ℕ, ◌≤◌, Bool, true, false, List, [], ◌∷◌, length, Option, None, ⊤}
use Rattle.dubp_chain.specs.OfBlock.{Block}
use Rattle.dubp_chain.specs.OfBlock.{IsBlock, block_text}
use Rattle.dubp_rules.specs.declared.rule.Rule.{Rule}
use Rattle.dubp_rules.specs.declared.rule.Rule.TheVariants.{X01, P01, X02, X07, L01, L02, L03, L04, L05, L06, L07, L08, L09, L10, L11, L12, L13, L14, L15, L16, L17, L18, L19, L20, L21, L22, L23, L24, G51, G52, G53, G49, G101, X03, X04, X08, G50, G54, G55, G56, G57, G58, G59, G60, G61, G62, X06, G63, G73, G74, G64, G75, G108, G82, G78, G81, G80, G77, G83, G84, G65, G66, G67, G68, G69, G70, G71, G72, G79, G76, G85, G86, X05, G103, G87, G88, G89, G90}
use Rattle.dubp_rules.specs.Table.{table_rules, StandsBefore}
use Rattle.dubp_rules.specs.First.{IsFirst}
use Rattle.dubp_chain.specs.Chains.{Chain}
use Rattle.dubp_verdict.specs.Verdicts.{Verdicts}
use Rattle.dubp_validity.specs.LocalRules.{ParamsAreInRange, NumbersAreSmall, InnerHashIsRight, FirstTimesAreEqual, CertificationsAreOfEarlierBlocks, FirstStampsAreEmpty, BlockIsSigned, TimeIsNear, IdentitiesAreSigned, UidsStandOnce, IdentitiesStandOnce, IdentitiesJoin, MembershipsAreSigned, MovingKeysStandOnce, RevokedStandOnce, PairsStandOnce, NobodyCertifiesThemselves, IssuersStandOnce, NobodyCertifiedParts, TransactionsAreShort, SendersStandOnce, InputsAreUnlockedOnce, SourcesStandOnce, AmountsAreNotZero, TransactionsAreBalanced, TransactionsAreSigned}
use Rattle.dubp_validity.specs.HeadRules.{NumberIsNext, PreviousHashIsRight, PreviousIssuerIsRight, CurrencyAndVersionFit, IssuerIsMember, ReevaluationFits, UnitBaseFits, MoneyFits, SizeFits, IssuersAreRight, FrameIsRight, VariationIsRight, MedianTimeIsRight, DividendIsRight, UnitBaseIsRight, MembersAreRight, LeastDifficultyIsRight, HashMeetsDifficulty}
use Rattle.dubp_validity.specs.PeopleRules.{IdentitiesAreFew, IdentitiesAreInTime, UidsAreNew, IdentitiesAreNew, MembershipsAreInTime, MembershipsAreNewer, MembershipsAreApart, MembershipsHaveIdentities, JoinersAreNoMembers, ActivesAreMembers, LeaversMayLeave, NobodyRevokedMoves, RevokedHaveIdentities, RevocationsAreSigned, CertificationsAreInTime, StocksAreKept, IssuersWaited, IssuersAreMembers, ReceiversAreMembers, ReceiversStay, LivePairsAreRenewed, CertificationsAreSigned, JoinersAreCertified, ComersPass, ExcludedAreKicked, KickedAreExcluded}
use Rattle.dubp_validity.specs.MoneyRules.{TransactionsAreNew, TransactionsAreInTime, InputsAreThere, ConditionsAreTrue, LocktimesHaveEnded, OutputBasesFit}

-- what each rule says of a block on a chain; the two rules on raw bytes say nothing of a block
abbrev pub Holds : Verdicts → Chain → Block → Rule → Type 0
Holds v c b X01 = ⊤
Holds v c b P01 = ⊤
Holds v c b X02 = ParamsAreInRange b
Holds v c b X07 = NumbersAreSmall b
Holds v c b L01 = InnerHashIsRight b
Holds v c b L02 = FirstTimesAreEqual b
Holds v c b L03 = CertificationsAreOfEarlierBlocks b
Holds v c b L04 = FirstStampsAreEmpty b
Holds v c b L05 = BlockIsSigned v b
Holds v c b L06 = TimeIsNear c b
Holds v c b L07 = IdentitiesAreSigned v b
Holds v c b L08 = UidsStandOnce b
Holds v c b L09 = IdentitiesStandOnce b
Holds v c b L10 = IdentitiesJoin b
Holds v c b L11 = MembershipsAreSigned v b
Holds v c b L12 = MovingKeysStandOnce b
Holds v c b L13 = RevokedStandOnce b
Holds v c b L14 = PairsStandOnce b
Holds v c b L15 = NobodyCertifiesThemselves b
Holds v c b L16 = IssuersStandOnce b
Holds v c b L17 = NobodyCertifiedParts b
Holds v c b L18 = TransactionsAreShort b
Holds v c b L19 = SendersStandOnce b
Holds v c b L20 = InputsAreUnlockedOnce b
Holds v c b L21 = SourcesStandOnce b
Holds v c b L22 = AmountsAreNotZero b
Holds v c b L23 = TransactionsAreBalanced b
Holds v c b L24 = TransactionsAreSigned v b
Holds v c b G51 = NumberIsNext c b
Holds v c b G52 = PreviousHashIsRight c b
Holds v c b G53 = PreviousIssuerIsRight c b
Holds v c b G49 = CurrencyAndVersionFit c b
Holds v c b G101 = IssuerIsMember c b
Holds v c b X03 = ReevaluationFits c b
Holds v c b X04 = UnitBaseFits c b
Holds v c b X08 = MoneyFits c b
Holds v c b G50 = SizeFits c b
Holds v c b G54 = IssuersAreRight c b
Holds v c b G55 = FrameIsRight c b
Holds v c b G56 = VariationIsRight c b
Holds v c b G57 = MedianTimeIsRight c b
Holds v c b G58 = DividendIsRight c b
Holds v c b G59 = UnitBaseIsRight c b
Holds v c b G60 = MembersAreRight c b
Holds v c b G61 = LeastDifficultyIsRight c b
Holds v c b G62 = HashMeetsDifficulty c b
Holds v c b X06 = IdentitiesAreFew c b
Holds v c b G63 = IdentitiesAreInTime c b
Holds v c b G73 = UidsAreNew c b
Holds v c b G74 = IdentitiesAreNew c b
Holds v c b G64 = MembershipsAreInTime c b
Holds v c b G75 = MembershipsAreNewer c b
Holds v c b G108 = MembershipsAreApart c b
Holds v c b G82 = MembershipsHaveIdentities c b
Holds v c b G78 = JoinersAreNoMembers c b
Holds v c b G81 = ActivesAreMembers c b
Holds v c b G80 = LeaversMayLeave c b
Holds v c b G77 = NobodyRevokedMoves c b
Holds v c b G83 = RevokedHaveIdentities c b
Holds v c b G84 = RevocationsAreSigned v c b
Holds v c b G65 = CertificationsAreInTime c b
Holds v c b G66 = StocksAreKept c b
Holds v c b G67 = IssuersWaited c b
Holds v c b G68 = IssuersAreMembers c b
Holds v c b G69 = ReceiversAreMembers c b
Holds v c b G70 = ReceiversStay c b
Holds v c b G71 = LivePairsAreRenewed c b
Holds v c b G72 = CertificationsAreSigned v c b
Holds v c b G79 = JoinersAreCertified c b
Holds v c b G76 = ComersPass c b
Holds v c b G85 = ExcludedAreKicked c b
Holds v c b G86 = KickedAreExcluded c b
Holds v c b X05 = TransactionsAreNew c b
Holds v c b G103 = TransactionsAreInTime c b
Holds v c b G87 = InputsAreThere c b
Holds v c b G88 = ConditionsAreTrue c b
Holds v c b G89 = LocktimesHaveEnded c b
Holds v c b G90 = OutputBasesFit c b

-- the first rule that the block breaks on the chain, or none
abbrev pub FirstBroken : Verdicts → Chain → Block → Option Rule → Type 0
FirstBroken v c b answer = IsFirst (Holds v c b) table_rules answer

-- the bytes are the text of this block
pub record IsTextOf (bytes : List ℕ) (b : Block) : Type 0 where
  pub is : IsBlock b
  pub text : bytes ≡ block_text b

-- the greatest number of bytes of a block
abbrev pub longest_block : ℕ
longest_block = 1048576

-- its text is no longer than that of a block may be
abbrev pub IsShort : Block → Type 0
IsShort b = length (block_text b) ≤ longest_block

-- What each rule says of raw bytes. X01: The raw block has at most 1,048,576 bytes. P01: The bytes are the text of a block. Every
-- other rule speaks of the block whose text they are.
abbrev pub HoldsRaw : Verdicts → Chain → List ℕ → Rule → Type 0
HoldsRaw v c bytes X01 = length bytes ≤ longest_block
HoldsRaw v c bytes P01 = (b : Block) × IsTextOf bytes b
HoldsRaw v c bytes rule = (b : Block) → IsTextOf bytes b → Holds v c b rule

-- the first rule that the raw block breaks on the chain, or none
abbrev pub FirstBrokenRaw : Verdicts → Chain → List ℕ → Option Rule → Type 0
FirstBrokenRaw v c bytes answer = IsFirst (HoldsRaw v c bytes) table_rules answer

-- A rule behind G51 is read only where G51 holds, and one behind X08 only where X03, X04 and X08 hold as well. A rule that is not
-- read counts as holding. This changes no first rule, since an earlier one fails where a rule is not read.
pub record IsRead (Holding : Rule → Type 0) (rule : Rule) : Type 0 where
  pub number : StandsBefore G51 rule → Holding G51
  pub limits : StandsBefore X08 rule → Holding X03 × Holding X04 × Holding X08

abbrev pub WhereRead : (Rule → Type 0) → Rule → Type 0
WhereRead Holding rule = IsRead Holding rule → Holding rule

-- each block of the chain has a text of at most 1,048,576 bytes and breaks no rule on the blocks before it
abbrev pub IsValid : Verdicts → Chain → Type 0
IsValid v [] = ⊤
IsValid v (b ∷ c) = FirstBrokenRaw v c (block_text b) None × IsBlock b × IsValid v c

-- the six rules that read verdicts
abbrev pub reads_verdicts : Rule → Bool
reads_verdicts L05 = true
reads_verdicts L07 = true
reads_verdicts L11 = true
reads_verdicts L24 = true
reads_verdicts G72 = true
reads_verdicts G84 = true
reads_verdicts rule = false

-- the block keeps on the chain every rule that reads no verdict
abbrev pub KeepsUnsigned : Chain → Block → Type 0
KeepsUnsigned c b = (rule : Rule) → reads_verdicts rule ≡ false → Holds [] c b rule

-- each block of the chain keeps them on the blocks before it
abbrev pub IsSound : Chain → Type 0
IsSound [] = ⊤
IsSound (b ∷ c) = KeepsUnsigned c b × IsSound c
