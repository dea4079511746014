-- The rules on a block's place in the chain and on its header: `c` is the chain and `b` the block on it. The values that the
-- header has to state are those of the head of the chain with the block. Protocol: rules.
use Rattle.std.specs.Prelude.{◌≡◌, ℕ, ◌*◌, ◌^◌, ◌<◌, ◌≤◌, max, min, IsTrue, List, [], ◌∷◌, length, take, sum_by, ⊤}
use Rattle.std.specs.Option.{MatchOption, IsSomeAnd}
use Rattle.std.specs.Int.{div_ceil}
use Rattle.dubp_chain.specs.OfParams.{Params}
use Rattle.dubp_chain.specs.OfPow.{Meets}
use Rattle.dubp_chain.specs.OfDividend.{numerator}
use Rattle.dubp_chain.specs.OfBlock.{block_hash_of, size_of}
use Rattle.dubp_chain.specs.OfBlock.{Block}
use Rattle.dubp_chain.specs.declared.head.Head.{Head}
use Rattle.dubp_chain.specs.Chains.{Chain, params, currency}
use Rattle.dubp_chain.specs.Members.{member, members}
use Rattle.dubp_chain.specs.Heads.{heads_of, head_of, is_reevaluated, difficulty}

-- G51: Number is the length of the chain.
abbrev pub NumberIsNext : Chain → Block → Type 0
NumberIsNext c b = b.number ≡ length c

-- G52: The chain is empty, or PreviousHash is the hash of its last block.
abbrev pub PreviousHashIsRight : Chain → Block → Type 0
PreviousHashIsRight [] b = ⊤
PreviousHashIsRight (a ∷ c) b = IsSomeAnd b.previous (λ p. p.0 ≡ block_hash_of a)

-- G53: The chain is empty, or PreviousIssuer is the issuer of its last block.
abbrev pub PreviousIssuerIsRight : Chain → Block → Type 0
PreviousIssuerIsRight [] b = ⊤
PreviousIssuerIsRight (a ∷ c) b = IsSomeAnd b.previous (λ p. p.1 ≡ a.issuer)

-- G49: The chain is empty, or Currency is that of its first block and Version is not below that of its last.
abbrev pub CurrencyAndVersionFit : Chain → Block → Type 0
CurrencyAndVersionFit [] b = ⊤
CurrencyAndVersionFit (a ∷ c) b = (b.currency ≡ currency (a ∷ c)) × (a.version ≤ b.version)

-- G101: The chain is empty, or Issuer is a member of it.
abbrev pub IssuerIsMember : Chain → Block → Type 0
IssuerIsMember [] b = ⊤
IssuerIsMember (a ∷ c) b = IsTrue (member (a ∷ c) b.issuer)

-- X03: Where the block re-evaluates the dividend, the numerator is below 2^127.
abbrev pub NumeratorFits : Params → ℕ → List Head → Type 0
NumeratorFits p count [] = ⊤
NumeratorFits p count (h ∷ hs) =
    IsTrue (is_reevaluated p h (h ∷ hs)) → numerator h.unit_base h.mass_reeval count p < 2 ^ 127

abbrev pub ReevaluationFits : Chain → Block → Type 0
ReevaluationFits c b = NumeratorFits (params (b ∷ c)) (length (members (b ∷ c))) (heads_of c)

-- a value of the head of the chain with the block
abbrev pub OfHead : Chain → Block → (Head → Type 0) → Type 0
OfHead c b P = IsSomeAnd (head_of (b ∷ c)) P

-- X04: The unit base of the new chain is at most 15.
abbrev pub UnitBaseFits : Chain → Block → Type 0
UnitBaseFits c b = OfHead c b (λ h. h.unit_base ≤ 15)

-- X08: The dividend of the new chain is below 2^53, and its mass is below 2^100.
abbrev pub MoneyFits : Chain → Block → Type 0
MoneyFits c b = OfHead c b (λ h. (h.dividend < 2 ^ 53) × (h.mass < 2 ^ 100))

-- G50: The chain is empty, or the size of the block is below 500, or below eleven tenths, rounded up, of the mean size of the
-- last blocks of the chain: as many blocks as the new chain counts issuers, or all where there are fewer.
abbrev pub greatest_size : ℕ → List Head → ℕ
greatest_size issuers hs =
    let j = min issuers (length hs) in
    max 500 (div_ceil (11 * sum_by (λ h. h.size) (take j hs)) (10 * j))

abbrev pub SizeFits : Chain → Block → Type 0
SizeFits [] b = ⊤
SizeFits (a ∷ c) b = OfHead (a ∷ c) b (λ h. size_of b < greatest_size h.issuers (heads_of (a ∷ c)))

-- G54: DifferentIssuersCount is the number of issuers that the new chain counts.
abbrev pub IssuersAreRight : Chain → Block → Type 0
IssuersAreRight c b = OfHead c b (λ h. b.issuers ≡ h.issuers)

-- G55: IssuersFrame is the frame of the new chain.
abbrev pub FrameIsRight : Chain → Block → Type 0
FrameIsRight c b = OfHead c b (λ h. b.frame ≡ h.frame)

-- G56: IssuersFrameVar is the variation of the frame of the new chain.
abbrev pub VariationIsRight : Chain → Block → Type 0
VariationIsRight c b = OfHead c b (λ h. b.frame_var ≡ h.frame_var)

-- G57: MedianTime is the median time of the new chain.
abbrev pub MedianTimeIsRight : Chain → Block → Type 0
MedianTimeIsRight c b = OfHead c b (λ h. b.median_time ≡ h.median_time)

-- G58: UniversalDividend is the new dividend of the new chain, and is absent where that has none.
abbrev pub DividendIsRight : Chain → Block → Type 0
DividendIsRight c b = OfHead c b (λ h. b.dividend ≡ h.ud)

-- G59: UnitBase is the unit base of the new chain.
abbrev pub UnitBaseIsRight : Chain → Block → Type 0
UnitBaseIsRight c b = OfHead c b (λ h. b.unit_base ≡ h.unit_base)

-- G60: MembersCount is the number of members of the new chain.
abbrev pub MembersAreRight : Chain → Block → Type 0
MembersAreRight c b = OfHead c b (λ h. b.members ≡ h.members)

-- G61: PoWMin is the least difficulty of the new chain.
abbrev pub LeastDifficultyIsRight : Chain → Block → Type 0
LeastDifficultyIsRight c b = OfHead c b (λ h. b.pow_min ≡ h.pow_min)

-- G62: The hash of the block meets the difficulty of Issuer, which is PoWMin for the first block.
abbrev pub HashMeetsDifficulty : Chain → Block → Type 0
HashMeetsDifficulty c b = MatchOption (difficulty c b.issuer) (Meets (block_hash_of b) b.pow_min) (Meets (block_hash_of b))
