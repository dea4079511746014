-- What a block writes to the indexes, one record for each change, and the text of a record. Protocol: records.
use Rattle.std.specs.Prelude.{◌≡◌, ℕ, ◌≤◌, ◌==◌, Bool, true, not, ◌&&◌, List, [], ◌∷◌, ◌++◌, codes, decimal, map, filter, length, unwrap_or, Option, Some, None, if◌then◌else◌}
use Rattle.std.specs.List.{flat_map}
use Rattle.dubp_verdict.specs.OfAtoms.{Text, same_text}
use Rattle.dubp_verdict.specs.OfAtoms.{SPACE, is_key, is_uid}
use Rattle.dubp_verdict.specs.OfAtoms.{IsNumber, stamp_text, IsStamp}
use Rattle.dubp_chain.specs.OfCond.{cond_text}
use Rattle.dubp_chain.specs.OfCond.{input_text, IsInput}
use Rattle.dubp_chain.specs.OfCond.{Input}
use Rattle.dubp_chain.specs.OfCond.{Tx}
use Rattle.dubp_chain.specs.OfBlock.{Block}
use Rattle.dubp_chain.specs.OfBlock.{MemberLine}
use Rattle.dubp_validity.specs.declared.record.Record.{Record}
use Rattle.dubp_validity.specs.declared.record.Record.TheVariants.{Create, Enter, Exit, Join, Active, Leave, Revoke, Expire, ExpireRev, Cert, CertExpire, Spend, Make, Dividend, Clear}
use Rattle.dubp_chain.specs.Words.{names, in_order}
use Rattle.dubp_chain.specs.Chains.{Chain}
use Rattle.dubp_chain.specs.Members.{members}
use Rattle.dubp_chain.specs.Heads.{time_of, head_of}
use Rattle.dubp_chain.specs.Made.{made, certification_made}
use Rattle.dubp_chain.specs.People.{identity_lines, expired, revoked}
use Rattle.dubp_chain.specs.Live.{live, certified_pairs}
use Rattle.dubp_chain.specs.Money.{Source, outputs_made, dividends_at, cleared, cleared_by}

-- when a membership of b was made
abbrev pub membership_time : Chain → Block → MemberLine → ℕ
membership_time c b line = unwrap_or (made c b line.stamp) 0

-- those of the lines, section by section
abbrev pub line_records : Chain → Block → List Record
line_records c b =
    map (λ line. Create line.key line.uid line.stamp) b.identities
    ++ (flat_map (λ line. Enter line.key ∷ Join line.key (membership_time c b line) ∷ []) b.joiners
    ++ (map (λ line. Active line.key (membership_time c b line)) b.actives
    ++ (map (λ line. Leave line.key (membership_time c b line)) b.leavers
    ++ (map (λ line. Revoke line.key) b.revoked
    ++ (map Exit b.excluded
    ++ map (λ line. Cert line.from line.to (unwrap_or (certification_made c b line) 0)) b.certifications)))))

-- the keys that have an identity, by key
abbrev pub identity_keys : Chain → List Text
identity_keys c = in_order (map (λ line. line.key) (identity_lines c))

-- expired with the block and not before it, by key
abbrev pub expiry_records : Chain → Block → List Record
expiry_records c b = map Expire (filter (λ k. expired (b ∷ c) k && not (expired c k)) (identity_keys (b ∷ c)))

-- revoked with the block by time alone and not before it, by key
abbrev pub is_revoked_by_time : Chain → Block → Text → Bool
is_revoked_by_time c b k = revoked (b ∷ c) k && (not (revoked c k) && not (names (map (λ line. line.key) b.revoked) k))

abbrev pub revocation_records : Chain → Block → List Record
revocation_records c b = map ExpireRev (filter (is_revoked_by_time c b) (identity_keys (b ∷ c)))

-- the pairs of certifications, each once, by issuer and then by receiver
abbrev pub receivers_of : List (Text × Text) → Text → List Text
receivers_of pairs a = in_order (map (λ p. p.1) (filter (λ p. same_text a p.0) pairs))

abbrev pub pairs_in_order : List (Text × Text) → List (Text × Text)
pairs_in_order pairs = flat_map (λ a. map (λ b. (a, b)) (receivers_of pairs a)) (in_order (map (λ p. p.0) pairs))

-- live before the block and not with it
abbrev pub ended_records : Chain → Block → List Record
ended_records c b =
    map (λ p. CertExpire p.0 p.1) (filter (λ p. live c p.0 p.1 && not (live (b ∷ c) p.0 p.1)) (pairs_in_order (certified_pairs c)))

abbrev pub input_of : Source → Input
input_of s = record { amount = s.amount; base = s.base; source = s.id }

abbrev pub make_record : Source → Record
make_record s = Make (input_of s) (cond_text s.cond)

-- what a transaction spends, and then what it makes
abbrev pub transaction_records : Chain → Block → Tx → List Record
transaction_records c b tx = map Spend tx.inputs ++ map make_record (outputs_made (time_of (b ∷ c)) b.currency tx)

abbrev pub dividend_records : Chain → Block → List Record
dividend_records c b = map (λ s. Dividend (input_of s)) (dividends_at b.number (head_of (b ∷ c)) (members (b ∷ c)))

abbrev pub clearing_records : Chain → Block → List Record
clearing_records c b = map (λ s. Clear (input_of s)) (cleared_by c b (cleared c))

-- the records of b on c, in order
abbrev pub records : Chain → Block → List Record
records c b =
    line_records c b
    ++ (expiry_records c b
    ++ (revocation_records c b
    ++ (ended_records c b
    ++ (flat_map (transaction_records c b) b.transactions
    ++ (dividend_records c b
    ++ clearing_records c b)))))

-- the records of the block of this number, on the blocks before it
abbrev pub records_at : Chain → ℕ → Option (List Record)
records_at [] number = None
records_at (b ∷ c) number = if number == length c then Some (records c b) else records_at c number

-- ---- the text of a record: a name and its fields, with a space between

abbrev pub record_text : Record → List ℕ
record_text (Create key uid stamp) = codes "IIDX CREATE " ++ (key ++ SPACE ∷ (uid ++ SPACE ∷ stamp_text stamp))
record_text (Enter key) = codes "IIDX IN " ++ key
record_text (Exit key) = codes "IIDX OUT " ++ key
record_text (Join key made) = codes "MIDX JOIN " ++ (key ++ SPACE ∷ decimal made)
record_text (Active key made) = codes "MIDX ACTIVE " ++ (key ++ SPACE ∷ decimal made)
record_text (Leave key made) = codes "MIDX LEAVE " ++ (key ++ SPACE ∷ decimal made)
record_text (Revoke key) = codes "MIDX REVOKE " ++ key
record_text (Expire key) = codes "MIDX EXPIRE " ++ key
record_text (ExpireRev key) = codes "MIDX EXPIREREV " ++ key
record_text (Cert from to made) = codes "CIDX CERT " ++ (from ++ SPACE ∷ (to ++ SPACE ∷ decimal made))
record_text (CertExpire from to) = codes "CIDX EXPIRE " ++ (from ++ SPACE ∷ to)
record_text (Spend input) = codes "SIDX SPEND " ++ input_text input
record_text (Make input cond) = codes "SIDX MAKE " ++ (input_text input ++ SPACE ∷ cond)
record_text (Dividend input) = codes "SIDX DIVIDEND " ++ input_text input
record_text (Clear input) = codes "SIDX CLEAR " ++ input_text input

-- whose values are in range; of the text of a condition the length is looked at
abbrev pub IsRecord : Record → Type 0
IsRecord (Create key uid stamp) = (is_key key ≡ true) × (is_uid uid ≡ true) × IsStamp stamp
IsRecord (Enter key) = is_key key ≡ true
IsRecord (Exit key) = is_key key ≡ true
IsRecord (Join key made) = (is_key key ≡ true) × IsNumber made
IsRecord (Active key made) = (is_key key ≡ true) × IsNumber made
IsRecord (Leave key made) = (is_key key ≡ true) × IsNumber made
IsRecord (Revoke key) = is_key key ≡ true
IsRecord (Expire key) = is_key key ≡ true
IsRecord (ExpireRev key) = is_key key ≡ true
IsRecord (Cert from to made) = (is_key from ≡ true) × (is_key to ≡ true) × IsNumber made
IsRecord (CertExpire from to) = (is_key from ≡ true) × (is_key to ≡ true)
IsRecord (Spend input) = IsInput input
IsRecord (Make input cond) = IsInput input × (length cond ≤ 1000)
IsRecord (Dividend input) = IsInput input
IsRecord (Clear input) = IsInput input
