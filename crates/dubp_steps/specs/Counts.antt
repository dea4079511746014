-- What the rows of the tables say: who is a member, whose membership is over, how many certifications are received and issued, which block
-- an issuer wrote in last, when the queue begins, and what the time of a stamp is. Protocol: people, tables.
use Rattle.std.specs.Prelude.{◌≡◌, ◌+◌, ◌≤◌, ℕ, Bool, true, false, ◌&&◌, List, ◌∷◌, Some, None, count_by, length, nat_le, nat_lt, IfSome, if◌then◌else◌}
use Rattle.std.specs.Option.{option_map_or, MatchOption, IsSomeAnd}
use Rattle.std.specs.List.{IsDistinct}
use Rattle.std.specs.List.Sorted.{IsStrictlySortedBy}
use Rattle.std.specs.Map.{lookup, keys_of}
use Rattle.std.specs.BTreeMap.{is_at}
use Rattle.dubp_atoms.specs.Same.{Text, same_text, same_stamp}
use Rattle.dubp_atoms.specs.declared.stamp.Stamp.{Stamp}
use Rattle.dubp_block.specs.declared.block.Block.{Block}
use Rattle.dubp_chain.specs.declared.head.Head.{Head}
use Rattle.dubp_chain.specs.HeadStamp.{head_stamp}
use Rattle.dubp_chain.specs.Words.{names, last_of}
use Rattle.dubp_chain.specs.Chains.{Chain, params}
use Rattle.dubp_chain.specs.Members.{member, members}
use Rattle.dubp_chain.specs.Heads.{time_of, head_of}
use Rattle.dubp_chain.specs.Made.{head_numbered}
use Rattle.dubp_chain.specs.People.{expired, revoked, leaving}
use Rattle.dubp_chain.specs.Live.{live, live_at, received, stock, wrote}
use Rattle.dubp_chain.specs.Tables.{IdentityRow, identity_row, MembershipRow, membership_row, CertificationRow, certification_row, Due, is_queued, fact_time}
use Rattle.dubp_validity.specs.Rules.{IsSound}
use Rattle.dubp_steps.specs.AfterLines.{now_of, cert_lasting, of_pair, certification_time}
use Rattle.dubp_steps.specs.Ordered.{pair_cmp}

abbrev pub MemberIsOfRow : Type 0
MemberIsOfRow = (c : Chain) → IsSound c → (k : Text) → member c k ≡ option_map_or (λ (row : IdentityRow). row.is_member) (identity_row c k) false

abbrev pub ExpiredIsOfRow : Type 0
ExpiredIsOfRow =
    (c : Chain) → IsSound c → (k : Text)
    → expired c k ≡ option_map_or (λ (row : MembershipRow). nat_le (row.made + (params c).ms_validity) (time_of c)) (membership_row c k) false

abbrev pub RevokedIsOfRow : Type 0
RevokedIsOfRow = (c : Chain) → IsSound c → (k : Text) → revoked c k ≡ option_map_or (λ (row : MembershipRow). row.is_revoked) (membership_row c k) false

abbrev pub LeavingIsOfRow : Type 0
LeavingIsOfRow = (c : Chain) (k : Text) → leaving c k ≡ option_map_or (λ (row : MembershipRow). row.is_leaving) (membership_row c k) false

-- a pair that is live at a later time by the lines of the chain, and with one block more: what the rules ask, who change no row
abbrev pub LiveAtIsOfRow : Type 0
LiveAtIsOfRow =
    (c : Chain) (now : ℕ) → time_of c ≤ now → (x y : Text)
    → live_at now c x y ≡ option_map_or (λ (row : CertificationRow). row.is_live && nat_lt now (row.made + (params c).sig_validity)) (certification_row c x y) false

abbrev pub LiveStep : Type 0
LiveStep =
    (c : Chain) (b : Block) (x y : Text)
    → live (b ∷ c) x y
    ≡ option_map_or (λ line. nat_lt (now_of c b) (certification_time c b line + cert_lasting c b)) (last_of (of_pair x y) b.certifications) (live_at (now_of c b) c x y)

-- a list without repeats of the members is as long as the members are many
abbrev pub MembersAreCount : Type 0
MembersAreCount = (c : Chain) (keys : List Text) → IsDistinct same_text keys → ((a : Text) → names keys a ≡ member c a) → length keys ≡ length (members c)

-- a table in order that has at each pair what the chain says
pub record IsTableOf (c : Chain) (rows : List ((Text × Text) × CertificationRow)) : Type 0 where
  pub sorted : IsStrictlySortedBy pair_cmp (keys_of rows)
  pub is : (x y : Text) → lookup (is_at (pair_cmp (x, y))) rows ≡ certification_row c x y

-- its live rows to a key, and from one
abbrev pub live_to : Text → (Text × Text) × CertificationRow → Bool
live_to k row = same_text k row.0.1 && row.1.is_live

abbrev pub live_from : Text → (Text × Text) × CertificationRow → Bool
live_from k row = same_text k row.0.0 && row.1.is_live

abbrev pub ReceivedIsOfTable : Type 0
ReceivedIsOfTable = (c : Chain) (rows : List ((Text × Text) × CertificationRow)) → IsTableOf c rows → (k : Text) → count_by (live_to k) rows ≡ received c k

abbrev pub StockIsOfTable : Type 0
StockIsOfTable = (c : Chain) (rows : List ((Text × Text) × CertificationRow)) → IsTableOf c rows → (k : Text) → count_by (live_from k) rows ≡ stock c k

-- the block in which an issuer wrote last is the greatest of its rows
pub record IsGreatestWritten (c : Chain) (a : Text) (n : ℕ) : Type 0 where
  pub bound : (y : Text) → IfSome (certification_row c a y) (λ row. row.written ≤ n)
  pub stands : (y : Text) × IsSomeAnd (certification_row c a y) (λ row. row.written ≡ n)

abbrev pub WroteIsGreatest : Type 0
WroteIsGreatest =
    (c : Chain) → IsSound c → (a : Text) → MatchOption (wrote c a) ((y : Text) → certification_row c a y ≡ None) (IsGreatestWritten c a)

-- nothing in the queue is due at the time of the chain: a search for what is due may begin behind it
abbrev pub QueueIsLater : Type 0
QueueIsLater = (c : Chain) → IsSound c → (at : ℕ) (due : Due) → is_queued c at due ≡ true → nat_lt (time_of c) at ≡ true

-- the time of the newest stamp, and of the others
abbrev pub FactStep : Type 0
FactStep =
    (c : Chain) (b : Block) (s : Stamp)
    → fact_time (b ∷ c) s ≡ (if option_map_or (λ h. same_stamp s (head_stamp h)) (head_of (b ∷ c)) false then Some (time_of (b ∷ c)) else fact_time c s)

-- who looks a block up by its number finds its time by its stamp
abbrev pub NumberedIsFact : Type 0
NumberedIsFact = (c : Chain) (n : ℕ) (h : Head) → head_numbered c n ≡ Some h → fact_time c (head_stamp h) ≡ Some h.median_time
