-- What the rows that a chain leaves say of the chain, as laws. Protocol: tables.
use Rattle.std.specs.Prelude.{◌≡◌, ℕ, Option, Some, map, option_map, is_some, length}
use Rattle.std.specs.FinMap.{get, len}
use Rattle.dubp_atoms.specs.Same.{Text}
use Rattle.dubp_block.specs.declared.block.MemberLine.{MemberLine}
use Rattle.dubp_block.specs.declared.block.CertLine.{CertLine}
use Rattle.dubp_chain.specs.Words.{names}
use Rattle.dubp_chain.specs.Chains.{Chain}
use Rattle.dubp_chain.specs.Made.{head_numbered}
use Rattle.dubp_chain.specs.People.{Written, written_time, identity_lines, membership}
use Rattle.dubp_chain.specs.Live.{certification, last_from}
use Rattle.dubp_facts.specs.OfValidity.{IsSound}
use Rattle.dubp_iindex.specs.Rows.{key_with}
use Rattle.dubp_expiry.specs.declared.due.Due.{Due}
use Rattle.dubp_left.specs.Left.{identity_left, identities_left, membership_left, memberships_left, certification_left, certifications_left, queued_left, queue_left}

-- what stands at each key, each pair and each entry is what the chain says
pub record AreLeft (c : Chain) : Type 0 where
  pub identities : (k : Text) → get (identities_left c) k ≡ identity_left c k
  pub memberships : (k : Text) → get (memberships_left c) k ≡ membership_left c k
  pub certifications : (p : Text × Text) → get (certifications_left c) p ≡ certification_left c p
  pub queue : (e : ℕ × Due) → get (queue_left c) e ≡ queued_left c e

abbrev pub RowsAreLeft : Type 0
RowsAreLeft = (c : Chain) → AreLeft c

-- a uid is found where a line of Identities has it
abbrev pub UidsAreFound : Type 0
UidsAreFound = (c : Chain) → IsSound c → (uid : Text) → is_some (key_with uid (identities_left c)) ≡ names (map (λ line. line.uid) (identity_lines c)) uid

-- there are as many identities as lines
abbrev pub IdentitiesAreCounted : Type 0
IdentitiesAreCounted = (c : Chain) → IsSound c → len (identities_left c) ≡ length (identity_lines c)

-- the block of a membership or of a certification is found by its number, and with it the time when the line was written
abbrev pub time_numbered : Chain → ℕ → Option ℕ
time_numbered c number = option_map (λ h. h.median_time) (head_numbered c number)

pub record TimesAreThere (c : Chain) : Type 0 where
  pub memberships : (k : Text) (w : Written MemberLine) → membership c k ≡ Some w → time_numbered c w.block.number ≡ Some (written_time w)
  pub certifications : (a b : Text) (w : Written CertLine) → certification c a b ≡ Some w → time_numbered c w.block.number ≡ Some (written_time w)
  pub issuers : (a : Text) (w : Written CertLine) → last_from c a ≡ Some w → time_numbered c w.block.number ≡ Some (written_time w)

abbrev pub TimesAreWritten : Type 0
TimesAreWritten = (c : Chain) → IsSound c → TimesAreThere c
