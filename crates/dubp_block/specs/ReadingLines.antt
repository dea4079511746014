-- How the code reads the lines of a block: each text as a value, where it is one's spelling. The laws that join it to the block's
-- text stand in the contract of `read_block`.
use Rattle.std.specs.Prelude.{ℕ, ◌==◌, ◌||◌, Bool, nat_le, List, [], ◌∷◌, Option, Some, None, if◌then◌else◌}
use Rattle.dubp_atoms.specs.Letters.{is_between, is_key, is_sig, is_uid}
use Rattle.dubp_atoms.specs.Reading.{◌>>=◌, number_of, stamp_of, text_if}
use Rattle.dubp_cond.specs.Transactions.{is_comment}
use Rattle.dubp_params.specs.Reading.{field_at}
use Rattle.dubp_block.specs.declared.block.IdentityLine.{IdentityLine}
use Rattle.dubp_block.specs.declared.block.MemberLine.{MemberLine}
use Rattle.dubp_block.specs.declared.block.RevokedLine.{RevokedLine}
use Rattle.dubp_block.specs.declared.block.CertLine.{CertLine}
use Rattle.dubp_block.specs.declared.kinds.TxHead.{TxHead}

abbrev pub number_if : (ℕ → Bool) → Option ℕ → Option ℕ
number_if test None = None
number_if test (Some n) = if test n then Some n else None

-- 10 or 11
unfoldable pub version_of : List ℕ → Option ℕ
version_of text = number_if (λ n. n == 10 || n == 11) (number_of text)

-- BASE: at most 15
unfoldable pub base_of : List ℕ → Option ℕ
base_of text = number_if (λ n. nat_le n 15) (number_of text)

-- how many lines a list has: 1 to 100
unfoldable pub count_of : List ℕ → Option ℕ
count_of text = number_if (λ n. is_between 1 100 n) (number_of text)

-- how many lines a comment has: none or one
unfoldable pub comments_of : List ℕ → Option ℕ
comments_of text = number_if (λ n. nat_le n 1) (number_of text)

-- KEY:SIG:STAMP:UID
unfoldable pub identity_of : List ℕ → Option IdentityLine
identity_of text = do
  key ← field_at (text_if is_key) text
  sig ← field_at (text_if is_sig) key.1
  stamp ← field_at stamp_of sig.1
  uid ← text_if is_uid stamp.1
  Some (record { key = key.0; sig = sig.0; stamp = stamp.0; uid = uid })

-- KEY:SIG:MSTAMP:ISTAMP:UID
unfoldable pub member_of : List ℕ → Option MemberLine
member_of text = do
  key ← field_at (text_if is_key) text
  sig ← field_at (text_if is_sig) key.1
  stamp ← field_at stamp_of sig.1
  identity_stamp ← field_at stamp_of stamp.1
  uid ← text_if is_uid identity_stamp.1
  Some (record { key = key.0; sig = sig.0; stamp = stamp.0; identity_stamp = identity_stamp.0; uid = uid })

-- KEY:SIG
unfoldable pub revoked_of : List ℕ → Option RevokedLine
revoked_of text = do
  key ← field_at (text_if is_key) text
  sig ← text_if is_sig key.1
  Some (record { key = key.0; sig = sig })

-- FROM:TO:NUMBER:SIG
unfoldable pub certification_of : List ℕ → Option CertLine
certification_of text = do
  from ← field_at (text_if is_key) text
  to ← field_at (text_if is_key) from.1
  number ← field_at number_of to.1
  sig ← text_if is_sig number.1
  Some (record { from = from.0; to = to.0; number = number.0; sig = sig })

-- NB_ISSUERS:NB_INPUTS:NB_UNLOCKS:NB_OUTPUTS:HAS_COMMENT:LOCKTIME
unfoldable pub head_of : List ℕ → Option TxHead
head_of text = do
  issuers ← field_at count_of text
  inputs ← field_at count_of issuers.1
  unlocks ← field_at count_of inputs.1
  outputs ← field_at count_of unlocks.1
  comments ← field_at comments_of outputs.1
  locktime ← number_of comments.1
  Some (record { issuers = issuers.0; inputs = inputs.0; unlocks = unlocks.0; outputs = outputs.0; comments = comments.0; locktime = locktime })

-- a comment that has a line
abbrev pub comment_if : Bool → List ℕ → Option (List ℕ)
comment_if test [] = None
comment_if test (c ∷ cs) = if test then Some (c ∷ cs) else None

unfoldable pub comment_of : List ℕ → Option (List ℕ)
comment_of text = comment_if (is_comment text) text
