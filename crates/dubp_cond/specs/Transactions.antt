-- Which transactions are in range. Protocol: transactions.
use Rattle.std.specs.Prelude.{ℕ, ◌≤◌, ◌≡◌, Bool, true, ◌&&◌, nat_le, List, length, All}
use Rattle.std.specs.List.{list_all}
use Rattle.dubp_atoms.specs.Letters.{SPACE, is_between, is_key, is_sig}
use Rattle.dubp_atoms.specs.Spelling.{IsNumber, IsStamp}
use Rattle.dubp_cond.specs.Signs.{TILDE}
use Rattle.dubp_cond.specs.Sources.{IsInput}
use Rattle.dubp_cond.specs.Unlocks.{IsUnlockLine}
use Rattle.dubp_cond.specs.Outputs.{IsOutput}
use Rattle.dubp_cond.specs.declared.tx.Tx.{Tx}

-- COMMENT: 0 to 255 characters from the space to `~`
abbrev pub is_comment_letter : ℕ → Bool
is_comment_letter c = is_between SPACE TILDE c

unfoldable pub is_comment : List ℕ → Bool
is_comment text = nat_le (length text) 255 && list_all is_comment_letter text

-- a list of 1 to 100 lines
pub record IsList {A : Type 0} (P : A → Type 0) (xs : List A) : Type 0 where
  pub some : 1 ≤ length xs
  pub few : length xs ≤ 100
  pub each : All P xs

-- as many signatures as issuers
pub record IsTx (tx : Tx) : Type 0 where
  pub stamp : IsStamp tx.stamp
  pub locktime : IsNumber tx.locktime
  pub issuers : IsList (λ key. is_key key ≡ true) tx.issuers
  pub inputs : IsList IsInput tx.inputs
  pub unlocks : IsList IsUnlockLine tx.unlocks
  pub outputs : IsList IsOutput tx.outputs
  pub comment : is_comment tx.comment ≡ true
  pub sigs : All (λ sig. is_sig sig ≡ true) tx.sigs
  pub signed : length tx.sigs ≡ length tx.issuers
