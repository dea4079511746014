-- When a condition is true. Protocol: truth of a condition.
use Rattle.std.specs.Prelude.{ℕ, ◌+◌, ◌≤◌, ◌≡◌, ◌⊎◌, List, Some, slice_get, Any}
use Rattle.dubp_atoms.specs.Hashing.{hash_of}
use Rattle.dubp_cond.specs.Tree.{ItemTree, sig, xhx, csv, cltv, group, AllTree, no_items, add_item, CondTree, no_alls, add_all}
use Rattle.dubp_cond.specs.declared.unlock.Unlock.{Unlock}
use Rattle.dubp_cond.specs.declared.unlock.Unlock.TheVariants.{Sig, Xhx}

-- what a condition is asked about: the unlocks of the input, the issuers of the transaction, the time now, and the time at
-- which the source was written
pub record Moment : Type 0 where
  pub unlocks : List Unlock
  pub issuers : List (List ℕ)
  pub now : ℕ
  pub written : ℕ

-- the unlock is `SIG(i)`, and issuer number i, from 0, is the key
abbrev pub Signs : List (List ℕ) → List ℕ → Unlock → Type 0
Signs issuers key (Sig i) = slice_get issuers i ≡ Some key
Signs issuers key (Xhx password) = ⊥

-- the unlock is `XHX(password)`, and the SHA-256 of the password is the hash
abbrev pub Opens : List ℕ → Unlock → Type 0
Opens hash (Sig i) = ⊥
Opens hash (Xhx password) = hash_of password ≡ hash

-- an item; every item of an ALL; some ALL of a condition
abbrev mutual
  pub IsItemTrue : Moment → ItemTree → Type 0
  IsItemTrue m (sig key) = Any (Signs m.issuers key) m.unlocks
  IsItemTrue m (xhx hash) = Any (Opens hash) m.unlocks
  IsItemTrue m (csv seconds) = m.written + seconds ≤ m.now
  IsItemTrue m (cltv time) = time ≤ m.now
  IsItemTrue m (group c) = IsTrueAt m c

  pub IsAllTrue : Moment → AllTree → Type 0
  IsAllTrue m no_items = Unit {0}
  IsAllTrue m (add_item i more) = IsItemTrue m i × IsAllTrue m more

  pub IsTrueAt : Moment → CondTree → Type 0
  IsTrueAt m no_alls = ⊥
  IsTrueAt m (add_all a more) = IsAllTrue m a ⊎ IsTrueAt m more
