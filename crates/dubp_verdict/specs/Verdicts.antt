-- Which signatures were found right. Protocol: verdicts.
use Rattle.std.specs.Prelude.{ℕ, Bool, ◌&&◌, List, ◌∷◌, if◌then◌else◌}
use Rattle.std.specs.List.{Contains, list_any}
use Rattle.dubp_atoms.specs.Same.{Text, same_text}
use Rattle.dubp_atoms.specs.Hashing.{hash_of}

-- the signature by this key of a text with this hash is right
pub record Verdict : Type 0 where
  pub key : Text
  pub hash : Text
  pub sig : Text

-- a set: what stands in the list twice counts once
abbrev pub Verdicts : Type 0
Verdicts = List Verdict

abbrev pub same_verdict : Verdict → Verdict → Bool
same_verdict t u = same_text t.key u.key && (same_text t.hash u.hash && same_text t.sig u.sig)

-- the set with one verdict more; a repeat changes nothing
abbrev pub with_verdict : Verdict → Verdicts → Verdicts
with_verdict t v = if list_any (same_verdict t) v then v else t ∷ v

-- the key's signature of the message has a verdict
abbrev pub HasVerdict : Verdicts → Text → List ℕ → Text → Type 0
HasVerdict v key message sig = Contains v (record { key = key; hash = hash_of message; sig = sig })

-- each verdict of the first stands in the second
abbrev pub IsWithin : Verdicts → Verdicts → Type 0
IsWithin v w = (t : Verdict) → Contains v t → Contains w t

abbrev pub verdict_of : Text → Text → Text → Verdict
verdict_of key hash sig = record { key = key; hash = hash; sig = sig }

-- the key's signature of a message with this hash has a verdict
abbrev pub HasHash : Verdicts → Text → Text → Text → Type 0
HasHash v key hash sig = Contains v (verdict_of key hash sig)
