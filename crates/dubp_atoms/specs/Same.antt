-- When two texts or two stamps are one, and the stamp of the empty text. Protocol: spellings.
use Rattle.std.specs.Prelude.{ℕ, Bool, ◌&&◌, ◌==◌, List, codes, nat_eq}
use Rattle.std.specs.Cmp.Lexicographic.{pointwise}
use Rattle.dubp_atoms.specs.declared.stamp.Stamp.{Stamp}

-- a key, a hash, a name or a condition, as its text
abbrev pub Text : Type 0
Text = List ℕ

abbrev pub same_text : Text → Text → Bool
same_text x y = pointwise nat_eq x y

abbrev pub same_stamp : Stamp → Stamp → Bool
same_stamp s t = s.number == t.number && same_text s.hash t.hash

-- number 0 and the SHA-256 of the empty text: what a document names that was made before there is a block
abbrev pub empty_stamp : Stamp
empty_stamp = record { number = 0; hash = codes "E3B0C44298FC1C149AFBF4C8996FB92427AE41E4649B934CA495991B7852B855" }
