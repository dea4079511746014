-- The test of texts tells them apart.
use Rattle.std.proofs.Common.{◌≡◌, true, refl}
use Rattle.std.specs.Cmp.Lexicographic.{bytes_decides}
use Rattle.dubp_atoms.specs.Same.{Text, same_text}

pub same_text_is : (a b : Text) → same_text a b ≡ true → a ≡ b
same_text_is a b = (bytes_decides a b).0

pub same_text_own : (a : Text) → same_text a a ≡ true
same_text_own a = (bytes_decides a a).1 refl
