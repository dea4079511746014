use Rattle.std.proofs.Common.{◌≡◌, take}
use Rattle.std.specs.List.{list_all}
use Rattle.dubp_atoms.specs.Letters.{is_upper_hex}
use Rattle.dubp_atoms.proofs.letters.all_upper_hex.Given as goal

abbrev pub invariant-loop-c : goal.invariant-loop-c
invariant-loop-c l = l.all ≡ list_all is_upper_hex (take l.c-index l.text)
