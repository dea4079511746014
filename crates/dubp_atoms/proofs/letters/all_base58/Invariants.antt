use Rattle.std.proofs.Common.{◌≡◌, take}
use Rattle.std.specs.List.{list_all}
use Rattle.dubp_atoms.specs.Letters.{is_base58}
use Rattle.dubp_atoms.proofs.letters.all_base58.Given as goal

abbrev pub invariant-loop-c : goal.invariant-loop-c
invariant-loop-c l = l.all ≡ list_all is_base58 (take l.c-index l.text)
