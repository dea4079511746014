-- The accounts of an index: the texts of their conditions, each with its place in the list as its number. Protocol: money.
use Rattle.std.specs.Prelude.{List}
use Rattle.dubp_atoms.specs.Same.{Text}
use Rattle.dubp_sindex.specs.declared.sindex.SIndex.{SIndex}

abbrev pub accounts : SIndex → List Text
accounts i = i.accounts
