use Rattle.std.proofs.Common.{◌≡◌, ◌≤◌, ◌++◌, List, length, reverse}
use Rattle.indexmap.specs.IndexMap.{spare}
use Rattle.dubp_block.specs.declared.block.Block.{Block}
use Rattle.dubp_forks.specs.Entries.{Entries, entries_of}
use Rattle.dubp_forks.specs.Stores.{AreApart}
use Rattle.dubp_forks.proofs.entries.put_last.Given as goal

abbrev pub invariant-loop-entry : goal.invariant-loop-entry
invariant-loop-entry l = record {
  done : Entries;
  parts : l.fn.last.items ≡ done ++ reverse l.last.items;
  entries :
      (store added : List Block) → l.fn.blocks.entries ≡ entries_of store → l.fn.last.items ≡ entries_of added → AreApart (store ++ added) → l.blocks.entries ≡ entries_of store ++ done;
  room : length l.last.items ≤ spare l.blocks;
}

abbrev pub decreases-loop-entry : goal.decreases-loop-entry
decreases-loop-entry l = length l.last.items
