-- What a store holds, as a choice looks at it.
use Rattle.std.proofs.Common.{◌∙◌, List, [], ◌∷◌, map}
use Rattle.std.specs.List.{AllByRecursion}
use Rattle.dubp_block.specs.declared.block.Block.{Block}
use Rattle.dubp_block.specs.Text.{IsBlock, stamp_of}
use Rattle.dubp_turns.specs.OfForks as stores
use Rattle.dubp_turns.specs.OfForks.{AreStored, IsStorable}
use Rattle.dubp_resolve.specs.Known.{AreApart, AreOffers}
use Rattle.dubp_replay.specs.Turns.{offered}
use Rattle.dubp_choosing.proofs.Offers.{offers_are}
use Rattle.dubp_choosing.proofs.Tries.{any_offered}

blocks_are : (store : List Block) → AllByRecursion IsStorable store → AllByRecursion IsBlock store
blocks_are [] all = tt
blocks_are (b ∷ store) all = (all.0.text, blocks_are store all.1)

apart_are : (store : List Block) → stores.AreApart store → AreApart (map offered store)
apart_are [] a = tt
apart_are (b ∷ store) a = (any_offered (stamp_of b) store ∙ a.0, apart_are store a.1)

pub stored_offers : (store : List Block) → AreStored store → AreOffers (map offered store)
stored_offers store are = offers_are store (blocks_are store are.each) (apart_are store are.apart) are.few
