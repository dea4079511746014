use Rattle.std.proofs.Common.{decimal}
use Rattle.dubp_block.proofs.Closing.{closing_is}
use Rattle.dubp_block.proofs.hashing.spell_closing.Goals as goal

pub returns : goal.returns
returns c =
    closing_is c.args.block.now.inner_hash (decimal c.args.block.now.nonce) c.args.block.now.sig c.clear.new.self.items c.put_bytes.new.out.items c.put.new.out.items c.put_bytes-2.new.out.items c.put_number.new.out.items c.put_bytes-3.new.out.items c.put-2.new.out.items c.put_bytes-4.new.out.items
    c.clear.ensures c.put_bytes.ensures.text c.put.ensures.text c.put_bytes-2.ensures.text c.put_number.ensures.text c.put_bytes-3.ensures.text c.put-2.ensures.text c.put_bytes-4.ensures.text
