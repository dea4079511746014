use Rattle.dubp_block.specs.Text.{signed_text}
use Rattle.dubp_drafts.proofs.Hashed.{written_is}
use Rattle.dubp_drafts.proofs.sealing.signed_text.Goals as goal

pub returns : goal.returns
unfolding signed_text
returns c =
    written_is c.args.block.now.inner_hash c.args.block.now.nonce _ _ _ _ _ _ c.new-text.ensures c.put_bytes.ensures.text c.put.ensures.text c.put_bytes-2.ensures.text c.put_number.ensures.text c.put_bytes-3.ensures.text
