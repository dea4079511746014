-- The stamp of a chain's last block. Protocol: head values.
use Rattle.dubp_time.specs.OfAtoms.{Stamp}
use Rattle.dubp_chain.specs.declared.head.Head.{Head}

abbrev pub head_stamp : Head → Stamp
head_stamp h = record { number = h.number; hash = h.hash }
