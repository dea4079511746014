use Rattle.std.proofs.Common.{arith}
use Rattle.dubp_atoms.proofs.Numbers.{small_enough}
use Rattle.dubp_atoms.proofs.number.digits.Goals as goal

pub overflow_mul-value : goal.overflow_mul-value
overflow_mul-value c =
    let h = small_enough c.loop-c.c-index c.loop-c.value (omega arith) c.loop-c.invariant.small in
    omega arith

pub overflow_add-value : goal.overflow_add-value
overflow_add-value c =
    let h = small_enough c.loop-c.c-index c.loop-c.value (omega arith) c.loop-c.invariant.small in
    omega (arith, c.type_inv.text c.loop-c.c-index)
