use Rattle.std.proofs.Common.{ℕ, List, ◌≡◌, ◌≤◌, true, nat_le, length, arith}
use Rattle.std.proofs.lemmas.Bool.Decides.{nat_tests}
use Rattle.dubp_atoms.proofs.Numbers.{both}
use Rattle.dubp_cond.specs.Transactions.{is_comment}
use Rattle.dubp_block.proofs.compact.add_comment.Goals as goal

at_most : (n : ℕ) → nat_le n 255 ≡ true → n ≤ 2000
at_most n h = grind (arith, nat_tests)

fits : (text : List ℕ) → is_comment text ≡ true → length text ≤ 2000
unfolding is_comment
fits text h = at_most (length text) (both _ _ h).0

pub add_line-requires : goal.add_line-requires
add_line-requires g c = rw c.as_slice.ensures (fits c.args.comment.now c.requires)
