use Rattle.std.proofs.Common.{ℕ, List, ◌≡◌, ◌≤◌, true, nat_le, length, lit≤, arith}
use Rattle.std.proofs.lemmas.Bool.Decides.{nat_tests}
use Rattle.dubp_atoms.proofs.Numbers.{both}
use Rattle.dubp_cond.specs.Transactions.{is_comment}
use Rattle.dubp_docs.proofs.signing.add_comment.Goals as goal

at_most : (n : ℕ) → nat_le n 255 ≡ true → n ≤ 1000
at_most n h = grind (arith, nat_tests)

fits : (text : List ℕ) → is_comment text ≡ true → length text ≤ 1000
unfolding is_comment
fits text h = at_most (length text) (both _ _ h).0

pub put_text_line-requires : goal.put_text_line-requires
put_text_line-requires g c =
    let short : length c.as_slice.result.now ≤ 1000 = rw c.as_slice.ensures (fits c.args.comment.now c.requires) in
    record { name = lit≤ tt; text = short }
