use Rattle.std.proofs.Common.{◌≡◌, ℕ, List, ◌∷◌, ◌++◌, append_assoc, decimal, length}
use Rattle.std.specs.Prelude.{codes}
use Rattle.dubp_atoms.specs.Letters.{COLON}
use Rattle.dubp_block.specs.Sections.{has_comment}
use Rattle.dubp_block.proofs.compact.put_first_line.Goals as goal

nested_right : (o t a b c d e f : List ℕ) → ((((((((((((o ++ t) ++ a) ++ codes ":") ++ b) ++ codes ":") ++ c) ++ codes ":") ++ d) ++ codes ":") ++ e) ++ codes ":") ++ f) ≡ o ++ (t ++ (a ++ COLON ∷ (b ++ COLON ∷ (c ++ COLON ∷ (d ++ COLON ∷ (e ++ COLON ∷ f))))))
nested_right o t a b c d e f = simp append_assoc

pub returns-clause-text : goal.returns-clause-text
returns-clause-text c =
    rw (c.put_number-6.ensures.text, c.put_bytes-6.ensures.text, c.put_number-5.ensures.text, c.put_bytes-5.ensures.text, c.put_number-4.ensures.text, c.put_bytes-4.ensures.text, c.put_number-3.ensures.text, c.put_bytes-3.ensures.text, c.put_number-2.ensures.text, c.put_bytes-2.ensures.text, c.put_number.ensures.text, c.put_bytes.ensures.text, c.len.ensures, c.len-2.ensures, c.len-3.ensures, c.len-4.ensures, c.has_comment.ensures)
    (nested_right c.args.out.now.items (codes "TX:10:") (decimal (length c.args.tx.now.issuers)) (decimal (length c.args.tx.now.inputs)) (decimal (length c.args.tx.now.unlocks)) (decimal (length c.args.tx.now.outputs)) (decimal (has_comment c.args.tx.now.comment)) (decimal c.args.tx.now.locktime))
