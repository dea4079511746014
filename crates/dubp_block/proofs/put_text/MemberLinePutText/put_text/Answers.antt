use Rattle.std.proofs.Common.{◌≡◌, ℕ, List, ◌∷◌, ◌++◌, append_assoc}
use Rattle.std.specs.Prelude.{codes}
use Rattle.dubp_atoms.specs.Letters.{COLON}
use Rattle.dubp_atoms.specs.Spelling.{stamp_text}
use Rattle.dubp_block.proofs.put_text.MemberLinePutText.put_text.Goals as goal

nested_right : (o a b c d e : List ℕ) → (((((((((o ++ a) ++ codes ":") ++ b) ++ codes ":") ++ c) ++ codes ":") ++ d) ++ codes ":") ++ e) ≡ o ++ (a ++ COLON ∷ (b ++ COLON ∷ (c ++ COLON ∷ (d ++ COLON ∷ e))))
nested_right o a b c d e = simp append_assoc

pub returns-clause-text : goal.returns-clause-text
returns-clause-text c =
    rw (c.put-5.ensures.text, c.put_bytes-4.ensures.text, c.put-4.ensures.text, c.put_bytes-3.ensures.text, c.put-3.ensures.text, c.put_bytes-2.ensures.text, c.put-2.ensures.text, c.put_bytes.ensures.text, c.put.ensures.text)
    (nested_right c.args.out.now.items c.args.self.now.key c.args.self.now.sig (stamp_text c.args.self.now.stamp) (stamp_text c.args.self.now.identity_stamp) c.args.self.now.uid)
