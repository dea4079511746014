use Rattle.std.proofs.Common.{◌≡◌, ℕ, Bool, true, false, List, drop, length, codes, Some, None, refl, rules, sym, ◌∙◌, if◌then◌else◌}
use Rattle.dubp_atoms.specs.Reading.{text_if}
use Rattle.dubp_lines.specs.Taking.{begins_with, named}
use Rattle.dubp_cond.specs.Transactions.{is_comment}
use Rattle.dubp_docs.proofs.Values.{named_absent, named_refused, named_taken}
use Rattle.dubp_docs.proofs.transaction.take_comment.Goals as goal

module _ (test : List ℕ → Bool) (name l : List ℕ) where
  other_name : begins_with name l ≡ false → named name (text_if test) l ≡ None
  other_name h = rw h refl

  tested : (v : List ℕ) (passes : Bool) → begins_with name l ≡ true → v ≡ drop (length name) l → test v ≡ passes → named name (text_if test) l ≡ (if passes then Some v else None)
  tested v passes h e t = rw (h, ← e, t) refl

pub returns-in_err-line : goal.returns-in_err-line
returns-in_err-line c = rw (named_absent (text_if is_comment) (codes "Comment: ") c.args.lines.now c.in_err-line.field-0.0.left c.in_err-line.ensures) (search rules)

pub returns-in_default : goal.returns-in_default
returns-in_default c =
    rw c.refused.ensures (named_refused (text_if is_comment) (codes "Comment: ") c.args.lines.now c.in_ok-line.line.now c.in_ok-line.ensures (other_name is_comment (codes "Comment: ") c.in_ok-line.line.now c.in_default.ensures.cases))

pub returns-then-not-is_comment_text : goal.returns-then-not-is_comment_text
returns-then-not-is_comment_text c =
    let e = c.in-Some.ensures.cases in
    rw c.refused-then-not-is_comment_text.ensures (named_refused (text_if is_comment) (codes "Comment: ") c.args.lines.now c.in_ok-line.line.now c.in_ok-line.ensures
    (tested is_comment (codes "Comment: ") c.in_ok-line.line.now c.in-Some.comment.now false e.0 e.1 (sym c.is_comment_text.ensures ∙ c.if-not-is_comment_text.true)))

pub returns : goal.returns
returns c =
    let e = c.in-Some.ensures.cases in
    named_taken (text_if is_comment) (codes "Comment: ") c.args.lines.now c.in_ok-line.line.now c.in-Some.comment.now c.skip.new.self c.in_ok-line.ensures
    (tested is_comment (codes "Comment: ") c.in_ok-line.line.now c.in-Some.comment.now true e.0 e.1 (sym c.is_comment_text.ensures ∙ c.if-not-is_comment_text.false)) c.skip.ensures.lines c.skip.ensures.tail
