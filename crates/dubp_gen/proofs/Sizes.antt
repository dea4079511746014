-- What a generated block says is small.
use Rattle.std.proofs.Common.{ℕ, ◌+◌, ◌-◌, ◌/◌, ◌%◌, ◌^◌, ◌<◌, ◌≤◌, Bool, true, false, cond, ◌==◌, List, [], ◌∷◌, ◌++◌, length, map, Option, Some, None, arith}
use Rattle.std.specs.List.{flat_map}
use Rattle.std.proofs.lemmas.List.{length-append, length-map}
use Rattle.dubp_atoms.specs.Same.{Text, empty_stamp}
use Rattle.dubp_atoms.specs.declared.stamp.Stamp.{Stamp}
use Rattle.dubp_cond.specs.declared.source.Input.{Input}
use Rattle.dubp_cond.specs.Outputs.{output_text}
use Rattle.dubp_cond.specs.Sources.{input_text}
use Rattle.dubp_cond.specs.Unlocks.{unlock_line_text}
use Rattle.dubp_cond.specs.declared.unlock.Unlock.TheVariants.{Sig}
use Rattle.dubp_cond.specs.declared.unlock.UnlockLine.{UnlockLine}
use Rattle.dubp_cond.specs.declared.output.Output.{Output}
use Rattle.dubp_cond.specs.declared.tx.Tx.{Tx}
use Rattle.dubp_block.specs.Sections.{comment_lines, transaction_lines, tx_line}
use Rattle.dubp_block.specs.declared.block.Block.{Block}
use Rattle.dubp_block.specs.declared.block.MemberLine.{MemberLine}
use Rattle.dubp_block.specs.declared.block.RevokedLine.{RevokedLine}
use Rattle.dubp_atoms.specs.Spelling.{stamp_text}
use Rattle.dubp_drafts.specs.Keys.{key_text}
use Rattle.dubp_drafts.specs.Sealing.{signature_of}
use Rattle.dubp_block.specs.Text.{size_of}
use Rattle.dubp_drafts.specs.Drafting.{by_all_others, certification_line, certified, draft_of, first_members, identity_line, member_line, newcomers, output_to, outputs, paid, payee, payer, renewed, transaction, transaction_message, transactions}

few_of_three : {A : Type 0} (a b : Bool) (xs ys : List A) (m : ℕ) → length xs ≤ m → length ys ≤ m → length (cond a xs (cond b ys [])) ≤ m
few_of_three true b xs ys m few short = few
few_of_three false true xs ys m few short = short
few_of_three false false xs ys m few short = omega arith

few_newcomers : (n : ℕ) → length (newcomers n) ≤ 8
few_newcomers n = few_of_three (n == 0) (n % 20 == 0) first_members ((7 + n / 20) ∷ []) 8 (omega arith) (omega arith)

few_certified : (n : ℕ) → length (certified n) ≤ 56
few_certified n = few_of_three (n == 0) (n % 20 == 0) (flat_map by_all_others first_members) (((n / 20) % 8, 7 + n / 20) ∷ []) 56 (omega arith) (omega arith)

few_renewed : (n : ℕ) → length (renewed n) ≤ 1
few_renewed n = by (n % 20 == 10)
  where
    by : (b : Bool) → length (cond b (((n / 20) % 8) ∷ []) []) ≤ 1
    by true = omega arith
    by false = omega arith

few_outputs : (b : Bool) (o p : Output) → length (o ∷ cond b [] (p ∷ [])) ≤ 2
few_outputs true o p = omega arith
few_outputs false o p = omega arith

abbrev first_unlock : UnlockLine
first_unlock = record { input = 0; list = Sig 0 ∷ [] }

few_mapped : {A B : Type 0} (f : A → B) (xs : List A) (m : ℕ) → length xs ≤ m → length (map f xs) ≤ m
few_mapped f xs m few = omega (arith, length-map xs f, few)

one : {A : Type 0} (x : A) → length (x ∷ []) ≤ 1
one x = omega arith

few_joined : (a b : Text) (p q r o t s : List Text) → length p ≤ 1 → length q ≤ 1 → length r ≤ 1 → length o ≤ 2 → length t ≤ 0 → length s ≤ 1
    → length ((a ∷ b ∷ (p ++ (q ++ (r ++ (o ++ (t ++ s)))))) ++ []) ≤ 20
few_joined a b p q r o t s h i j k l m =
    omega (
      arith,
      length-append (a ∷ b ∷ (p ++ (q ++ (r ++ (o ++ (t ++ s)))))) [],
      length-append p (q ++ (r ++ (o ++ (t ++ s)))),
      length-append q (r ++ (o ++ (t ++ s))),
      length-append r (o ++ (t ++ s)),
      length-append o (t ++ s),
      length-append t s,
      h,
      i,
      j,
      k,
      l,
      m,
    )

-- a transaction of one issuer, one input and one unlock line, without a comment
few_compact : (tx : Tx) → length tx.issuers ≤ 1 → length tx.inputs ≤ 1 → length tx.unlocks ≤ 1 → length tx.outputs ≤ 2 → length (comment_lines tx.comment) ≤ 0 → length tx.sigs ≤ 1
    → length (transaction_lines (tx ∷ [])) ≤ 20
few_compact tx issuers inputs unlocks outputs comment sigs =
    few_joined (tx_line tx) (stamp_text tx.stamp) tx.issuers (map input_text tx.inputs) (map unlock_line_text tx.unlocks) (map output_text tx.outputs) (comment_lines tx.comment) tx.sigs
    issuers (few_mapped input_text tx.inputs 1 inputs) (few_mapped unlock_line_text tx.unlocks 1 unlocks) (few_mapped output_text tx.outputs 2 outputs) comment sigs

no_comment : length (comment_lines []) ≤ 0
no_comment = omega arith

few_lines : (x : ℕ) (s : Stamp) (source : Option Input) → length (transaction_lines (transactions x s source)) ≤ 20
few_lines x s None = omega arith
few_lines x s (Some source) =
    few_compact (transaction x s source) (one (key_text (payer x))) (one source) (one first_unlock)
    (few_outputs (source.amount - paid x source.amount == 0) (output_to (paid x source.amount) source.base (payee x)) (output_to (source.amount - paid x source.amount) source.base (payer x)))
    no_comment (one (signature_of (key_text (payer x)) (transaction_message x s source)))

small_parts : (b : Block) → length b.identities ≤ 8 → length b.joiners ≤ 8 → length b.actives ≤ 1 → length b.leavers ≤ 0 → length b.revoked ≤ 0 → length b.certifications ≤ 56
    → length (transaction_lines b.transactions) ≤ 20 → size_of b < 2 ^ 53
small_parts b h i j k l m n = omega (arith, h, i, j, k, l, m, n)

no_leavers : length {A = MemberLine} [] ≤ 0
no_leavers = omega arith

no_revoked : length {A = RevokedLine} [] ≤ 0
no_revoked = omega arith

pub small_draft : (n x : ℕ) (s : Stamp) (source : Option Input) → size_of (draft_of n x s source) < 2 ^ 53
small_draft n x s source =
    small_parts (draft_of n x s source)
    (few_mapped (identity_line s) (newcomers n) 8 (few_newcomers n)) (few_mapped (member_line s s) (newcomers n) 8 (few_newcomers n)) (few_mapped (member_line s empty_stamp) (renewed n) 1 (few_renewed n))
    no_leavers no_revoked
    (few_mapped (certification_line n s) (certified n) 56 (few_certified n)) (few_lines x s source)

pub few_joiners : (n x : ℕ) (s : Stamp) (source : Option Input) → length (draft_of n x s source).joiners ≤ 65536
few_joiners n x s source = omega (arith, few_mapped (member_line s s) (newcomers n) 8 (few_newcomers n))
