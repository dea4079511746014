-- The reader of a transaction in compact form reads exactly its lines. What its first line says is known of the lists behind it.
use Rattle.std.proofs.Common.{◌≡◌, ◌≤◌, ◌<◌, ℕ, zero, suc, true, leb, List, [], ◌∷◌, ◌++◌, length, length-append, append-nil, Some, refl, sym, ap, subst, ◌∙◌, arith, decimal}
use Rattle.std.specs.Prelude.{codes, map, All}
use Rattle.std.proofs.lemmas.Bool.{leb-true, le-leb}
use Rattle.dubp_atoms.specs.Letters.{is_between, is_key, is_sig}
use Rattle.dubp_atoms.specs.Reading.{Lacks, number_of}
use Rattle.dubp_atoms.specs.Spelling.{IsNumber, IsStamp, stamp_text}
use Rattle.dubp_atoms.proofs.Numbers.{both, bind_some, some_is, number_found, number_again}
use Rattle.dubp_atoms.proofs.Stamps.{colon, line_end, number_lacks}
use Rattle.dubp_lines.proofs.Readers.{Rows, Always, Reads, IsSpelled, named_spelled, line_reads, then_reads, gives_reads, reads_as, spelled_as}
use Rattle.dubp_lines.proofs.Rows.{rows_reads, known_then}
use Rattle.dubp_lines.proofs.Loops.{Shrinks}
use Rattle.dubp_params.specs.Reading.{field_at}
use Rattle.dubp_params.proofs.Fields.{step, field_again, behind}
use Rattle.dubp_cond.specs.Sources.{IsInput, input_text}
use Rattle.dubp_cond.specs.Unlocks.{IsUnlockLine, unlock_line_text}
use Rattle.dubp_cond.specs.Outputs.{IsOutput, output_text}
use Rattle.dubp_cond.specs.Transactions.{is_comment, IsTx}
use Rattle.dubp_cond.specs.declared.tx.Tx.{Tx}
use Rattle.dubp_block.specs.Sections.{compact_lines, has_comment, comment_lines}
use Rattle.dubp_block.specs.ReadingLines.{count_of, comments_of, comment_of, head_of}
use Rattle.dubp_block.specs.Reading.{comment_at, tx_at}
use Rattle.dubp_block.specs.declared.kinds.TxHead.{TxHead}
use Rattle.dubp_block.proofs.Values.{passed}
use Rattle.dubp_block.proofs.Lacking.{field_lacks}
use Rattle.dubp_block.proofs.Spelled.{itself, Passes, IsLineComment, key_spelled, sig_spelled, stamp_spelled, input_spelled, unlock_spelled, output_spelled, comment_spelled}

-- ---- the first line

abbrev IsCount : ℕ → Type 0
IsCount n = (1 ≤ n) × (n ≤ 100)

abbrev IsFlag : ℕ → Type 0
IsFlag n = n ≤ 1

count_found : (text : List ℕ) (n : ℕ) → count_of text ≡ Some n → IsCount n × (text ≡ decimal n)
unfolding count_of
count_found text n e =
    let p = passed (is_between 1 100) text n e in
    let b = both (leb 1 n) (leb n 100) p.0 in
    ((leb-true 1 n b.0, leb-true n 100 b.1), p.1)

count_again : (n : ℕ) → IsCount n → count_of (decimal n) ≡ Some n
unfolding count_of
count_again n h = rw (number_again n (omega arith), le-leb 1 n h.0, le-leb n 100 h.1) refl

flag_found : (text : List ℕ) (n : ℕ) → comments_of text ≡ Some n → IsFlag n × (text ≡ decimal n)
unfolding comments_of
flag_found text n e =
    let p = passed (λ k. leb k 1) text n e in
    (leb-true n 1 p.0, p.1)

flag_again : (n : ℕ) → IsFlag n → comments_of (decimal n) ≡ Some n
unfolding comments_of
flag_again n h = rw (number_again n (omega arith), le-leb n 1 h) refl

abbrev head_text : TxHead → List ℕ
head_text h = decimal h.issuers ++ 58 ∷ (decimal h.inputs ++ 58 ∷ (decimal h.unlocks ++ 58 ∷ (decimal h.outputs ++ 58 ∷ (decimal h.comments ++ 58 ∷ decimal h.locktime))))

record IsHead (h : TxHead) : Type 0 where
  issuers : IsCount h.issuers
  inputs : IsCount h.inputs
  unlocks : IsCount h.unlocks
  outputs : IsCount h.outputs
  comments : IsFlag h.comments
  locktime : IsNumber h.locktime

head_found : (text : List ℕ) (h : TxHead) → head_of text ≡ Some h → IsHead h × (text ≡ head_text h)
unfolding head_of
head_found text h e =
    let i = step count_of decimal IsCount count_found text _ _ e in
    let s = step count_of decimal IsCount count_found i.rest _ _ i.goes_on in
    let u = step count_of decimal IsCount count_found s.rest _ _ s.goes_on in
    let o = step count_of decimal IsCount count_found u.rest _ _ u.goes_on in
    let c = step comments_of decimal IsFlag flag_found o.rest _ _ o.goes_on in
    let z = bind_some (number_of c.rest) _ _ c.goes_on in
    let l = number_found c.rest z.0 z.1 in
    let got : TxHead = record { issuers = i.value; inputs = s.value; unlocks = u.value; outputs = o.value; comments = c.value; locktime = z.0 } in
    let is : IsHead got = record { issuers = i.is; inputs = s.is; unlocks = u.is; outputs = o.is; comments = c.is; locktime = l.0 } in
    let whole : text ≡ head_text got =
    behind _ (decimal i.value) _ _ i.parts (behind _ (decimal s.value) _ _ s.parts (behind _ (decimal u.value) _ _ u.parts (behind _ (decimal o.value) _ _ o.parts (behind _ (decimal c.value) _ _ c.parts l.1)))) in
    subst (λ (x : TxHead). IsHead x × (text ≡ head_text x)) (some_is got h z.2) (is, whole)

count_field : (n : ℕ) (rest : List ℕ) → IsCount n → field_at count_of (decimal n ++ 58 ∷ rest) ≡ Some (n, rest)
count_field n rest h = field_again count_of (decimal n) rest n (number_lacks 58 colon n (omega (arith, h.1))) (count_again n h)

flag_field : (n : ℕ) (rest : List ℕ) → IsFlag n → field_at comments_of (decimal n ++ 58 ∷ rest) ≡ Some (n, rest)
flag_field n rest h = field_again comments_of (decimal n) rest n (number_lacks 58 colon n (omega arith)) (flag_again n h)

head_again : (h : TxHead) → IsHead h → head_of (head_text h) ≡ Some h
unfolding head_of
head_again h is =
    rw (count_field h.issuers _ is.issuers, count_field h.inputs _ is.inputs, count_field h.unlocks _ is.unlocks, count_field h.outputs _ is.outputs, flag_field h.comments _ is.comments, number_again h.locktime is.locktime) refl

count_lacks : (n : ℕ) → IsCount n → Lacks 10 (decimal n)
count_lacks n h = number_lacks 10 line_end n (omega (arith, h.1))

head_lacks : (h : TxHead) → IsHead h → Lacks 10 (head_text h)
head_lacks h is =
    field_lacks (decimal h.issuers) _ (count_lacks h.issuers is.issuers) (field_lacks (decimal h.inputs) _ (count_lacks h.inputs is.inputs)
    (field_lacks (decimal h.unlocks) _ (count_lacks h.unlocks is.unlocks) (field_lacks (decimal h.outputs) _ (count_lacks h.outputs is.outputs)
    (field_lacks (decimal h.comments) _ (number_lacks 10 line_end h.comments (omega (arith, is.comments))) (number_lacks 10 line_end h.locktime is.locktime)))))

head_spelled : IsSpelled head_of head_text IsHead
head_spelled = record {
  value = record { issuers = 1; inputs = 1; unlocks = 1; outputs = 1; comments = 0; locktime = 0 };
  is = record { issuers = (omega arith, omega arith); inputs = (omega arith, omega arith); unlocks = (omega arith, omega arith); outputs = (omega arith, omega arith); comments = omega arith; locktime = omega arith };
  clear = head_lacks;
  found = head_found;
  again = head_again;
}

-- ---- the comment

abbrev CommentIs : ℕ → List ℕ → Type 0
CommentIs n c = (has_comment c ≡ n) × (is_comment c ≡ true)

empty_is : is_comment [] ≡ true
unfolding is_comment
empty_is = refl

none_is : (c : List ℕ) → has_comment c ≡ 0 → c ≡ []
none_is [] e = refl
none_is (x ∷ xs) e = absurd (omega arith)

line_to : (c : List ℕ) → IsLineComment c → CommentIs 1 c
line_to [] h = let lt = h.some in absurd (omega arith)
line_to (x ∷ xs) h = (refl, h.is)

line_from : (c : List ℕ) → CommentIs 1 c → IsLineComment c
line_from [] h = absurd (omega arith)
line_from (x ∷ xs) h = record { is = h.1; some = omega arith }

line_spelled : (c : List ℕ) → CommentIs 1 c → itself c ∷ [] ≡ comment_lines c
line_spelled [] h = absurd (omega arith)
line_spelled (x ∷ xs) h = refl

comment_reads : (n : ℕ) → n ≤ 1 → Reads (comment_at n) comment_lines (CommentIs n) Always
comment_reads zero le =
    let none : List ℕ = [] in
    let K : List ℕ → Type 0 = λ c. c ≡ [] in
    spelled_as (comment_at 0) (λ c. []) comment_lines (CommentIs 0) Always (λ c h. ap comment_lines (sym (none_is c h.0)))
    (reads_as (comment_at 0) (λ c. []) (λ c. K c × Unit {0}) (CommentIs 0) Always (λ c h. subst (CommentIs 0) (sym h.0) (refl, empty_is)) (λ c h. (none_is c h.0, tt)) (gives_reads none K Always refl (λ c h. h)))
comment_reads (suc zero) le =
    spelled_as (comment_at 1) (λ c. itself c ∷ []) comment_lines (CommentIs 1) Always line_spelled
    (reads_as (comment_at 1) (λ c. itself c ∷ []) IsLineComment (CommentIs 1) Always line_to line_from (line_reads comment_of itself IsLineComment comment_spelled))
comment_reads (suc (suc n)) le = absurd (omega arith)

-- ---- a transaction

abbrev first_line : Tx → TxHead
first_line tx = record { issuers = length tx.issuers; inputs = length tx.inputs; unlocks = length tx.unlocks; outputs = length tx.outputs; comments = has_comment tx.comment; locktime = tx.locktime }

-- the lines, with keys and signatures as what is read of them
abbrev spelled_lines : Tx → Rows
spelled_lines tx =
    (codes "TX:10:" ++ head_text (first_line tx))
    ∷ stamp_text tx.stamp
    ∷ (map itself tx.issuers
    ++ (map input_text tx.inputs
    ++ (map unlock_line_text tx.unlocks
    ++ (map output_text tx.outputs
    ++ (comment_lines tx.comment
    ++ (map itself tx.sigs ++ []))))))

abbrev SigsOf : Tx → Type 0
SigsOf tx = (length tx.sigs ≡ length tx.issuers) × All (Passes is_sig) tx.sigs

abbrev TxIs : Tx → Type 0
TxIs tx = Unit {0} × (IsHead (first_line tx) × (IsStamp tx.stamp × (All (Passes is_key) tx.issuers × (All IsInput tx.inputs × (All IsUnlockLine tx.unlocks × (All IsOutput tx.outputs × (Passes is_comment tx.comment × (SigsOf tx × Unit {0}))))))))

tx_steps : Reads tx_at spelled_lines TxIs Always
unfolding tx_at
tx_steps =
    then_reads _ _ _ _ _ _ first_line _ _ (line_reads _ _ _ (named_spelled (codes "TX:10:") _ _ _ refl head_spelled)) (λ head is_head.
    then_reads _ _ _ _ _ _ (λ tx. tx.stamp) _ _ (line_reads _ _ _ stamp_spelled) (λ stamp is_stamp.
    known_then _ _ _ _ _ _ _ (λ tx. tx.issuers) _ _ (rows_reads _ _ _ key_spelled head.issuers) (λ tx k. ap (λ (h : TxHead). h.issuers) k.0.1) (λ issuers is_issuers.
    known_then _ _ _ _ _ _ _ (λ tx. tx.inputs) _ _ (rows_reads _ _ _ input_spelled head.inputs) (λ tx k. ap (λ (h : TxHead). h.inputs) k.0.0.1) (λ inputs are_inputs.
    known_then _ _ _ _ _ _ _ (λ tx. tx.unlocks) _ _ (rows_reads _ _ _ unlock_spelled head.unlocks) (λ tx k. ap (λ (h : TxHead). h.unlocks) k.0.0.0.1) (λ unlocks are_unlocks.
    known_then _ _ _ _ _ _ _ (λ tx. tx.outputs) _ _ (rows_reads _ _ _ output_spelled head.outputs) (λ tx k. ap (λ (h : TxHead). h.outputs) k.0.0.0.0.1) (λ outputs are_outputs.
    known_then _ _ _ _ _ _ _ (λ tx. tx.comment) _ _ (comment_reads head.comments is_head.comments) (λ tx k. ap (λ (h : TxHead). h.comments) k.0.0.0.0.0.1) (λ comment is_comment.
    reads_as _ _ _ _ _
    (λ tx h. (h.0, (((h.1.0.0 ∙ sym (ap (λ (x : TxHead). x.issuers) h.0.0.0.0.0.0.0.1)), h.1.0.1), h.1.1)))
    (λ tx h. (h.0, (((h.1.0.0 ∙ ap (λ (x : TxHead). x.issuers) h.0.0.0.0.0.0.0.1), h.1.0.1), h.1.1)))
    (then_reads _ _ _ _ _ _ (λ tx. tx.sigs) _ _ (rows_reads _ _ _ sig_spelled head.issuers) (λ sigs are_sigs.
    gives_reads _ _ _ ((((((((tt, λ i. record { issuers = is_issuers.0 i; inputs = are_inputs.0 i; unlocks = are_unlocks.0 i; outputs = are_outputs.0 i; comments = is_comment.0 i; locktime = head.locktime }), refl), refl), refl), refl), refl), refl), refl)
    (λ tx k. λ i. record { stamp = k.0.0.0.0.0.0.1 i; locktime = (k.0.0.0.0.0.0.0.1 i).locktime; issuers = k.0.0.0.0.0.1 i; inputs = k.0.0.0.0.1 i; unlocks = k.0.0.0.1 i; outputs = k.0.0.1 i; comment = k.0.1 i; sigs = k.1 i }))))))))))

tx_to : (tx : Tx) → TxIs tx → IsTx tx
tx_to tx h =
    let head = h.1.0 in
    record {
      stamp = h.1.1.0;
      locktime = head.locktime;
      issuers = record { some = head.issuers.0; few = head.issuers.1; each = h.1.1.1.0 };
      inputs = record { some = head.inputs.0; few = head.inputs.1; each = h.1.1.1.1.0 };
      unlocks = record { some = head.unlocks.0; few = head.unlocks.1; each = h.1.1.1.1.1.0 };
      outputs = record { some = head.outputs.0; few = head.outputs.1; each = h.1.1.1.1.1.1.0 };
      comment = h.1.1.1.1.1.1.1.0;
      sigs = h.1.1.1.1.1.1.1.1.0.1;
      signed = h.1.1.1.1.1.1.1.1.0.0;
    }

flag_is : (c : List ℕ) → has_comment c ≤ 1
flag_is [] = omega arith
flag_is (x ∷ xs) = omega arith

tx_from : (tx : Tx) → IsTx tx → TxIs tx
tx_from tx is =
    let head : IsHead (first_line tx) = record {
      issuers = (is.issuers.some, is.issuers.few);
      inputs = (is.inputs.some, is.inputs.few);
      unlocks = (is.unlocks.some, is.unlocks.few);
      outputs = (is.outputs.some, is.outputs.few);
      comments = flag_is tx.comment;
      locktime = is.locktime;
    } in
    (tt, (head, (is.stamp, (is.issuers.each, (is.inputs.each, (is.unlocks.each, (is.outputs.each, (is.comment, ((is.signed, is.sigs), tt)))))))))

pub map_itself : (texts : Rows) → map itself texts ≡ texts
map_itself [] = refl
map_itself (t ∷ ts) = ap (λ ls. t ∷ ls) (map_itself ts)

-- the lines behind the stamp
regrouped : (k i u o c s k' s' : Rows) → k ≡ k' → s ≡ s' → k ++ (i ++ (u ++ (o ++ (c ++ (s ++ []))))) ≡ k' ++ (i ++ (u ++ (o ++ (c ++ s'))))
regrouped k i u o c s k' s' e f = ap (λ x. x ++ (i ++ (u ++ (o ++ (c ++ (s ++ [])))))) e ∙ ap (λ x. k' ++ (i ++ (u ++ (o ++ (c ++ x))))) (append-nil s ∙ f)

lines_are : (tx : Tx) → spelled_lines tx ≡ compact_lines tx
lines_are tx =
    ap (λ (ls : Rows). (codes "TX:10:" ++ head_text (first_line tx)) ∷ stamp_text tx.stamp ∷ ls)
    (regrouped (map itself tx.issuers) (map input_text tx.inputs) (map unlock_line_text tx.unlocks) (map output_text tx.outputs) (comment_lines tx.comment) (map itself tx.sigs) tx.issuers tx.sigs (map_itself tx.issuers) (map_itself tx.sigs))

pub tx_reads : Reads tx_at compact_lines IsTx Always
tx_reads = spelled_as tx_at spelled_lines compact_lines IsTx Always (λ tx is. lines_are tx) (reads_as tx_at spelled_lines TxIs IsTx Always tx_to tx_from tx_steps)

pub tx_shrinks : Shrinks tx_at
tx_shrinks = record {
  shorter = λ p tx q e. let f = tx_reads.found p tx q e in fewer p.0 (compact_lines tx) q.0 f.lines (omega arith);
}
  where
    fewer : (ls front rest : Rows) → ls ≡ front ++ rest → 0 < length front → length rest < length ls
    fewer ls front rest e some = omega (arith, ap length e, length-append front rest)
