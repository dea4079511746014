-- How many sources a chain makes: a block has room for the lines of its outputs, and each member gets one dividend.
use Rattle.std.proofs.Common.{◌≡◌, ℕ, ◌+◌, ◌*◌, ◌^◌, ◌<◌, ◌≤◌, suc, List, [], ◌∷◌, ◌++◌, Option, Some, None, map, length, refl, sym, ◌∙◌, subst, arith, mul-suc, length-append}
use Rattle.std.specs.List.{enumerate_from, flat_map}
use Rattle.std.proofs.lemmas.List.{length-map}
use Rattle.std.proofs.lemmas.List.FromFn.{length-enumerate_from}
use Rattle.std.proofs.Math.Nat.{le_trans, lt_of_le_of_lt, mul-le-mul_left}
use Rattle.dubp_atoms.specs.Same.{Text}
use Rattle.dubp_atoms.specs.Spelling.{stamp_text}
use Rattle.dubp_cond.specs.Sources.{input_text}
use Rattle.dubp_cond.specs.Unlocks.{unlock_line_text}
use Rattle.dubp_cond.specs.Outputs.{output_text}
use Rattle.dubp_cond.specs.declared.output.Output.{Output}
use Rattle.dubp_cond.specs.declared.tx.Tx.{Tx}
use Rattle.dubp_block.specs.declared.block.Block.{Block}
use Rattle.dubp_block.specs.Sections.{comment_lines, compact_lines, transaction_lines, tx_line}
use Rattle.dubp_block.specs.Text.{block_text, size_of}
use Rattle.dubp_block.proofs.Sizes.{size_is_within}
use Rattle.dubp_rules.specs.declared.rule.Rule.TheVariants.{G51, X07}
use Rattle.dubp_chain.specs.OfDocs.{tx_hash}
use Rattle.dubp_chain.specs.declared.head.Head.{Head}
use Rattle.dubp_chain.specs.Chains.{Chain}
use Rattle.dubp_chain.specs.Members.{members}
use Rattle.dubp_chain.specs.Heads.{time_of}
use Rattle.dubp_chain.specs.Money.{output_source, outputs_made, dividend_source, dividends_made, dividends_at, made_by, made_sources}
use Rattle.dubp_laws.specs.OfValidity.{IsSound, IsShort}
use Rattle.dubp_laws.proofs.OfValidity.{members_are_few}
use Rattle.dubp_money_steps.specs.Steps.{head_with, outputs_of, dividends_of}
use Rattle.dubp_money_steps.specs.Left.{most_made}
use Rattle.dubp_money_steps.specs.Laws.{MadeStayFew, PlacesAreThere}

-- ---- each output has a line of its block

outputs_counted : (time : ℕ) (hash : Text) (outputs : List Output) → length (map (output_source time hash) (enumerate_from 0 outputs)) ≡ length outputs
outputs_counted time hash outputs = length-map (enumerate_from 0 outputs) (output_source time hash) ∙ length-enumerate_from 0 outputs

among_lines : (first second : Text) (issuers inputs unlocks outputs last : List Text) → length outputs ≤ length (first ∷ second ∷ (issuers ++ (inputs ++ (unlocks ++ (outputs ++ last)))))
among_lines first second issuers inputs unlocks outputs last =
    omega (
      arith,
      length-append issuers (inputs ++ (unlocks ++ (outputs ++ last))),
      length-append inputs (unlocks ++ (outputs ++ last)),
      length-append unlocks (outputs ++ last),
      length-append outputs last,
    )

outputs_in_lines : (tx : Tx) → length tx.outputs ≤ length (compact_lines tx)
outputs_in_lines tx =
    subst (λ n. n ≤ length (compact_lines tx)) (length-map tx.outputs output_text)
    (among_lines (tx_line tx) (stamp_text tx.stamp) tx.issuers (map input_text tx.inputs) (map unlock_line_text tx.unlocks) (map output_text tx.outputs) (comment_lines tx.comment ++ tx.sigs))

made_in_lines : (time : ℕ) (currency : Text) (tx : Tx) → length (outputs_made time currency tx) ≤ length (compact_lines tx)
made_in_lines time currency tx = subst (λ n. n ≤ length (compact_lines tx)) (sym (outputs_counted time (tx_hash currency tx) tx.outputs)) (outputs_in_lines tx)

no_longer : {X Y : Type 0} (xs xs' : List X) (ys ys' : List Y) → length xs ≤ length ys → length xs' ≤ length ys' → length (xs ++ xs') ≤ length (ys ++ ys')
no_longer xs xs' ys ys' front behind = omega (arith, length-append xs xs', length-append ys ys', front, behind)

all_in_lines : (time : ℕ) (currency : Text) (txs : List Tx) → length (flat_map (outputs_made time currency) txs) ≤ length (transaction_lines txs)
all_in_lines time currency [] = omega arith
all_in_lines time currency (tx ∷ txs) =
    no_longer (outputs_made time currency tx) (flat_map (outputs_made time currency) txs) (compact_lines tx) (transaction_lines txs)
    (made_in_lines time currency tx) (all_in_lines time currency txs)

-- ---- each member gets at most one dividend

paid_once : (time number : ℕ) (paid : Option ℕ) (base : ℕ) (keys : List Text) → length (dividends_made time number paid base keys) ≤ length keys
paid_once time number None base keys = omega arith
paid_once time number (Some amount) base keys = omega (arith, length-map keys (dividend_source time number amount base))

dividends_counted : (number : ℕ) (h : Head) (keys : List Text) → length (dividends_at number (Some h) keys) ≤ length keys
dividends_counted number h keys = paid_once h.median_time number h.ud h.unit_base keys

-- ---- so a block makes few

few_of : (made outputs dividends lines size text count : ℕ)
    → made ≡ outputs + dividends → outputs ≤ lines → lines ≤ size → size ≤ text → text ≤ 1048576 → dividends ≤ count → count < 2 ^ 21 → made ≤ most_made
few_of made outputs dividends lines size text count both of_lines of_size of_text short of_members few = omega arith

-- one block makes no more than this
pub made_is_few : (c : Chain) (b : Block) → IsSound c → IsShort b → length (made_by c b) ≤ most_made
made_is_few c b sound short =
    few_of (length (made_by c b)) (length (outputs_of c b)) (length (dividends_of c b)) (length (transaction_lines b.transactions)) (size_of b) (length (block_text b)) (length (members (b ∷ c)))
    (length-append (outputs_of c b) (dividends_of c b))
    (all_in_lines (time_of (b ∷ c)) b.currency b.transactions)
    (omega arith)
    (size_is_within b)
    short
    (dividends_counted b.number (head_with c b) (members (b ∷ c)))
    (members_are_few c b sound short)

more_at_most : (all before new least most : ℕ) → all ≡ before + new → before ≤ least → new ≤ most → all ≤ least + most
more_at_most all before new least most adds few more = omega arith

-- what grows by so much at most at each step is at most as many times that as there were steps
pub times_one_more : (k all before new n : ℕ) → all ≡ before + new → before ≤ k * n → new ≤ k → all ≤ k * suc n
times_one_more k all before new n adds few more = subst (λ m. all ≤ m) (sym (mul-suc k n)) (more_at_most all before new (k * n) k adds few more)

pub made_stay_few : MadeStayFew
made_stay_few c b sound short few =
    times_one_more most_made (length (made_sources (b ∷ c))) (length (made_sources c)) (length (made_by c b)) (length c)
    (length-append (made_sources c) (made_by c b)) few (made_is_few c b sound.1 short)

-- ---- and each has a place

one_longer : (n number : ℕ) → number ≡ n → number < 2 ^ 40 → suc n ≤ 2 ^ 40
one_longer n number is below = omega arith

-- since its number is its place, the newest block of a sound chain has fewer than so many before it
chain_is_short : (c : Chain) → IsSound c → length c ≤ 2 ^ 40
chain_is_short [] sound = omega arith
chain_is_short (b ∷ c) sound = one_longer (length c) b.number (sound.0 G51 refl) (sound.0 X07 refl).number

pub places_are_there : PlacesAreThere
places_are_there c sound small =
    let all : most_made * length c ≤ most_made * 2 ^ 40 = mul-le-mul_left most_made (chain_is_short c sound) in
    let below : most_made * 2 ^ 40 < 2 ^ 63 = omega arith in
    lt_of_le_of_lt (le_trans small.count all) below
