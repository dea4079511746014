-- Each rule on the transactions of a block by itself, at its bound: a block that keeps it, and one that breaks it.
--
-- Rule, kept by, broken by:
--   L18  hundred_lines                one_line_more
--   L19  issuers_once                 issuer_twice
--   L20  unlocked_once, unlocked_by_password     not_unlocked, unlocked_twice, unlocks_no_input, unlocked_by_nobody
--   L21  sources_once                 source_twice, source_twice_in_block
--   L22  moves_something              output_of_nothing, input_of_nothing
--   L23  balanced, balanced_over_bases    sends_too_little, sends_too_much, base_not_counted
--   L24  signed_by_all                unsigned, signatures_exchanged
use Rattle.std.specs.Prelude.{◌≡◌, ℕ, ◌==◌, List, [], ◌∷◌, ◌++◌, codes, count_by}
use Rattle.std.specs.Fmt.{digits}
use Rattle.std.proofs.Common.{refl, subst, ap, arith}
use Rattle.dubp_atoms.specs.Same.{Text}
use Rattle.dubp_atoms.specs.Hashing.{hash_of}
use Rattle.dubp_lines.specs.Lines.{unlines}
use Rattle.dubp_cond.specs.declared.unlock.Unlock.TheVariants.{Sig, Xhx}
use Rattle.dubp_cond.specs.declared.unlock.UnlockLine.{UnlockLine}
use Rattle.dubp_cond.specs.declared.tx.Tx.{Tx}
use Rattle.dubp_docs.specs.Spelling.{signed_text as signed_document}
use Rattle.dubp_block.specs.declared.block.Block.{Block}
use Rattle.dubp_rules.specs.declared.rule.Rule.TheVariants.{L18, L19, L20, L21, L22, L23, L24}
use Rattle.dubp_verdict.specs.Verdicts.{Verdict}
use Rattle.dubp_validity.specs.Rules.{Holds}
use Rattle.dubp_trials.specs.Samples.{key0, key1, key3, three_blocks, dividend_input, output_to, spending, spending_block}
use Rattle.dubp_trials.proofs.Apart.{fails, texts_differ, only_one, many}
use Rattle.dubp_trials.proofs.MoreSamples.{moving, moving_all}

-- ---- lines

-- six lines and so many outputs: the first line, the stamp, an issuer, an input, an unlock and a signature
abbrev sending_to : ℕ → Block
sending_to outputs = moving (record (spending 99 901) { outputs = many outputs (output_to key3 1) })

hundred_lines : Holds [] three_blocks (sending_to 94) L18
hundred_lines = (omega arith, tt)

one_line_more : ¬ Holds [] three_blocks (sending_to 95) L18
one_line_more h = omega (arith, h.0)

abbrev issued_by : List Text → Block
issued_by issuers = moving (record (spending 99 901) { issuers = issuers })

issuers_once : Holds [] three_blocks (issued_by (key0 ∷ key1 ∷ [])) L19
issuers_once = (refl, tt)

issuer_twice : ¬ Holds [] three_blocks (issued_by (key0 ∷ key1 ∷ key0 ∷ [])) L19
issuer_twice h = fails h.0

-- ---- unlocks

abbrev unlocking : List UnlockLine → Block
unlocking lines = moving (record (spending 99 901) { unlocks = lines })

abbrev unlock_by : ℕ → ℕ → UnlockLine
unlock_by input issuer = record { input = input; list = Sig issuer ∷ [] }

unlocked_once : Holds [] three_blocks (spending_block 99 901) L20
unlocked_once = (
  record {
    each = λ i below.
        let only : 0 ≡ i = omega arith in
        subst (λ i. count_by (λ line. line.input == i) (spending 99 901).unlocks ≡ 1) only refl;
    no_other = (omega arith, tt);
    issuers = ((omega arith, tt), tt);
  },
  tt,
)

-- a password names no issuer
abbrev by_password : List UnlockLine
by_password = record { input = 0; list = Xhx (codes "secret") ∷ [] } ∷ []

unlocked_by_password : Holds [] three_blocks (unlocking by_password) L20
unlocked_by_password = (
  record {
    each = λ i below.
        let only : 0 ≡ i = omega arith in
        subst (λ i. count_by (λ line. line.input == i) by_password ≡ 1) only refl;
    no_other = (omega arith, tt);
    issuers = ((tt, tt), tt);
  },
  tt,
)

not_unlocked : ¬ Holds [] three_blocks (unlocking []) L20
not_unlocked h = omega (arith, h.0.each 0 (omega arith))

unlocked_twice : ¬ Holds [] three_blocks (unlocking (unlock_by 0 0 ∷ unlock_by 0 0 ∷ [])) L20
unlocked_twice h = omega (arith, h.0.each 0 (omega arith))

unlocks_no_input : ¬ Holds [] three_blocks (unlocking (unlock_by 0 0 ∷ unlock_by 1 0 ∷ [])) L20
unlocks_no_input h = omega (arith, h.0.no_other.1.0)

unlocked_by_nobody : ¬ Holds [] three_blocks (unlocking (unlock_by 0 1 ∷ [])) L20
unlocked_by_nobody h = omega (arith, h.0.issuers.0.0)

-- ---- sources and amounts

sources_once : Holds [] three_blocks (spending_block 99 901) L21
sources_once = refl

source_twice : ¬ Holds [] three_blocks (moving (record (spending 99 901) { inputs = dividend_input ∷ dividend_input ∷ [] })) L21
source_twice = fails

source_twice_in_block : ¬ Holds [] three_blocks (moving_all (spending 99 901 ∷ spending 100 900 ∷ [])) L21
source_twice_in_block = fails

moves_something : Holds [] three_blocks (spending_block 1 999) L22
moves_something = (((omega arith, tt), (omega arith, (omega arith, tt))), tt)

output_of_nothing : ¬ Holds [] three_blocks (spending_block 0 1000) L22
output_of_nothing h = omega (arith, h.0.1.0)

input_of_nothing : ¬ Holds [] three_blocks (moving (record (spending 99 901) { inputs = record dividend_input { amount = 0 } ∷ [] })) L22
input_of_nothing h = omega (arith, h.0.0.0)

balanced : Holds [] three_blocks (spending_block 99 901) L23
balanced = (refl, tt)

sends_too_little : ¬ Holds [] three_blocks (spending_block 99 900) L23
sends_too_little h = omega (arith, h.0)

sends_too_much : ¬ Holds [] three_blocks (spending_block 100 901) L23
sends_too_much h = omega (arith, h.0)

-- 1000 units are 100 in base 1
abbrev sending_in_base : ℕ → ℕ → Block
sending_in_base amount base = moving (record (spending 99 901) { outputs = record (output_to key3 amount) { base = base } ∷ [] })

balanced_over_bases : Holds [] three_blocks (sending_in_base 100 1) L23
balanced_over_bases = (refl, tt)

base_not_counted : ¬ Holds [] three_blocks (sending_in_base 1000 1) L23
base_not_counted h = omega (arith, h.0)

-- ---- signatures

-- key0 and key3 sign, each by its own text
abbrev sent_by_two : Tx
sent_by_two = record (spending 99 901) { issuers = key0 ∷ key3 ∷ []; sigs = codes "A0" ∷ codes "B3" ∷ [] }

abbrev sent_lines : List (List ℕ)
sent_lines =
    codes "Version: 10"
    ∷ codes "Type: Transaction"
    ∷ codes "Currency: test_currency"
    ∷ codes "Blockstamp: 2-AB"
    ∷ codes "Locktime: 0"
    ∷ codes "Issuers:"
    ∷ key0
    ∷ key3
    ∷ codes "Inputs:"
    ∷ (codes "1000:0:D:" ++ (key0 ++ codes ":2"))
    ∷ codes "Unlocks:"
    ∷ codes "0:SIG(0)"
    ∷ codes "Outputs:"
    ∷ (codes "99:0:SIG(" ++ (key3 ++ codes ")"))
    ∷ (codes "901:0:SIG(" ++ (key0 ++ codes ")"))
    ∷ codes "Comment: "
    ∷ []

abbrev sent_by : Text → Text → Verdict
sent_by key sig = record { key = key; hash = hash_of (unlines sent_lines); sig = sig }

signed_by_all : Holds (sent_by key0 (codes "A0") ∷ sent_by key3 (codes "B3") ∷ []) three_blocks (moving sent_by_two) L24
unfolding signed_document digits
signed_by_all = (((0, omega arith, refl), ((1, omega arith, refl), tt)), tt)

-- the second signature has no verdict
unsigned : ¬ Holds (sent_by key0 (codes "A0") ∷ []) three_blocks (moving sent_by_two) L24
unsigned h = texts_differ key0 key3 refl (ap (λ (t : Verdict). t.key) (only_one _ _ h.0.1.0))

-- the first signature is right by the second issuer
signatures_exchanged : ¬ Holds (sent_by key3 (codes "A0") ∷ []) three_blocks (moving sent_by_two) L24
signatures_exchanged h = texts_differ key3 key0 refl (ap (λ (t : Verdict). t.key) (only_one _ _ h.0.0))
