-- What `submit` of the ledger said, as a decision of the node; and a decision on a block as one on its text.
use Rattle.std.proofs.Common.{◌≡◌, ◌≤◌, ◌+◌, [], ◌∷◌, length, drop, inl, inr, List, Option, Some, None, Ok, Err, subst, sym, ◌∙◌, ap, refl, ℕ}
use Rattle.std.specs.Prelude.{MatchOption}
use Rattle.dubp_atoms.specs.declared.stamp.Stamp.{Stamp}
use Rattle.dubp_block.specs.declared.block.Block.{Block}
use Rattle.dubp_block.specs.Text.{stamp_of}
use Rattle.dubp_block.specs.RefusedLine.{IsRefusedLine}
use Rattle.dubp_forks.specs.OfKept.{KeptChain, Out, kept_of, with_block}
use Rattle.dubp_forks.specs.OfLedger.{Accepted, HandedBack}
use Rattle.dubp_forks.specs.OfLedger.{SubmitRefusal}
use Rattle.dubp_forks.specs.OfLedger.submit_refusal_variants as refusal
use Rattle.dubp_rules.specs.declared.rule.Rule.{Rule}
use Rattle.dubp_rules.specs.declared.rule.Rule.TheVariants.{X01, P01}
use Rattle.dubp_rules.specs.Table.{code_text, table_rules}
use Rattle.dubp_rules.proofs.FirstLaws.{IsFirst_from_FirstOf, FirstOf_from_IsFirst, FirstOf_same}
use Rattle.dubp_verdict.specs.Verdicts.{Verdicts}
use Rattle.dubp_chain.specs.Chains.{Chain}
use Rattle.dubp_validity.specs.Rules.{FirstBroken, FirstBrokenRaw, Holds, HoldsRaw, IsTextOf, longest_block}
use Rattle.dubp_replay.specs.Answers.{accepted_answer, unread_answer, refused_answer}
use Rattle.dubp_replay.specs.Turns.{Accepts, BlockTurn, Branches, Only, RefusedBy, accepted, without}
use Rattle.dubp_forks.specs.Stores.{AreOutside, state_of}
use Rattle.dubp_turns.proofs.Outside.{outside_joined}
use Rattle.dubp_turns.specs.Deciding.{Decided, Decision, IsDecided, Joins, ShortBlockActs, refusal_text}

-- the chain that grows, where no blocks are held, and the store that the block leaves give the state in which it is accepted
state_grows : (v : Verdicts) (old : KeptChain) (store : List Block) (b : Block) → old.out ≡ None → state_of v (with_block b old) (without (stamp_of b) store) ≡ accepted (state_of v old store) b
state_grows v old store b none =
    ap (λ (o : Option Out). state_of v (record { chain = b ∷ old.chain; kept = kept_of o (old.kept + 1); out = o }) (without (stamp_of b) store)) none

pub joins_outside : (v : Verdicts) (old new : KeptChain) (store after : List Block) (b : Block) (stamp : Stamp) → old.out ≡ None → Accepted v old b stamp new → after ≡ without stamp store → AreOutside store old.chain → (new.out ≡ None) × AreOutside after new.chain
joins_outside v old new store after b stamp none a left out =
    let gone : after ≡ without (stamp_of b) store = left ∙ ap (λ s. without s store) a.stamp_is in
    let chain : new.chain ≡ b ∷ old.chain = ap (λ k. k.chain) a.joins in
    (ap (λ k. k.out) a.joins ∙ none, subst (λ x. AreOutside x new.chain) (sym gone) (subst (AreOutside (without (stamp_of b) store)) (sym chain) (outside_joined b store old.chain out)))

pub decided_ok : (v : Verdicts) (old new : KeptChain) (store after : List Block) (b : Block) (stamp : Stamp) → old.out ≡ None → Accepted v old b stamp new → after ≡ without stamp store → IsDecided (state_of v old store) b (Ok stamp) (state_of v new after)
decided_ok v old new store after b stamp none a left =
    let left_is : after ≡ without (stamp_of b) store = left ∙ ap (λ s. without s store) a.stamp_is in
    record {
      broken = None;
      first = a.keeps;
      decides = (ap accepted_answer a.stamp_is, ap (λ s. state_of v s after) a.joins ∙ ap (state_of v (with_block b old)) left_is ∙ state_grows v old store b none);
    }

pub decided_err : (v : Verdicts) (old new : KeptChain) (store : List Block) (b : Block) (refusal : SubmitRefusal) → HandedBack v old b refusal new → IsDecided (state_of v old store) b (Err refusal) (state_of v new store)
decided_err v old new store b (refusal.Refused rule back) h =
    record { broken = Some rule; first = h.0; decides = (refl, ap (λ s. state_of v s store) h.2) }
decided_err v old new store b (refusal.NoMemory back) h = ap (λ s. state_of v s store) h.1

-- the answer that says so
pub said_ok : (old new : Branches) (b : Block) (stamp : Stamp) (answer : List ℕ) → IsDecided old b (Ok stamp) new → answer ≡ accepted_answer stamp → Decided old b answer new
said_ok old new b stamp answer d e = inl (subst (λ a. Decision old b a new) (sym e) d)

pub said_err : (old new : Branches) (b : Block) (refusal : SubmitRefusal) (answer : List ℕ) → IsDecided old b (Err refusal) new → answer ≡ refusal_text refusal → Decided old b answer new
said_err old new b (refusal.Refused rule back) answer d e = inl (subst (λ a. Decision old b a new) (sym e) d)
said_err old new b (refusal.NoMemory back) answer d e = inr (e, d)

-- what is said of a block, and what of its text
module _ (v : Verdicts) (c : Chain) (bytes : List ℕ) (b : Block) (text : IsTextOf bytes b) (only : (d : Block) → IsTextOf bytes d → b ≡ d) (short : length bytes ≤ longest_block) where
  to_raw : (r : Rule) → Holds v c b r → HoldsRaw v c bytes r
  to_raw X01 h = short
  to_raw P01 h = (b, text)
  to_raw r h = λ d t. let P : Block → Type 0 = λ x. Holds v c x r in subst P (only d t) h

  from_raw : (r : Rule) → HoldsRaw v c bytes r → Holds v c b r
  from_raw X01 h = tt
  from_raw P01 h = tt
  from_raw r h = h b text

  pub first_raw : (answer : Option Rule) → FirstBroken v c b answer → FirstBrokenRaw v c bytes answer
  first_raw answer f =
      IsFirst_from_FirstOf (HoldsRaw v c bytes) table_rules answer
      (FirstOf_same (Holds v c b) (HoldsRaw v c bytes) to_raw from_raw table_rules answer (FirstOf_from_IsFirst (Holds v c b) table_rules answer f))

-- no block breaks the rule that its bytes are a block
names_rule : (v : Verdicts) (c : Chain) (old new : Branches) (bytes answer : List ℕ) (b : Block) (rule : Rule) → FirstBroken v c b (Some rule) → Only (refused_answer (code_text rule)) old answer new → RefusedBy bytes rule old answer new
names_rule v c old new bytes answer b P01 f only = absurd (f.fails tt)
names_rule v c old new bytes answer b rule f only = only

decides_raw : (old new : Branches) (bytes answer : List ℕ) (b : Block) → IsTextOf bytes b → (broken : Option Rule) → FirstBroken old.verdicts old.chain b broken → MatchOption broken (Joins old b answer new) (λ rule. Only (refused_answer (code_text rule)) old answer new) → MatchOption broken (Accepts bytes old answer new) (λ rule. RefusedBy bytes rule old answer new)
decides_raw old new bytes answer b text None f joins = (b, text, joins.0, joins.1)
decides_raw old new bytes answer b text (Some rule) f only = names_rule old.verdicts old.chain old new bytes answer b rule f only

pub decision_raw : (old new : Branches) (bytes answer : List ℕ) (b : Block) → IsTextOf bytes b → ((d : Block) → IsTextOf bytes d → b ≡ d) → length bytes ≤ longest_block → Decision old b answer new → BlockTurn old bytes answer new
decision_raw old new bytes answer b text only short d = record {
  broken = d.broken;
  first = first_raw old.verdicts old.chain bytes b text only short d.broken d.first;
  decides = decides_raw old new bytes answer b text d.broken d.first d.decides;
}

pub decided_raw : (old new : Branches) (bytes answer : List ℕ) (b : Block) → IsTextOf bytes b → ((d : Block) → IsTextOf bytes d → b ≡ d) → length bytes ≤ longest_block → Decided old b answer new → ShortBlockActs old bytes answer new
decided_raw old new bytes answer b text only short (inl d) = inl (decision_raw old new bytes answer b text only short d)
decided_raw old new bytes answer b text only short (inr lack) = inr lack

-- bytes that are no block
pub unread_raw : (old : Branches) (bytes answer : List ℕ) (line : ℕ) → ((d : Block) → IsTextOf bytes d → ⊥) → length bytes ≤ longest_block → IsRefusedLine bytes line → answer ≡ unread_answer line → ShortBlockActs old bytes answer old
unread_raw old bytes answer line none short refused e =
    inl (record {
      broken = Some P01;
      first = record { before = X01 ∷ []; after = drop 2 table_rules; stands = refl; passed = (short, tt); fails = λ h. none h.0 h.1 };
      decides = (line, refused, (e, refl));
    })
