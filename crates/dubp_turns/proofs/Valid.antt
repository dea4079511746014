-- Chains that stay valid behind each command.
use Rattle.std.proofs.Common.{◌≡◌, ◌≤◌, zero, suc, List, [], ◌∷◌, ◌++◌, drop, length, None, Result, Ok, Err, refl, subst, sym, ap, ℕ}
use Rattle.std.specs.List.{AllByRecursion}
use Rattle.dubp_block.specs.Text.{IsBlock, block_text}
use Rattle.dubp_block.specs.declared.block.Block.{Block}
use Rattle.dubp_chain.specs.Chains.{Chain}
use Rattle.dubp_verdict.specs.Verdicts.{Verdict, Verdicts, with_verdict}
use Rattle.dubp_verdict.proofs.Sets.{with_verdict-within}
use Rattle.dubp_validity.specs.Rules.{FirstBroken, IsValid, longest_block}
use Rattle.dubp_laws.proofs.MoreVerdicts.{valid_more}
use Rattle.dubp_atoms.specs.declared.stamp.Stamp.{Stamp}
use Rattle.dubp_replay.specs.Turns.{Branches, IsAcceptedOn}
use Rattle.dubp_forks.specs.Switches.{Switched}
use Rattle.dubp_forks.specs.declared.refusals.SwitchRefusal.{SwitchRefusal}
use Rattle.dubp_forks.specs.declared.refusals.SwitchRefusal.TheVariants.{Unknown, Detached, TooDeep, Full, Refused, NoMemory}
use Rattle.dubp_turns.proofs.Decisions.{first_raw}

-- different blocks have different texts
abbrev pub HaveOneText : Type 0
HaveOneText = (b d : Block) → IsBlock b → IsBlock d → block_text b ≡ block_text d → b ≡ d

pub valid_with : (t : Verdict) (v : Verdicts) (c : Chain) → IsValid v c → IsValid (with_verdict t v) c
valid_with t v c valid = valid_more v (with_verdict t v) (with_verdict-within t v) c valid

pub valid_drop : (v : Verdicts) (c : Chain) (n : ℕ) → IsValid v c → IsValid v (drop n c)
valid_drop v c zero valid = valid
valid_drop v [] (suc n) valid = tt
valid_drop v (b ∷ c) (suc n) valid = valid_drop v c n valid.2

-- a block that breaks no rule joins the chain
pub valid_joined : HaveOneText → (v : Verdicts) (c : Chain) (b : Block) → IsBlock b → length (block_text b) ≤ longest_block → FirstBroken v c b None → IsValid v c → IsValid v (b ∷ c)
valid_joined one v c b is short first valid =
    (first_raw v c (block_text b) b (record { is = is; text = refl }) (λ d t. one b d is t.is t.text) short None first, is, valid)

-- and so do those of a path, one after another
pub valid_onto : HaveOneText → (v : Verdicts) (c : Chain) (path : List Block) → IsAcceptedOn v c path → AllByRecursion IsBlock (path ++ c) → AllByRecursion (λ b. length (block_text b) ≤ longest_block) (path ++ c) → IsValid v c → IsValid v (path ++ c)
valid_onto one v c [] passed are short valid = valid
valid_onto one v c (b ∷ path) passed are short valid =
    valid_joined one v (path ++ c) b are.0 short.0 passed.0 (valid_onto one v c path passed.1 are.1 short.1 valid)

-- and so does what a switch leaves, whatever came of it
pub valid_switched : HaveOneText → (old : Branches) (stamp : Stamp) (r : Result (Unit {0}) SwitchRefusal) (new : Branches) → Switched old stamp r new → AllByRecursion IsBlock new.chain → AllByRecursion (λ b. length (block_text b) ≤ longest_block) new.chain → IsValid old.verdicts old.chain → IsValid old.verdicts new.chain
valid_switched one old stamp (Ok done) new s are short valid =
    let path = s.0 in
    let count = s.1 in
    let chain : new.chain ≡ path ++ drop count old.chain = ap (λ (b : Branches). b.chain) s.4 in
    subst (IsValid old.verdicts) (sym chain)
    (valid_onto one old.verdicts (drop count old.chain) path s.3 (subst (AllByRecursion IsBlock) chain are) (subst (AllByRecursion (λ b. length (block_text b) ≤ longest_block)) chain short) (valid_drop old.verdicts old.chain count valid))
valid_switched one old stamp (Err Unknown) new s are short valid = subst (λ (b : Branches). IsValid old.verdicts b.chain) (sym s.1) valid
valid_switched one old stamp (Err (Detached at)) new s are short valid = subst (λ (b : Branches). IsValid old.verdicts b.chain) (sym s.3) valid
valid_switched one old stamp (Err (TooDeep kept)) new s are short valid = subst (λ (b : Branches). IsValid old.verdicts b.chain) (sym s.5) valid
valid_switched one old stamp (Err (Full held)) new s are short valid = subst (λ (b : Branches). IsValid old.verdicts b.chain) (sym s.6) valid
valid_switched one old stamp (Err (Refused at rule)) new s are short valid = subst (λ (b : Branches). IsValid old.verdicts b.chain) (sym s.6) valid
valid_switched one old stamp (Err NoMemory) new s are short valid = subst (λ (b : Branches). IsValid old.verdicts b.chain) (sym s) valid
