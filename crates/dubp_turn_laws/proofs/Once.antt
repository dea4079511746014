-- A switch has one result.
use Rattle.std.proofs.Common.{◌≡◌, ℕ, List, [], ◌∷◌, ◌++◌, Option, Some, None, drop, refl, sym, ap, subst, ◌∙◌, ◌⊎◌, inl, inr}
use Rattle.std.specs.Option.{MatchOption}
use Rattle.dubp_atoms.specs.declared.stamp.Stamp.{Stamp}
use Rattle.dubp_block.specs.declared.block.Block.{Block}
use Rattle.dubp_block.specs.Text.{stamp_of}
use Rattle.dubp_rules.specs.declared.rule.Rule.{Rule}
use Rattle.dubp_rules.specs.Table.{table_rules}
use Rattle.dubp_rules.proofs.FirstLaws.{FirstOf_from_IsFirst, FirstOf_determined}
use Rattle.dubp_verdict.specs.Verdicts.{Verdicts}
use Rattle.dubp_chain.specs.Chains.{Chain}
use Rattle.dubp_validity.specs.Rules.{FirstBroken, Holds}
use Rattle.dubp_replay.specs.declared.failure.Failure.{Failure}
use Rattle.dubp_replay.specs.Turns.{Branches, BreaksAt, Fails, IsAcceptedOn, IsPath, LeadsOff, State, Succeeds, blocks_behind, branches_of, onward, previous_stamp, switched}
use Rattle.dubp_turn_laws.specs.Laws.{SwitchesOneWay}

-- ---- the path
pub one_path : (store : List Block) (s : Stamp) (path path' : List Block) (end end' : Option Stamp) → IsPath store s path end → IsPath store s path' end' → (path ≡ path') × (end ≡ end')
one_path store s [] [] end end' p q = (refl, p.1 ∙ sym q.1)
one_path store s [] (b ∷ path') end end' p q = let e : None ≡ Some b = sym p.0 ∙ q.0 in absurd cc
one_path store s (b ∷ path) [] end end' p q = let e : None ≡ Some b = sym q.0 ∙ p.0 in absurd cc
one_path store s (b ∷ path) (d ∷ path') end end' p q =
    let e : Some d ≡ Some b = sym q.0 ∙ p.0 in
    let same : d ≡ b = cc in
    let r = subst (λ (x : Block). MatchOption (previous_stamp x) ((path' ≡ []) × (end' ≡ None)) (λ t. IsPath store t path' end')) same q.1 in
    let rest : (path ≡ path') × (end ≡ end') =
    elim (previous_stamp b) as (λ o. MatchOption o ((path ≡ []) × (end ≡ None)) (λ t. IsPath store t path end) → MatchOption o ((path' ≡ []) × (end' ≡ None)) (λ t. IsPath store t path' end') → (path ≡ path') × (end ≡ end')) [
      | None ↦ λ g h. (g.0 ∙ sym h.0, g.1 ∙ sym h.1)
      | Some t ↦ λ g h. one_path store t path path' end end' g h
    ] p.1 r in
    let l = rest.0 in
    let back = sym same in
    ((λ i. back i ∷ l i), rest.1)

record IsOneWay (path path' : List Block) (count count' : ℕ) : Type 0 where
  same_path : path ≡ path'
  same_count : count ≡ count'

one_way : (s : Branches) (stamp : Stamp) (path path' : List Block) (count count' : ℕ) → LeadsOff s stamp path count → LeadsOff s stamp path' count' → IsOneWay path path' count count'
one_way s stamp path path' count count' p q =
    let same = one_path s.store stamp path path' p.end q.end p.is q.is in
    let e : Some count ≡ Some count' = sym p.behind ∙ ap (blocks_behind s.chain) same.1 ∙ q.behind in
    record { same_path = same.0; same_count = cc }

-- ---- the block that breaks a rule
module _ (v : Verdicts) where
  one_first : (c : Chain) (b : Block) (answer other : Option Rule) → FirstBroken v c b answer → FirstBroken v c b other → answer ≡ other
  one_first c b answer other f g =
      FirstOf_determined (Holds v c b) table_rules answer other (FirstOf_from_IsFirst (Holds v c b) table_rules answer f) (FirstOf_from_IsFirst (Holds v c b) table_rules other g)

  module _ (c : Chain) where
    -- the same, down the path: a rule is broken by its first block, or below
    abbrev pub BreaksDown : List Block → Block → Rule → Type 0
    BreaksDown [] b rule = ⊥
    BreaksDown (x ∷ path) b rule = ((b ≡ x) × IsAcceptedOn v c path × FirstBroken v (path ++ c) x (Some rule)) ⊎ BreaksDown path b rule

    down_by : (above below : List Block) (b : Block) (rule : Rule) → IsAcceptedOn v c below → FirstBroken v (below ++ c) b (Some rule) → BreaksDown (above ++ b ∷ below) b rule
    down_by [] below b rule a f = inl (refl, a, f)
    down_by (x ∷ above) below b rule a f = inr (down_by above below b rule a f)

    pub down : (path : List Block) (b : Block) (rule : Rule) → BreaksAt v c path b rule → BreaksDown path b rule
    down path b rule w = subst (λ p. BreaksDown p b rule) (sym w.stands) (down_by w.above w.below b rule w.passed w.breaks)

    pub not_accepted : (path : List Block) (b : Block) (rule : Rule) → BreaksDown path b rule → IsAcceptedOn v c path → ⊥
    not_accepted [] b rule w a = w
    not_accepted (x ∷ path) b rule (inl w) a = let e : Some rule ≡ None = one_first (path ++ c) x (Some rule) None w.2 a.0 in cc
    not_accepted (x ∷ path) b rule (inr w) a = not_accepted path b rule w a.1

    pub one_break : (path : List Block) (b b' : Block) (rule rule' : Rule) → BreaksDown path b rule → BreaksDown path b' rule' → (b ≡ b') × (rule ≡ rule')
    one_break [] b b' rule rule' w w' = absurd w
    one_break (x ∷ path) b b' rule rule' (inl w) (inl w') =
        let e : Some rule ≡ Some rule' = one_first (path ++ c) x (Some rule) (Some rule') w.2 w'.2 in (w.0 ∙ sym w'.0, cc)
    one_break (x ∷ path) b b' rule rule' (inl w) (inr w') = absurd (not_accepted path b' rule' w' w.1)
    one_break (x ∷ path) b b' rule rule' (inr w) (inl w') = absurd (not_accepted path b rule w w'.1)
    one_break (x ∷ path) b b' rule rule' (inr w) (inr w') = one_break path b b' rule rule' w w'

-- ---- the switch
one_success : (old : State) (stamp : Stamp) (new new' : State) → Succeeds old stamp new → Succeeds old stamp new' → new ≡ new'
one_success old stamp new new' a b =
    let same = one_way (branches_of old) stamp a.0 b.0 a.1 b.1 a.2 b.2 in
    let p = same.same_path in
    let n = same.same_count in
    a.4 ∙ (λ i. onward old (switched (branches_of old) (p i) (n i))) ∙ sym b.4

one_failure : (old : State) (f g : Failure) (new new' : State) → Fails old f new → Fails old g new' → f.tip ≡ g.tip → (f ≡ g) × (new ≡ new')
one_failure old f g new new' a b tip =
    let same = one_way (branches_of old) g.tip a.0 b.0 a.1 b.1 (subst (λ s. LeadsOff (branches_of old) s a.0 a.1) tip a.2) b.2 in
    let there : BreaksAt old.verdicts (drop b.1 old.chain) b.0 a.3.0 f.rule =
    subst (λ (n : ℕ). BreaksAt old.verdicts (drop n old.chain) b.0 a.3.0 f.rule) same.same_count
    (subst (λ (p : List Block). BreaksAt old.verdicts (drop a.1 old.chain) p a.3.0 f.rule) same.same_path a.3.2) in
    let breaks = one_break old.verdicts (drop b.1 old.chain) b.0 a.3.0 b.3.0 f.rule g.rule (down old.verdicts (drop b.1 old.chain) b.0 a.3.0 f.rule there) (down old.verdicts (drop b.1 old.chain) b.0 b.3.0 g.rule b.3.2) in
    let at : f.at ≡ g.at = a.3.1 ∙ ap stamp_of breaks.0 ∙ sym b.3.1 in
    let rule = breaks.1 in
    let whole : f ≡ g = λ i. record { tip = tip i; at = at i; rule = rule i } in
    (whole, a.4 ∙ ap (λ (h : Failure). record old { failures = old.failures ++ h ∷ [] }) whole ∙ sym b.4)

not_both : (old : State) (f : Failure) (middle new : State) → Fails old f middle → Succeeds old f.tip new → ⊥
not_both old f middle new a b =
    let same = one_way (branches_of old) f.tip a.0 b.0 a.1 b.1 a.2 b.2 in
    let there : BreaksAt old.verdicts (drop b.1 old.chain) b.0 a.3.0 f.rule =
    subst (λ (n : ℕ). BreaksAt old.verdicts (drop n old.chain) b.0 a.3.0 f.rule) same.same_count
    (subst (λ (p : List Block). BreaksAt old.verdicts (drop a.1 old.chain) p a.3.0 f.rule) same.same_path a.3.2) in
    not_accepted old.verdicts (drop b.1 old.chain) b.0 a.3.0 f.rule (down old.verdicts (drop b.1 old.chain) b.0 a.3.0 f.rule there) b.3

pub switches_once : SwitchesOneWay
switches_once = record { success = one_success; failure = one_failure; either = not_both }
