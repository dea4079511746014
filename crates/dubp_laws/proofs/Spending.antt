-- A block of a sound chain pays: what it makes is new, and what it spends is at hand, none of it twice. What is used or cleared
-- on a chain was made on it, so that nothing new is gone already.
use Rattle.std.proofs.Common.{◌≡◌, Bool, true, false, cond, ◌||◌, IsTrue, List, [], ◌∷◌, ◌++◌, Some, filter, refl, ap, sym, ◌∙◌, subst, true≢false, inl, inr, append_assoc}
use Rattle.std.specs.Prelude.{⊤, find}
use Rattle.std.specs.Option.{IsSomeAnd}
use Rattle.std.specs.List.{AllByRecursion, list_any, flat_map}
use Rattle.std.proofs.lemmas.List.Elements.{filter-append}
use Rattle.dubp_cond.specs.declared.source.SourceId.{SourceId}
use Rattle.dubp_cond.specs.declared.source.Input.{Input}
use Rattle.dubp_cond.specs.declared.tx.Tx.{Tx}
use Rattle.dubp_block.specs.declared.block.Block.{Block}
use Rattle.dubp_rules.specs.declared.rule.Rule.TheVariants.{L21, L23, G87}
use Rattle.dubp_chain.specs.Chains.{Chain}
use Rattle.dubp_chain.specs.Members.{members}
use Rattle.dubp_chain.specs.Heads.{head_of, time_of}
use Rattle.dubp_chain.specs.Money.{Source, same_source, named_by, used, among, is_left, inputs_of, outputs_made, dividends_at, made_by, made_sources, cleared, cleared_by, unspent}
use Rattle.dubp_validity.specs.LocalRules.{SourcesStandOnce, TransactionsAreBalanced}
use Rattle.dubp_validity.specs.MoneyRules.{EachMay, is_spent_by, spent}
use Rattle.dubp_validity.specs.Rules.{KeepsUnsigned, IsSound}
use Rattle.dubp_lists.proofs.Elements.{and_left, is_false, IsIn, in_left, in_right, in_append, in_all, all_more, all_append, any_left, any_in, in_filter, filter_on, filter_true}
use Rattle.dubp_laws.proofs.Sources.{same_source_is, same_source_own, SourcesApart}
use Rattle.dubp_laws.proofs.MadeOnce.{old_apart, made_sources-once}

-- what was left of the chain c, and what b makes
abbrev pub at_hand : Chain → Block → List Source
at_hand c b = unspent c ++ made_by c b

-- the input has a source among these
abbrev pub is_there : List Source → Input → Bool
is_there sources input = list_any (is_spent_by input) sources

-- ---- what is spent is at hand

pub found_any : {X : Type 0} (p : X → Bool) (xs : List X) → IsSomeAnd (find p xs) (λ x. ⊤) → list_any p xs ≡ true
found_any p [] some = absurd some
found_any p (x ∷ xs) some =
    elim (p x) as (λ b. IsSomeAnd (cond b (Some x) (find p xs)) (λ x. ⊤) → (b || list_any p xs) ≡ true) [
      | true ↦ λ _. refl
      | false ↦ λ later. found_any p xs later
    ] some

abbrev pub AreThere : Tx → List Source → Type 0
AreThere tx sources = AllByRecursion (λ input. IsSomeAnd (spent sources input) (λ s. ⊤)) tx.inputs

-- what is an output of an earlier transaction is one of all outputs
all_there : (outputs : Tx → List Source) (sources : List Source) (txs : List Tx) → EachMay AreThere outputs sources txs
    → AllByRecursion (λ i. is_there (sources ++ flat_map outputs txs) i ≡ true) (flat_map (λ tx. tx.inputs) txs)
all_there outputs sources [] there = tt
all_there outputs sources (tx ∷ txs) there =
    all_append (λ i. is_there (sources ++ flat_map outputs (tx ∷ txs)) i ≡ true) tx.inputs (flat_map (λ tx. tx.inputs) txs)
    (all_more _ (λ i. is_there (sources ++ flat_map outputs (tx ∷ txs)) i ≡ true)
    (λ i h. any_left (is_spent_by i) sources (flat_map outputs (tx ∷ txs)) (found_any (is_spent_by i) sources h)) tx.inputs there.0)
    (subst (λ l. AllByRecursion (λ i. is_there l i ≡ true) (flat_map (λ tx. tx.inputs) txs))
    (append_assoc sources (outputs tx) (flat_map outputs txs))
    (all_there outputs (sources ++ outputs tx) txs there.1))

-- and so it is where more sources are behind the outputs
there_more : (outputs : Tx → List Source) (sources more : List Source) (txs : List Tx) → EachMay AreThere outputs sources txs
    → AllByRecursion (λ i. is_there (sources ++ (flat_map outputs txs ++ more)) i ≡ true) (flat_map (λ tx. tx.inputs) txs)
there_more outputs sources more txs there =
    all_more _ (λ i. is_there (sources ++ (flat_map outputs txs ++ more)) i ≡ true)
    (λ i h. subst (λ l. is_there l i ≡ true) (append_assoc sources (flat_map outputs txs) more)
    (any_left (is_spent_by i) (sources ++ flat_map outputs txs) more h))
    (flat_map (λ tx. tx.inputs) txs) (all_there outputs sources txs there)

inputs_there : (c : Chain) (b : Block) → KeepsUnsigned c b → AllByRecursion (λ i. is_there (at_hand c b) i ≡ true) (inputs_of b)
inputs_there c b keeps =
    there_more (outputs_made (time_of (b ∷ c)) b.currency) (unspent c) (dividends_at b.number (head_of (b ∷ c)) (members (b ∷ c))) b.transactions (keeps G87 refl)

-- ---- what is used or cleared was made

-- a source of the list has this name
abbrev IsMade : List Source → SourceId → Type 0
IsMade sources id = (x : Source) × IsIn x sources × (x.id ≡ id)

-- an input of the chain names it: the input is one of the last block, whose source was at hand, or one of an earlier block
used_made : (c : Chain) → IsSound c → (s : Source) → used c s ≡ true → IsMade (made_sources c) s.id
used_made [] sound s is = absurd (true≢false (sym is))
used_made (b ∷ c) sound s is =
    elim (list_any (λ input. named_by input s) (inputs_of b)) as (λ r. list_any (λ input. named_by input s) (inputs_of b) ≡ r → (r || used c s) ≡ true → IsMade (made_sources (b ∷ c)) s.id) [
      | true ↦ λ here _.
          let i = any_in (λ input. named_by input s) (inputs_of b) here in
          let found = any_in (is_spent_by i.0) (at_hand c b) (in_all _ (inputs_of b) (inputs_there c b sound.0) i.0 i.1) in
          let x = found.0 in (
            x,
            elim (in_append x (unspent c) (made_by c b) found.1) [
              | inl old ↦ in_left x (made_sources c) (made_by c b) (in_filter (is_left c (cleared c)) (made_sources c) x old).0
              | inr new ↦ in_right x (made_sources c) (made_by c b) new
            ],
            same_source_is _ _ (and_left (named_by i.0 x) _ found.2) ∙ sym (same_source_is _ _ i.2),
          )
      | false ↦ λ _ before. let h = used_made c sound.1 s before in (h.0, in_left h.0 (made_sources c) (made_by c b) h.1, h.2)
    ] refl is

-- what is cleared is chosen from what was made
cleared_made : (c : Chain) (x : Source) → IsIn x (cleared c) → IsIn x (made_sources c)
cleared_made [] x there = there
cleared_made (b ∷ c) x there =
    elim (in_append x (cleared c) (cleared_by c b (cleared c)) there) [
      | inl old ↦ in_left x (made_sources c) (made_by c b) (cleared_made c x old)
      | inr new ↦ (in_filter _ (made_sources (b ∷ c)) x (in_filter _ _ x new).0).0
    ]

-- ---- a block that pays

-- it makes new sources alone, spends what is at hand, none of it twice, and what it makes by transactions is what it spends
pub record Pays (c : Chain) (b : Block) : Type 0 where
  pub once : SourcesApart (made_sources (b ∷ c))
  pub fresh : (s : Source) → IsIn s (made_by c b) → (used c s ≡ false) × (among (cleared c) s ≡ false)
  pub inputs_once : SourcesStandOnce b
  pub there : AllByRecursion (λ i. IsTrue (is_there (at_hand c b) i)) (inputs_of b)
  pub balanced : TransactionsAreBalanced b

-- a new source that is gone already would have the name of an old one, and no new source has
pub pays : (c : Chain) (b : Block) → IsSound (b ∷ c) → Pays c b
pays c b sound = record {
  once = made_sources-once (b ∷ c) sound;
  fresh = λ s new. (not_used s new, not_cleared s new);
  inputs_once = sound.0 L21 refl;
  there = inputs_there c b sound.0;
  balanced = sound.0 L23 refl;
}
  where
    not_made : (s : Source) → IsIn s (made_by c b) → IsMade (made_sources c) s.id → ⊥
    not_made s new made =
        true≢false (sym (subst (λ id. same_source id s.id ≡ true) (sym made.2) (same_source_own s.id)) ∙ old_apart c b sound made.0 s made.1 new)

    not_used : (s : Source) → IsIn s (made_by c b) → used c s ≡ false
    not_used s new = is_false (used c s) (λ is. not_made s new (used_made c sound.1 s is))

    not_cleared : (s : Source) → IsIn s (made_by c b) → among (cleared c) s ≡ false
    not_cleared s new =
        is_false (among (cleared c) s) (λ is. let h = any_in (λ other. same_source s.id other.id) (cleared c) is in
        not_made s new (h.0, cleared_made c h.0 h.1, sym (same_source_is _ _ h.2)))

-- what is at hand is what c left of all that was made with b
pub at_hand-is : (c : Chain) (b : Block) → Pays c b → filter (is_left c (cleared c)) (made_sources (b ∷ c)) ≡ at_hand c b
at_hand-is c b p =
    filter-append (is_left c (cleared c)) (made_sources c) (made_by c b)
    ∙ ap (λ l. unspent c ++ l) (filter_on (is_left c (cleared c)) (λ s. true) (made_by c b) (λ s there. let h = p.fresh s there in rw (h.0, h.1)) ∙ filter_true (made_by c b))
