-- A block that stands to be judged is asked of people, and of money.
use Rattle.std.proofs.Common.{◌≡◌, ◌∷◌, List, Option, Some, None, map, refl, ap, sym, ◌∙◌, []}
use Rattle.std.specs.Option.{option_map_or}
use Rattle.dubp_params.specs.declared.params.Params.{Params}
use Rattle.dubp_block.specs.declared.block.Block.{Block}
use Rattle.dubp_rules.specs.declared.rule.Rule.{Rule}
use Rattle.dubp_rules.specs.First.{IsFirst}
use Rattle.dubp_rules.proofs.FirstLaws.{IsFirst_from_FirstOf, FirstOf_from_IsFirst, FirstOf_append_found, FirstOf_append_none}
use Rattle.dubp_docs.specs.declared.hashing.TxHashes.{TxHashes}
use Rattle.dubp_chain.specs.declared.head.Head.{Head}
use Rattle.dubp_chain.specs.Chains.{Chain}
use Rattle.dubp_chain.specs.Heads.{head_of, time_of}
use Rattle.dubp_chain.specs.Money.{hashes_in}
use Rattle.dubp_money_rules.proofs.OfMoney.{whole_hashes-all}
use Rattle.dubp_people.specs.OfLeft.{IsAsked}
use Rattle.dubp_people.specs.OfLeft.{Next}
use Rattle.dubp_kept.specs.OfLocal.{all_hashes}
use Rattle.dubp_kept.specs.Judged.{IsToJudge}
use Rattle.dubp_kept.specs.Parts.{people_rules, money_rules, table_parts}

abbrev pub next_to : Head → Params → Next
next_to h p = record { params = p; time = h.median_time }

time_by : (c : Chain) (b : Block) (h : Head) → head_of (b ∷ c) ≡ Some h → h.median_time ≡ time_of (b ∷ c)
time_by c b h e = sym (ap (λ o. option_map_or (λ x. x.median_time) o 0) e)

pub asked_by : (c : Chain) (b : Block) (h : Head) (p : Params) → IsToJudge c b h p → IsAsked c b (next_to h p)
asked_by c b h p j = record {
  sound = j.sound;
  block = j.block;
  is_next = record { params = j.same; time = time_by c b h j.head };
  before = j.before;
}

pub whole_hashes_are : (b : Block) (hashes : List TxHashes) → hashes ≡ all_hashes b → map (λ (h : TxHashes). h.whole) hashes ≡ hashes_in b
whole_hashes_are b hashes e = ap (map (λ (h : TxHashes). h.whole)) e ∙ whole_hashes-all b.currency b.transactions

module _ (Hold : Rule → Type 0) where
  pub people_break : (r : Rule) → IsFirst Hold people_rules (Some r) → IsFirst Hold table_parts (Some r)
  people_break r f = IsFirst_from_FirstOf Hold table_parts (Some r) (FirstOf_append_found Hold people_rules money_rules r (FirstOf_from_IsFirst Hold people_rules (Some r) f))

  pub money_decides : (answer : Option Rule) → IsFirst Hold people_rules None → IsFirst Hold money_rules answer → IsFirst Hold table_parts answer
  money_decides answer f g =
      IsFirst_from_FirstOf Hold table_parts answer
      (FirstOf_append_none Hold people_rules money_rules answer (FirstOf_from_IsFirst Hold people_rules None f) (FirstOf_from_IsFirst Hold money_rules answer g))
