-- The block of an earlier line is found by its number, and with it the time when the line was written.
use Rattle.std.proofs.Common.{◌≡◌, ℕ, suc, ◌<◌, Bool, true, false, cond, List, [], ◌∷◌, length, Option, None, Some, refl, sym, ap, subst, ◌∙◌, arith}
use Rattle.std.specs.Prelude.{find, option_map, ◌==◌}
use Rattle.std.specs.Option.{option_or, option_map_or}
use Rattle.std.proofs.lemmas.Bool.{ne_eqb, eq-eqb}
use Rattle.dubp_rules.specs.declared.rule.Rule.TheVariants.{G51}
use Rattle.dubp_block.specs.declared.block.Block.{Block}
use Rattle.dubp_chain.specs.declared.head.Head.{Head}
use Rattle.dubp_chain.specs.Words.{last_of}
use Rattle.dubp_chain.specs.Chains.{Chain, params}
use Rattle.dubp_chain.specs.Members.{members}
use Rattle.dubp_chain.specs.Heads.{heads_of, next_head, time_of}
use Rattle.dubp_chain.specs.Made.{head_numbered}
use Rattle.dubp_chain.specs.People.{Written, written_in, written_time, last_line}
use Rattle.dubp_facts.specs.OfValidity.{IsSound}
use Rattle.dubp_facts.proofs.Numbered.{next-number}

abbrev newest_head : Block → Chain → Head
newest_head b c = next_head (params (b ∷ c)) (length (members (b ∷ c))) (heads_of c) b

head_number : (b : Block) (c : Chain) → (newest_head b c).number ≡ b.number
head_number b c = next-number (params (b ∷ c)) (length (members (b ∷ c))) (heads_of c) b

module _ {Line : Type 0} (lines : Block → List Line) (test : Line → Bool) where
  -- its number is below those of the blocks to come
  written-below : (c : Chain) → IsSound c → (w : Written Line) → last_line lines test c ≡ Some w → w.block.number < length c
  written-below [] s w e = cc
  written-below (b ∷ c) s w e =
      let number : b.number ≡ length c = s.0 G51 refl in
      elim (last_of test (lines b)) as (λ o. option_or (option_map (written_in b c) o) (last_line lines test c) ≡ Some w → w.block.number < suc (length c)) [
        | Some x ↦ λ is.
            let same : b.number ≡ w.block.number = ap (λ o. option_map_or (λ (v : Written Line). v.block.number) o 0) is in
            omega (arith, number, same)
        | None ↦ λ is. omega (arith, written-below c s.1 w is)
      ] e

  pub written-time : (c : Chain) → IsSound c → (w : Written Line) → last_line lines test c ≡ Some w → option_map (λ h. h.median_time) (head_numbered c w.block.number) ≡ Some (written_time w)
  written-time [] s w e = cc
  written-time (b ∷ c) s w e =
      let number : b.number ≡ length c = s.0 G51 refl in
      elim (last_of test (lines b)) as (λ o. option_or (option_map (written_in b c) o) (last_line lines test c) ≡ Some w → option_map (λ h. h.median_time) (head_numbered (b ∷ c) w.block.number) ≡ Some (written_time w)) [
        | Some x ↦ λ is.
            let here : option_map (λ h. h.median_time) (head_numbered (b ∷ c) b.number) ≡ Some (time_of (b ∷ c)) = rw (eq-eqb (newest_head b c).number b.number (head_number b c)) refl in
            here_is x is here
        | None ↦ λ is.
            let below = written-below c s.1 w is in
            let other : ((newest_head b c).number == w.block.number) ≡ false = ne_eqb (newest_head b c).number w.block.number (λ same. omega (arith, below, number, same, head_number b c)) in
            rw other (written-time c s.1 w is)
      ] e
    where
      here_is : (x : Line) → Some (written_in b c x) ≡ Some w → option_map (λ h. h.median_time) (head_numbered (b ∷ c) b.number) ≡ Some (time_of (b ∷ c)) → option_map (λ h. h.median_time) (head_numbered (b ∷ c) w.block.number) ≡ Some (written_time w)
      here_is x is here =
          let same : written_in b c x ≡ w = cc in
          subst (λ (v : Written Line). option_map (λ h. h.median_time) (head_numbered (b ∷ c) v.block.number) ≡ Some (written_time v)) same here
