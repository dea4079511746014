-- Paths through the stored blocks, and chains whose numbers count.
use Rattle.std.proofs.Common.{◌≡◌, ◌≢◌, ℕ, ◌+◌, ◌-◌, ◌<◌, ◌≤◌, ◌||◌, true, false, List, [], ◌∷◌, ◌++◌, map, find, length, Option, Some, None, option_map, refl, sym, ap, subst, ◌∙◌, arith}
use Rattle.std.proofs.lemmas.List.{append_assoc, append-nil, map-append}
use Rattle.std.specs.List.{AllByRecursion}
use Rattle.std.specs.Option.{MatchOption, option_map_or}
use Rattle.dubp_atoms.specs.Same.{same_stamp}
use Rattle.dubp_atoms.specs.declared.stamp.Stamp.{Stamp}
use Rattle.dubp_block.specs.declared.block.Block.{Block}
use Rattle.dubp_block.specs.Text.{IsBlock, IsPrevious, stamp_of}
use Rattle.dubp_rules.specs.declared.rule.Rule.TheVariants.{G51}
use Rattle.dubp_chain.specs.Chains.{Chain}
use Rattle.dubp_validity.specs.Rules.{IsSound}
use Rattle.dubp_replay.specs.Turns.{IsPath, is_stamped, previous_stamp, stored}
use Rattle.dubp_forks.specs.Stores.{AreStored, IsStorable, has_stamp_of}
use Rattle.dubp_forks.specs.Switching.{LeadsTo}
use Rattle.dubp_forks.proofs.Apart.{AreFound, All-found, All-imp, found_passes}
use Rattle.dubp_forks.proofs.Keyed.{AreApart}
use Rattle.dubp_forks.proofs.Stamps.{number_is, same_is}

-- none of lesser numbers has the stamp
pub none_below : (b : Block) (bs : List Block) → AllByRecursion (λ d. d.number < b.number) bs → has_stamp_of bs b ≡ false
none_below b [] below = refl
none_below b (d ∷ bs) below =
    elim (same_stamp (stamp_of b) (stamp_of d)) as (λ r. same_stamp (stamp_of b) (stamp_of d) ≡ r → (r || has_stamp_of bs b) ≡ false) [
      | true ↦ λ e. let n : b.number ≡ d.number = number_is (stamp_of b) (stamp_of d) e in let l : d.number < b.number = below.0 in absurd (omega arith)
      | false ↦ λ e. none_below b bs below.1
    ] refl

-- ---- chains
pub numbers_below : (c : Chain) → IsSound c → AllByRecursion (λ d. d.number < length c) c
numbers_below [] s = tt
numbers_below (b ∷ c) s =
    let n : b.number ≡ length c = s.0 G51 refl in
    (omega arith, All-imp (λ d. d.number < length c) (λ d. d.number < length (b ∷ c)) (λ d l. omega arith) c (numbers_below c s.1))

pub chain_apart : (c : Chain) → IsSound c → AreApart same_stamp stamp_of c
chain_apart [] s = tt
chain_apart (b ∷ c) s =
    let n : b.number ≡ length c = s.0 G51 refl in
    (none_below b c (All-imp (λ d. d.number < length c) (λ d. d.number < b.number) (λ d l. omega arith) c (numbers_below c s.1)), chain_apart c s.1)

-- ---- paths
-- the stored block of a stamp has it
pub stored_stamp : (store : List Block) (stamp : Stamp) (b : Block) → stored store stamp ≡ Some b → stamp ≡ stamp_of b
stored_stamp store stamp b f = same_is stamp (stamp_of b) (found_passes (is_stamped stamp) store b f)

pub found_itself : (store : List Block) (stamp : Stamp) (b : Block) → stored store stamp ≡ Some b → find (is_stamped (stamp_of b)) store ≡ Some b
found_itself store stamp b f = subst (λ (s : Stamp). stored store s ≡ Some b) (stored_stamp store stamp b f) f

-- the number of the block before is one less
pub falls : (b : Block) → IsBlock b → (before : Stamp) → previous_stamp b ≡ Some before → before.number + 1 ≡ b.number
falls b is before e = by b.previous is.previous e
  where
    by : (p : Option (List ℕ × List ℕ)) → IsPrevious b.number p → option_map (λ p. record { number = b.number - 1; hash = p.0 }) p ≡ Some before → before.number + 1 ≡ b.number
    by None h e = cc
    by (Some (hash, issuer)) h e =
        let n : before.number ≡ b.number - 1 = ap (λ o. option_map_or (λ (s : Stamp). s.number) o 0) (sym e) in
        let some : b.number ≢ 0 = h.0 in
        omega arith

-- each block of a path is the stored one of its stamp, and numbers fall
pub record IsFalling (store : List Block) (most : ℕ) (path : List Block) : Type 0 where
  pub each : AreFound same_stamp stamp_of store path
  pub apart : AreApart same_stamp stamp_of path
  pub low : AllByRecursion (λ b. b.number ≤ most) path

record IsBehind (store : List Block) (number : ℕ) (path : List Block) : Type 0 where
  each : AreFound same_stamp stamp_of store path
  apart : AreApart same_stamp stamp_of path
  low : AllByRecursion (λ d. d.number + 1 ≤ number) path

pub path_falls : (store : List Block) → AllByRecursion IsStorable store → (stamp : Stamp) (path : List Block) (end : Option Stamp) → IsPath store stamp path end → IsFalling store stamp.number path
path_falls store are stamp [] end p = record { each = tt; apart = tt; low = tt }
path_falls store are stamp (b ∷ path) end p =
    let here = stored_stamp store stamp b p.0 in
    let number : stamp.number ≡ b.number = ap (λ (s : Stamp). s.number) here in
    let is : IsBlock b = (All-found IsStorable (is_stamped stamp) store b are p.0).text in
    let rest : IsBehind store b.number path =
    elim (previous_stamp b) as (λ o. previous_stamp b ≡ o → MatchOption o ((path ≡ []) × (end ≡ None)) (λ s. IsPath store s path end) → IsBehind store b.number path) [
      | None ↦ λ e h. subst (IsBehind store b.number) (sym h.0) (record { each = tt; apart = tt; low = tt })
      | Some s ↦ λ e h.
          let f = path_falls store are s path end h in
          let n : s.number + 1 ≡ b.number = falls b is s e in
          record { each = f.each; apart = f.apart; low = All-imp (λ d. d.number ≤ s.number) (λ d. d.number + 1 ≤ b.number) (λ d l. omega arith) path f.low }
    ] refl p.1 in
    record {
      each = (found_itself store stamp b p.0, rest.each);
      apart = (none_below b path (All-imp (λ d. d.number + 1 ≤ b.number) (λ d. d.number < b.number) (λ d l. omega arith) path rest.low), rest.apart);
      low = (omega arith, All-imp (λ d. d.number + 1 ≤ b.number) (λ d. d.number ≤ stamp.number) (λ d l. omega arith) path rest.low);
    }

-- ---- the walk along a path
-- what leads on from a path ends so
abbrev pub Ends : List Block → Option Stamp → List Block → Option Stamp → Type 0
Ends store next rest end = MatchOption next ((rest ≡ []) × (end ≡ None)) (λ s. IsPath store s rest end)

-- these are the stamps of the path so far, and the next
pub record IsOnPath (store : List Block) (stamp : Stamp) (keys : List Stamp) (next : Option Stamp) : Type 0 where
  pub path : List Block
  pub stamps : keys ≡ map stamp_of path
  pub goes : (rest : List Block) (end : Option Stamp) → Ends store next rest end → IsPath store stamp (path ++ rest) end

-- a stored block, and the stamp before it
record IsStep (store : List Block) (at : Stamp) (earlier : Option Stamp) : Type 0 where
  block : Block
  found : stored store at ≡ Some block
  before : previous_stamp block ≡ earlier

step_of : (store : List Block) (at : Stamp) (before : Option Stamp) → Some before ≡ option_map previous_stamp (stored store at) → IsStep store at before
step_of store at before e = by (stored store at) refl e
  where
    by : (o : Option Block) → stored store at ≡ o → Some before ≡ option_map previous_stamp o → IsStep store at before
    by None f e = cc
    by (Some b) f e = record { block = b; found = f; before = cc }

pub on_more : (store : List Block) (stamp : Stamp) (stamps : List Stamp) (at : Stamp) (before : Option Stamp) → IsOnPath store stamp stamps (Some at) → Some before ≡ option_map previous_stamp (stored store at) → IsOnPath store stamp (stamps ++ at ∷ []) before
on_more store stamp stamps at before on e =
    let step = step_of store at before e in
    let b = step.block in
    record {
      path = on.path ++ b ∷ [];
      stamps = ap (λ l. l ++ at ∷ []) on.stamps ∙ ap (λ (s : Stamp). map stamp_of on.path ++ s ∷ []) (stored_stamp store at b step.found) ∙ sym (map-append stamp_of on.path (b ∷ []));
      goes = λ rest end h.
          subst (λ (p : List Block). IsPath store stamp p end) (sym (append_assoc on.path (b ∷ []) rest))
          (on.goes (b ∷ rest) end (step.found, subst (λ (o : Option Stamp). Ends store o rest end) (sym step.before) h));
    }

pub on_ends : (store : List Block) (stamp : Stamp) (stamps : List Stamp) (next : Option Stamp) → IsOnPath store stamp stamps next → Ends store next [] next → LeadsTo store stamp stamps next
on_ends store stamp stamps next on h = record {
  path = on.path;
  stamps = on.stamps;
  is = subst (λ (p : List Block). IsPath store stamp p next) (append-nil on.path) (on.goes [] next h);
}

pub none_stored : (o : Option Block) → None ≡ option_map previous_stamp o → o ≡ None
none_stored None e = refl
none_stored (Some b) e = cc

-- how far it is to block 0 at most
abbrev pub left_from : Option Stamp → ℕ
left_from next = option_map_or (λ (s : Stamp). s.number + 1) next 0

pub left_falls : (store : List Block) → AreStored store → (at : Stamp) (before : Option Stamp) → Some before ≡ option_map previous_stamp (stored store at) → left_from before < at.number + 1
left_falls store are at before e = by before (step_of store at before e)
  where
    by : (before : Option Stamp) → IsStep store at before → left_from before < at.number + 1
    by None step = omega arith
    by (Some s) step =
        let b = step.block in
        let number : at.number ≡ b.number = ap (λ (s : Stamp). s.number) (stored_stamp store at b step.found) in
        let n : s.number + 1 ≡ b.number = falls b (All-found IsStorable (is_stamped at) store b are.each step.found).text s step.before in
        omega arith
