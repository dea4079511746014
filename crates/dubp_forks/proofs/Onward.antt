-- What one accepted block, or some that are taken back, do to the ledger.
use Rattle.std.proofs.Common.{◌≡◌, ℕ, ◌+◌, ◌-◌, ◌<◌, ◌≤◌, zero, suc, List, [], ◌∷◌, ◌++◌, map, length, take, drop, slice_get, Option, Some, None, IsSome, refl, get_or, true≢false, sym, ap, subst, ◌∙◌, arith}
use Rattle.std.proofs.lemmas.Option.{slice_get-get_or}
use Rattle.std.specs.List.{AllByRecursion}
use Rattle.std.specs.Map.{lookup}
use Rattle.dubp_atoms.specs.Same.{same_stamp}
use Rattle.dubp_atoms.specs.declared.stamp.Stamp.{Stamp}
use Rattle.dubp_block.specs.declared.block.Block.{Block}
use Rattle.dubp_block.specs.Text.{stamp_of}
use Rattle.dubp_chain.specs.Chains.{Chain}
use Rattle.dubp_verdict.specs.Verdicts.{Verdicts}
use Rattle.dubp_validity.specs.Rules.{FirstBroken}
use Rattle.dubp_ledger.specs.OfKept.{KeptChain, Out, kept_of, most_steps, steps_of_last, with_block}
use Rattle.dubp_replay.specs.Turns.{is_stamped, stored}
use Rattle.dubp_forks.specs.Stores.{IsStorable}
use Rattle.dubp_forks.specs.Entries.{AreKept, Entries, blocks_in}
use Rattle.dubp_forks.specs.Switching.{IsLaid, IsOnward, IsWhy, IsWhyNot}
use Rattle.dubp_forks.specs.declared.refusals.SwitchRefusal.{SwitchRefusal}
use Rattle.dubp_forks.specs.declared.refusals.SwitchRefusal.TheVariants.{Unknown, Detached, TooDeep, Full, Refused, NoMemory}
use Rattle.dubp_forks.proofs.Apart.{All-drop, All-found}
use Rattle.dubp_forks.proofs.Kept.{kept_lookup}
use Rattle.dubp_forks.proofs.Cuts.{drop_front}

-- the block of the stamp at a place, with the path around it
record IsAt (path : List Block) (place : ℕ) (key : Stamp) : Type 0 where
  block : Block
  stamp : key ≡ stamp_of block
  behind : drop place path ≡ block ∷ drop (suc place) path
  around : path ≡ take place path ++ block ∷ drop (suc place) path

at_place : (path : List Block) (place : ℕ) (stamp : Stamp) → slice_get (map stamp_of path) place ≡ Some stamp → IsAt path place stamp
at_place [] place stamp e = cc
at_place (b ∷ path) zero stamp e = record { block = b; stamp = cc; behind = refl; around = refl }
at_place (b ∷ path) (suc place) stamp e =
    let rest = at_place path place stamp e in
    record { block = rest.block; stamp = rest.stamp; behind = rest.behind; around = ap (λ l. b ∷ l) rest.around }

-- the block is accepted
onward_more : (v : Verdicts) (old s new : KeptChain) (path : List Block) (b : Block) → IsOnward v old path s → IsSome old.out → FirstBroken v s.chain b None → new ≡ with_block b s → IsOnward v old (b ∷ path) new
onward_more v old s new path b on out keeps joins = record {
  chain = ap (λ (k : KeptChain). k.chain) joins ∙ ap (λ c. b ∷ c) on.chain;
  kept = ap (λ (k : KeptChain). k.kept) joins ∙ ap (λ (x : Option Out). kept_of x (s.kept + 1)) on.out ∙ counted old.out out;
  out = ap (λ (k : KeptChain). k.out) joins ∙ on.out;
  passed = (subst (λ (c : Chain). FirstBroken v c b None) on.chain keeps, on.passed);
}
  where
    counted : (x : Option Out) → IsSome x → kept_of x (s.kept + 1) ≡ old.kept + length (b ∷ path)
    counted None h = absurd (true≢false (sym h))
    counted (Some o) h = let k = on.kept in omega arith

-- why the block was refused is why the path is
names_why : (v : Verdicts) (old s : KeptChain) (path : List Block) (place : ℕ) (stamp : Stamp) (at : IsAt path place stamp) (refusal : SwitchRefusal) → IsOnward v old (drop (suc place) path) s → IsWhy v s.chain at.block refusal → IsWhyNot v old.chain path refusal
names_why v old s path place stamp at (Refused named rule) on why =
    (at.block, why.0, record { above = take place path; below = drop (suc place) path; stands = at.around; passed = on.passed; breaks = subst (λ (c : Chain). FirstBroken v c at.block (Some rule)) on.chain why.1 })
names_why v old s path place stamp at NoMemory on why = tt
names_why v old s path place stamp at Unknown on why = absurd why
names_why v old s path place stamp at (Detached x) on why = absurd why
names_why v old s path place stamp at (TooDeep x) on why = absurd why
names_why v old s path place stamp at (Full x) on why = absurd why

-- the blocks that were accepted leave again
pub taken_back : (v : Verdicts) (old s new : KeptChain) (path : List Block) (count : ℕ) → IsOnward v old path s → count ≡ length path → new.chain ≡ drop count s.chain → new.kept + count ≡ s.kept → new.out ≡ s.out → new ≡ old
taken_back v old s new path count on all chain kept out =
    let c : new.chain ≡ old.chain = chain ∙ ap (λ n. drop n s.chain) all ∙ ap (drop (length path)) on.chain ∙ drop_front path old.chain in
    let k : new.kept ≡ old.kept = omega (arith, kept, on.kept, all) in
    let o : new.out ≡ old.out = out ∙ on.out in
    λ i. record { chain = c i; kept = k i; out = o i }

-- ---- the block at a place of a path
record IsThere (store path : List Block) (place : ℕ) (key : Stamp) : Type 0 where
  at : IsAt path place key
  found : stored store (stamp_of at.block) ≡ Some at.block

laid_at : (store : List Block) (keys : List Stamp) (path : List Block) (place : ℕ) (key : Stamp) → IsLaid store keys path → place < length keys → key ≡ get_or keys place key → IsThere store path place key
laid_at store keys path place key laid within is =
    let told : slice_get keys place ≡ Some key = slice_get-get_or keys place key within ∙ ap (λ (x : Stamp). Some x) (sym is) in
    let at = at_place path place key (sym (ap (λ (l : List Stamp). slice_get l place) laid.stamps) ∙ told) in
    let each = subst (AllByRecursion (λ b. stored store (stamp_of b) ≡ Some b)) at.behind (All-drop (λ b. stored store (stamp_of b) ≡ Some b) place path laid.each) in
    record { at = at; found = each.0 }

-- it can be accepted
may_accept : (entries : Entries) (path : List Block) (place : ℕ) (key : Stamp) (there : IsThere (blocks_in entries) path place key) → AreKept entries → (b : Block) × (lookup (same_stamp key) entries ≡ Some b) × (key ≡ stamp_of b) × IsStorable b
may_accept entries path place key there kept =
    let b = there.at.block in (
      b,
      kept_lookup entries key kept ∙ ap (λ (k : Stamp). stored (blocks_in entries) k) there.at.stamp ∙ there.found,
      there.at.stamp,
      All-found IsStorable (is_stamped (stamp_of b)) (blocks_in entries) b kept.stored.each there.found,
    )

module _ (v : Verdicts) (old s : KeptChain) (entries : Entries) (keys : List Stamp) (path : List Block) (place left : ℕ) (key : Stamp)
    (kept : AreKept entries) (laid : IsLaid (blocks_in entries) keys path) (within : place < length keys) (one : left ≡ suc place) (is : key ≡ get_or keys place key)
    (before : IsOnward v old (drop left path) s) where
  on_before : IsOnward v old (drop (suc place) path) s
  on_before = subst (λ (n : ℕ). IsOnward v old (drop n path) s) one before

  there_is : IsThere (blocks_in entries) path place key
  there_is = laid_at (blocks_in entries) keys path place key laid within is

  pub accept_place : (b : Block) × (lookup (same_stamp key) entries ≡ Some b) × (key ≡ stamp_of b) × IsStorable b
  accept_place = may_accept entries path place key there_is kept

  pub onward_place : (new : KeptChain) → IsSome old.out → ((b : Block) → lookup (same_stamp key) entries ≡ Some b → FirstBroken v s.chain b None × (new ≡ with_block b s)) → IsOnward v old (drop place path) new
  unfolding there_is may_accept
  onward_place new out accepted =
      let there = there_is in
      let b = there.at.block in
      let a = accepted b (may_accept entries path place key there kept).1 in
      subst (λ (l : List Block). IsOnward v old l new) (sym there.at.behind) (onward_more v old s new (drop (suc place) path) b on_before out a.0 a.1)

  pub why_place : (refusal : SwitchRefusal) → ((b : Block) → lookup (same_stamp key) entries ≡ Some b → IsWhy v s.chain b refusal) → IsWhyNot v old.chain path refusal
  unfolding there_is may_accept
  why_place refusal refused =
      let there = there_is in
      names_why v old s path place key there.at refusal on_before (refused there.at.block (may_accept entries path place key there kept).1)

-- the steps of one block more that is accepted
pub one_more_steps : (all left next : ℕ) (k k' : KeptChain) (b : Block) (first before after : ℕ) → left ≡ suc next → left ≤ all → before ≤ first + steps_of_last (all - left) k.chain → k' ≡ with_block b k → after ≤ before + most_steps k.chain b → after ≤ first + steps_of_last (all - next) k'.chain
one_more_steps all left next k k' b first before after one within few grows more =
    let count : all - next ≡ suc (all - left) = omega (arith, one, within) in
    let sum : after ≤ first + (most_steps k.chain b + steps_of_last (all - left) k.chain) = omega (arith, few, more) in
    subst (λ n. after ≤ first + steps_of_last n k'.chain) (sym count) (subst (λ (x : KeptChain). after ≤ first + steps_of_last (suc (all - left)) x.chain) (sym grows) sum)
