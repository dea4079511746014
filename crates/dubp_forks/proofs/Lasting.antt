-- Blocks that are stored behind others, and what a switch leaves.
use Rattle.std.proofs.Common.{◌≡◌, ℕ, ◌+◌, ◌-◌, ◌≤◌, false, not, List, [], ◌∷◌, ◌++◌, filter, find, length, take, drop, reverse, Option, Some, None, is_some, true≢false, refl, sym, ap, subst, ◌∙◌, arith, append_assoc, length-append, take-append-drop}
use Rattle.std.proofs.lemmas.List.{length-reverse}
use Rattle.std.specs.List.{AllByRecursion}
use Rattle.std.specs.Map.{lookup}
use Rattle.indexmap.specs.IndexMap.{insert_entry}
use Rattle.indexmap.proofs.MapLemmas.{absent_from_lookup, insert_entry-absent}
use Rattle.dubp_atoms.specs.Same.{same_stamp}
use Rattle.dubp_atoms.specs.declared.stamp.Stamp.{Stamp}
use Rattle.dubp_block.specs.declared.block.Block.{Block}
use Rattle.dubp_block.specs.Text.{stamp_of}
use Rattle.dubp_chain.specs.Chains.{Chain}
use Rattle.dubp_validity.specs.Rules.{IsSound}
use Rattle.dubp_replay.specs.Turns.{is_on, most_stored}
use Rattle.dubp_forks.specs.Entries.{Entries, entries_of, entry_of}
use Rattle.dubp_forks.specs.Stores as stores
use Rattle.dubp_forks.specs.Stores.{AreOutside, AreStored, IsStorable, has_stamp_of}
use Rattle.dubp_forks.proofs.Apart.{All-append, All-filter, All-reverse, All-take, All-AreFound, AreApart-append, AreApart-filter, AreApart-front, AreApart-reverse, AreApart-split, AreFound, AreOff, AreOff-append, AreOff-back, AreOff-filter, AreOff-front, AreOff-reverse, AreOff-symm, find_any, length_left}
use Rattle.dubp_forks.proofs.Keyed.{AreApart, is_keyed, is_one_of, lookup-keyed}
use Rattle.dubp_forks.proofs.Kept.{map_append}
use Rattle.dubp_forks.proofs.Paths.{chain_apart}
use Rattle.dubp_forks.proofs.Stamps.{apart_of, of_apart, stamps}
use Rattle.dubp_forks.proofs.Cuts.{cut_at, length_take}

none_found : {X : Type 0} (o : Option X) → is_some o ≡ false → o ≡ None
none_found None e = refl
none_found (Some x) e = absurd (true≢false e)

-- ---- one block behind others
absent : (bs : List Block) (b : Block) → is_one_of same_stamp stamp_of bs b ≡ false → lookup (same_stamp (stamp_of b)) (entries_of bs) ≡ None
absent bs b off =
    lookup-keyed same_stamp stamp_of (stamp_of b) bs
    ∙ none_found (find (is_keyed same_stamp stamp_of (stamp_of b)) bs) (find_any (is_keyed same_stamp stamp_of (stamp_of b)) bs ∙ off)

off_last : (bs : List Block) (b : Block) (rest : List Block) → stores.AreApart (bs ++ b ∷ rest) → is_one_of same_stamp stamp_of bs b ≡ false
off_last bs b rest apart =
    let off = AreApart-split same_stamp stamp_of bs (b ∷ rest) (apart_of (bs ++ b ∷ rest) apart) in
    (AreOff-symm same_stamp stamp_of stamps bs (b ∷ rest) off).0

one_last : (bs rest : List Block) (b : Block) → stores.AreApart (bs ++ b ∷ rest) → insert_entry same_stamp (entries_of bs) (stamp_of b) b ≡ entries_of bs ++ entry_of b ∷ []
one_last bs rest b apart =
    insert_entry-absent same_stamp (stamp_of b) b (entries_of bs) (absent_from_lookup (same_stamp (stamp_of b)) (entries_of bs) (absent bs b (off_last bs b rest apart)))

-- one more of some that are put last
pub more_last : (store added : List Block) (done back rows next : Entries) (entry : Stamp × Block) → entries_of added ≡ done ++ entry ∷ back → stores.AreApart (store ++ added) → rows ≡ entries_of store ++ done → next ≡ insert_entry same_stamp rows entry.0 entry.1
    → next ≡ entries_of store ++ (done ++ entry ∷ [])
more_last store added done back rows next entry parts apart are is =
    let cut = cut_at stamp_of added done entry back parts in
    let b = cut.block in
    let front : rows ≡ entries_of (store ++ cut.before) = are ∙ ap (λ l. entries_of store ++ l) cut.front_is ∙ sym (map_append entry_of store cut.before) in
    let whole : store ++ added ≡ (store ++ cut.before) ++ b ∷ cut.after = ap (λ l. store ++ l) cut.parts ∙ sym (append_assoc store cut.before (b ∷ cut.after)) in
    is
    ∙ ap (λ (e : Stamp × Block). insert_entry same_stamp rows e.0 e.1) cut.entry_is
    ∙ ap (λ es. insert_entry same_stamp es (stamp_of b) b) front
    ∙ one_last (store ++ cut.before) cut.after b (subst stores.AreApart whole apart)
    ∙ ap (λ es. es ++ entry_of b ∷ []) (sym front ∙ are)
    ∙ append_assoc (entries_of store) done (entry_of b ∷ [])
    ∙ ap (λ (e : Stamp × Block). entries_of store ++ (done ++ e ∷ [])) (sym cut.entry_is)

-- ---- what a switch leaves
module _ (store path : List Block) (c : Chain) (count : ℕ) (are : AreStored store) (sound : IsSound c) (out : AreOutside store c) where
  off_chain : AreOff same_stamp stamp_of (filter (λ b. not (is_on path b)) store) c
  off_chain = All-filter (λ b. has_stamp_of c b ≡ false) (λ b. not (is_on path b)) store out

  parted : take count c ++ drop count c ≡ c
  parted = take-append-drop count c

  off_taken : AreOff same_stamp stamp_of (filter (λ b. not (is_on path b)) store) (take count c)
  off_taken = AreOff-front same_stamp stamp_of (filter (λ b. not (is_on path b)) store) (take count c) (drop count c) (subst (AreOff same_stamp stamp_of (filter (λ b. not (is_on path b)) store)) (sym parted) off_chain)

  chain_parts : AreApart same_stamp stamp_of (take count c ++ drop count c)
  chain_parts = subst (AreApart same_stamp stamp_of) (sym parted) (chain_apart c sound)

  pub left_apart : stores.AreApart (filter (λ b. not (is_on path b)) store ++ reverse (take count c))
  left_apart =
      of_apart (filter (λ b. not (is_on path b)) store ++ reverse (take count c))
      (AreApart-append same_stamp stamp_of (filter (λ b. not (is_on path b)) store) (reverse (take count c))
      (AreApart-filter same_stamp stamp_of (λ b. not (is_on path b)) store (apart_of store are.apart))
      (AreApart-reverse same_stamp stamp_of stamps (take count c) (AreApart-front same_stamp stamp_of (take count c) (drop count c) chain_parts))
      (AreOff-reverse same_stamp stamp_of (filter (λ b. not (is_on path b)) store) (take count c) off_taken))

  pub left_storable : AllByRecursion IsStorable c → AllByRecursion IsStorable (filter (λ b. not (is_on path b)) store ++ reverse (take count c))
  left_storable each =
      All-append IsStorable (filter (λ b. not (is_on path b)) store) (reverse (take count c))
      (All-filter IsStorable (λ b. not (is_on path b)) store are.each)
      (All-reverse IsStorable (take count c) (All-take IsStorable count c each))

  pub left_few : AreFound same_stamp stamp_of store path → AreApart same_stamp stamp_of path → (length store - length path) + count ≤ most_stored → length (filter (λ b. not (is_on path b)) store ++ reverse (take count c)) ≤ most_stored
  left_few found apart fits =
      omega (arith, length_left same_stamp stamp_of stamps path store (apart_of store are.apart) apart found, length-append (filter (λ b. not (is_on path b)) store) (reverse (take count c)), length-reverse (take count c), length_take count c, fits)

  -- none of them is in the chain that stands then
  pub left_outside : AreFound same_stamp stamp_of store path → AreOutside (filter (λ b. not (is_on path b)) store ++ reverse (take count c)) (path ++ drop count c)
  left_outside found =
      let below = AreOff-back same_stamp stamp_of (filter (λ b. not (is_on path b)) store) (take count c) (drop count c) (subst (AreOff same_stamp stamp_of (filter (λ b. not (is_on path b)) store)) (sym parted) off_chain) in
      let front = AreOff-append same_stamp stamp_of (filter (λ b. not (is_on path b)) store) path (drop count c) (AreOff-filter same_stamp stamp_of store path) below in
      let path_off : AreOff same_stamp stamp_of path c = All-AreFound same_stamp stamp_of (λ b. has_stamp_of c b ≡ false) store path out found in
      let path_taken = AreOff-front same_stamp stamp_of path (take count c) (drop count c) (subst (AreOff same_stamp stamp_of path) (sym parted) path_off) in
      let taken_path = AreOff-symm same_stamp stamp_of stamps path (take count c) path_taken in
      let taken_below = AreApart-split same_stamp stamp_of (take count c) (drop count c) chain_parts in
      let taken = AreOff-append same_stamp stamp_of (take count c) path (drop count c) taken_path taken_below in
      All-append (λ b. has_stamp_of (path ++ drop count c) b ≡ false) (filter (λ b. not (is_on path b)) store) (reverse (take count c)) front
      (All-reverse (λ b. has_stamp_of (path ++ drop count c) b ≡ false) (take count c) taken)
