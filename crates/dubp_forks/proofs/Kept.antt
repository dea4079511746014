-- What a map of stored blocks tells, and what adding and forgetting leave.
use Rattle.std.proofs.Common.{◌≡◌, ℕ, zero, suc, slice_get, ◌<◌, ◌≤◌, ◌||◌, Bool, true, false, not, cond, List, [], ◌∷◌, ◌++◌, map, filter, length, Option, Some, None, is_some, position, refl, sym, ap, subst, ◌∙◌, true≢false, arith, length-append}
use Rattle.std.proofs.lemmas.List.{length-map}
use Rattle.std.specs.List.{list_any}
use Rattle.std.specs.Map.{lookup, remove_entry}
use Rattle.std.proofs.lemmas.List.Folds.{list_any-append}
use Rattle.indexmap.specs.IndexMap.{insert_entry}
use Rattle.indexmap.proofs.MapLemmas.{absent_from_lookup, insert_entry-absent}
use Rattle.dubp_atoms.specs.Same.{same_stamp}
use Rattle.dubp_atoms.specs.declared.stamp.Stamp.{Stamp}
use Rattle.dubp_block.specs.declared.block.Block.{Block}
use Rattle.dubp_block.specs.Text.{stamp_of}
use Rattle.dubp_verdict.specs.Verdicts.{Verdicts}
use Rattle.dubp_ledger.specs.OfKept.{KeptChain}
use Rattle.dubp_chain.specs.Chains.{Chain}
use Rattle.dubp_replay.specs.Turns.{is_known, is_stamped, most_stored, stored, without}
use Rattle.dubp_forks.specs.Stores.{AreOutside, AreStored, IsStorable, has_stamp_of, state_of}
use Rattle.dubp_forks.specs.Entries.{AreKept, Entries, blocks_in, entries_of, entry_of}
use Rattle.dubp_forks.proofs.Apart.{All-append, All-filter, AreApart-append, AreApart-filter, AreOff-symm, find_any}
use Rattle.dubp_forks.proofs.Keyed.{same_some, lookup-keyed, remove_entry-keyed}
use Rattle.dubp_forks.proofs.Stamps.{apart_of, of_apart, blocks_in-entries_of, is_some-position, stamps}

pub map_append : {A B : Type 0} (f : A → B) (xs ys : List A) → map f (xs ++ ys) ≡ map f xs ++ map f ys
map_append f [] ys = refl
map_append f (x ∷ xs) ys = ap (λ l. f x ∷ l) (map_append f xs ys)

length-filter_le : {X : Type 0} (test : X → Bool) (xs : List X) → length (filter test xs) ≤ length xs
length-filter_le test [] = omega arith
length-filter_le test (x ∷ xs) =
    let less = length-filter_le test xs in
    elim (test x) as (λ r. length (cond r (x ∷ filter test xs) (filter test xs)) ≤ length (x ∷ xs)) [ true ↦ omega arith | false ↦ omega arith ]

-- ---- look-ups
pub kept_lookup : (entries : Entries) (stamp : Stamp) → AreKept entries → lookup (same_stamp stamp) entries ≡ stored (blocks_in entries) stamp
kept_lookup entries stamp kept = ap (lookup (same_stamp stamp)) kept.whole ∙ lookup-keyed same_stamp stamp_of stamp (blocks_in entries)

pub kept_is_some : (entries : Entries) (stamp : Stamp) → AreKept entries → is_some (lookup (same_stamp stamp) entries) ≡ is_some (stored (blocks_in entries) stamp)
kept_is_some entries stamp kept = ap is_some (kept_lookup entries stamp kept)

pub kept_any : (entries : Entries) (stamp : Stamp) → AreKept entries → is_some (lookup (same_stamp stamp) entries) ≡ list_any (is_stamped stamp) (blocks_in entries)
kept_any entries stamp kept = kept_is_some entries stamp kept ∙ find_any (is_stamped stamp) (blocks_in entries)

module _ (v : Verdicts) (s : KeptChain) (entries : Entries) (store : List Block) (stamp : Stamp) (kept : AreKept entries) (view : blocks_in entries ≡ store) where
  known_is : is_known (state_of v s store) stamp ≡ (is_some (lookup (same_stamp stamp) entries) || is_some (position (is_stamped stamp) s.chain))
  known_is =
      list_any-append (is_stamped stamp) store s.chain
      ∙ ap (λ r. r || list_any (is_stamped stamp) s.chain) (sym (kept_any entries stamp kept ∙ ap (list_any (is_stamped stamp)) view))
      ∙ ap (λ r. is_some (lookup (same_stamp stamp) entries) || r) (sym (is_some-position (is_stamped stamp) s.chain))

  pub known_stored : is_some (lookup (same_stamp stamp) entries) ≡ true → is_known (state_of v s store) stamp ≡ true
  known_stored e = known_is ∙ ap (λ r. r || is_some (position (is_stamped stamp) s.chain)) e

  pub known_chained : is_some (position (is_stamped stamp) s.chain) ≡ true → is_known (state_of v s store) stamp ≡ true
  known_chained e = known_is ∙ ap (λ r. is_some (lookup (same_stamp stamp) entries) || r) e ∙ or_true (is_some (lookup (same_stamp stamp) entries))
    where
      or_true : (b : Bool) → (b || true) ≡ true
      or_true true = refl
      or_true false = refl

  pub unknown : is_some (lookup (same_stamp stamp) entries) ≡ false → is_some (position (is_stamped stamp) s.chain) ≡ false → is_known (state_of v s store) stamp ≡ false
  unknown e f = known_is ∙ ap (λ r. r || is_some (position (is_stamped stamp) s.chain)) e ∙ f

-- the entry at a place is that of the block there
place_of_entry : (store : List Block) (place : ℕ) (b : Block) → slice_get store place ≡ Some b → slice_get (entries_of store) place ≡ Some (entry_of b)
place_of_entry [] place b e = cc
place_of_entry (c ∷ store) zero b e = ap (λ x. Some (entry_of x)) (same_some c b e)
place_of_entry (c ∷ store) (suc place) b e = place_of_entry store place b e

pub kept_at : (entries : Entries) (store : List Block) (place : ℕ) (b : Block) → AreKept entries → blocks_in entries ≡ store → slice_get store place ≡ Some b → slice_get entries place ≡ Some (entry_of b)
kept_at entries store place b kept view e =
    ap (λ es. slice_get es place) (kept.whole ∙ ap entries_of view) ∙ place_of_entry store place b e

-- ---- what is left
-- where each block stands under its stamp, and the blocks may stand in a store
pub kept_from : (store : List Block) (entries : Entries) → entries ≡ entries_of store → AreStored store → AreKept entries
kept_from store entries e stored =
    let view : blocks_in entries ≡ store = ap blocks_in e ∙ blocks_in-entries_of store in
    record { whole = e ∙ ap entries_of (sym view); stored = subst AreStored (sym view) stored }

pub view_from : (store : List Block) (entries : Entries) → entries ≡ entries_of store → blocks_in entries ≡ store
view_from store entries e = ap blocks_in e ∙ blocks_in-entries_of store

pub stored_without : (stamp : Stamp) (store : List Block) → AreStored store → AreStored (without stamp store)
stored_without stamp store s = record {
  each = All-filter IsStorable (λ b. not (is_stamped stamp b)) store s.each;
  apart = of_apart (without stamp store) (AreApart-filter same_stamp stamp_of (λ b. not (is_stamped stamp b)) store (apart_of store s.apart));
  few = let less = length-filter_le (λ b. not (is_stamped stamp b)) store in let few = s.few in omega arith;
}

pub entries_without : (entries : Entries) (stamp : Stamp) → AreKept entries → remove_entry (same_stamp stamp) entries ≡ entries_of (without stamp (blocks_in entries))
entries_without entries stamp kept =
    ap (remove_entry (same_stamp stamp)) kept.whole ∙ remove_entry-keyed same_stamp stamp_of stamps stamp (blocks_in entries) (apart_of (blocks_in entries) kept.stored.apart)

none_found : {X : Type 0} (o : Option X) → is_some o ≡ false → o ≡ None
none_found None e = refl
none_found (Some x) e = absurd (true≢false e)

module _ (entries : Entries) (b : Block) (kept : AreKept entries) (new : is_some (lookup (same_stamp (stamp_of b)) entries) ≡ false) where
  pub entries_with : insert_entry same_stamp entries (stamp_of b) b ≡ entries_of (blocks_in entries ++ b ∷ [])
  entries_with =
      insert_entry-absent same_stamp (stamp_of b) b entries (absent_from_lookup (same_stamp (stamp_of b)) entries (none_found (lookup (same_stamp (stamp_of b)) entries) new))
      ∙ ap (λ es. es ++ entry_of b ∷ []) kept.whole
      ∙ sym (map_append entry_of (blocks_in entries) (b ∷ []))

  pub stored_with : IsStorable b → length (blocks_in entries) < most_stored → AreStored (blocks_in entries ++ b ∷ [])
  stored_with is few = record {
    each = All-append IsStorable (blocks_in entries) (b ∷ []) kept.stored.each (is, tt);
    apart =
        of_apart (blocks_in entries ++ b ∷ [])
        (AreApart-append same_stamp stamp_of (blocks_in entries) (b ∷ []) (apart_of (blocks_in entries) kept.stored.apart) (refl, tt)
        (AreOff-symm same_stamp stamp_of stamps (b ∷ []) (blocks_in entries) (sym (kept_any entries (stamp_of b) kept) ∙ new, tt)));
    few = let l = length-append (blocks_in entries) (b ∷ []) in omega arith;
  }

pub outside_with : (store : List Block) (c : Chain) (b : Block) → AreOutside store c → is_some (position (is_stamped (stamp_of b)) c) ≡ false → AreOutside (store ++ b ∷ []) c
outside_with store c b out none =
    All-append (λ d. has_stamp_of c d ≡ false) store (b ∷ []) out (sym (is_some-position (is_stamped (stamp_of b)) c) ∙ none, tt)

pub kept_len : (entries : Entries) (store : List Block) → AreKept entries → blocks_in entries ≡ store → length entries ≡ length store
kept_len entries store kept view = ap length kept.whole ∙ length-map (blocks_in entries) entry_of ∙ ap length view

-- the entry of a new block is the last
pub record IsAdded (next : Entries) (store : List Block) (c : Chain) (b : Block) : Type 0 where
  pub kept : AreKept next
  pub view : blocks_in next ≡ store ++ b ∷ []
  pub outside : AreOutside (blocks_in next) c

added_own : (entries : Entries) (c : Chain) (b : Block) → AreKept entries → is_some (lookup (same_stamp (stamp_of b)) entries) ≡ false → is_some (position (is_stamped (stamp_of b)) c) ≡ false
    → IsStorable b → length (blocks_in entries) < most_stored → AreOutside (blocks_in entries) c → IsAdded (insert_entry same_stamp entries (stamp_of b) b) (blocks_in entries) c b
added_own entries c b kept new apart is few out =
    let e = entries_with entries b kept new in
    let store = blocks_in entries ++ b ∷ [] in
    let view = view_from store (insert_entry same_stamp entries (stamp_of b) b) e in
    record {
      kept = kept_from store (insert_entry same_stamp entries (stamp_of b) b) e (stored_with entries b kept new is few);
      view = view;
      outside = subst (λ (s : List Block). AreOutside s c) (sym view) (outside_with (blocks_in entries) c b out apart);
    }

pub added : (entries next : Entries) (store : List Block) (c : Chain) (b : Block) (stamp : Stamp) → stamp ≡ stamp_of b → AreKept entries → blocks_in entries ≡ store
    → is_some (lookup (same_stamp stamp) entries) ≡ false → is_some (position (is_stamped stamp) c) ≡ false → IsStorable b → length store < most_stored → AreOutside store c
    → next ≡ insert_entry same_stamp entries stamp b → IsAdded next store c b
added entries next store c b stamp same kept view new apart is few out e =
    let at : IsAdded (insert_entry same_stamp entries stamp b) (blocks_in entries) c b =
    subst (λ (s : Stamp). is_some (lookup (same_stamp s) entries) ≡ false → is_some (position (is_stamped s) c) ≡ false → IsAdded (insert_entry same_stamp entries s b) (blocks_in entries) c b) (sym same)
    (λ n a. added_own entries c b kept n a is (subst (λ (s : List Block). length s < most_stored) (sym view) few) (subst (λ (s : List Block). AreOutside s c) (sym view) out)) new apart in
    subst (λ (es : Entries). IsAdded es store c b) (sym e) (subst (λ (s : List Block). IsAdded (insert_entry same_stamp entries stamp b) s c b) view at)
