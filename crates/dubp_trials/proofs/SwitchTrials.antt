-- How blocks enter and leave the store: OFFER, SWITCH, FORGET and the acceptance of a stored block.
use Rattle.std.specs.Prelude.{◌≡◌, ℕ, List, [], ◌∷◌, ◌++◌, length, Some, None, true, false}
use Rattle.std.proofs.Common.{refl, inl}
use Rattle.dubp_atoms.specs.Same.{same_text}
use Rattle.dubp_block.specs.Text.{block_hash_of, stamp_of}
use Rattle.dubp_block.specs.declared.block.Block.{Block}
use Rattle.dubp_chain.specs.Chains.{Chain}
use Rattle.dubp_validity.specs.Rules.{IsTextOf}
use Rattle.dubp_replay.specs.declared.command.Command.TheVariants.{Switch, Forget}
use Rattle.dubp_replay.specs.Answers.{stored_answer, known_answer, full_answer, switched_answer, too_deep_answer, detached_answer, forgotten_answer}
use Rattle.dubp_replay.specs.Turns.{Branches, BranchesTurn, Stores, IsPath, SwitchesBy, IsAcceptedOn, blocks_behind, switched, accepted, is_known}
use Rattle.dubp_trials.specs.Samples.{key0, key1, key2, unread, empty_block, block0, block1, block2, one_block, two_blocks, three_blocks}
use Rattle.dubp_trials.proofs.Apart.{is_itself}

-- two blocks of a branch on block 0, whose hashes are others than those of the blocks of the chain, since their nonces are; and a stored block whose block before is nowhere
abbrev branch1 : Block
branch1 = record (empty_block 1 key2 1300 1000) { previous = Some (block_hash_of block0, key0); nonce = 2 }

abbrev branch2 : Block
branch2 = record (empty_block 2 key1 1150 1150) { previous = Some (block_hash_of branch1, key2); nonce = 3 }

abbrev stray : Block
stray = empty_block 7 key0 1150 1150

abbrev keeping : Chain → ℕ → List Block → Branches
keeping c kept store = record { verdicts = []; chain = c; kept = kept; store = store }

abbrev stored_branch : List Block
stored_branch = branch1 ∷ stray ∷ branch2 ∷ []

abbrev path : List Block
path = branch2 ∷ branch1 ∷ []

-- the hash of each block is itself
abbrev IsItself : Block → Type 0
IsItself b = same_text (block_hash_of b) (block_hash_of b) ≡ true

itself : (b : Block) → IsItself b
itself b = is_itself (block_hash_of b)

-- ---- SWITCH

path_of_branch : IsPath stored_branch (stamp_of branch2) path (Some (stamp_of block0))
path_of_branch = rw (itself branch2, itself branch1) (refl, (refl, (refl, refl)))

two_behind : blocks_behind three_blocks (Some (stamp_of block0)) ≡ Some 2
two_behind = rw (itself block0)

-- a path that ends before block 0 leaves nothing of the chain
all_behind : blocks_behind three_blocks None ≡ Some 3
all_behind = refl

-- the path is the chain then and has left the store; the blocks that were reversed stand there behind the others, oldest first
abbrev switched_state : ℕ → Branches
switched_state kept = keeping (branch2 ∷ branch1 ∷ one_block) kept (stray ∷ block1 ∷ block2 ∷ [])

store_after : switched (keeping three_blocks 3 stored_branch) path 2 ≡ switched_state 3
store_after = rw (itself branch2, itself branch1)

-- as many can be reversed as before, and never more than 100
kept_after : ((switched (keeping three_blocks 2 []) path 2).kept ≡ 2) × ((switched (keeping three_blocks 100 []) path 1).kept ≡ 100)
kept_after = (refl, refl)

switches : IsAcceptedOn [] one_block path → BranchesTurn (keeping three_blocks 3 stored_branch) (Switch (stamp_of branch2)) [] (switched_answer (stamp_of branch2)) (switched_state 3)
switches each =
    record {
      path = path;
      end = Some (stamp_of block0);
      is = path_of_branch;
      goes = rw (itself branch2, itself branch1, itself block0) (inl (each, refl, refl));
    }

-- two blocks would be reversed: two that are kept are enough, one is not
reverses_two : IsAcceptedOn [] one_block path → SwitchesBy (keeping three_blocks 2 []) (stamp_of branch2) path 2 (switched_answer (stamp_of branch2)) (switched (keeping three_blocks 2 []) path 2)
reverses_two each = inl (each, refl, refl)

too_deep : SwitchesBy (keeping three_blocks 1 []) (stamp_of branch2) path 2 (too_deep_answer 1) (keeping three_blocks 1 [])
too_deep = (refl, refl)

-- the path ends at a stamp that is in neither store nor chain
detached : BranchesTurn (keeping three_blocks 3 (stray ∷ [])) (Switch (stamp_of stray)) [] (detached_answer (record { number = 6; hash = unread })) (keeping three_blocks 3 (stray ∷ []))
detached =
    record {
      path = stray ∷ [];
      end = Some (record { number = 6; hash = unread });
      is = rw (itself stray) (refl, (refl, refl));
      goes = rw (itself stray) (refl, refl);
    }

-- a full store takes one block for one of the path, and not two
takes_one_for_one : (store : List Block) → length store ≡ 1024 → IsAcceptedOn [] two_blocks (branch2 ∷ []) → SwitchesBy (keeping three_blocks 3 store) (stamp_of branch2) (branch2 ∷ []) 1 (switched_answer (stamp_of branch2)) (switched (keeping three_blocks 3 store) (branch2 ∷ []) 1)
takes_one_for_one store full each = rw full (inl (each, refl, refl))

takes_no_two_for_one : (store : List Block) → length store ≡ 1024 → SwitchesBy (keeping three_blocks 3 store) (stamp_of branch2) (branch2 ∷ []) 2 full_answer (keeping three_blocks 3 store)
takes_no_two_for_one store full = rw full (refl, refl)

-- ---- OFFER

known_from_chain : is_known (keeping three_blocks 3 []) (stamp_of block1) ≡ true
known_from_chain = rw (itself block1)

known_from_store : is_known (keeping three_blocks 3 stored_branch) (stamp_of branch1) ≡ true
known_from_store = rw (itself branch1)

unknown_in_both : is_known (keeping three_blocks 3 path) (stamp_of stray) ≡ false
unknown_in_both = refl

-- a block with this text is offered
known_is_not_stored : (bytes : List ℕ) → IsTextOf bytes block1 → Stores bytes (keeping three_blocks 3 []) (known_answer (stamp_of block1)) (keeping three_blocks 3 [])
known_is_not_stored bytes text = (block1, text, rw (itself block1) (refl, refl))

last_is_stored : (bytes : List ℕ) (store : List Block) → length store ≡ 1023 → is_known (keeping three_blocks 3 store) (stamp_of stray) ≡ false → IsTextOf bytes stray → Stores bytes (keeping three_blocks 3 store) (stored_answer (stamp_of stray)) (keeping three_blocks 3 (store ++ stray ∷ []))
last_is_stored bytes store room unknown text = (stray, text, rw (unknown, room) (refl, refl))

none_is_stored : (bytes : List ℕ) (store : List Block) → length store ≡ 1024 → is_known (keeping three_blocks 3 store) (stamp_of stray) ≡ false → IsTextOf bytes stray → Stores bytes (keeping three_blocks 3 store) full_answer (keeping three_blocks 3 store)
none_is_stored bytes store full unknown text = (stray, text, rw (unknown, full) (refl, refl))

-- ---- FORGET, and a stored block that is accepted

forgets : BranchesTurn (keeping three_blocks 3 stored_branch) (Forget (stamp_of branch2)) [] forgotten_answer (keeping three_blocks 3 (branch1 ∷ stray ∷ []))
forgets = rw (itself branch2) (refl, refl)

accepted_leaves_store : accepted (keeping one_block 1 stored_branch) branch1 ≡ keeping (branch1 ∷ one_block) 2 (stray ∷ branch2 ∷ [])
accepted_leaves_store = rw (itself branch1)

-- at most 100 blocks can be reversed
at_most_hundred_kept : ((accepted (keeping one_block 99 []) branch1).kept ≡ 100) × ((accepted (keeping one_block 100 []) branch1).kept ≡ 100)
at_most_hundred_kept = (refl, refl)
