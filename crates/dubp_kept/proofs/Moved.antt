-- What holds of blocks on their way from a chain and back with one more or one less, and at either end.
use Rattle.std.proofs.Common.{◌≡◌, ◌∙◌, ◌≤◌, ◌<◌, ◌+◌, ◌^◌, inl, inr, ℕ, suc, zero, List, [], ◌∷◌, ◌++◌, length, take, drop, reverse, refl, ap, sym, subst, arith, take-append-drop, drop-drop, append_assoc}
use Rattle.std.proofs.lemmas.List.{length-take, take-take, take_at, drop_at, reverse-append, length-append}
use Rattle.dubp_params.specs.declared.params.Params.{Params}
use Rattle.dubp_block.specs.declared.block.Block.{Block}
use Rattle.dubp_chain.specs.declared.head.Head.{Head}
use Rattle.dubp_chain.specs.Chains.{Chain, params}
use Rattle.dubp_chain.specs.Heads.{heads_of, next_head}
use Rattle.dubp_head.specs.HeadsStates.{HeadsState, AreOver}
use Rattle.dubp_head.specs.Following.{Follows, AreHeads}
use Rattle.dubp_kept.specs.Moves.{HasMoved}

-- as many heads as blocks
pub length_heads : (c : Chain) → length (heads_of c) ≡ length c
length_heads [] = refl
length_heads (b ∷ c) = ap suc (length_heads c)

module _ {X : Type 0} where
  pub length_push : (xs : List X) (x : X) → length (xs ++ x ∷ []) ≡ length xs + 1
  length_push xs x = length-append xs (x ∷ [])

  -- what stands so many places behind the first, and those before it
  pub drop_next : (i : ℕ) (xs ys : List X) (x : X) → drop i xs ≡ x ∷ ys → drop (i + 1) xs ≡ ys
  drop_next i xs ys x e = sym (drop-drop 1 i xs) ∙ ap (drop 1) e

  take_next' : (i : ℕ) (xs ys : List X) (x : X) → drop i xs ≡ x ∷ ys → take (suc i) xs ≡ take i xs ++ x ∷ []
  take_next' zero [] ys x e = absurd cc
  take_next' zero (a ∷ xs) ys x e = ap (take 1) e
  take_next' (suc i) [] ys x e = absurd cc
  take_next' (suc i) (a ∷ xs) ys x e = ap (λ l. a ∷ l) (take_next' i xs ys x e)

  pub take_next : (i : ℕ) (xs ys : List X) (x : X) → drop i xs ≡ x ∷ ys → take (i + 1) xs ≡ take i xs ++ x ∷ []
  take_next i xs ys x e = let next : i + 1 ≡ suc i = omega arith in ap (λ n. take n xs) next ∙ take_next' i xs ys x e

  pub some_next : (i : ℕ) (xs ys : List X) (x : X) → drop i xs ≡ x ∷ ys → i + 1 ≤ length xs
  some_next zero [] ys x e = absurd cc
  some_next zero (a ∷ xs) ys x e = omega arith
  some_next (suc i) [] ys x e = absurd cc
  some_next (suc i) (a ∷ xs) ys x e = omega (arith, some_next i xs ys x e)

  -- the last of those that were taken
  pub long_before : (i : ℕ) (xs ys : List X) (x : X) → take (i + 1) xs ≡ ys ++ x ∷ [] → i + 1 ≤ length xs → length ys ≡ i
  long_before i xs ys x e le = omega (arith, length_push ys x, ap length e, length-take (i + 1) xs)

  pub take_before : (i : ℕ) (xs ys : List X) (x : X) → take (i + 1) xs ≡ ys ++ x ∷ [] → i + 1 ≤ length xs → take i xs ≡ ys
  take_before i xs ys x e le = sym (take-take i (i + 1) xs (omega arith)) ∙ ap (take i) e ∙ take_at ys (x ∷ []) i (long_before i xs ys x e le)

  pub drop_before : (i : ℕ) (xs ys : List X) (x : X) → take (i + 1) xs ≡ ys ++ x ∷ [] → i + 1 ≤ length xs → drop i xs ≡ x ∷ drop (i + 1) xs
  drop_before i xs ys x e le =
      let all : xs ≡ ys ++ x ∷ drop (i + 1) xs = sym (take-append-drop (i + 1) xs) ∙ ap (λ l. l ++ drop (i + 1) xs) e ∙ append_assoc ys (x ∷ []) (drop (i + 1) xs) in
      ap (drop i) all ∙ drop_at ys (x ∷ drop (i + 1) xs) i (long_before i xs ys x e le)

  -- the last of those that stand turned round
  pub turned_last : (xs ys : List X) (x : X) → xs ≡ ys ++ x ∷ [] → reverse xs ≡ x ∷ reverse ys
  turned_last xs ys x e = ap reverse e ∙ reverse-append ys (x ∷ [])

time_is : (p : Params) (n : ℕ) (hs : List Head) (b : Block) → (next_head p n hs b).time ≡ b.time
time_is p n [] b = refl
time_is p n (h ∷ hs) b = refl

follows_small : (p : Params) (hs : List Head) (h : Head) → Follows p hs h → h.time < 2 ^ 40
follows_small p hs h f = omega (arith, ap (λ x. x.time) f.is, time_is p f.count hs f.block, f.may.small.time)

-- the time of each head is small
pub time_small : (p : Params) (hs : List Head) (n : ℕ) (before : List Head) (h : Head) → AreHeads p hs → take n hs ≡ before ++ h ∷ [] → h.time < 2 ^ 40
time_small p [] zero [] h are e = absurd cc
time_small p [] (suc n) [] h are e = absurd cc
time_small p [] zero (g ∷ before) h are e = absurd cc
time_small p [] (suc n) (g ∷ before) h are e = absurd cc
time_small p (a ∷ hs) zero [] h are e = absurd cc
time_small p (a ∷ hs) zero (g ∷ before) h are e = absurd cc
time_small p (a ∷ hs) (suc n) [] h are e =
    let same : a ≡ h = cc in subst (λ x. x.time < 2 ^ 40) same (follows_small p hs a are.0)
time_small p (a ∷ hs) (suc n) (g ∷ before) h are e = time_small p hs n before h are.1 (ap (drop 1) e)

over_off : (h : Head) (old new : HeadsState) (p : Params) → old.list ≡ h ∷ new.list → new.span ≡ old.span → AreOver old p → AreOver new p
over_off h old new p popped span (inl none) = absurd (let bad : h ∷ new.list ≡ [] = sym popped ∙ none in cc)
over_off h old new p popped span (inr same) = inr (span ∙ same)

-- one block more is off
pub moved_on : (stands stands' : Chain → Type 0) (waits waits' : Chain → ℕ → Type 0) (ahead ahead' : ℕ) (heads heads' : HeadsState) (behind behind' : List Head) (blocks blocks' held held' : List Block) (o : Chain) (i : ℕ) (h : Head) (b : Block)
    → HasMoved stands waits ahead heads behind blocks held o i → heads.list ≡ h ∷ heads'.list → heads'.span ≡ heads.span → blocks ≡ blocks' ++ b ∷ [] → held' ≡ held ++ b ∷ [] → behind' ≡ behind ++ h ∷ [] → ahead' ≡ ahead + 1 → stands' (drop (i + 1) o) × waits' o (i + 1)
    → HasMoved stands' waits' ahead' heads' behind' blocks' held' o (i + 1)
moved_on stands stands' waits waits' ahead ahead' heads heads' behind behind' blocks blocks' held held' o i h b m popped span last more heads_more longer tables =
    let rest : drop i o ≡ b ∷ reverse blocks' = sym m.blocks_are ∙ turned_last blocks blocks' b last in
    let heads_rest : drop i (heads_of o) ≡ h ∷ heads'.list = sym m.heads_are ∙ popped in
    record {
      stands_is = tables.0;
      waits_is = tables.1;
      ahead_is = omega (arith, longer, m.ahead_is);
      blocks_are = sym (drop_next i o (reverse blocks') b rest);
      held_are = more ∙ ap (λ l. l ++ b ∷ []) m.held_are ∙ sym (take_next i o (reverse blocks') b rest);
      heads_are = sym (drop_next i (heads_of o) heads'.list h heads_rest);
      behind_are = heads_more ∙ ap (λ l. l ++ h ∷ []) m.behind_are ∙ sym (take_next i (heads_of o) heads'.list h heads_rest);
      over = over_off h heads heads' (params o) popped span m.over;
      within = some_next i o (reverse blocks') b rest;
    }

-- one block less is off
pub moved_back : (stands stands' : Chain → Type 0) (waits waits' : Chain → ℕ → Type 0) (ahead ahead' : ℕ) (heads heads' : HeadsState) (behind behind' : List Head) (blocks blocks' held held' : List Block) (o : Chain) (i : ℕ) (h : Head) (b : Block)
    → HasMoved stands waits ahead heads behind blocks held o (i + 1) → heads'.list ≡ h ∷ heads.list → heads'.span ≡ (params o).median_time_blocks → blocks' ≡ blocks ++ b ∷ [] → held ≡ held' ++ b ∷ [] → behind ≡ behind' ++ h ∷ [] → ahead ≡ ahead' + 1 → stands' (drop i o) × waits' o i
    → HasMoved stands' waits' ahead' heads' behind' blocks' held' o i
moved_back stands stands' waits waits' ahead ahead' heads heads' behind behind' blocks blocks' held held' o i h b m pushed span last less heads_less shorter tables =
    let taken : take (i + 1) o ≡ held' ++ b ∷ [] = sym m.held_are ∙ less in
    let heads_taken : take (i + 1) (heads_of o) ≡ behind' ++ h ∷ [] = sym m.behind_are ∙ heads_less in
    let heads_within : i + 1 ≤ length (heads_of o) = omega (arith, m.within, length_heads o) in
    record {
      stands_is = tables.0;
      waits_is = tables.1;
      ahead_is = omega (arith, shorter, m.ahead_is);
      blocks_are = turned_last blocks' blocks b last ∙ ap (λ l. b ∷ l) m.blocks_are ∙ sym (drop_before i o held' b taken m.within);
      held_are = sym (take_before i o held' b taken m.within);
      heads_are = pushed ∙ ap (λ l. h ∷ l) m.heads_are ∙ sym (drop_before i (heads_of o) behind' h heads_taken heads_within);
      behind_are = sym (take_before i (heads_of o) behind' h heads_taken heads_within);
      over = inr span;
      within = omega (arith, m.within);
    }
