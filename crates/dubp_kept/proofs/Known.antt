-- What is known of a chain, with one block more and with one less.
use Rattle.std.proofs.Common.{◌≡◌, inl, inr, drop, List, [], ◌∷◌, ◌++◌, length, reverse, Option, Some, None, refl, ap, sym, ◌∙◌, subst}
use Rattle.std.proofs.lemmas.List.{reverse-append}
use Rattle.dubp_params.specs.declared.params.Params.{Params}
use Rattle.dubp_block.specs.declared.block.Block.{Block}
use Rattle.dubp_chain.specs.declared.head.Head.{Head}
use Rattle.dubp_chain.specs.Chains.{Chain, params}
use Rattle.dubp_chain.specs.Members.{members}
use Rattle.dubp_chain.specs.Heads.{heads_of, next_head}
use Rattle.dubp_local.specs.Local.{AreParamsOf}
use Rattle.dubp_head.specs.HeadsStates.{HeadsState, AreOver}
use Rattle.dubp_head.specs.Following.{Follows, AreHeads}
use Rattle.dubp_kept.specs.KeptChain.{IsKnown, IsSteered, MayJoin, stated_params}

abbrev head_with : Chain → Block → Head
head_with c b = next_head (params (b ∷ c)) (length (members (b ∷ c))) (heads_of c) b

-- heads are over the same parameters with one block more
heads_with : (c : Chain) (b : Block) (hs : List Head) → hs ≡ heads_of c → AreHeads (params c) hs → AreHeads (params (b ∷ c)) hs
heads_with [] b [] e are = tt
heads_with [] b (h ∷ hs) e are = absurd cc
heads_with (a ∷ c) b hs e are = are

pub over_by : (c : Chain) (b : Block) (heads : HeadsState) → IsKnown c heads → AreOver heads (params (b ∷ c))
over_by [] b heads known = inl known.are
over_by (a ∷ c) b heads known = known.over

pub known_more : (c : Chain) (b : Block) (h : Head) (p : Params) (old new : HeadsState) → MayJoin c b h p → IsKnown c old → new.list ≡ h ∷ old.list → new.span ≡ p.median_time_blocks → IsKnown (b ∷ c) new
known_more c b h p old new joins known pushed span =
    let same : h ≡ head_with c b = let e = joins.head in cc in
    let all : AreHeads (params (b ∷ c)) (h ∷ old.list) = (subst (λ hs. Follows (params (b ∷ c)) hs h) (sym known.are) joins.follows, heads_with c b old.list known.are known.follow) in
    record {
      sound = (joins.keeps, known.sound);
      blocks = (joins.text, known.blocks);
      are = pushed ∙ ap (λ hs. h ∷ hs) known.are ∙ ap (λ x. x ∷ heads_of c) same;
      follow = subst (AreHeads (params (b ∷ c))) (sym pushed) all;
      over = inr (span ∙ ap (λ q. q.median_time_blocks) joins.same);
      steered = joins.steered;
      stated = joins.stated;
    }

over_less : (c : Chain) (b : Block) (h : Head) (old new : HeadsState) → old.list ≡ h ∷ new.list → new.span ≡ old.span → new.list ≡ heads_of c → AreOver old (params (b ∷ c)) → AreOver new (params c)
over_less [] b h old new popped span e over = inl e
over_less (a ∷ c) b h old new popped span e (inl none) = absurd (let bad : h ∷ new.list ≡ [] = sym popped ∙ none in cc)
over_less (a ∷ c) b h old new popped span e (inr same) = inr (span ∙ same)

pub follow_by : (b : Block) (d : Chain) (hs : List Head) → hs ≡ heads_of d → AreHeads (params (b ∷ d)) hs → AreHeads (params d) hs
follow_by b [] [] e f = tt
follow_by b [] (g ∷ hs) e f = absurd cc
follow_by b (a ∷ d) hs e f = f

pub steered_by : (b : Block) (d : Chain) → IsSteered (b ∷ d) → IsSteered d
steered_by b [] s = tt
steered_by b (a ∷ d) s = s

pub stated_by : (b : Block) (d : Chain) → AreParamsOf (stated_params (b ∷ d)) (b ∷ d) → AreParamsOf (stated_params d) d
stated_by b [] s = refl
stated_by b (a ∷ d) s = less (stated_params (a ∷ d)) s
  where
    less : (o : Option Params) → AreParamsOf o (b ∷ a ∷ d) → AreParamsOf o (a ∷ d)
    less None e = absurd cc
    less (Some p) e = e

pub known_less : (c : Chain) (b : Block) (h : Head) (old new : HeadsState) → IsKnown (b ∷ c) old → old.list ≡ h ∷ new.list → new.span ≡ old.span → IsKnown c new
known_less c b h old new known popped span =
    let both : head_with c b ∷ heads_of c ≡ h ∷ new.list = sym known.are ∙ popped in
    let are : new.list ≡ heads_of c = sym (ap (drop 1) both) in
    let follow : AreHeads (params (b ∷ c)) (h ∷ new.list) = subst (AreHeads (params (b ∷ c))) popped known.follow in
    record {
      sound = known.sound.1;
      blocks = known.blocks.1;
      are = are;
      follow = follow_by b c new.list are follow.1;
      over = over_less c b h old new popped span are known.over;
      steered = steered_by b c known.steered;
      stated = stated_by b c known.stated;
    }

-- the blocks, which stand oldest first, and one behind them
pub turned : (blocks held more : List Block) (b : Block) → held ≡ blocks → more ≡ held ++ b ∷ [] → b ∷ reverse blocks ≡ reverse more
turned blocks held more b same is = sym (ap reverse (is ∙ ap (λ l. l ++ b ∷ []) same) ∙ reverse-append blocks (b ∷ []))
