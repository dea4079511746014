-- What is kept with one block more and one less, where blocks are held, and where they come back.
use Rattle.std.proofs.Common.{◌≡◌, ◌∙◌, ◌≤◌, ◌+◌, ◌-◌, inl, ℕ, suc, zero, List, [], ◌∷◌, ◌++◌, length, take, drop, reverse, min, cond, refl, ap, sym, subst, Option, Some, None, arith, take-append-drop}
use Rattle.std.proofs.lemmas.List.{length-take, length-drop, length-append}
use Rattle.std.specs.Option.{is_some}
use Rattle.dubp_params.specs.declared.params.Params.{Params}
use Rattle.dubp_block.specs.declared.block.Block.{Block}
use Rattle.dubp_chain.specs.declared.head.Head.{Head}
use Rattle.dubp_chain.specs.Chains.{Chain, params}
use Rattle.dubp_chain.specs.Heads.{heads_of}
use Rattle.dubp_head.specs.HeadsStates.{HeadsState, AreOver, KeepsRoom}
use Rattle.dubp_head.specs.Following.{AreHeads}
use Rattle.dubp_kept.specs.KeptChain.{Out, AreWide, HasRoom, IsKnown, MayComeBack, IsOut, KeptChain, Stands, AreKept, IsHeldBy, IsAsHeld, most_kept}
use Rattle.dubp_kept.specs.Moves.{HasMoved, MayReturn}
use Rattle.dubp_kept.proofs.Known.{follow_by, steered_by, stated_by}
use Rattle.dubp_kept.proofs.Moved.{length_heads}

-- room for heads
pub room_on : (c : Chain) (old new : HeadsState) → KeepsRoom old new → HasRoom old c → HasRoom new c
room_on c old new k r = record { heads_fit = omega (arith, r.heads_fit, k.room); wide = wide_on c r.wide }
  where
    wide_on : (d : Chain) → AreWide old d → AreWide new d
    wide_on [] w = tt
    wide_on (b ∷ d) w = omega (arith, w, k.width)

pub room_less : (b : Block) (c : Chain) (s : HeadsState) → HasRoom s (b ∷ c) → HasRoom s c
room_less b c s r = record { heads_fit = omega (arith, r.heads_fit); wide = wide_less c r.wide }
  where
    wide_less : (d : Chain) → AreWide s (b ∷ d) → AreWide s d
    wide_less [] w = tt
    wide_less (a ∷ d) w = w

pub room_more : (b : Block) (c : Chain) (s : HeadsState) (p : Params) → s.list ≡ heads_of (b ∷ c) → length s.list ≤ s.room → p.median_time_blocks ≤ s.width → p ≡ params (b ∷ c) → HasRoom s (b ∷ c)
room_more b c s p are fit wide same = record {
  heads_fit = omega (arith, fit, ap length are, length_heads (b ∷ c));
  wide = omega (arith, wide, ap (λ q. q.median_time_blocks) same);
}

-- tables and heads that went on with one block more or less
pub stands_on : (out : Option Out) (waits waits' : Chain → ℕ → Type 0) (depth depth' ahead ahead' : ℕ) (heads heads' : HeadsState) (behind : List Head) (c c' : Chain) (room room' : ℕ)
    → Stands waits depth ahead heads behind c room out → ((o : Chain) (i : ℕ) → waits o i → waits' o i) → ahead' ≡ ahead → KeepsRoom heads heads' → room ≤ room'
    → (out ≡ None → depth' ≤ most_kept) → ((o : Out) → out ≡ Some o → length c' + depth ≡ length c + depth') → Stands waits' depth' ahead' heads' behind c' room' out
stands_on None waits waits' depth depth' ahead ahead' heads heads' behind c c' room room' s on same keeps more few even = (few refl, same ∙ s.1)
stands_on (Some o) waits waits' depth depth' ahead ahead' heads heads' behind c c' room room' s on same keeps more few even = record {
  waits_is = on o.chain o.taken s.waits_is;
  ahead_is = same ∙ s.ahead_is;
  comes = s.comes;
  behind_are = s.behind_are;
  even = omega (arith, s.even, even o refl);
  few = s.few;
  within = s.within;
  room_is = omega (arith, s.room_is, more);
  heads_room = room_on o.chain heads heads' keeps s.heads_room;
}

pub few_none : (out : Option Out) (waits : Chain → ℕ → Type 0) (depth ahead : ℕ) (heads : HeadsState) (behind : List Head) (c : Chain) (room : ℕ) → Stands waits depth ahead heads behind c room out → out ≡ None → depth ≤ most_kept
few_none None waits depth ahead heads behind c room s e = s.0
few_none (Some o) waits depth ahead heads behind c room s e = absurd cc

-- how many states are kept of one more
pub trimmed_most : (out : Option Out) (n d : ℕ) → d ≡ cond (is_some out) n (min n most_kept) → d ≤ n
trimmed_most None n d e = omega (arith, e)
trimmed_most (Some o) n d e = omega (arith, e)

pub trimmed_few : (out : Option Out) (n d : ℕ) → d ≡ cond (is_some out) n (min n most_kept) → out ≡ None → d ≤ most_kept
trimmed_few None n d e none = omega (arith, e)
trimmed_few (Some o) n d e none = absurd cc

pub trimmed_all : (out : Option Out) (n d : ℕ) → d ≡ cond (is_some out) n (min n most_kept) → (o : Out) → out ≡ Some o → d ≡ n
trimmed_all None n d e o some = absurd cc
trimmed_all (Some x) n d e o some = e

-- chains that may come back
pub comes_of : (c : Chain) (s : HeadsState) → IsKnown c s → MayComeBack c
comes_of c s known = record {
  sound = known.sound;
  blocks = known.blocks;
  follow = subst (AreHeads (params c)) known.are known.follow;
  steered = known.steered;
  stated = known.stated;
}

pub known_by : (c : Chain) (s : HeadsState) → MayComeBack c → s.list ≡ heads_of c → AreOver s (params c) → IsKnown c s
known_by c s comes are over = record {
  sound = comes.sound;
  blocks = comes.blocks;
  are = are;
  follow = subst (AreHeads (params c)) (sym are) comes.follow;
  over = over;
  steered = comes.steered;
  stated = comes.stated;
}

comes_less : (b : Block) (c : Chain) → MayComeBack (b ∷ c) → MayComeBack c
comes_less b c m = record {
  sound = m.sound.1;
  blocks = m.blocks.1;
  follow = follow_by b c (heads_of c) refl m.follow.1;
  steered = steered_by b c m.steered;
  stated = stated_by b c m.stated;
}

comes_off : (n : ℕ) (o : Chain) → MayComeBack o → MayComeBack (drop n o)
comes_off zero o m = m
comes_off (suc n) [] m = m
comes_off (suc n) (b ∷ o) m = comes_off n o (comes_less b o m)

room_off : (n : ℕ) (o : Chain) (s : HeadsState) → HasRoom s o → HasRoom s (drop n o)
room_off zero o s r = r
room_off (suc n) [] s r = r
room_off (suc n) (b ∷ o) s r = room_off n o s (room_less b o s r)

heads_off : (n : ℕ) (o : Chain) → heads_of (drop n o) ≡ drop n (heads_of o)
heads_off zero o = refl
heads_off (suc n) [] = refl
heads_off (suc n) (b ∷ o) = heads_off n o

params_less : (a b : Block) (c o : Chain) (n : ℕ) → drop n o ≡ b ∷ c → params (a ∷ o) ≡ params o
params_less a b c [] zero e = absurd cc
params_less a b c [] (suc n) e = absurd cc
params_less a b c (d ∷ o) n e = refl

params_off : (n : ℕ) (o : Chain) (b : Block) (c : Chain) → drop n o ≡ b ∷ c → params (b ∷ c) ≡ params o
params_off zero o b c e = ap params (sym e)
params_off (suc n) [] b c e = absurd cc
params_off (suc n) (a ∷ o) b c e = params_off n o b c e ∙ sym (params_less a b c o n e)

-- the parameters of what is left of a chain, or of the whole
over_left : (n : ℕ) (o d : Chain) (s : HeadsState) → drop n o ≡ d → s.list ≡ heads_of d → AreOver s (params o) → AreOver s (params d)
over_left n o [] s e are over = inl are
over_left n o (b ∷ c) s e are over = subst (AreOver s) (sym (params_off n o b c e)) over

over_whole : (n : ℕ) (o d : Chain) (s : HeadsState) → drop n o ≡ d → s.list ≡ heads_of d → AreOver s (params d) → AreOver s (params o)
over_whole n o [] s e are over = inl are
over_whole n o (b ∷ c) s e are over = subst (AreOver s) (params_off n o b c e) over

-- blocks are held
pub kept_held : (stands : Chain → Type 0) (waits : Chain → ℕ → Type 0) (depth depth' ahead : ℕ) (heads heads' : HeadsState) (behind : List Head) (blocks held : List Block) (o : Chain) (count room : ℕ)
    → IsKnown o heads → HasRoom heads o → HasMoved stands waits ahead heads' behind blocks held o count → KeepsRoom heads heads' → depth' + count ≡ depth → depth ≤ most_kept → depth ≤ length o → length o ≤ room
    → AreKept stands waits depth' ahead heads' behind (reverse blocks) room (Some (record { chain = o; kept = depth; taken = count }))
kept_held stands waits depth depth' ahead heads heads' behind blocks held o count room known wide m keeps less few fits more =
    let long : length (reverse blocks) ≡ length o - count = ap length m.blocks_are ∙ length-drop count o in
    let are : heads'.list ≡ heads_of (drop count o) = m.heads_are ∙ sym (heads_off count o) in
    let whole : HasRoom heads' o = room_on o heads heads' keeps wide in
    let left : IsKnown (drop count o) heads' = known_by (drop count o) heads' (comes_off count o (comes_of o heads known)) are (over_left count o (drop count o) heads' refl are m.over) in
    let here = sym m.blocks_are in
    record {
      stands_is = subst stands here m.stands_is;
      fits = omega (arith, long, m.within);
      known = subst (λ x. IsKnown x heads') here left;
      heads_room = subst (HasRoom heads') here (room_off count o heads' whole);
      out_is = record {
        waits_is = m.waits_is;
        ahead_is = m.ahead_is;
        comes = comes_of o heads known;
        behind_are = m.behind_are;
        even = omega (arith, long, m.within, less);
        few = few;
        within = m.within;
        room_is = more;
        heads_room = whole;
      };
    }

-- what is known where held blocks may come back
pub record CanRestore (stands : Chain → Type 0) (waits : Chain → ℕ → Type 0) (depth ahead : ℕ) (heads : HeadsState) (behind : List Head) (blocks held : List Block) (room : ℕ) : Type 0 where
  pub returns : MayReturn stands waits ahead heads behind blocks held room
  pub few : depth + length held ≤ most_kept
  pub fits : depth + length held ≤ length (held ++ reverse blocks)

may_restore : (out : Option Out) (stands : Chain → Type 0) (waits : Chain → ℕ → Type 0) (depth ahead : ℕ) (heads : HeadsState) (behind : List Head) (blocks held : List Block) (room : ℕ)
    → AreKept stands waits depth ahead heads behind (reverse blocks) room out → IsHeldBy held out → IsAsHeld (reverse blocks) out → CanRestore stands waits depth ahead heads behind blocks held room
may_restore None stands waits depth ahead heads behind blocks held room k h a = absurd h
may_restore (Some o) stands waits depth ahead heads behind blocks held room k h a =
    let s : IsOut waits depth ahead heads behind (reverse blocks) room o = k.out_is in
    let long : length held ≡ o.taken = omega (arith, ap length h, length-take o.taken o.chain, s.within) in
    let rest : length (reverse blocks) ≡ length o.chain - o.taken = ap length a ∙ length-drop o.taken o.chain in
    let whole : held ++ reverse blocks ≡ o.chain = ap (λ x. x ++ reverse blocks) h ∙ ap (λ x. take o.taken o.chain ++ x) a ∙ take-append-drop o.taken o.chain in
    let moved : HasMoved stands waits ahead heads behind blocks held o.chain o.taken = record {
      stands_is = subst stands a k.stands_is;
      waits_is = s.waits_is;
      ahead_is = s.ahead_is;
      blocks_are = a;
      held_are = h;
      heads_are = k.known.are ∙ ap heads_of a ∙ heads_off o.taken o.chain;
      behind_are = s.behind_are;
      over = over_whole o.taken o.chain (reverse blocks) heads (sym a) k.known.are k.known.over;
      within = s.within;
    } in
    record {
      returns = record {
        moved = subst (λ n. HasMoved stands waits ahead heads behind blocks held (held ++ reverse blocks) n) (sym long) (subst (λ x. HasMoved stands waits ahead heads behind blocks held x o.taken) (sym whole) moved);
        comes = subst MayComeBack (sym whole) s.comes;
        fits = omega (arith, ap length whole, s.room_is);
        heads_room = subst (HasRoom heads) (sym whole) s.heads_room;
      };
      few = omega (arith, s.even, s.few, rest, long, s.within);
      fits = omega (arith, k.fits, length-append held (reverse blocks));
    }

-- and by what contracts see
pub can_restore : (out : Option Out) (stands : Chain → Type 0) (waits : Chain → ℕ → Type 0) (depth ahead : ℕ) (heads : HeadsState) (behind : List Head) (blocks held : List Block) (room : ℕ) (seen : KeptChain) (seen_held : Chain)
    → AreKept stands waits depth ahead heads behind (reverse blocks) room out → reverse blocks ≡ seen.chain → out ≡ seen.out → held ≡ seen_held → IsHeldBy seen_held seen.out → IsAsHeld seen.chain seen.out → CanRestore stands waits depth ahead heads behind blocks held room
can_restore out stands waits depth ahead heads behind blocks held room seen seen_held k chain same held_same h a =
    may_restore out stands waits depth ahead heads behind blocks held room k
    (subst (IsHeldBy held) (sym same) (subst (λ x. IsHeldBy x seen.out) (sym held_same) h))
    (subst (IsAsHeld (reverse blocks)) (sym same) (subst (λ x. IsAsHeld x seen.out) (sym chain) a))

-- and where they are back
pub kept_restored : (stands : Chain → Type 0) (waits : Chain → ℕ → Type 0) (depth ahead : ℕ) (heads heads' : HeadsState) (behind : List Head) (blocks held : List Block) (whole : Chain) (room : ℕ)
    → HasMoved stands waits ahead heads' behind blocks held whole 0 → MayComeBack whole → HasRoom heads whole → KeepsRoom heads heads' → depth ≤ most_kept → depth ≤ length whole
    → AreKept stands waits depth ahead heads' behind (reverse blocks) room None
kept_restored stands waits depth ahead heads heads' behind blocks held whole room m comes wide keeps few fits =
    let here = sym m.blocks_are in
    record {
      stands_is = subst stands here m.stands_is;
      fits = omega (arith, fits, ap length here);
      known = subst (λ x. IsKnown x heads') here (known_by whole heads' comes m.heads_are m.over);
      heads_room = subst (HasRoom heads') here (room_on whole heads heads' keeps wide);
      out_is = (few, m.ahead_is);
    }
