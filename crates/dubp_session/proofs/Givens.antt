-- Commands that give a chain that was made, one after another, and texts that are written of it.
use Rattle.std.proofs.Common.{◌≡◌, ◌∙◌, ◌+◌, ◌<◌, ℕ, List, [], ◌∷◌, ◌++◌, Option, Result, Ok, Err, OnOk, OnErr, length, map, take, drop, reverse, get_or, refl, sym, ap, subst, append_assoc, append-nil, take-append-drop}
use Rattle.std.specs.List.{AllByRecursion}
use Rattle.std.proofs.lemmas.List.{map_more, map_push, reverse-append}
use Rattle.dubp_block.specs.declared.block.Block.{Block}
use Rattle.dubp_replay.specs.declared.command.Command.{Command}
use Rattle.dubp_replay.specs.Turns.{State}
use Rattle.dubp_drafts.specs.Drafting.{Given}
use Rattle.std.specs.Prelude.{codes, decimal}
use Rattle.dubp_atoms.specs.Letters.{SPACE}
use Rattle.dubp_rules.specs.declared.rule.Rule.{Rule}
use Rattle.dubp_rules.specs.Table.{code_text}
use Rattle.dubp_replay.specs.Answers.{answer_line}
use Rattle.dubp_gen.specs.declared.chain.GenRefusal.TheVariants.{NoNonce, Invalid}
use Rattle.dubp_entries.specs.Run.{at}
use Rattle.dubp_session.specs.Forms.{GenEnds, IsWritten}
use Rattle.dubp_session.specs.declared.generating.GenEnding.{GenEnding}
use Rattle.dubp_session.specs.declared.generating.GenEnding.TheVariants.{Written, WriteFault, NoRoom}
use Rattle.dubp_turns.specs.Given.{GivenTurn, IsGivenAll, block_given, verdict_given}
use Rattle.dubp_session.specs.Generating.{Generates, IsGivenFront, NamesEnd}
use Rattle.dubp_entries.proofs.Sessions.{runs-append}

pub given_none : (s : State) → IsGivenAll [] s s
given_none s = record { answers = []; run = refl }

pub given_then : (xs ys : List (Command × List ℕ)) (old mid new : State) → IsGivenAll xs old mid → IsGivenAll ys mid new → IsGivenAll (xs ++ ys) old new
given_then xs ys old mid new p q = record {
  answers = p.answers ++ q.answers;
  run = runs-append GivenTurn xs ys p.answers q.answers old mid new p.run q.run;
}

-- a front of more
pub front_of : (xs ys : List (Command × List ℕ)) (old new : State) → IsGivenAll xs old new → IsGivenFront (xs ++ ys) old new
front_of xs ys old new p = record { done = xs; others = ys; given_is = refl; all = p }

pub front_more : (xs ys : List (Command × List ℕ)) (old new : State) → IsGivenFront xs old new → IsGivenFront (xs ++ ys) old new
front_more xs ys old new p = record {
  done = p.done;
  others = p.others ++ ys;
  given_is = ap (λ l. l ++ ys) p.given_is ∙ append_assoc p.done p.others ys;
  all = p.all;
}

pub front_then : (xs ys : List (Command × List ℕ)) (old mid new : State) → IsGivenAll xs old mid → IsGivenFront ys mid new → IsGivenFront (xs ++ ys) old new
front_then xs ys old mid new p q = record {
  done = xs ++ q.done;
  others = q.others;
  given_is = ap (λ l. xs ++ l) q.given_is ∙ sym (append_assoc xs q.done q.others);
  all = given_then xs q.done old mid new p q.all;
}

pub front_whole : (xs : List (Command × List ℕ)) (old new : State) → IsGivenAll xs old new → IsGivenFront xs old new
front_whole xs old new p = record { done = xs; others = []; given_is = sym (append-nil xs); all = p }

module _ {X Y : Type 0} (f : X → Y) where
  map-both : (xs ys : List X) → map f (xs ++ ys) ≡ map f xs ++ map f ys
  map-both [] ys = refl
  map-both (x ∷ xs) ys = ap (λ l. f x ∷ l) (map-both xs ys)

-- ---- verdicts, from the first on

pub verdicts_more : (gs : List Given) (i : ℕ) (g : Given) (old mid new : State) → i < length gs → g ≡ get_or gs i g → IsGivenAll (map verdict_given (take i gs)) old mid → IsGivenAll (verdict_given g ∷ []) mid new → IsGivenAll (map verdict_given (take (i + 1) gs)) old new
verdicts_more gs i g old mid new within is p q =
    let front = map verdict_given (take i gs) in
    let more : map verdict_given (take (i + 1) gs) ≡ front ++ verdict_given g ∷ [] = map_more verdict_given gs i g within ∙ ap (λ x. front ++ verdict_given x ∷ []) (sym is) in
    subst (λ l. IsGivenAll l old new) (sym more) (given_then front (verdict_given g ∷ []) old mid new p q)

pub verdicts_front : (gs : List Given) (i : ℕ) (old mid new : State) → IsGivenAll (map verdict_given (take i gs)) old mid → new ≡ mid → IsGivenFront (map verdict_given gs) old new
verdicts_front gs i old mid new p same =
    let front = map verdict_given (take i gs) in
    let parts : front ++ map verdict_given (drop i gs) ≡ map verdict_given gs = sym (map-both verdict_given (take i gs) (drop i gs)) ∙ ap (map verdict_given) (take-append-drop i gs) in
    subst (λ l. IsGivenFront l old new) parts (front_of front (map verdict_given (drop i gs)) old new (subst (IsGivenAll front old) (sym same) p))

-- ---- blocks, from the last of the list on

pub turned_push : (b : Block) (done : List Block) → map block_given (reverse (b ∷ done)) ≡ map block_given (reverse done) ++ block_given b ∷ []
turned_push b done = ap (map block_given) (reverse-append (b ∷ []) done) ∙ map_push block_given (reverse done) b

-- the blocks that were given, behind those that are left
pub record AreGiven (bs rest : List Block) (old new : State) : Type 0 where
  pub done : List Block
  pub are : bs ≡ rest ++ done
  pub given : IsGivenAll (map block_given (reverse done)) old new

pub blocks_none : (bs : List Block) (s : State) → AreGiven bs bs s s
blocks_none bs s = record { done = []; are = sym (append-nil bs); given = given_none s }

pub blocks_more : (bs rest left : List Block) (b : Block) (old mid new : State) → AreGiven bs rest old mid → rest ≡ left ++ b ∷ [] → IsGivenAll (block_given b ∷ []) mid new → AreGiven bs left old new
blocks_more bs rest left b old mid new p last q =
    let before = map block_given (reverse p.done) in
    record {
      done = b ∷ p.done;
      are = p.are ∙ ap (λ l. l ++ p.done) last ∙ append_assoc left (b ∷ []) p.done;
      given = subst (λ l. IsGivenAll l old new) (sym (turned_push b p.done)) (given_then before (block_given b ∷ []) old mid new p.given q);
    }

pub blocks_all : (bs rest : List Block) (old new : State) → AreGiven bs rest old new → rest ≡ [] → IsGivenAll (map block_given (reverse bs)) old new
blocks_all bs rest old new p none = subst (λ l. IsGivenAll (map block_given (reverse l)) old new) (sym (p.are ∙ ap (λ l. l ++ p.done) none)) p.given

pub blocks_front : (bs rest : List Block) (old mid new : State) → AreGiven bs rest old mid → new ≡ mid → IsGivenFront (map block_given (reverse bs)) old new
blocks_front bs rest old mid new p same =
    let front = map block_given (reverse p.done) in
    let back = map block_given (reverse rest) in
    let parts : front ++ back ≡ map block_given (reverse bs) = sym (map-both block_given (reverse p.done) (reverse rest)) ∙ ap (map block_given) (sym (reverse-append rest p.done) ∙ ap reverse (sym p.are)) in
    subst (λ l. IsGivenFront l old new) parts (front_of front back old new (subst (IsGivenAll front old) (sym same) p.given))

-- what holds of each block holds of the last of those that are left
module _ (P : Block → Type 0) where
  at_last : (left done : List Block) (b : Block) → AllByRecursion P (left ++ (b ∷ done)) → P b
  at_last [] done b all = all.0
  at_last (a ∷ left) done b all = at_last left done b all.1

  pub of_last : (bs rest left : List Block) (b : Block) (old mid : State) → AreGiven bs rest old mid → rest ≡ left ++ b ∷ [] → AllByRecursion P bs → P b
  of_last bs rest left b old mid p last all =
      at_last left p.done b (subst (AllByRecursion P) (p.are ∙ ap (λ l. l ++ p.done) last ∙ append_assoc left (b ∷ []) p.done) all)

-- all of a chain, or a front of it

pub all_given : {T E : Type 0} (r : Result T E) (gs hs : List Given) (bs cs : List Block) (old mid new : State) → hs ≡ gs → cs ≡ bs → IsGivenAll (map verdict_given hs) old mid → OnOk r (IsGivenAll (map block_given (reverse cs)) mid new)
    → OnOk r (IsGivenAll (map verdict_given gs ++ map block_given (reverse bs)) old new)
all_given (Ok x) gs hs bs cs old mid new e f p q =
    given_then (map verdict_given gs) (map block_given (reverse bs)) old mid new (subst (λ l. IsGivenAll (map verdict_given l) old mid) e p) (subst (λ l. IsGivenAll (map block_given (reverse l)) mid new) f q)
all_given (Err x) gs hs bs cs old mid new e f p q = tt

pub front_given : {T E : Type 0} (r : Result T E) (gs hs : List Given) (bs cs : List Block) (old mid new : State) → hs ≡ gs → cs ≡ bs → IsGivenAll (map verdict_given hs) old mid → OnErr r (IsGivenFront (map block_given (reverse cs)) mid new)
    → OnErr r (IsGivenFront (map verdict_given gs ++ map block_given (reverse bs)) old new)
front_given (Ok x) gs hs bs cs old mid new e f p q = tt
front_given (Err x) gs hs bs cs old mid new e f p q =
    front_then (map verdict_given gs) (map block_given (reverse bs)) old mid new (subst (λ l. IsGivenAll (map verdict_given l) old mid) e p) (subst (λ l. IsGivenFront (map block_given (reverse l)) mid new) f q)

pub verdicts_given : (gs hs : List Given) (ys : List (Command × List ℕ)) (old new : State) → hs ≡ gs → IsGivenFront (map verdict_given hs) old new → IsGivenFront (map verdict_given gs ++ ys) old new
verdicts_given gs hs ys old new e p = front_more (map verdict_given gs) ys old new (subst (λ l. IsGivenFront (map verdict_given l) old new) e p)

-- ---- how a run ends that has something to write

pub ends_by : (n start : ℕ) (old new : State) (left before after : Option (List ℕ)) (text : List ℕ) (ending : GenEnding) → Generates n start old text new → IsWritten before after text ending → GenEnds n start (at old left before) (at new left after) ending
ends_by n start old new left before after text Written g w = record { text = text; generates = g; left = refl; written = w }
ends_by n start old new left before after text WriteFault g w = record { text = text; generates = g; left = refl; written = w }
ends_by n start old new left before after text NoRoom g w = absurd w

-- ---- the lines that say where the making ends

pub names_nonce : (text : List ℕ) (x block : ℕ) → text ≡ answer_line (codes "NO NONCE " ++ decimal x) → x ≡ block → NamesEnd (NoNonce block) text
names_nonce text x block e same = subst (λ n. text ≡ answer_line (codes "NO NONCE " ++ decimal n)) same e

pub names_block : (text : List ℕ) (x block : ℕ) (y rule : Rule) → text ≡ answer_line (codes "NO BLOCK " ++ (decimal x ++ (SPACE ∷ code_text y))) → x ≡ block → y ≡ rule → NamesEnd (Invalid block rule) text
names_block text x block y rule e same same_rule =
    subst (λ n. text ≡ answer_line (codes "NO BLOCK " ++ (decimal n ++ (SPACE ∷ code_text rule)))) same
    (subst (λ r. text ≡ answer_line (codes "NO BLOCK " ++ (decimal x ++ (SPACE ∷ code_text r)))) same_rule e)
