-- What blocks left behind, through each move of a ledger.
use Rattle.std.proofs.Common.{◌≡◌, ℕ, zero, suc, ◌+◌, ◌≤◌, ◌<◌, Bool, true, false, cond, ◌==◌, List, [], ◌∷◌, ◌++◌, length, length-append, append_assoc, drop, take, take-append-drop, Option, Some, None, refl, sym, ap, subst, ◌∙◌, arith, eq-eqb, eqb-true}
use Rattle.std.proofs.lemmas.List.{length-reverse, reverse-append}
use Rattle.std.specs.Prelude.{slice_get, reverse}
use Rattle.std.specs.Option.{MatchOption}
use Rattle.std.specs.List.{AllByRecursion}
use Rattle.dubp_block.specs.declared.block.Block.{Block}
use Rattle.dubp_chain.specs.declared.head.Head.{Head}
use Rattle.dubp_chain.specs.Chains.{Chain, block_of_number}
use Rattle.dubp_chain.specs.Heads.{head_of, heads_of}
use Rattle.dubp_people_and_money.specs.OfValidity.{records, records_at}
use Rattle.dubp_people_and_money.specs.OfKept.{KeptChain, Out, IsHeldBy, IsAsHeld, IsAsBefore, with_block}
use Rattle.dubp_people_and_money.specs.OfKept.{left_behind}
use Rattle.dubp_people_and_money.specs.OfKept.{LeftBehind}
use Rattle.dubp_block.specs.Text.{IsBlock}
use Rattle.dubp_ledger.specs.Traces.{TracesState, AreTraces, AreHeld, IsShort, traces_of}
use Rattle.dubp_ledger.specs.Written.{IsWrittenAt}

pub length_traces : (c : Chain) → length (traces_of c) ≡ length c
length_traces [] = refl
length_traces (b ∷ c) = ap suc (length_traces c)

pub drop_traces : (n : ℕ) (c : Chain) → drop n (traces_of c) ≡ traces_of (drop n c)
drop_traces zero c = refl
drop_traces (suc n) [] = refl
drop_traces (suc n) (b ∷ c) = drop_traces n c

short_drop : (n : ℕ) (c : Chain) → AllByRecursion IsShort c → AllByRecursion IsShort (drop n c)
short_drop zero c all = all
short_drop (suc n) [] all = tt
short_drop (suc n) (b ∷ c) all = short_drop n c all.1

-- what stands after a move, where nothing held changes
same_held : (t u : TracesState) (o : Option Out) → u.held ≡ t.held → t.room ≤ u.room → AreHeld t o → AreHeld u o
same_held t u None held room are = tt
same_held t u (Some o) held room are = (held ∙ are.0, omega (arith, are.1, room), are.2)

-- one block more
pub joined : (t r u : TracesState) (old new : KeptChain) (b : Block) (left : LeftBehind) → AreTraces t old → IsShort b → r.standing ≡ t.standing → r.held ≡ t.held → t.room ≤ r.room → left ≡ left_behind old.chain b → new ≡ with_block b old → u.standing ≡ left ∷ r.standing → u.held ≡ r.held → u.room ≡ r.room → AreTraces u new
joined t r u old new b left are short standing held room is joins pushed same capacity =
    subst (AreTraces u) (sym joins) (record {
      standing = pushed ∙ ap (λ s. left ∷ s) (standing ∙ are.standing) ∙ ap (λ l. l ∷ traces_of old.chain) is;
      held = same_held t u old.out (same ∙ held) (omega (arith, room, capacity)) are.held;
      short = (short, are.short);
    })

-- blocks less
pub fewer : (t u : TracesState) (old new : KeptChain) (n : ℕ) → AreTraces t old → u.standing ≡ drop n t.standing → u.held ≡ t.held → u.room ≡ t.room → new.chain ≡ drop n old.chain → new.out ≡ old.out → AreTraces u new
fewer t u old new n are standing held room chain out = record {
  standing = standing ∙ ap (drop n) are.standing ∙ drop_traces n old.chain ∙ ap traces_of (sym chain);
  held = subst (AreHeld u) (sym out) (same_held t u old.out held (omega (arith, room)) are.held);
  short = subst (AllByRecursion IsShort) (sym chain) (short_drop n old.chain are.short);
}

-- blocks that are held
pub held_off : (t u : TracesState) (old new : KeptChain) (n : ℕ) → AreTraces t old → u.standing ≡ drop n t.standing → u.held ≡ take n t.standing → length t.standing ≤ u.room → new.chain ≡ drop n old.chain → new.out ≡ Some (record { chain = old.chain; kept = old.kept; taken = n }) → AreTraces u new
held_off t u old new n are standing held room chain out = record {
  standing = standing ∙ ap (drop n) are.standing ∙ drop_traces n old.chain ∙ ap traces_of (sym chain);
  held = subst (AreHeld u) (sym out) (held ∙ ap (take n) are.standing, omega (arith, room, ap length are.standing, length_traces old.chain), are.short);
  short = subst (AllByRecursion IsShort) (sym chain) (short_drop n old.chain are.short);
}

-- held blocks that come back
module _ (t : TracesState) (s : KeptChain) (o : Out) (are : AreTraces t s) (out : s.out ≡ Some o) (chain : s.chain ≡ drop o.taken o.chain) where
  here : AreHeld t (Some o)
  here = subst (AreHeld t) out are.held

  whole : t.held ++ t.standing ≡ traces_of o.chain
  whole =
      ap (λ l. l ++ t.standing) here.0
      ∙ ap (λ l. take o.taken (traces_of o.chain) ++ l) (are.standing ∙ ap traces_of chain ∙ sym (drop_traces o.taken o.chain))
      ∙ take-append-drop o.taken (traces_of o.chain)

  pub fits_back : length t.held + length t.standing ≤ t.room
  fits_back = omega (arith, ap length whole, length-append t.held t.standing, length_traces o.chain, here.1)

  pub come_back : (u : TracesState) (new : KeptChain) → u.standing ≡ t.held ++ t.standing → new ≡ record { chain = o.chain; kept = o.kept; out = None } → AreTraces u new
  come_back u new standing as_before =
      subst (AreTraces u) (sym as_before) (record { standing = standing ∙ whole; held = tt; short = here.2 })

-- the same, by what is required
pub can_come : (t : TracesState) (s : KeptChain) (held : Chain) → AreTraces t s → IsHeldBy held s.out → IsAsHeld s.chain s.out → length t.held + length t.standing ≤ t.room
can_come t s held are by stands = by_out s.out refl by stands
  where
    by_out : (o : Option Out) → s.out ≡ o → IsHeldBy held o → IsAsHeld s.chain o → length t.held + length t.standing ≤ t.room
    by_out None e by stands = absurd by
    by_out (Some o) e by stands = fits_back t s o are e stands

pub comes_back : (t u : TracesState) (s new : KeptChain) (held : Chain) → AreTraces t s → IsHeldBy held s.out → IsAsHeld s.chain s.out → u.standing ≡ t.held ++ t.standing → IsAsBefore new s.out → AreTraces u new
comes_back t u s new held are by stands standing before = by_out s.out refl by stands before
  where
    by_out : (o : Option Out) → s.out ≡ o → IsHeldBy held o → IsAsHeld s.chain o → IsAsBefore new o → AreTraces u new
    by_out None e by stands before = absurd by
    by_out (Some o) e by stands before = come_back t s o are e stands u new standing before

-- ---- the records of a block of the chain

pub at_number : (d c : Chain) (b : Block) (number : ℕ) → number ≡ length c → records_at (d ++ b ∷ c) number ≡ Some (records c b)
at_number [] c b number is = ap (λ x. cond x (Some (records c b)) (records_at c number)) (eq-eqb number (length c) is)
at_number (a ∷ d) c b number is = ap (λ x. cond x (Some (records (d ++ b ∷ c) a)) (records_at (d ++ b ∷ c) number)) other ∙ at_number d c b number is
  where
    other : number == length (d ++ b ∷ c) ≡ false
    other = by_eq (number == length (d ++ b ∷ c)) refl
      where
        by_eq : (x : Bool) → number == length (d ++ b ∷ c) ≡ x → x ≡ false
        by_eq false e = refl
        by_eq true e = absurd (omega (arith, eqb-true number (length (d ++ b ∷ c)) e, length-append d (b ∷ c), is))

pub beyond : (c : Chain) (number : ℕ) → length c ≤ number → None ≡ records_at c number
beyond [] number far = refl
beyond (b ∷ c) number far = beyond c number (omega (arith, far)) ∙ sym (ap (λ x. cond x (Some (records c b)) (records_at c number)) (beyond_by (number == length c) refl))
  where
    beyond_by : (x : Bool) → number == length c ≡ x → x ≡ false
    beyond_by false e = refl
    beyond_by true e = absurd (omega (arith, eqb-true number (length c) e, far))

-- a chain at one of its blocks
pub record At (c : Chain) (count : ℕ) : Type 0 where
  pub above : Chain
  pub block : Block
  pub below : Chain
  pub is : c ≡ above ++ block ∷ below
  pub above_is : length above ≡ count

pub at_place : (c : Chain) (count : ℕ) → count < length c → At c count
at_place [] count within = absurd (omega (arith, within))
at_place (b ∷ c) zero within = record { above = []; block = b; below = c; is = refl; above_is = refl }
at_place (b ∷ c) (suc count) within =
    let rest = at_place c count (omega (arith, within)) in
    record { above = b ∷ rest.above; block = rest.block; below = rest.below; is = ap (λ l. b ∷ l) rest.is; above_is = ap suc rest.above_is }

pub get_at : {X : Type 0} (xs ys : List X) (x : X) (n : ℕ) → length xs ≡ n → slice_get (xs ++ x ∷ ys) n ≡ Some x
get_at [] ys x zero e = refl
get_at [] ys x (suc n) e = absurd (omega (arith, e))
get_at (a ∷ xs) ys x zero e = absurd (omega (arith, e))
get_at (a ∷ xs) ys x (suc n) e = get_at xs ys x n (omega (arith, e))

head_here : (d c : Chain) (b : Block) → slice_get (heads_of (d ++ b ∷ c)) (length d) ≡ head_of (b ∷ c)
head_here [] c b = refl
head_here (a ∷ d) c b = head_here d c b

left_here : (d c : Chain) (b : Block) → slice_get (traces_of (d ++ b ∷ c)) (length d) ≡ Some (left_behind c b)
left_here [] c b = refl
left_here (a ∷ d) c b = left_here d c b

block_here : (d c : Chain) (b : Block) (number : ℕ) → length c ≡ number → block_of_number (d ++ b ∷ c) number ≡ Some b
block_here d c b number is =
    ap (λ l. slice_get l number) (reverse-append d (b ∷ c) ∙ ap (λ l. l ++ reverse d) (reverse-append (b ∷ []) c) ∙ append_assoc (reverse c) (b ∷ []) (reverse d))
    ∙ get_at (reverse c) (reverse d) b number (length-reverse c ∙ is)

-- what is there for certain is there
pub is_there : {X : Type 0} (o : Option X) (P : Type 0) (Q : X → Type 0) → MatchOption o ⊥ Q → MatchOption o P Q
is_there None P Q none = absurd none
is_there (Some x) P Q some = some

-- the records of a block that the ledger lends
pub rows_written : (c : Chain) (number : ℕ) (b : Block) (h : Head) (l : LeftBehind) → (w : IsWrittenAt c number b h l) → records_at c number ≡ Some (records w.below b)
rows_written c number b h l w = ap (λ x. records_at x number) w.is ∙ at_number w.above w.below b number (sym w.number_is)

module _ (c : Chain) (number count : ℕ) (stands : number + (count + 1) ≡ length c) where
  place : At c count
  place = at_place c count (omega (arith, stands))

  below_is : length place.below ≡ number
  below_is = omega (arith, stands, ap length place.is, length-append place.above (place.block ∷ place.below), place.above_is)

  block_is : block_of_number c number ≡ Some place.block
  block_is = ap (λ x. block_of_number x number) place.is ∙ block_here place.above place.below place.block number below_is

  head_is : slice_get (heads_of c) count ≡ head_of (place.block ∷ place.below)
  head_is = ap (λ x. slice_get (heads_of x) count) place.is ∙ ap (λ n. slice_get (heads_of (place.above ++ place.block ∷ place.below)) n) (sym place.above_is) ∙ head_here place.above place.below place.block

  left_is : slice_get (traces_of c) count ≡ Some (left_behind place.below place.block)
  left_is = ap (λ x. slice_get (traces_of x) count) place.is ∙ ap (λ n. slice_get (traces_of (place.above ++ place.block ∷ place.below)) n) (sym place.above_is) ∙ left_here place.above place.below place.block

  pub block_there : block_of_number c number ≡ None → ⊥
  block_there none = let is = block_is in cc

  pub head_there : slice_get (heads_of c) count ≡ None → ⊥
  head_there none = some_head place.block place.below (sym none ∙ head_is)
    where
      some_head : (b : Block) (d : Chain) → None ≡ head_of (b ∷ d) → ⊥
      some_head b d e = cc

  pub left_there : slice_get (traces_of c) count ≡ None → ⊥
  left_there none = let is = left_is in cc

  pub written_found : (b : Block) (h : Head) (l : LeftBehind) → IsBlock b → block_of_number c number ≡ Some b → slice_get (heads_of c) count ≡ Some h → slice_get (traces_of c) count ≡ Some l → IsWrittenAt c number b h l
  written_found b h l text has_block has_head has_left =
      let same : place.block ≡ b = let is = block_is in cc in
      subst (λ x. IsWrittenAt c number x h l) same (record {
        above = place.above;
        below = place.below;
        is = place.is;
        number_is = below_is;
        text = subst IsBlock (sym same) text;
        head = sym head_is ∙ has_head;
        left = let is = left_is in cc;
      })
