-- What the tables tell of a chain, and what a block that is written makes of them.
use Rattle.std.proofs.Common.{◌≡◌, ℕ, ◌+◌, Bool, true, false, cond, [], ◌∷◌, length, Option, Some, None, refl, sym, ap, inl, inr, arith}
use Rattle.std.specs.Prelude.{option_map, is_some, ◌==◌, ◌&&◌}
use Rattle.std.specs.Ordering.{nat_cmp, is_eq}
use Rattle.std.specs.BTreeMap.{is_at}
use Rattle.std.specs.Cmp.{ranked}
use Rattle.std.specs.declared.cmp.Ordering.{Ordering}
use Rattle.std.specs.declared.cmp.Ordering.TheVariants.{Less, Equal, Greater}
use Rattle.std.proofs.lemmas.Cmp.{nat_cmp_total, tied_itself}
use Rattle.std.proofs.lemmas.Bool.{eqb-true}
use Rattle.std.proofs.lemmas.Bool.Decides.{eqb_tells}
use Rattle.std.specs.Cmp.Lexicographic.{same_text as equal_texts}
use Rattle.dubp_atoms.specs.Same.{same_text, same_stamp, empty_stamp}
use Rattle.dubp_atoms.specs.declared.stamp.Stamp.{Stamp}
use Rattle.dubp_validity.specs.OfBlock.{Block}
use Rattle.dubp_validity.specs.OfBlock.{CertLine}
use Rattle.dubp_validity.specs.OfBlock.{IsFirstParams}
use Rattle.dubp_params.specs.declared.params.Params.{Params}
use Rattle.dubp_validity.specs.OfChain.{Head}
use Rattle.dubp_validity.specs.OfChain.{Chain}
use Rattle.dubp_validity.specs.OfChain.{head_of}
use Rattle.dubp_validity.specs.OfChain.{made, certification_made, head_numbered}
use Rattle.dubp_validity.specs.Rules.{IsSound}
use Rattle.dubp_facts.specs.Facts.{first_at, first_after, block_time, time_at, time_of_stamp, IsNext}
use Rattle.dubp_facts.specs.declared.facts.First.{First}
use Rattle.dubp_facts.specs.declared.facts.BlockTime.{BlockTime}
use Rattle.dubp_facts.proofs.Numbered.{of_hash, stamped-numbered}

-- ---- reading

times : (o : Option Head) → option_map (λ (t : BlockTime). t.time) (option_map block_time o) ≡ option_map (λ h. h.median_time) o
times None = refl
times (Some h) = refl

stamped_times : (s : Stamp) (o : Option Head) → time_of_stamp s (option_map block_time o) ≡ option_map (λ h. h.median_time) (of_hash s o)
stamped_times s None = refl
stamped_times s (Some h) = by (same_text s.hash h.hash)
  where
    by : (b : Bool) → cond b (Some h.median_time) None ≡ option_map (λ (g : Head). g.median_time) (cond b (Some h) None)
    by true = refl
    by false = refl

-- of a chain that has a first block
pub certified : (c : Chain) (b : Block) (line : CertLine) (first : First) (f : Option First) (at : Option BlockTime) → f ≡ Some first → f ≡ first_at c tt → at ≡ time_at c line.number
    → option_map (λ (t : BlockTime). t.time) at ≡ certification_made c b line
certified [] b line first f at is none found = cc
certified (a ∷ c) b line first f at is there found = rw found (times (head_numbered (a ∷ c) line.number))

pub stamped : (c : Chain) (b : Block) (s : Stamp) (first : First) (f : Option First) (at : Option BlockTime) → IsSound c → f ≡ Some first → f ≡ first_at c tt → at ≡ time_at c s.number
    → time_of_stamp s at ≡ made c b s
stamped [] b s first f at sound is none found = cc
stamped (a ∷ c) b s first f at sound is there found =
    rw (found, stamped-numbered (a ∷ c) sound s) (stamped_times s (head_numbered (a ∷ c) s.number))

-- another stamp than that of the empty text
pub no_stamp : (s : Stamp) → (s ≡ empty_stamp → ⊥) → same_stamp empty_stamp s ≡ false
no_stamp s other = elim (same_stamp empty_stamp s) as (λ b. same_stamp empty_stamp s ≡ b → b ≡ false) [
  | true ↦ λ e. absurd (other (the_same (0 == s.number) (same_text empty_stamp.hash s.hash) refl refl e))
  | false ↦ λ e. refl
] refl
  where
    the_same : (a b : Bool) → (0 == s.number) ≡ a → same_text empty_stamp.hash s.hash ≡ b → (a && b) ≡ true → s ≡ empty_stamp
    the_same true true e f both =
        let number = sym (eqb-true 0 s.number e) in
        let hash = sym (equal_texts empty_stamp.hash s.hash (sym f)) in
        λ i. record { number = number i; hash = hash i }
    the_same true false e f both = cc
    the_same false b e f both = cc

-- ---- writing

-- no first block: the parameters are there; a later block has none
first-of : (p : Option Params) (n : ℕ) → IsFirstParams n p → n ≡ 0 → is_some p ≡ true
first-of None n is zero = absurd (is zero)
first-of (Some p) n is zero = refl

none-later : (p : Option Params) (n m : ℕ) → IsFirstParams n p → n ≡ m + 1 → p ≡ None
none-later None n m is later = refl
none-later (Some p) n m is later = absurd (omega (arith, is.0, later))

pub first-next : (c : Chain) (b : Block) (h : Head) → IsNext c b h → first_after b (first_at c tt) ≡ first_at (b ∷ c) tt
first-next [] b h next = by b.params refl (first-of b.params b.number next.block.params next.number)
  where
    by : (p : Option Params) → b.params ≡ p → is_some p ≡ true → first_after b None ≡ first_at (b ∷ []) tt
    by None e some = cc
    by (Some p) e some = rw e refl
first-next (a ∷ c) b h next =
    rw (none-later b.params b.number (length c) next.block.params (omega (arith, next.number))) refl

pick : (b : Bool) (g : Head) (o : Option Head) → option_map block_time (cond b (Some g) o) ≡ cond b (Some (block_time g)) (option_map block_time o)
pick true g o = refl
pick false g o = refl

some_is : {X : Type 0} (x y : X) → Some x ≡ Some y → x ≡ y
some_is x y e = cc

-- the key of the time table, and the number of a head
same_number : (n m : ℕ) → is_at (nat_cmp n) m ≡ (m == n)
same_number n m = elim (eqb_tells m n) [
  | inl same ↦ rw (same.0, same.1) (ap is_eq (tied_itself nat_cmp_total n))
  | inr other ↦ rw other.0 (by (nat_cmp n m) refl (λ e. other.1 (sym e)))
]
  where
    by : (r : Ordering) → nat_cmp n m ≡ r → (n ≡ m → ⊥) → is_eq r ≡ false
    by Less e apart = refl
    by Equal e apart = absurd (apart (ranked n m Equal (sym e)))
    by Greater e apart = refl

pub times-next : (c : Chain) (b : Block) (h : Head) → head_of (b ∷ c) ≡ Some h → (n : ℕ) → cond (is_at (nat_cmp n) h.number) (Some (block_time h)) (time_at c n) ≡ time_at (b ∷ c) n
times-next c b h e n =
    rw (same_number n h.number, ← some_is _ _ e) (sym (pick _ _ _))
