-- On a sound chain the number of each block is its place, so that a number names at most one head.
use Rattle.std.proofs.Common.{◌≡◌, ℕ, suc, ◌<◌, ◌≤◌, Bool, true, false, cond, List, [], ◌∷◌, length, Option, Some, None, refl, sym, arith}
use Rattle.std.specs.Prelude.{⊤, find, ◌&&◌, ◌==◌}
use Rattle.std.proofs.lemmas.Bool.{ne_eqb, eqb-true, eqb-false, eq-eqb}
use Rattle.dubp_atoms.specs.Same.{same_text, same_stamp}
use Rattle.dubp_atoms.specs.declared.stamp.Stamp.{Stamp}
use Rattle.dubp_validity.specs.OfRules.{G51}
use Rattle.dubp_params.specs.declared.params.Params.{Params}
use Rattle.dubp_validity.specs.OfBlock.{Block}
use Rattle.dubp_validity.specs.OfChain.{Head}
use Rattle.dubp_validity.specs.OfChain.{head_stamp}
use Rattle.dubp_validity.specs.OfChain.{Chain, params}
use Rattle.dubp_validity.specs.OfChain.{members}
use Rattle.dubp_validity.specs.OfChain.{heads_of, next_head}
use Rattle.dubp_validity.specs.OfChain.{head_stamped, head_numbered}
use Rattle.dubp_validity.specs.Rules.{IsSound}

-- each head has a number below n
abbrev pub AreBelow : ℕ → List Head → Type 0
AreBelow n [] = ⊤
AreBelow n (h ∷ hs) = (h.number < n) × AreBelow n hs

pub next-number : (p : Params) (count : ℕ) (hs : List Head) (b : Block) → (next_head p count hs b).number ≡ b.number
next-number p count [] b = refl
next-number p count (h ∷ hs) b = refl

-- each head's number is above those before it
abbrev pub AreApart : List Head → Type 0
AreApart [] = ⊤
AreApart (h ∷ hs) = AreBelow h.number hs × AreApart hs

below-more : (n m : ℕ) (hs : List Head) → n ≤ m → AreBelow n hs → AreBelow m hs
below-more n m [] le a = tt
below-more n m (h ∷ hs) le a = (omega (arith, le, a.0), below-more n m hs le a.1)

pub heads-below : (c : Chain) → IsSound c → AreBelow (length c) (heads_of c)
heads-below [] s = tt
heads-below (b ∷ c) s =
    let number : b.number ≡ length c = s.0 G51 refl in
    (omega (arith, next-number (params (b ∷ c)) (length (members (b ∷ c))) (heads_of c) b, number), below-more (length c) (suc (length c)) (heads_of c) (omega arith) (heads-below c s.1))

pub heads-apart : (c : Chain) → IsSound c → AreApart (heads_of c)
heads-apart [] s = tt
heads-apart (b ∷ c) s =
    let number : b.number ≡ length c = s.0 G51 refl in
    (rw (next-number (params (b ∷ c)) (length (members (b ∷ c))) (heads_of c) b, number) (heads-below c s.1), heads-apart c s.1)

-- no head of a lower number has the stamp
unstamped : (n : ℕ) (s : Stamp) (hs : List Head) → n ≤ s.number → AreBelow n hs → find (λ h. same_stamp s (head_stamp h)) hs ≡ None
unstamped n s [] le a = refl
unstamped n s (h ∷ hs) le a =
    let other : (s.number == h.number) ≡ false = ne_eqb s.number h.number (λ e. omega (arith, le, a.0, e)) in
    rw other (unstamped n s hs le a.1)

-- the head, where its hash is that of the stamp
abbrev pub of_hash : Stamp → Option Head → Option Head
of_hash s None = None
of_hash s (Some h) = cond (same_text s.hash h.hash) (Some h) None

by_number : (s : Stamp) (h : Head) (hs : List Head) (t u : Bool) → (s.number == h.number) ≡ t → same_text s.hash h.hash ≡ u → (h.number == s.number) ≡ t → AreBelow h.number hs → find (λ g. same_stamp s (head_stamp g)) hs ≡ of_hash s (find (λ g. g.number == s.number) hs) → cond (t && u) (Some h) (find (λ g. same_stamp s (head_stamp g)) hs) ≡ of_hash s (cond t (Some h) (find (λ g. g.number == s.number) hs))
by_number s h hs true true e f g a rest = rw f refl
by_number s h hs true false e f g a rest =
    let same : s.number ≡ h.number = eqb-true s.number h.number e in
    rw f (unstamped h.number s hs (omega (arith, same)) a)
by_number s h hs false u e f g a rest = rest

eq_turned : (m n : ℕ) (b : Bool) → (m == n) ≡ b → b ≡ (n == m)
eq_turned m n true e = sym (eq-eqb n m (sym (eqb-true m n e)))
eq_turned m n false e = sym (ne_eqb n m (λ same. eqb-false m n e (sym same)))

stamped : (s : Stamp) (hs : List Head) → AreApart hs → find (λ h. same_stamp s (head_stamp h)) hs ≡ of_hash s (find (λ h. h.number == s.number) hs)
stamped s [] each = refl
stamped s (h ∷ hs) each =
    let turned : (h.number == s.number) ≡ (s.number == h.number) = eq_turned h.number s.number (h.number == s.number) refl in
    rw turned (by_number s h hs (s.number == h.number) (same_text s.hash h.hash) refl refl turned each.0 (stamped s hs each.1))

-- the head of a stamp is that of its number, where its hash is the stamp's
pub stamped-numbered : (c : Chain) → IsSound c → (s : Stamp) → head_stamped c s ≡ of_hash s (head_numbered c s.number)
stamped-numbered c sound s = stamped s (heads_of c) (heads-apart c sound)
