-- What a longer chain says of a block of a chain that it goes on from: on a sound chain the number of each block is its place, so that the
-- head of a number, and that of a stamp, stay the same.
use Rattle.std.proofs.Common.{◌≡◌, ℕ, ◌<◌, ◌≤◌, List, [], ◌∷◌, ◌++◌, length, Option, Some, None, option_map, refl, sym, ap, ◌∙◌, length-append, true≢false, inl, inr, arith}
use Rattle.std.specs.Prelude.{find, ◌==◌, is_some}
use Rattle.std.specs.Option.{IsSomeAnd}
use Rattle.std.proofs.lemmas.Bool.{cases_lt, ne_eqb}
use Rattle.dubp_atoms.specs.declared.stamp.Stamp.{Stamp}
use Rattle.dubp_rules.specs.declared.rule.Rule.TheVariants.{G51}
use Rattle.dubp_block.specs.declared.block.Block.{Block}
use Rattle.dubp_block.specs.declared.block.CertLine.{CertLine}
use Rattle.dubp_chain.specs.declared.head.Head.{Head}
use Rattle.dubp_chain.specs.Chains.{Chain, params}
use Rattle.dubp_chain.specs.Members.{members}
use Rattle.dubp_chain.specs.Heads.{heads_of, next_head}
use Rattle.dubp_chain.specs.Made.{head_stamped, head_numbered, made, certification_made}
use Rattle.dubp_validity.specs.Rules.{IsSound}
use Rattle.dubp_money.proofs.OfFacts.{AreBelow, next-number, heads-below, of_hash, stamped-numbered}

pub sound_below : (d c : Chain) → IsSound (d ++ c) → IsSound c
sound_below [] c sound = sound
sound_below (x ∷ d) c sound = sound_below d c sound.1

-- no later head has a number below the length of the chain
pub numbered_before : (d c : Chain) (n : ℕ) → n < length c → IsSound (d ++ c) → head_numbered (d ++ c) n ≡ head_numbered c n
numbered_before [] c n within sound = refl
numbered_before (x ∷ d) c n within sound =
    let number : x.number ≡ length (d ++ c) = sound.0 G51 refl in
    let p = params (x ∷ (d ++ c)) in
    let count = length (members (x ∷ (d ++ c))) in
    let is = next-number p count (heads_of (d ++ c)) x in
    let other = ne_eqb (next_head p count (heads_of (d ++ c)) x).number n (λ (e : (next_head p count (heads_of (d ++ c)) x).number ≡ n). omega (arith, within, number, length-append d c, is, e)) in
    rw other (numbered_before d c n within sound.1)

-- no head has a number that is above all
none_numbered : (hs : List Head) (m n : ℕ) → m ≤ n → AreBelow m hs → find (λ h. h.number == n) hs ≡ None
none_numbered [] m n le below = refl
none_numbered (h ∷ hs) m n le below = rw (ne_eqb h.number n (λ e. omega (arith, le, below.0, e))) (none_numbered hs m n le below.1)

-- a stamp that has a time names a block of the chain
pub stamp_within : (P : ℕ → Type 0) (c : Chain) (s : Stamp) → IsSound c → IsSomeAnd (option_map (λ h. h.median_time) (head_stamped c s)) P → s.number < length c
stamp_within P c s sound has =
    elim (cases_lt s.number (length c)) [
      | inl within ↦ within
      | inr le ↦ absurd (nothing (head_stamped c s) (stamped-numbered c sound s ∙ ap (of_hash s) (none_numbered (heads_of c) (length c) s.number le (heads-below c sound))) has)
    ]
  where
    nothing : (o : Option Head) → o ≡ None → IsSomeAnd (option_map (λ (h : Head). h.median_time) o) P → ⊥
    nothing None e has = has
    nothing (Some h) e has = true≢false (ap is_some e)

pub stamped_before : (d c : Chain) (s : Stamp) → s.number < length c → IsSound (d ++ c) → head_stamped (d ++ c) s ≡ head_stamped c s
stamped_before d c s within sound =
    stamped-numbered (d ++ c) sound s ∙ ap (of_hash s) (numbered_before d c s.number within sound) ∙ sym (stamped-numbered c (sound_below d c sound) s)

-- on a chain with a block the time is that of a head
made_on : (d : Chain) (x : Block) (c : Chain) (b : Block) (s : Stamp) → made (d ++ x ∷ c) b s ≡ option_map (λ h. h.median_time) (head_stamped (d ++ x ∷ c) s)
made_on [] x c b s = refl
made_on (y ∷ d) x c b s = refl

certified_on : (d : Chain) (x : Block) (c : Chain) (b : Block) (line : CertLine) → certification_made (d ++ x ∷ c) b line ≡ option_map (λ h. h.median_time) (head_numbered (d ++ x ∷ c) line.number)
certified_on [] x c b line = refl
certified_on (y ∷ d) x c b line = refl

-- what was made on a block of the chain was made at the same time on a longer one
pub made_before : (P : ℕ → Type 0) (d : Chain) (x : Block) (c : Chain) (b : Block) (s : Stamp) → IsSound (d ++ x ∷ c) → IsSomeAnd (made (x ∷ c) b s) P → made (d ++ x ∷ c) b s ≡ made (x ∷ c) b s
made_before P d x c b s sound has =
    made_on d x c b s ∙ ap (option_map (λ h. h.median_time)) (stamped_before d (x ∷ c) s (stamp_within P (x ∷ c) s (sound_below d (x ∷ c) sound) has) sound)

pub certified_before : (d : Chain) (x : Block) (c : Chain) (b : Block) (line : CertLine) → line.number < length (x ∷ c) → IsSound (d ++ x ∷ c) → certification_made (d ++ x ∷ c) b line ≡ certification_made (x ∷ c) b line
certified_before d x c b line within sound =
    certified_on d x c b line ∙ ap (option_map (λ h. h.median_time)) (numbered_before d (x ∷ c) line.number within sound)
