-- The mass of the head is what was issued: each head adds to the mass what it issues, and the first, which pays nothing, has none.
use Rattle.std.proofs.Common.{◌≡◌, ℕ, List, [], ◌∷◌, length, sum_by, refl, arith}
use Rattle.std.specs.Prelude.{⊤}
use Rattle.std.specs.Option.{MatchOption}
use Rattle.std.proofs.lemmas.List.Sums.{sum_by-cons}
use Rattle.dubp_block.specs.declared.block.Block.{Block}
use Rattle.dubp_params.specs.declared.params.Params.{Params}
use Rattle.dubp_chain.specs.declared.head.Head.{Head}
use Rattle.dubp_chain.specs.Chains.{Chain, params}
use Rattle.dubp_chain.specs.Members.{members}
use Rattle.dubp_chain.specs.Heads.{paid_units, next_head, heads_of, newest, head_of, issued}

-- what a head issues
abbrev pub issued_at : Head → ℕ
issued_at h = paid_units h.ud h.unit_base h.members

abbrev IsMass : List Head → Type 0
IsMass hs = MatchOption (newest hs) ⊤ (λ h. h.mass ≡ sum_by issued_at hs)

next_mass : (p : Params) (n : ℕ) (hs : List Head) (b : Block) → IsMass hs → (next_head p n hs b).mass ≡ sum_by issued_at (next_head p n hs b ∷ hs)
next_mass p n [] b is = refl
next_mass p n (h ∷ hs) b is = omega (arith, sum_by-cons issued_at (next_head p n (h ∷ hs) b) (h ∷ hs), is)

mass_of_heads : (c : Chain) → IsMass (heads_of c)
mass_of_heads [] = tt
mass_of_heads (b ∷ c) = next_mass (params (b ∷ c)) (length (members (b ∷ c))) (heads_of c) b (mass_of_heads c)

-- the mass of the head of a chain
pub mass-is : (c : Chain) → MatchOption (head_of c) ⊤ (λ h. h.mass ≡ issued c)
mass-is c = mass_of_heads c
