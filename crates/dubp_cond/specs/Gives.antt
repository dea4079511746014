-- What a function of the code gives, beside what reading on lists gives. It mirrors code.
use Rattle.std.specs.Prelude.{ℕ, ◌≡◌, List, Option, Some, None, option_map, Bool, if◌then◌else◌}
use Rattle.dubp_cond.specs.Tree.{ItemTree}
use Rattle.dubp_cond.specs.View.{item_tree}
use Rattle.dubp_cond.specs.declared.unlock.Unlock.{Unlock}
use Rattle.dubp_cond.specs.declared.unlock.Unlock.TheVariants as unlock
use Rattle.dubp_cond.specs.declared.unlock.Spelled.{Spelled}
use Rattle.dubp_cond.specs.declared.unlock.Spelled.TheVariants.{Sig, Xhx}
use Rattle.dubp_cond.specs.declared.front.Front.{Front}
use Rattle.dubp_cond.specs.declared.front.Front.TheVariants.{Leaf, Group}

-- the value, seen by its view, and what is left, where something was read
abbrev pub Gives : {X A : Type 0} → (X → A) → Option X → List ℕ → Option (A × List ℕ) → Type 0
Gives view None rest read = read ≡ None
Gives view (Some x) rest read = read ≡ Some (view x, rest)

-- what is left of a reading
abbrev pub left_of : {A : Type 0} → Option (A × List ℕ) → Option (List ℕ)
left_of r = option_map (λ p. p.1) r

-- whether something was read, and what is left then
abbrev pub Passes : {A : Type 0} → Bool → List ℕ → Option (A × List ℕ) → Type 0
Passes passed rest read = left_of read ≡ (if passed then Some rest else None)

abbrev pub front_view : Front → Option ItemTree
front_view (Leaf item) = Some (item_tree item)
front_view Group = None

abbrev pub spelled_unlock : Spelled → Unlock
spelled_unlock (Sig issuer) = unlock.Sig issuer
spelled_unlock (Xhx password) = unlock.Xhx password.now
