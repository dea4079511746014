-- Who has to be excluded by the rows of the indexes has to be by those of the chain, and the table of them goes on record by record.
use Rattle.std.proofs.Common.{◌≡◌, ℕ, ◌+◌, Bool, true, false, cond, List, [], ◌∷◌, Option, None, Some, refl, sym, ap, subst, ◌∙◌, fold, length, take, arith}
use Rattle.std.specs.Prelude.{option_map, is_some, if◌then◌else◌}
use Rattle.dubp_atoms.specs.Same.{Text, same_text}
use Rattle.dubp_people_apply.proofs.OfLists.{same_text_is}
use Rattle.dubp_params.specs.declared.params.Params.{Params}
use Rattle.dubp_chain.specs.Tables as chain
use Rattle.dubp_people_apply.specs.OfSteps.{kicked_by}
use Rattle.dubp_registry.specs.OfLeft.{identity_entry, member_entry}
use Rattle.dubp_people.specs.Exclusion.{is_kicked}

pub kicked_told : (p : Params) (time count : ℕ) (i : Option chain.IdentityRow) (m : Option chain.MembershipRow)
    → is_kicked p time count (option_map identity_entry i) (option_map member_entry m) ≡ kicked_by p time count i m
kicked_told p time count None None = refl
kicked_told p time count None (Some m) = refl
kicked_told p time count (Some i) None = refl
kicked_told p time count (Some i) (Some m) = refl

-- what stands in the table of them
pub unit_of : (o : Option (Unit {0})) (b : Bool) → is_some o ≡ b → o ≡ (if b then Some tt else None)
unit_of None b e = subst (λ b. None ≡ (if b then Some tt else None)) e refl
unit_of (Some u) b e = subst (λ b. Some u ≡ (if b then Some tt else None)) e refl

pub some_of : (o : Option (Unit {0})) (b : Bool) → o ≡ (if b then Some tt else None) → is_some o ≡ b
some_of o true e = ap is_some e
some_of o false e = ap is_some e

-- whether a record touches the key, and what is noted then
pub renewed : (touched : Bool) (k key : Text) (f : Text → Bool) (is was now : Bool) → touched ≡ same_text k key → is ≡ f key → now ≡ (if same_text k key then is else was) → now ≡ (if touched then f k else was)
renewed touched k key f is was now e g n =
    n
    ∙ elim (same_text k key) as (λ b. same_text k key ≡ b → (if b then is else was) ≡ (if b then f k else was)) [
      | true ↦ λ same. g ∙ ap f (sym (same_text_is k key same))
      | false ↦ λ other. refl
    ] refl
    ∙ ap (λ b. if b then f k else was) (sym e)
