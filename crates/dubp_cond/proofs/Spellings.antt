-- A condition in its spelling is one with its text.
use Rattle.std.proofs.Common.{◌≡◌, ℕ, List, Bool, true, Option, Some, None, is_some, refl, sym, ap, ◌∙◌}
use Rattle.dubp_cond.specs.Tree.{CondTree}
use Rattle.dubp_cond.specs.Conditions.{cond_text, IsCond}
use Rattle.dubp_cond.specs.Reading.{cond_of_text}
use Rattle.dubp_cond.specs.Spelled.{cond_or_empty, spelled}
use Rattle.dubp_cond.proofs.Conditions.{cond_found, cond_again}

pub text_of_spelled : (text : List ℕ) → IsCond (spelled text) → text ≡ cond_text (spelled text)
text_of_spelled text good = seen (cond_of_text text) refl good
  where
    seen : (o : Option CondTree) → cond_of_text text ≡ o → IsCond (cond_or_empty o) → text ≡ cond_text (cond_or_empty o)
    seen (Some c) is good = (cond_found text c is).1
    seen None is good = absurd good.fits

pub spelled_again : (c : CondTree) → IsCond c → spelled (cond_text c) ≡ c
spelled_again c good = ap cond_or_empty (cond_again c good)

pub spelled_good : (text : List ℕ) (told : Bool) → told ≡ is_some (cond_of_text text) → told ≡ true → IsCond (spelled text)
spelled_good text told is held = seen (cond_of_text text) refl (sym is ∙ held)
  where
    seen : (o : Option CondTree) → cond_of_text text ≡ o → is_some o ≡ true → IsCond (cond_or_empty o)
    seen (Some c) is held = (cond_found text c is).0
    seen None is held = absurd cc
