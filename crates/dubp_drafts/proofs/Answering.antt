-- Facts on the value of an answer, where there is one.
use Rattle.std.proofs.Common.{◌≡◌, Result, Ok, Err, IfOk, OnOk, ◌∙◌}

pub same_where_ok : {A E : Type 0} (r : Result A E) (a b : A) → IfOk r (λ x. x ≡ a) → a ≡ b → IfOk r (λ x. x ≡ b)
same_where_ok (Ok x) a b h e = h ∙ e
same_where_ok (Err x) a b h e = tt

pub holds_where_ok : {A E : Type 0} (r : Result A E) (P : A → Type 0) (a : A) → IfOk r (λ x. x ≡ a) → P a → IfOk r P
holds_where_ok (Ok x) P a h p = rw h p
holds_where_ok (Err x) P a h p = tt

pub on_ok : {A E : Type 0} (r : Result A E) (P : Type 0) → P → OnOk r P
on_ok (Ok x) P p = p
on_ok (Err x) P p = tt
