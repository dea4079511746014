-- What a reading that is the inverse of a spelling gives: the three clauses of a reader, and that different values have
-- different texts.
use Rattle.std.proofs.Common.{◌≡◌, ℕ, List, Bool, ◌↔◌, Option, Some, None, is_some, IsTrue, Result, Ok, Err, IfOk, refl, sym, ap, ◌∙◌}
use Rattle.std.specs.Prelude.{IfSome, IsSome, OnErr}
use Rattle.dubp_atoms.proofs.Numbers.{some_is}
use Rattle.dubp_cond.specs.TextOf.{IsTextOf}

module _ {A : Type 0} (read : List ℕ → Option A) (spell : A → List ℕ) (Good : A → Type 0) where
  pub is_found : ((t : List ℕ) (x : A) → read t ≡ Some x → Good x × (t ≡ spell x)) → (text : List ℕ) (o : Option A) → o ≡ read text → IfSome o (λ x. Good x × (text ≡ spell x))
  is_found finds text (Some x) e = finds text x (sym e)
  is_found finds text None e = tt

  pub is_only : ((x : A) → Good x → read (spell x) ≡ Some x) → (text : List ℕ) (o : Option A) → o ≡ read text → (x : A) → Good x → text ≡ spell x → o ≡ Some x
  is_only again text o e x good is = e ∙ ap read is ∙ again x good

  pub is_found_ok : {E : Type 0} → ((t : List ℕ) (x : A) → read t ≡ Some x → Good x × (t ≡ spell x)) → (text : List ℕ) (r : Result (Option A) E) → IfOk r (λ o. o ≡ read text) →
      IfOk r (λ o. IfSome o (λ x. Good x × (text ≡ spell x)))
  is_found_ok finds text (Ok o) h = is_found finds text o h
  is_found_ok finds text (Err e) h = tt

  pub is_only_ok : {E : Type 0} → ((x : A) → Good x → read (spell x) ≡ Some x) → (text : List ℕ) (r : Result (Option A) E) → IfOk r (λ o. o ≡ read text) →
      (x : A) → Good x → text ≡ spell x → IfOk r (λ o. o ≡ Some x)
  is_only_ok again text (Ok o) h x good is = is_only again text o h x good is
  is_only_ok again text (Err e) h x good is = tt

  pub one_text : ((x : A) → Good x → read (spell x) ≡ Some x) → (x y : A) → Good x → Good y → spell x ≡ spell y → x ≡ y
  one_text again x y p q e = some_is x y (sym (again x p) ∙ ap read e ∙ again y q)

  -- where something is read, the text is a text of these
  pub is_text : ((t : List ℕ) (x : A) → read t ≡ Some x → Good x × (t ≡ spell x)) → (text : List ℕ) → IsSome (read text) → IsTextOf Good spell text
  is_text finds text h = seen (read text) refl h
    where
      seen : (o : Option A) → read text ≡ o → IsSome o → IsTextOf Good spell text
      seen (Some x) is h = let f = finds text x is in (x, f.0, f.1)
      seen None is h = absurd cc

  -- and only there
  pub is_told : ((t : List ℕ) (x : A) → read t ≡ Some x → Good x × (t ≡ spell x)) → ((x : A) → Good x → read (spell x) ≡ Some x) → (text : List ℕ) (told : Bool) → told ≡ is_some (read text) →
      IsTrue told ↔ IsTextOf Good spell text
  is_told finds again text told e = (λ h. is_text finds text (sym e ∙ h), λ p. e ∙ ap is_some (ap read p.2 ∙ again p.0 p.1))

  pub is_lacked : {X E : Type 0} → ((t : List ℕ) (x : A) → read t ≡ Some x → Good x × (t ≡ spell x)) → (text : List ℕ) (r : Result X E) → OnErr r (IsSome (read text)) → OnErr r (IsTextOf Good spell text)
  is_lacked finds text (Ok o) h = tt
  is_lacked finds text (Err e) h = is_text finds text h
