-- The live certifications that are known of some keys, with one key more.
use Rattle.std.proofs.Common.{◌≡◌, Bool, true, false, cond, ◌||◌, Option, Some, is_some, refl, sym, ap, subst, ◌∙◌}
use Rattle.std.proofs.lemmas.Option.{same_Some}
use Rattle.dubp_atoms.specs.Same.{Text, same_text}
use Rattle.dubp_chain.specs.Chains.{Chain}
use Rattle.dubp_lists.proofs.InOrder.{same_text_is}
use Rattle.dubp_left.specs.OfSteps.{is_end}
use Rattle.dubp_people_distance.specs.declared.certified.Certified.{Certified}
use Rattle.dubp_people_distance.specs.Certified.{AreCertified, IsCertified}

module _ (key : Text) (found : Certified) (old new : Text → Option Certified) (put : (k : Text) → new k ≡ cond (same_text key k) (Some found) (old k)) where
  pub certified_more : (d : Chain) → IsCertified d key found → AreCertified d old → AreCertified d new
  certified_more d mine before k x e = elim (same_text key k) as (λ t. same_text key k ≡ t → IsCertified d k x) [
    | true ↦ λ same.
        let own : Some found ≡ Some x = sym (put k ∙ ap (λ (t : Bool). cond t (Some found) (old k)) same) ∙ e in
        subst (λ z. IsCertified d z x) (same_text_is key k same) (subst (λ (y : Certified). IsCertified d key y) (same_Some found x own) mine)
    | false ↦ λ apart. before k x (sym (put k ∙ ap (λ (t : Bool). cond t (Some found) (old k)) apart) ∙ e)
  ] refl

  pub has_more : (k : Text) → is_some (new k) ≡ cond (same_text key k) true (is_some (old k))
  has_more k = ap is_some (put k) ∙ by (same_text key k) (old k)
    where
      by : (t : Bool) (o : Option Certified) → is_some (cond t (Some found) o) ≡ cond t true (is_some o)
      by true o = refl
      by false o = refl

pub has_already : (key : Text) (old : Text → Option Certified) → is_some (old key) ≡ true → (k : Text) → is_some (old k) ≡ cond (same_text key k) true (is_some (old k))
has_already key old there k = elim (same_text key k) as (λ t. same_text key k ≡ t → is_some (old k) ≡ cond t true (is_some (old k))) [
  | true ↦ λ same. subst (λ z. is_some (old z) ≡ true) (same_text_is key k same) there
  | false ↦ λ _. refl
] refl

pub both_more : (from to k : Text) (old middle new : Bool) → middle ≡ cond (same_text from k) true old → new ≡ cond (same_text to k) true middle → new ≡ (old || is_end from to k)
both_more from to k old middle new first second = second ∙ ap (cond (same_text to k) true) first ∙ by (same_text to k) (same_text from k) old
  where
    by : (t s o : Bool) → cond t true (cond s true o) ≡ (o || (s || t))
    by true true true = refl
    by true true false = refl
    by true false true = refl
    by true false false = refl
    by false true true = refl
    by false true false = refl
    by false false true = refl
    by false false false = refl

pub or_none : (a : Bool) → a ≡ (a || false)
or_none true = refl
or_none false = refl
