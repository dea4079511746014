-- Records that are appended line after line.
use Rattle.std.proofs.Common.{◌≡◌, ℕ, ◌+◌, ◌<◌, List, [], ◌∷◌, ◌++◌, map, take, length, get_or, refl, ap, sym, ◌∙◌, append_assoc}
use Rattle.std.proofs.lemmas.List.{take_more}
use Rattle.dubp_validity.specs.declared.record.Record.{Record}

map-push : {X Y : Type 0} (f : X → Y) (xs : List X) (x : X) → map f (xs ++ x ∷ []) ≡ map f xs ++ f x ∷ []
map-push f [] x = refl
map-push f (y ∷ ys) x = ap (λ l. f y ∷ l) (map-push f ys x)

pub one_more_record : {X : Type 0} (f : X → Record) (xs : List X) (i : ℕ) (x : X) (a s t : List Record) (r : Record) → i < length xs → x ≡ get_or xs i x → r ≡ f x
    → s ≡ a ++ map f (take i xs) → t ≡ s ++ r ∷ [] → t ≡ a ++ map f (take (i + 1) xs)
one_more_record f xs i x a s t r within is r_is s_is t_is =
    t_is ∙ (λ j. s_is j ++ (r_is ∙ ap f is) j ∷ []) ∙ append_assoc a (map f (take i xs)) (f (get_or xs i x) ∷ [])
    ∙ ap (λ l. a ++ l) (sym (map-push f (take i xs) (get_or xs i x)) ∙ ap (map f) (sym (take_more xs i x within)))

-- the sections one behind the other
pub sections_put : (o a j t l r x k o1 o2 o3 o4 o5 : List Record) → o1 ≡ o ++ a → o2 ≡ ((o1 ++ j) ++ t) ++ l → o3 ≡ o2 ++ r → o4 ≡ o3 ++ x → o5 ≡ o4 ++ k
    → o5 ≡ o ++ (a ++ (j ++ (t ++ (l ++ (r ++ (x ++ k))))))
sections_put o a j t l r x k o1 o2 o3 o4 o5 e1 e2 e3 e4 e5 =
    e5 ∙ ap (λ z. z ++ k) e4 ∙ ap (λ z. (z ++ x) ++ k) e3 ∙ ap (λ z. ((z ++ r) ++ x) ++ k) e2 ∙ ap (λ z. (((((z ++ j) ++ t) ++ l) ++ r) ++ x) ++ k) e1
    ∙ append_assoc ((((((o ++ a) ++ j) ++ t) ++ l) ++ r)) x k
    ∙ append_assoc (((((o ++ a) ++ j) ++ t) ++ l)) r (x ++ k)
    ∙ append_assoc ((((o ++ a) ++ j) ++ t)) l (r ++ (x ++ k))
    ∙ append_assoc (((o ++ a) ++ j)) t (l ++ (r ++ (x ++ k)))
    ∙ append_assoc ((o ++ a)) j (t ++ (l ++ (r ++ (x ++ k))))
    ∙ append_assoc o a (j ++ (t ++ (l ++ (r ++ (x ++ k)))))
