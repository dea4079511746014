-- The text of a head, as it is put together.
use Rattle.std.proofs.Common.{◌≡◌, ℕ, List, [], ◌++◌, ap, ◌∙◌, append_assoc}

-- behind a text stands another
grown : (first more p q x : List ℕ) → p ≡ first ++ more → q ≡ p ++ x → q ≡ first ++ (more ++ x)
grown first more p q x e d = d ∙ ap (λ y. y ++ x) e ∙ append_assoc first more x

regrouped : (a b c d e f g h i j k : List ℕ) → a ++ (((((((((b ++ c) ++ d) ++ e) ++ f) ++ g) ++ h) ++ i) ++ j) ++ k) ≡ a ++ (b ++ (c ++ (d ++ (e ++ (f ++ (g ++ (h ++ (i ++ (j ++ k)))))))))
regrouped a b c d e f g h i j k = simp append_assoc

-- eleven texts, one behind the other
pub eleven : (a b c d e f g h i j k o p0 p1 p2 p3 p4 p5 p6 p7 p8 p9 p10 : List ℕ) → o ≡ [] → p0 ≡ o ++ a → p1 ≡ p0 ++ b → p2 ≡ p1 ++ c → p3 ≡ p2 ++ d → p4 ≡ p3 ++ e → p5 ≡ p4 ++ f → p6 ≡ p5 ++ g → p7 ≡ p6 ++ h → p8 ≡ p7 ++ i → p9 ≡ p8 ++ j → p10 ≡ p9 ++ k
    → p10 ≡ a ++ (b ++ (c ++ (d ++ (e ++ (f ++ (g ++ (h ++ (i ++ (j ++ k)))))))))
eleven a b c d e f g h i j k o p0 p1 p2 p3 p4 p5 p6 p7 p8 p9 p10 none e0 e1 e2 e3 e4 e5 e6 e7 e8 e9 e10 =
    let first : p0 ≡ a = e0 ∙ ap (λ y. y ++ a) none in
    let second : p1 ≡ a ++ b = e1 ∙ ap (λ y. y ++ b) first in
    grown a _ p9 p10 k (grown a _ p8 p9 j (grown a _ p7 p8 i (grown a _ p6 p7 h (grown a _ p5 p6 g (grown a _ p4 p5 f (grown a _ p3 p4 e (grown a _ p2 p3 d (grown a b p1 p2 c second e2) e3) e4) e5) e6) e7) e8) e9) e10
    ∙ regrouped a b c d e f g h i j k
