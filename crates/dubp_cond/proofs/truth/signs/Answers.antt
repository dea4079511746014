use Rattle.std.proofs.Common.{◌≡◌, ℕ, zero, suc, ◌<◌, ◌≤◌, Bool, false, List, [], ◌∷◌, length, get_or, Some, slice_get, IsTrue, ◌↔◌, sym, ap, ◌∙◌, arith}
use Rattle.std.proofs.lemmas.Slice.Eq.{slice_eq-Decides}
use Rattle.std.proofs.lemmas.Bool.Decides.{Decides-eqb}
use Rattle.std.proofs.lemmas.Option.{slice_get_past}
use lib.Pointwise.{pointwise}
use lib.Dec.{eqb}
use lib.Dec.{ltb}
use Rattle.std.proofs.lemmas.Grind.{common_steps}
use Rattle.dubp_cond.proofs.truth.signs.Goals as goal

got : {X : Type 0} (xs : List X) (i : ℕ) (x : X) → i < length xs → x ≡ get_or xs i x → slice_get xs i ≡ Some x
got [] i x h e = absurd (omega arith)
got (y ∷ ys) zero x h e = ap Some (sym e)
got (y ∷ ys) (suc i) x h e = got ys i x (omega arith) e

there : (issuers : List (List ℕ)) (key x : List ℕ) (i : ℕ) (b : Bool) → i < length issuers → x ≡ get_or issuers i x → b ≡ pointwise eqb x key → IsTrue b ↔ (slice_get issuers i ≡ Some key)
there issuers key x i b h e is =
    let d = slice_eq-Decides Decides-eqb x key b is in
    let g = got issuers i x h e in
    (λ t. g ∙ ap Some (d.0 t), λ s. let same : x ≡ key = cc in d.1 same)

missing : (issuers : List (List ℕ)) (key : List ℕ) (i : ℕ) (b : Bool) → length issuers ≤ i → b ≡ false → IsTrue b ↔ (slice_get issuers i ≡ Some key)
missing issuers key i b h is = (λ t. cc, λ s. let none = slice_get_past issuers i h in cc)

over : (i n : ℕ) → n ≤ i → ltb i n ≡ false
over i n h = grind (arith, common_steps)

pub returns-then-i-issuers : goal.returns-then-i-issuers
returns-then-i-issuers c = rw c.in-Sig.is (there c.args.issuers.now c.args.key.now c.index-issuers-i.result c.in-Sig.i c.eq.result c.if-i-issuers.true c.index-issuers-i.is c.eq.ensures)

pub returns-else-i-issuers : goal.returns-else-i-issuers
returns-else-i-issuers c = rw c.in-Sig.is (missing c.args.issuers.now c.args.key.now c.in-Sig.i (ltb c.in-Sig.i (length c.args.issuers.now)) c.if-i-issuers.false (over c.in-Sig.i (length c.args.issuers.now) c.if-i-issuers.false))
