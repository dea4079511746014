-- Bytes are cut into whole commands in one way only.
use Rattle.std.proofs.Common.{◌≡◌, ℕ, ◌≤◌, List, [], ◌∷◌, ◌++◌, length, None, Some, refl, sym, ◌∙◌, ap, subst, append_assoc, length-append, arith}
use Rattle.std.proofs.lemmas.Grind.{flat_map-append}
use Rattle.dubp_atoms.specs.Letters.{LF}
use Rattle.dubp_entries.specs.Entries.{AllWhole, Entry, Line, Frame, text_of, IsWhole, IsText}
use Rattle.dubp_entries.proofs.Wholes.{frame_len, line_no_len, frame_has_len}
use Rattle.dubp_entries.specs.Cut.{BeginsNone, Cut, texts}

-- the first LF of a list stands at one place
pub first_line_once : (a b x y : List ℕ) → IsText a → IsText b → a ++ LF ∷ x ≡ b ++ LF ∷ y → (a ≡ b) × (x ≡ y)
first_line_once [] [] x y p q e = (refl, cc)
first_line_once [] (c ∷ b) x y p q e = absurd (q.0 (cc))
first_line_once (c ∷ a) [] x y p q e = absurd (p.0 (cc))
first_line_once (c ∷ a) (d ∷ b) x y p q e =
    let tails : a ++ LF ∷ x ≡ b ++ LF ∷ y = cc in
    let r = first_line_once a b x y p.1 q.1 tails in
    let heads : c ≡ d = cc in
    (ap (λ t. c ∷ t) r.0 ∙ ap (λ t. t ∷ b) heads, r.1)

-- a part of known length stands in front of one rest
pub front_once : (a b x y : List ℕ) → length a ≡ length b → a ++ x ≡ b ++ y → (a ≡ b) × (x ≡ y)
front_once [] [] x y l e = (refl, e)
front_once [] (c ∷ b) x y l e = absurd (omega arith)
front_once (c ∷ a) [] x y l e = absurd (omega arith)
front_once (c ∷ a) (d ∷ b) x y l e =
    let tails : a ++ x ≡ b ++ y = cc in
    let shorter : length a ≡ length b = omega arith in
    let r = front_once a b x y shorter tails in
    let heads : c ≡ d = cc in
    (ap (λ t. c ∷ t) r.0 ∙ ap (λ t. t ∷ b) heads, r.1)

pub line_shape : (text more : List ℕ) → (text ++ LF ∷ []) ++ more ≡ text ++ LF ∷ more
line_shape text more = append_assoc text (LF ∷ []) more

pub frame_shape : (head payload more : List ℕ) (last : ℕ) → (head ++ LF ∷ (payload ++ last ∷ [])) ++ more ≡ head ++ LF ∷ (payload ++ last ∷ more)
frame_shape head payload more last =
    append_assoc head (LF ∷ (payload ++ last ∷ [])) more ∙ ap (λ t. head ++ LF ∷ t) (append_assoc payload (last ∷ []) more)

-- no whole command begins another
pub first_once : (c d : Entry) (x y : List ℕ) → IsWhole c → IsWhole d → text_of c ++ x ≡ text_of d ++ y → (c ≡ d) × (x ≡ y)
first_once (Line s) (Line t) x y p q e =
    let r = first_line_once s t x y p.0 q.0 (sym (line_shape s x) ∙ e ∙ line_shape t y) in
    (ap Line r.0, r.1)
first_once (Line s) (Frame h w l) x y p q e =
    let r = first_line_once s h x (w ++ l ∷ y) p.0 q.0 (sym (line_shape s x) ∙ e ∙ frame_shape h w y l) in
    let differ : None ≡ Some (length w) = sym (line_no_len s p) ∙ ap frame_len r.0 ∙ frame_has_len h w l q in
    cc
first_once (Frame g v k) (Line t) x y p q e =
    let r = first_line_once g t (v ++ k ∷ x) y p.0 q.0 (sym (frame_shape g v x k) ∙ e ∙ line_shape t y) in
    let differ : None ≡ Some (length v) = sym (line_no_len t q) ∙ ap frame_len (sym r.0) ∙ frame_has_len g v k p in
    cc
first_once (Frame g v k) (Frame h w l) x y p q e =
    let r = first_line_once g h (v ++ k ∷ x) (w ++ l ∷ y) p.0 q.0 (sym (frame_shape g v x k) ∙ e ∙ frame_shape h w y l) in
    let some : Some (length v) ≡ Some (length w) = sym (frame_has_len g v k p) ∙ ap frame_len r.0 ∙ frame_has_len h w l q in
    let lengths : length v ≡ length w = cc in
    let f = front_once v w (k ∷ x) (l ∷ y) lengths r.1 in
    let lasts : k ≡ l = cc in
    let rests : x ≡ y = cc in
    (ap (λ t. Frame t v k) r.0 ∙ ap (λ t. Frame h t k) f.0 ∙ ap (λ t. Frame h w t) lasts, rests)

-- bytes without LF begin with no command
pub text_begins_none : (rest : List ℕ) → IsText rest → BeginsNone rest
text_begins_none rest p (Line t) more w e = absurd (no_line rest t more p (e ∙ line_shape t more))
  where
    no_line : (rest t more : List ℕ) → IsText rest → rest ≡ t ++ LF ∷ more → ⊥
    no_line rest [] more p e = let q = subst IsText e p in q.0 refl
    no_line [] (c ∷ t) more p e = cc
    no_line (b ∷ rest) (c ∷ t) more p e = let tails : rest ≡ t ++ LF ∷ more = cc in no_line rest t more p.1 tails
text_begins_none rest p (Frame h w l) more q e = absurd (no_line rest h (w ++ l ∷ more) p (e ∙ frame_shape h w more l))
  where
    no_line : (rest t more : List ℕ) → IsText rest → rest ≡ t ++ LF ∷ more → ⊥
    no_line rest [] more p e = let q = subst IsText e p in q.0 refl
    no_line [] (c ∷ t) more p e = cc
    no_line (b ∷ rest) (c ∷ t) more p e = let tails : rest ≡ t ++ LF ∷ more = cc in no_line rest t more p.1 tails

-- nor does a head with too few bytes behind it
pub part_begins_none : (head part : List ℕ) (n : ℕ) → IsText head → frame_len head ≡ Some n → length part ≤ n → BeginsNone (head ++ LF ∷ part)
part_begins_none head part n p f short (Line t) more q e =
    let r = first_line_once head t part more p q.0 (e ∙ line_shape t more) in
    let differ : None ≡ Some n = sym (line_no_len t q) ∙ ap frame_len (sym r.0) ∙ f in
    cc
part_begins_none head part n p f short (Frame h w l) more q e =
    let r = first_line_once head h part (w ++ l ∷ more) p q.0 (e ∙ frame_shape h w more l) in
    let some : Some n ≡ Some (length w) = sym f ∙ ap frame_len r.0 ∙ frame_has_len h w l q in
    let lengths : n ≡ length w = cc in
    absurd (omega (arith, ap length r.1, length-append w (l ∷ more)))

-- the commands and the rest are determined
pub cut_once : (bytes : List ℕ) (cs ds : List Entry) (r s : List ℕ) → Cut bytes cs r → Cut bytes ds s → (cs ≡ ds) × (r ≡ s)
cut_once bytes [] [] r s p q = (refl, sym p.bytes_are ∙ q.bytes_are)
cut_once bytes [] (d ∷ ds) r s p q =
    absurd (p.no_more d (texts ds ++ s) q.each.0 (sym p.bytes_are ∙ q.bytes_are ∙ append_assoc (text_of d) (texts ds) s))
cut_once bytes (c ∷ cs) [] r s p q =
    absurd (q.no_more c (texts cs ++ r) p.each.0 (sym q.bytes_are ∙ p.bytes_are ∙ append_assoc (text_of c) (texts cs) r))
cut_once bytes (c ∷ cs) (d ∷ ds) r s p q =
    let same = first_once c d (texts cs ++ r) (texts ds ++ s) p.each.0 q.each.0
    (sym (append_assoc (text_of c) (texts cs) r) ∙ sym p.bytes_are ∙ q.bytes_are ∙ append_assoc (text_of d) (texts ds) s) in
    let one : Cut (texts cs ++ r) cs r = record { bytes_are = refl; each = p.each.1; no_more = p.no_more } in
    let other : Cut (texts cs ++ r) ds s = record { bytes_are = same.1; each = q.each.1; no_more = q.no_more } in
    let rest = cut_once (texts cs ++ r) cs ds r s one other in
    (ap (λ t. t ∷ cs) same.0 ∙ ap (λ t. d ∷ t) rest.0, rest.1)

-- bytes that come in two pieces: what is left of the first goes on in the second
pub cut_goes_on : (xs ys : List ℕ) (cs ds : List Entry) (r s : List ℕ) → Cut xs cs r → Cut (r ++ ys) ds s → Cut (xs ++ ys) (cs ++ ds) s
cut_goes_on xs ys cs ds r s p q = record {
  bytes_are = ap (λ t. t ++ ys) p.bytes_are ∙ append_assoc (texts cs) r ys ∙ ap (λ t. texts cs ++ t) q.bytes_are ∙ sym (append_assoc (texts cs) (texts ds) s) ∙ ap (λ t. t ++ s) (sym (flat_map-append text_of cs ds));
  each = joined cs ds p.each q.each;
  no_more = q.no_more;
}
  where
    joined : (cs ds : List Entry) → AllWhole cs → AllWhole ds → AllWhole (cs ++ ds)
    joined [] ds p q = q
    joined (c ∷ cs) ds p q = (p.0, joined cs ds p.1 q)
