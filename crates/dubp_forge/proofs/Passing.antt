-- Steps of passes through the pool, and what they lead to.
use Rattle.std.proofs.Common.{◌≡◌, ℕ, ◌+◌, ◌≤◌, Bool, true, false, not, ◌&&◌, List, [], ◌∷◌, ◌++◌, length, drop, Option, Some, None, refl, ap, sym, ◌∙◌, subst, append_assoc}
use Rattle.std.specs.Prelude.{MatchBool, MatchOption}
use Rattle.std.specs.List.{slice_get}
use Rattle.std.proofs.lemmas.List.{append-nil, at_drop_more, at_drop_all}
use Rattle.std.proofs.lemmas.Option.{get_or_from_slice_get, slice_get_within}
use Rattle.dubp_atoms.specs.Same.{Text}
use Rattle.dubp_docs.specs.declared.doc.Doc.{Doc}
use Rattle.dubp_pool.specs.Pools.{doc_hash}
use Rattle.dubp_rules.specs.declared.rule.Rule.{Rule}
use Rattle.dubp_block.specs.declared.block.Block.{Block}
use Rattle.dubp_forging.specs.Drafts.{FirstBad, IsDraftOf, with_lines}
use Rattle.dubp_forging.specs.Forged.{Adds, Certifies, Forging, IsTried, LeavesOut, Passes, Settles, is_certifying, is_in, is_mendable}
use Rattle.dubp_forge.specs.Steps.{Asks, Offers}
use Rattle.dubp_forge.proofs.Determined.{one_filled}

-- ---- what is left of a list from a place on

pub rest_at : {A : Type 0} (xs : List A) (place : ℕ) (x : A) → slice_get xs place ≡ Some x → drop place xs ≡ x ∷ drop (place + 1) xs
rest_at xs place x is =
    at_drop_more (λ l. l) xs place x (slice_get_within xs place x is) ∙ ap (λ y. y ∷ drop (place + 1) xs) (get_or_from_slice_get xs place x x is)

-- ---- certifications

-- what the rest leads to, from these documents on, is what all led to
abbrev pub CertifiesOn : Forging → Text → ℕ → List Doc → List Doc → Type 0
CertifiesOn f key place docs now = (new : List Doc) → Certifies f key (drop place f.pool) now new → Certifies f key f.pool docs new

pub certifies_past : (f : Forging) (key : Text) (place : ℕ) (docs now : List Doc) (d : Doc) → slice_get f.pool place ≡ Some d
    → (is_certifying key d && not (is_in now d)) ≡ false → CertifiesOn f key place docs now → CertifiesOn f key (place + 1) docs now
certifies_past f key place docs now d is passed on new rest =
    on new (subst (λ l. Certifies f key l now new) (sym (rest_at f.pool place d is)) (rw passed rest))

pub certifies_more : (f : Forging) (key : Text) (place : ℕ) (docs now next : List Doc) (d : Doc) → slice_get f.pool place ≡ Some d
    → (is_certifying key d && not (is_in now d)) ≡ true → Offers f now d next → CertifiesOn f key place docs now → CertifiesOn f key (place + 1) docs next
certifies_more f key place docs now next d is passed offers on new rest =
    on new (subst (λ l. Certifies f key l now new) (sym (rest_at f.pool place d is)) (rw passed (offers.0, offers.1, by (is_mendable offers.0) offers.2)))
  where
    by : (b : Bool) → MatchBool b (next ≡ now ++ d ∷ []) (next ≡ now)
        → MatchBool b (Certifies f key (drop (place + 1) f.pool) (now ++ d ∷ []) new) (Certifies f key (drop (place + 1) f.pool) now new)
    by true e = subst (λ x. Certifies f key (drop (place + 1) f.pool) x new) e rest
    by false e = subst (λ x. Certifies f key (drop (place + 1) f.pool) x new) e rest

-- ---- a pass

abbrev pub PassesOn : Forging → ℕ → List Doc → List Doc → Type 0
PassesOn f place docs now = (new : List Doc) → Passes f (drop place f.pool) now new → Passes f f.pool docs new

pub passes_past : (f : Forging) (place : ℕ) (docs now : List Doc) (d : Doc) → slice_get f.pool place ≡ Some d → is_in now d ≡ true → PassesOn f place docs now → PassesOn f (place + 1) docs now
passes_past f place docs now d is in' on new rest =
    on new (subst (λ l. Passes f l now new) (sym (rest_at f.pool place d is)) (rw in' rest))

pub passes_asked : (f : Forging) (place : ℕ) (docs now next : List Doc) (d : Doc) (found : Option Rule) → slice_get f.pool place ≡ Some d → is_in now d ≡ false
    → Asks f now d found next → PassesOn f place docs now → PassesOn f (place + 1) docs next
passes_asked f place docs now next d found is out asks on new rest =
    on new (subst (λ l. Passes f l now new) (sym (rest_at f.pool place d is)) (rw out (asks.0, found, asks.1, asks.2, by found asks.3)))
  where
    by : (o : Option Rule) → MatchOption o (next ≡ asks.0) (λ rule. next ≡ now)
        → MatchOption o (Passes f (drop (place + 1) f.pool) asks.0 new) (λ rule. Passes f (drop (place + 1) f.pool) now new)
    by None e = subst (λ x. Passes f (drop (place + 1) f.pool) x new) e rest
    by (Some rule) e = subst (λ x. Passes f (drop (place + 1) f.pool) x new) e rest

pub passes_all : (f : Forging) (place : ℕ) (docs now : List Doc) → length f.pool ≤ place → PassesOn f place docs now → Passes f f.pool docs now
passes_all f place docs now all on = on now (subst (λ l. Passes f l now now) (sym (at_drop_all (λ l. l) f.pool place all)) refl)

-- ---- what is left out

abbrev pub LeavesOn : Forging → ℕ → List Doc → List (Text × Rule) → Type 0
LeavesOn f place docs left = (others : List (Text × Rule)) → LeavesOut f docs (drop place f.pool) others → LeavesOut f docs f.pool (left ++ others)

pub leaves_past : (f : Forging) (place : ℕ) (docs : List Doc) (left : List (Text × Rule)) (d : Doc) → slice_get f.pool place ≡ Some d → is_in docs d ≡ true
    → LeavesOn f place docs left → LeavesOn f (place + 1) docs left
leaves_past f place docs left d is in' on others rest =
    on others (subst (λ l. LeavesOut f docs l others) (sym (rest_at f.pool place d is)) (rw in' rest))

pub leaves_one : (f : Forging) (place : ℕ) (docs next : List Doc) (left : List (Text × Rule)) (d : Doc) (hash : Text) (rule : Rule) → slice_get f.pool place ≡ Some d → is_in docs d ≡ false
    → Asks f docs d (Some rule) next → hash ≡ doc_hash d → LeavesOn f place docs left → LeavesOn f (place + 1) docs (left ++ (hash, rule) ∷ [])
leaves_one f place docs next left d hash rule is out asks named on others rest =
    subst (λ l. LeavesOut f docs f.pool l) (sym (append_assoc left ((hash, rule) ∷ []) others))
    (on ((hash, rule) ∷ others) (subst (λ l. LeavesOut f docs l ((hash, rule) ∷ others)) (sym (rest_at f.pool place d is))
    (rw out (asks.0, rule, others, asks.1, asks.2, ap (λ h. (h, rule) ∷ others) named, rest))))

pub leaves_all : (f : Forging) (place : ℕ) (docs : List Doc) (left : List (Text × Rule)) → length f.pool ≤ place → LeavesOn f place docs left → LeavesOut f docs f.pool left
leaves_all f place docs left all on =
    subst (LeavesOut f docs f.pool) (append-nil left) (on [] (subst (λ l. LeavesOut f docs l []) (sym (at_drop_all (λ l. l) f.pool place all)) refl))

-- ---- what passes lead to breaks no rule

passed_keeps : (f : Forging) (rest docs new : List Doc) → Passes f rest docs new → IsTried f docs None → IsTried f new None
passed_keeps f [] docs new is keeps = subst (λ x. IsTried f x None) (sym is) keeps
passed_keeps f (d ∷ rest) docs new is keeps = by (λ from on tried. passed_keeps f rest from new on tried) (is_in docs d) is
  where
    further : ((from : List Doc) → Passes f rest from new → IsTried f from None → IsTried f new None)
        → (more : List Doc) (found : Option Rule) → IsTried f more found → MatchOption found (Passes f rest more new) (λ rule. Passes f rest docs new) → IsTried f new None
    further go more None tried on = go more on tried
    further go more (Some rule) tried on = go docs on keeps

    by : ((from : List Doc) → Passes f rest from new → IsTried f from None → IsTried f new None)
        → (b : Bool)
        → MatchBool b (Passes f rest docs new) ((more : List Doc) × (found : Option Rule) × Adds f docs d more × IsTried f more found × MatchOption found (Passes f rest more new) (λ rule. Passes f rest docs new))
        → IsTried f new None
    by go true on = go docs on keeps
    by go false (more, found, adds, tried, on) = further go more found tried on

pub settled_keeps : (f : Forging) (passes : List (List Doc)) (docs new : List Doc) → Settles f passes docs new → IsTried f docs None → IsTried f new None
settled_keeps f [] docs new is keeps = subst (λ x. IsTried f x None) (sym is.1) keeps
settled_keeps f (next ∷ passes) docs new is keeps = settled_keeps f passes next new is.2 (passed_keeps f f.pool docs next is.0 keeps)

-- so does the block that they make
pub forged_keeps : (f : Forging) (passes : List (List Doc)) (docs : List Doc) (b : Block) → IsTried f [] None → Settles f passes [] docs → IsDraftOf f.chain f.issuer f.time docs b → FirstBad f.verdicts f.chain b None
forged_keeps f passes docs b begins settles draft =
    let tried = settled_keeps f passes [] docs settles begins in
    subst (λ x. FirstBad f.verdicts f.chain x None) (one_filled f.chain (with_lines f.chain f.issuer f.time docs) tried.draft b tried.is draft) tried.bad
