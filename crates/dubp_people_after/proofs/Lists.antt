-- A list of lines with one line more: which line is the last of a key.
use Rattle.std.proofs.Common.{◌≡◌, ℕ, ◌+◌, ◌<◌, Bool, true, false, cond, ◌&&◌, List, [], ◌∷◌, length, take, get_or, Option, None, Some, refl, sym, ap, ◌∙◌}
use Rattle.std.specs.Option.{option_or}
use Rattle.dubp_atoms.specs.Same.{Text, same_text}
use Rattle.dubp_block.specs.declared.block.CertLine.{CertLine}
use Rattle.dubp_block.specs.declared.block.IdentityLine.{IdentityLine}
use Rattle.dubp_chain.specs.Words.{last_of}
use Rattle.dubp_registry.specs.OfSteps.{of_pair}
use Rattle.dubp_people_after.specs.Keys.{same_pair}
use Rattle.dubp_lists.proofs.OneMore.{take_with, text_flip}
use Rattle.dubp_registry.proofs.OfLists.{last_of-append}

last_more : {X : Type 0} (t : Bool) (x : X) (o : Option X) → cond t (Some x) o ≡ option_or (option_or None (cond t (Some x) None)) o
last_more true x o = refl
last_more false x o = refl

pub one_line_more : (lines : List IdentityLine) (i : ℕ) (line : IdentityLine) (old new : Text → Option IdentityLine) → i < length lines → line ≡ get_or lines i line
    → ((k : Text) → old k ≡ last_of (λ (l : IdentityLine). same_text k l.key) (take i lines))
    → ((k : Text) → new k ≡ cond (same_text line.key k) (Some line) (old k))
    → (k : Text) → new k ≡ last_of (λ (l : IdentityLine). same_text k l.key) (take (i + 1) lines)
one_line_more lines i line old new lt at before put k =
    put k ∙ ap (λ (t : Bool). cond t (Some line) (old k)) (text_flip line.key k)
    ∙ ap (λ (o : Option IdentityLine). cond (same_text k line.key) (Some line) o) (before k)
    ∙ last_more (same_text k line.key) line (last_of (λ (l : IdentityLine). same_text k l.key) (take i lines))
    ∙ sym (ap (last_of (λ (l : IdentityLine). same_text k l.key)) (take_with lines i line lt at) ∙ last_of-append (λ (l : IdentityLine). same_text k l.key) (take i lines) (line ∷ []))

pub one_pair_more : (lines : List CertLine) (i : ℕ) (line : CertLine) (old new : Text × Text → Option CertLine) → i < length lines → line ≡ get_or lines i line
    → ((x y : Text) → old (x, y) ≡ last_of (of_pair x y) (take i lines))
    → ((p : Text × Text) → new p ≡ cond (same_pair (line.from, line.to) p) (Some line) (old p))
    → (x y : Text) → new (x, y) ≡ last_of (of_pair x y) (take (i + 1) lines)
one_pair_more lines i line old new lt at before put x y =
    put (x, y) ∙ (λ j. cond (text_flip line.from x j && text_flip line.to y j) (Some line) (old (x, y)))
    ∙ ap (λ (o : Option CertLine). cond (of_pair x y line) (Some line) o) (before x y)
    ∙ last_more (of_pair x y line) line (last_of (of_pair x y) (take i lines))
    ∙ sym (ap (last_of (of_pair x y)) (take_with lines i line lt at) ∙ last_of-append (of_pair x y) (take i lines) (line ∷ []))
