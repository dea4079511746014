-- What becomes of the states along a chain, where a list of texts numbers the conditions, when the texts grow.
use Rattle.std.proofs.Common.{◌≡◌, true, List, [], ◌++◌, ap, sym, ◌∙◌, subst, append_assoc, append-nil}
use Rattle.std.specs.List.{list_any}
use Rattle.dubp_atoms.specs.Same.{Text, same_text}
use Rattle.dubp_cond.specs.Conditions.{cond_text}
use Rattle.dubp_chain.specs.Chains.{Chain}
use Rattle.dubp_chain.specs.Money.{Source, made_sources}
use Rattle.dubp_lists.proofs.Elements.{all_more, any_left}
use Rattle.dubp_undo.specs.States.{states}
use Rattle.dubp_sindex.specs.States.{States}
use Rattle.dubp_money_steps.specs.Left.{sources_left, HasTexts}
use Rattle.dubp_money_steps.proofs.Numbering.{states_stay}
use Rattle.dubp_money.specs.Texts.{Grows, Fits}

-- texts

pub grows_none : (texts : List Text) → Grows texts texts
grows_none texts = ([], sym (append-nil texts))

pub grows_same : (texts texts' : List Text) → texts' ≡ texts → Grows texts texts'
grows_same texts texts' same = ([], same ∙ sym (append-nil texts))

pub grows_on : (xs ys zs : List Text) → Grows xs ys → Grows ys zs → Grows xs zs
grows_on xs ys zs g h = (g.0 ++ h.0, h.1 ∙ ap (λ l. l ++ h.0) g.1 ∙ append_assoc xs g.0 h.0)

pub has_more : (texts texts' : List Text) → Grows texts texts' → (ss : List Source) → HasTexts texts ss → HasTexts texts' ss
has_more texts texts' g ss has =
    all_more (λ s. list_any (same_text (cond_text s.cond)) texts ≡ true) (λ s. list_any (same_text (cond_text s.cond)) texts' ≡ true)
    (λ s there. subst (λ l. list_any (same_text (cond_text s.cond)) l ≡ true) (sym g.1) (any_left (same_text (cond_text s.cond)) texts g.0 there)) ss has

-- what a chain fits, it fits with more texts

pub fits_more : (texts texts' : List Text) → Grows texts texts' → (c : Chain) → Fits texts c → Fits texts' c
fits_more texts texts' g c fits = record { has = has_more texts texts' g (made_sources c) fits.has; small = fits.small }

-- the states of a chain that fits are the same with more texts
pub states_same : (texts texts' : List Text) → Grows texts texts' → (c : Chain) → Fits texts c → states (sources_left texts') c ≡ states (sources_left texts) c
states_same texts texts' g c fits = ap (λ l. states (sources_left l) c) g.1 ∙ states_stay texts g.0 c fits.has

-- so what holds of them still does
pub stays_along : (P : States → Type 0) (texts texts' : List Text) → Grows texts texts' → (c : Chain) → Fits texts c × P (states (sources_left texts) c) → Fits texts' c × P (states (sources_left texts') c)
stays_along P texts texts' g c along = (fits_more texts texts' g c along.0, subst P (sym (states_same texts texts' g c along.0)) along.1)
