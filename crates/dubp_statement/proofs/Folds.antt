-- What is paid by a block, where nothing of it is of the condition.
use Rattle.std.proofs.Common.{◌≡◌, ℕ, false, List, [], ◌∷◌, map, fold, Option, Some, None, refl, ap, sym, ◌∙◌}
use Rattle.std.specs.Option.{option_map_or}
use Rattle.dubp_atoms.specs.Same.{Text, same_text}
use Rattle.dubp_chain.specs.OfCond.{cond_text}
use Rattle.dubp_chain.specs.declared.head.Head.{Head}
use Rattle.dubp_chain.specs.Money.{dividend_source, dividends_at, dividends_made, signed_by}
use Rattle.dubp_replay.specs.OfMoves.{Account, with_made}

pub none_paid : (text : Text) (number time amount base : ℕ) (a : Account) (keys : List Text) → ((k : Text) → same_text text (cond_text (signed_by k)) ≡ false)
    → fold (with_made text number) a (map (dividend_source time number amount base) keys) ≡ a
none_paid text number time amount base a [] none = refl
none_paid text number time amount base a (k ∷ keys) none =
    let same : with_made text number a (dividend_source time number amount base k) ≡ a = rw (none k) refl in
    ap (λ x. fold (with_made text number) x (map (dividend_source time number amount base) keys)) same ∙ none_paid text number time amount base a keys none

-- who was paid, where the head pays something
abbrev paid_by_head : Option Head → List Text → List Text
paid_by_head head keys = option_map_or (λ h. option_map_or (λ amount. keys) h.ud []) head []

same_payment : (number : ℕ) (h : Head) (keys : List Text) → dividends_at number (Some h) (paid_by_head (Some h) keys) ≡ dividends_at number (Some h) keys
same_payment number h keys = by h.ud
  where
    by : (paid : Option ℕ) → dividends_made h.median_time number paid h.unit_base (option_map_or (λ amount. keys) paid []) ≡ dividends_made h.median_time number paid h.unit_base keys
    by None = refl
    by (Some amount) = refl

-- those who were paid are paid what the members are
pub payments_are : (number : ℕ) (head : Option Head) (h : Head) (keys : List Text) → head ≡ Some h → dividends_at number (Some h) (paid_by_head head keys) ≡ dividends_at number head keys
payments_are number head h keys is =
    ap (λ o. dividends_at number (Some h) (paid_by_head o keys)) is ∙ same_payment number h keys ∙ ap (λ o. dividends_at number o keys) (sym is)
