-- Passing over a transaction and reading it go wrong at the same texts.
use Rattle.std.proofs.Common.{◌≡◌, ℕ, ◌+◌, ◌==◌, Bool, true, false, if◌then◌else◌, Some, None, List, length, codes, is_some, Result, Ok, Err, refl, sym, ap, ◌∙◌}
use Rattle.dubp_atoms.specs.Letters.{is_key}
use Rattle.dubp_atoms.specs.Reading.{text_if, number_of, stamp_of}
use Rattle.dubp_lines.specs.Lines.{Place}
use Rattle.dubp_lines.specs.Taking.{◌>>=◌}
use Rattle.dubp_cond.specs.ReadingLines.{input_of, unlock_line_of, output_of}
use Rattle.dubp_cond.specs.Transactions.{is_comment}
use Rattle.dubp_docs.specs.Reading.{named_line, opening_at, list_at, sigs_at, transaction_at, last}
use Rattle.dubp_docs.specs.Passing.{counted, passed_at}

-- two readings come to the same place, or both to none
abbrev pub place_of : {A : Type 0} → Result (A × Place) ℕ → Result Place ℕ
place_of (Ok x) = Ok x.1
place_of (Err n) = Err n

module _ {A B C : Type 0} (r : Result (A × Place) ℕ) (f : A × Place → Result (B × Place) ℕ) where
  -- the same first step
  same_step : (g : A × Place → Result (C × Place) ℕ) → ((x : A × Place) → place_of (f x) ≡ place_of (g x)) → place_of (r >>= f) ≡ place_of (r >>= g)
  same_step g e = from r
    where
      from : (o : Result (A × Place) ℕ) → place_of (o >>= f) ≡ place_of (o >>= g)
      from (Ok x) = e x
      from (Err n) = refl

module _ {A B C : Type 0} (r : Result (List A × Place) ℕ) (f : List A × Place → Result (B × Place) ℕ) (g : ℕ × Place → Result (C × Place) ℕ) where
  -- a list, and how many it has
  count_step : ((x : List A × Place) → place_of (f x) ≡ place_of (g (length x.0, x.1))) → place_of (r >>= f) ≡ place_of (counted r >>= g)
  count_step e = from r
    where
      from : (o : Result (List A × Place) ℕ) → place_of (o >>= f) ≡ place_of (counted o >>= g)
      from (Ok x) = e x
      from (Err n) = refl

last_count : {A B : Type 0} (r : Result (List A × Place) ℕ) (f : List A × Place → B) → place_of (r >>= (λ x. Ok (f x, x.1))) ≡ place_of (counted r)
last_count (Ok x) f = refl
last_count (Err n) f = refl

pub same_place : (p : Place) → place_of (transaction_at p) ≡ place_of (passed_at p)
unfolding transaction_at passed_at
same_place p =
    same_step (opening_at (codes "Type: Transaction") p) _ _ (λ currency.
    same_step (named_line stamp_of (codes "Blockstamp: ") currency.1) _ _ (λ stamp.
    same_step (named_line number_of (codes "Locktime: ") stamp.1) _ _ (λ locktime.
    count_step (list_at (text_if is_key) (codes "Issuers:") locktime.1) _ _ (λ issuers.
    count_step (list_at input_of (codes "Inputs:") issuers.1) _ _ (λ inputs.
    count_step (list_at unlock_line_of (codes "Unlocks:") inputs.1) _ _ (λ unlocks.
    count_step (list_at output_of (codes "Outputs:") unlocks.1) _ _ (λ outputs.
    same_step (named_line (text_if is_comment) (codes "Comment: ") outputs.1) _ _ (λ comment.
    last_count (sigs_at (length issuers.0) comment.1) _))))))))

some_if : {A : Type 0} (b : Bool) (x : A) → is_some (if b then Some x else None) ≡ b
some_if true x = refl
some_if false x = refl

abbrev is_end : Place → Bool
is_end p = length p.0 + length p.1 == 0

same_last : {A B : Type 0} (r : Result (A × Place) ℕ) (s : Result (B × Place) ℕ) → place_of r ≡ place_of s → is_some (last r) ≡ is_some (last s)
same_last (Ok x) (Ok y) e = let q : x.1 ≡ y.1 = cc in some_if (is_end x.1) x.0 ∙ ap is_end q ∙ sym (some_if (is_end y.1) y.0)
same_last (Err n) (Err m) e = refl
same_last (Ok x) (Err m) e = absurd cc
same_last (Err n) (Ok y) e = absurd cc

pub is_passed : (p q : Place) (n : ℕ) → passed_at p ≡ Ok (n, q) → (length q.0 + length q.1 == 0) ≡ is_some (last (transaction_at p))
is_passed p q n e =
    sym (some_if (is_end q) n) ∙ sym (ap (λ (r : Result (ℕ × Place) ℕ). is_some (last r)) e) ∙ sym (same_last (transaction_at p) (passed_at p) (same_place p))

pub is_refused : (p : Place) (n : ℕ) → passed_at p ≡ Err n → false ≡ is_some (last (transaction_at p))
is_refused p n e = sym (ap (λ (r : Result (ℕ × Place) ℕ). is_some (last r)) e) ∙ sym (same_last (transaction_at p) (passed_at p) (same_place p))
