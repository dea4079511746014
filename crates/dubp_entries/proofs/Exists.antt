-- Any bytes can be cut into whole commands.
use Rattle.std.proofs.Common.{◌≡◌, ◌⊎◌, inl, inr, ℕ, zero, suc, ◌+◌, ◌<◌, ◌≤◌, List, [], ◌∷◌, ◌++◌, length, take, drop, get_or, Option, None, Some, refl, sym, ◌∙◌, ap, subst, append_assoc, arith, length-append, length-take-le}
use Rattle.std.proofs.lemmas.Bool.{cases_lt}
use Rattle.dubp_atoms.specs.Letters.{LF}
use Rattle.dubp_entries.specs.Entries.{Entry, Line, Frame, text_of, IsWhole, IsText}
use Rattle.dubp_entries.proofs.Wholes.{frame_len, whole_line, whole_frame}
use Rattle.dubp_entries.specs.Cut.{BeginsNone, Cut, texts}
use Rattle.dubp_entries.proofs.Cuts.{text_begins_none, part_begins_none, line_shape, frame_shape}
use Rattle.dubp_entries.proofs.Taking.{split_at}
use Rattle.dubp_entries.proofs.Serves.{text_or_line}

-- the first command of the bytes, and what follows it
pub record Begins (bytes : List ℕ) : Type 0 where
  pub command : Entry
  pub rest : List ℕ
  pub bytes_are : bytes ≡ text_of command ++ rest
  pub whole : IsWhole command
  pub shorter : length rest < length bytes

pub begins_or_none : (bytes : List ℕ) → Begins bytes ⊎ BeginsNone bytes
begins_or_none bytes = by_line (text_or_line bytes)
  where
    by_len : (head behind : List ℕ) → IsText head → bytes ≡ head ++ LF ∷ behind → (n : ℕ) → frame_len head ≡ Some n → (n < length behind) ⊎ (length behind ≤ n) → Begins bytes ⊎ BeginsNone bytes
    by_len head behind t e n f (inr short) = inr (subst BeginsNone (sym e) (part_begins_none head behind n t f short))
    by_len head behind t e n f (inl long) =
        let len : length (take n behind) ≡ n = length-take-le n behind (omega arith) in
        let is : bytes ≡ text_of (Frame head (take n behind) (get_or behind n 0)) ++ drop (n + 1) behind =
        e ∙ ap (λ u. head ++ LF ∷ u) (split_at behind n long) ∙ sym (frame_shape head (take n behind) (drop (n + 1) behind) (get_or behind n 0)) in
        inl (record {
          command = Frame head (take n behind) (get_or behind n 0);
          rest = drop (n + 1) behind;
          bytes_are = is;
          whole = whole_frame head (take n behind) (get_or behind n 0) t (f ∙ ap Some (sym len));
          shorter = omega (arith, ap length is, length-append (text_of (Frame head (take n behind) (get_or behind n 0))) (drop (n + 1) behind), length-append head (LF ∷ (take n behind ++ get_or behind n 0 ∷ [])));
        })

    by_head : (head behind : List ℕ) → IsText head → bytes ≡ head ++ LF ∷ behind → (o : Option ℕ) → frame_len head ≡ o → Begins bytes ⊎ BeginsNone bytes
    by_head head behind t e None f =
        let is : bytes ≡ text_of (Line head) ++ behind = e ∙ sym (line_shape head behind) in
        inl (record {
          command = Line head;
          rest = behind;
          bytes_are = is;
          whole = whole_line head t f;
          shorter = omega (arith, ap length e, length-append head (LF ∷ behind));
        })
    by_head head behind t e (Some n) f = by_len head behind t e n f (cases_lt n (length behind))

    by_line : IsText bytes ⊎ ((front : List ℕ) × (back : List ℕ) × IsText front × (bytes ≡ front ++ LF ∷ back)) → Begins bytes ⊎ BeginsNone bytes
    by_line (inl t) = inr (text_begins_none bytes t)
    by_line (inr l) = by_head l.0 l.1 l.2 l.3 (frame_len l.0) refl

pub cut_within : (n : ℕ) (bytes : List ℕ) → length bytes < n → (commands : List Entry) × (rest : List ℕ) × Cut bytes commands rest
cut_within zero bytes l = absurd (omega arith)
cut_within (suc n) bytes l = step (λ rest short. cut_within n rest short) (begins_or_none bytes)
  where
    step : ((rest : List ℕ) → length rest < n → (commands : List Entry) × (r : List ℕ) × Cut rest commands r) → Begins bytes ⊎ BeginsNone bytes → (commands : List Entry) × (rest : List ℕ) × Cut bytes commands rest
    step more (inr none) = ([], bytes, record { bytes_are = refl; each = tt; no_more = none })
    step more (inl b) =
        let c = more b.rest (omega (arith, b.shorter)) in (
          b.command ∷ c.0,
          c.1,
          record {
            bytes_are = b.bytes_are ∙ ap (λ t. text_of b.command ++ t) c.2.bytes_are ∙ sym (append_assoc (text_of b.command) (texts c.0) c.1);
            each = (b.whole, c.2.each);
            no_more = c.2.no_more;
          },
        )

pub cut_exists : (bytes : List ℕ) → (commands : List Entry) × (rest : List ℕ) × Cut bytes commands rest
cut_exists bytes = cut_within (suc (length bytes)) bytes (omega arith)
