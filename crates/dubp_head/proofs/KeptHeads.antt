-- What is kept beside the heads, as a head comes and goes.
use Rattle.std.proofs.Common.{◌≡◌, ℕ, suc, ◌+◌, ◌-◌, ◌<◌, ◌≤◌, List, [], ◌∷◌, ◌++◌, length, take, map, min, Option, Some, None, IfSome, reverse, get_or, Bool, true, false, cond, if◌then◌else◌, refl, sym, ap, subst, ◌∙◌, arith}
use Rattle.std.proofs.Math.Seq.{get_or-append_seam}
use Rattle.std.proofs.Math.ListN.{get_or-append}
use Rattle.std.proofs.lemmas.List.{reverse-append, length-reverse, length-map, take_min, take-map}
use Rattle.std.proofs.lemmas.Option.{none-some, same_Some}
use Rattle.dubp_atoms.specs.Same.{Text, same_text}
use Rattle.dubp_chain.specs.Heads.{last_issued}
use Rattle.std.specs.Option.{option_to_list}
use Rattle.dubp_time.specs.Median.{count_of, SameTimes}
use Rattle.dubp_chain.specs.declared.head.Head.{Head}
use Rattle.dubp_head.specs.LastBlocks.{IssuersState, AreIssuers, last_place}
use Rattle.dubp_head.specs.LastTimes.{TimesState}
use Rattle.dubp_head.specs.Counts.{CountsState, AreCounted}
use Rattle.dubp_head.specs.Frames.{frame_of, frame_issuers}
use Rattle.dubp_head.specs.KeptHeads.{AreKept, IsFrameKept}
use Rattle.dubp_head.specs.Totals.{SizesState, AreTotals}
use Rattle.dubp_head.proofs.Counting.{length-kept}
use Rattle.dubp_head.proofs.LastTimes.{time_at, times_of, SameTimes-wider, SameTimes-narrower, length-time_at, length-one, count-among}

abbrev pub issuers_of : List Head → List (List ℕ)
issuers_of list = map (λ h. h.issuer) list

-- A head comes: the time at the last place of the window goes.

module _ (list : List Head) (is : IssuersState) (cs : CountsState) (ss : SizesState) (ts : TimesState) (span m : ℕ) (kept : AreKept list is cs ss ts span) (more : span ≡ suc m) where
  with_last : SameTimes ts.times (option_to_list (time_at list m) ++ times_of m list)
  with_last = SameTimes-narrower ts.times list m (subst (λ n. SameTimes ts.times (times_of n list)) more kept.times)

  pub gone-among : IfSome (time_at list m) (λ t. 0 < count_of t ts.times)
  gone-among = count-among ts.times (time_at list m) (times_of m list) with_last

  pub room-push : length ts.times + 1 ≤ ts.width + length (option_to_list (time_at list m))
  room-push = omega (arith, kept.count, kept.width, length-time_at list m)

  pub AreKept-push : (h : Head) (is' : IssuersState) (cs' : CountsState) (ss' : SizesState) (ts' : TimesState) → AreIssuers is' (h.issuer ∷ issuers_of list)
      → IsFrameKept (h ∷ list) cs'
      → AreTotals ss' (h ∷ list)
      → ((others : List ℕ) → SameTimes ts.times (option_to_list (time_at list m) ++ others) → SameTimes ts'.times (h.time ∷ others))
      → length ts'.times + length (option_to_list (time_at list m)) ≡ length ts.times + 1
      → ts'.width ≡ ts.width
      → AreKept (h ∷ list) is' cs' ss' ts' span
  AreKept-push h is' cs' ss' ts' issuers frame sizes exchanged len width = record {
    issuers = issuers;
    frame = frame;
    sizes = sizes;
    times = subst (λ n. SameTimes ts'.times (times_of n (h ∷ list))) (sym more) (exchanged (times_of m list) with_last);
    count = omega (arith, kept.count, length-time_at list m);
    width = omega (arith, kept.width);
    span = λ some. omega arith;
  }

-- A head goes: the time behind the window comes back.

module _ (h : Head) (list : List Head) (is : IssuersState) (cs : CountsState) (ss : SizesState) (ts : TimesState) (span : ℕ) (kept : AreKept (h ∷ list) is cs ss ts span) where
  more : span ≡ suc (span - 1)
  more = omega (arith, kept.span (omega arith))

  with_first : SameTimes ts.times (h.time ∷ times_of (span - 1) list)
  with_first = subst (λ n. SameTimes ts.times (times_of n (h ∷ list))) more kept.times

  pub first-among : 0 < count_of h.time ts.times
  first-among = count-among ts.times (Some h.time) (times_of (span - 1) list) with_first

  pub room-pop : length ts.times + length (option_to_list (time_at (h ∷ list) span)) ≤ ts.width + 1
  room-pop = omega (arith, kept.count, kept.width, length-one (time_at (h ∷ list) span))

  time_behind : time_at (h ∷ list) span ≡ time_at list (span - 1)
  time_behind = ap (time_at (h ∷ list)) more

  pub AreKept-pop : (is' : IssuersState) (cs' : CountsState) (ss' : SizesState) (ts' : TimesState) → AreIssuers is' (issuers_of list)
      → IsFrameKept list cs'
      → AreTotals ss' list
      → ((others : List ℕ) → SameTimes ts.times (h.time ∷ others) → SameTimes ts'.times (option_to_list (time_at (h ∷ list) span) ++ others))
      → length ts'.times + 1 ≡ length ts.times + length (option_to_list (time_at (h ∷ list) span))
      → ts'.width ≡ ts.width
      → AreKept list is' cs' ss' ts' span
  AreKept-pop is' cs' ss' ts' issuers frame sizes exchanged len width = record {
    issuers = issuers;
    frame = frame;
    sizes = sizes;
    times = subst (λ n. SameTimes ts'.times (times_of n list)) (sym more) (SameTimes-wider ts'.times list (span - 1) (subst (λ o. SameTimes ts'.times (option_to_list o ++ times_of (span - 1) list)) time_behind (exchanged (times_of (span - 1) list) with_first)));
    count = omega (arith, kept.count, length-time_at list (span - 1), ap (λ o. length (option_to_list o)) time_behind, more, len);
    width = omega (arith, kept.width);
    span = λ some. omega (arith, more);
  }

-- The counts, settled to the frame of the newest head.

pub settled : (list : List Head) (cs cs' : CountsState) → AreCounted cs (issuers_of list) → AreCounted cs' (issuers_of list) → cs'.blocks ≡ min (frame_of list) (length cs.numbers) → IsFrameKept list cs'
settled list cs cs' was counted blocks = record {
  counted = counted;
  blocks = blocks ∙ ap (min (frame_of list)) (length-kept cs (issuers_of list) was ∙ length-map list (λ h. h.issuer));
}

-- the blocks that are counted are those of the last frame
pub frame_is : (list : List Head) (cs : CountsState) → IsFrameKept list cs → take cs.blocks (issuers_of list) ≡ frame_issuers list
frame_is list cs kept =
    ap (λ n. take n (issuers_of list)) (kept.blocks ∙ ap (min (frame_of list)) (sym (length-map list (λ h. h.issuer))))
    ∙ take_min (frame_of list) (issuers_of list)
    ∙ by list
  where
    by : (hs : List Head) → take (frame_of hs) (issuers_of hs) ≡ frame_issuers hs
    by [] = refl
    by (h ∷ hs) = take-map (λ g. g.issuer) h.frame (h ∷ hs)

-- Reads.

pub reverse-push : (items : List Head) (h : Head) → reverse (items ++ h ∷ []) ≡ h ∷ reverse items
reverse-push items h = reverse-append items (h ∷ [])

pub reverse-pop : (items rest : List Head) (popped : Option Head) (h : Head) → items ≡ rest ++ option_to_list popped → popped ≡ Some h → reverse items ≡ h ∷ reverse rest
reverse-pop items rest popped h e is = ap reverse (e ∙ ap (λ o. rest ++ option_to_list o) is) ∙ reverse-push rest h

-- the head at the last place of a key is its last one
pub record IsLastAt (list : List Head) (k : Text) (p : ℕ) : Type 0 where
  pub within : p < length list
  pub is : (d : Head) → last_issued list k ≡ Some (get_or (reverse list) p d)

pub last-at : (list : List Head) (k : Text) (p : ℕ) → last_place (issuers_of list) k ≡ Some p → IsLastAt list k p
last-at [] k p found = absurd (none-some p found)
last-at (h ∷ list) k p found = by (same_text k h.issuer) refl (last-at list k p)
  where
    reversed : reverse (h ∷ list) ≡ reverse list ++ h ∷ []
    reversed = reverse-append (h ∷ []) list

    by : (b : Bool) → same_text k h.issuer ≡ b → (last_place (issuers_of list) k ≡ Some p → IsLastAt list k p) → IsLastAt (h ∷ list) k p
    by true same further =
        let place : p ≡ length (reverse list) = same_Some _ _ (sym found ∙ ap (λ b. if b then Some (length (issuers_of list)) else last_place (issuers_of list) k) same) ∙ length-map list (λ g. g.issuer) ∙ sym (length-reverse list) in
        record {
          within = omega (arith, length-reverse list, place);
          is = λ d. ap (λ b. cond b (Some h) (last_issued list k)) same ∙ ap Some (sym (rw (reversed, place) (get_or-append_seam (reverse list) h [] d)));
        }
    by false same further =
        let rest = further (sym (ap (λ b. if b then Some (length (issuers_of list)) else last_place (issuers_of list) k) same) ∙ found) in
        record {
          within = omega (arith, rest.within);
          is = λ d. ap (λ b. cond b (Some h) (last_issued list k)) same ∙ rest.is d ∙ ap Some (sym (rw reversed (get_or-append (reverse list) (h ∷ []) d p (omega (arith, rest.within, length-reverse list)))));
        }

pub none-last : (list : List Head) (k : Text) → last_place (issuers_of list) k ≡ None → last_issued list k ≡ None
none-last [] k none = refl
none-last (h ∷ list) k none = by (same_text k h.issuer) refl (none-last list k)
  where
    by : (b : Bool) → same_text k h.issuer ≡ b → (last_place (issuers_of list) k ≡ None → last_issued list k ≡ None) → last_issued (h ∷ list) k ≡ None
    by true same further = absurd (none-some _ (sym none ∙ ap (λ b. if b then Some (length (issuers_of list)) else last_place (issuers_of list) k) same))
    by false same further = ap (λ b. cond b (Some h) (last_issued list k)) same ∙ further (sym (ap (λ b. if b then Some (length (issuers_of list)) else last_place (issuers_of list) k) same) ∙ none)
