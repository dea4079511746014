-- The next head behind a head that is there, its money and its limits, as the code computes them from the newest head.
use Rattle.std.proofs.Common.{◌≡◌, ℕ, zero, suc, ◌+◌, ◌-◌, ◌/◌, ◌^◌, ◌<◌, ◌≤◌, List, [], ◌∷◌, map, take, Option, Some, None, MatchOption, Bor, length, slice_get, slice_index_or, refl, ap, subst, sym, ◌∙◌, inl, inr, ◌↔◌, IsTrue, nat_lt, ltb-true, lt-ltb, arith}
use Rattle.std.specs.List.{AllByRecursion}
use Rattle.std.specs.Option.{option_map_or}
use Rattle.std.proofs.lemmas.List.{length-map, length-take}
use Rattle.std.proofs.lemmas.List.Sums.{count_by-le-length}
use Rattle.dubp_atoms.specs.Same.{Text, same_text}
use Rattle.dubp_params.specs.declared.params.Params.{Params}
use Rattle.dubp_params.specs.Ranges.{IsInRange}
use Rattle.dubp_time.specs.Median.{median_of}
use Rattle.dubp_pow.specs.Difficulty.{issuer_diff_of}
use Rattle.dubp_block.specs.declared.block.Block.{Block}
use Rattle.dubp_block.specs.Text.{block_hash_of, size_of}
use Rattle.dubp_rules.specs.declared.rule.Rule.{Rule}
use Rattle.dubp_rules.specs.First.{FirstOf}
use Rattle.dubp_rules.proofs.FirstLaws.{IsFirst_from_FirstOf}
use Rattle.dubp_chain.specs.declared.head.Head.{Head}
use Rattle.dubp_chain.specs.Heads.{newest, next_head, later_head, next_median_time, blocks_of, doubled_median, difficulty_behind, next_least_difficulty, last_issued, handicap_among}
use Rattle.dubp_validity.specs.HeadRules.{greatest_size}
use Rattle.dubp_head.specs.declared.money.Money.{Money}
use Rattle.dubp_head.specs.Bounds.{IsSmall}
use Rattle.dubp_head.specs.HeadsStates.{HeadsState, AreOver, median_over}
use Rattle.dubp_head.specs.Frames.{frame_issuers}
use Rattle.dubp_head.specs.Following.{LimitHolds, limit_rules, KeepsLimits}
use Rattle.dubp_head.specs.NextHead.{without_dividend, PassesLimit, difficulty_for, IsSmallEnough}
use Rattle.dubp_head.specs.Money.{money_at, with_money, later_without, MoneyHolds}
use Rattle.dubp_head.proofs.Bounds.{ranked_below, found_among}

pub next_head-newest : (p : Params) (count : ℕ) (hs : List Head) (b : Block) (h : Head) → newest hs ≡ Some h → next_head p count hs b ≡ later_head p count h hs b
next_head-newest p count [] b h e = cc
next_head-newest p count (g ∷ hs) b h e =
    let same : g ≡ h = cc in ap (λ x. later_head p count x (g ∷ hs) b) same

without_dividend-newest : (p : Params) (count : ℕ) (hs : List Head) (b : Block) (h : Head) → newest hs ≡ Some h → without_dividend p count hs b ≡ later_without p count h hs b
without_dividend-newest p count [] b h e = cc
without_dividend-newest p count (g ∷ hs) b h e =
    let same : g ≡ h = cc in ap (λ x. later_without p count x (g ∷ hs) b) same

-- the money put on the head without it
later_head-money : (p : Params) (count : ℕ) (h : Head) (hs : List Head) (b : Block) → with_money (later_without p count h hs b) (money_at p count h (next_median_time p h hs)) ≡ later_head p count h hs b
later_head-money p count h hs b = refl

-- the next head has the hash of its block
pub next_head-hash : (p : Params) (count : ℕ) (hs : List Head) (b : Block) → (next_head p count hs b).hash ≡ block_hash_of b
next_head-hash p count [] b = refl
next_head-hash p count (h ∷ hs) b = refl

-- the limits, of the newest head
first_limit : (p : Params) (count : ℕ) (hs : List Head) (b : Block) (h : Head) (answer : Option Rule) → newest hs ≡ Some h → FirstOf (MoneyHolds p count h (next_median_time p h hs)) limit_rules answer → FirstOf (LimitHolds p count hs b) limit_rules answer
first_limit p count [] b h answer e f = cc
first_limit p count (g ∷ hs) b h None e f =
    let same : h ≡ g = cc in
    subst (λ x. FirstOf (MoneyHolds p count x (next_median_time p x (g ∷ hs))) limit_rules None) same f
first_limit p count (g ∷ hs) b h (Some rule) e f =
    let same : h ≡ g = cc in
    subst (λ x. FirstOf (MoneyHolds p count x (next_median_time p x (g ∷ hs))) limit_rules (Some rule)) same f

-- What an accepted block keeps, and what a refusal says.
pub record IsNext (p : Params) (count : ℕ) (hs : List Head) (b : Block) (head : Head) : Type 0 where
  pub is : head ≡ next_head p count hs b
  pub limits : KeepsLimits p count hs b

pub next_from_money : (p : Params) (count : ℕ) (hs : List Head) (b : Block) (h : Head) → newest hs ≡ Some h → FirstOf (MoneyHolds p count h (next_median_time p h hs)) limit_rules None → IsNext p count hs b (with_money (later_without p count h hs b) (money_at p count h (next_median_time p h hs)))
next_from_money p count hs b h e f =
    let limits = first_limit p count hs b h None e f in
    record {
      is = later_head-money p count h hs b ∙ sym (next_head-newest p count hs b h e);
      limits = record { x03 = limits.0; x04 = limits.1.0; x08 = limits.1.1.0 };
    }

pub passes_from_money : (p : Params) (count : ℕ) (hs : List Head) (b : Block) (h : Head) (rule : Rule) → newest hs ≡ Some h → FirstOf (MoneyHolds p count h (next_median_time p h hs)) limit_rules (Some rule) → PassesLimit p count hs b rule (later_without p count h hs b)
passes_from_money p count hs b h rule e f = record {
  first = IsFirst_from_FirstOf (LimitHolds p count hs b) limit_rules (Some rule) (first_limit p count hs b h (Some rule) e f);
  head_is = sym (without_dividend-newest p count hs b h e);
}

first_keeps : (p : Params) (count : ℕ) (b : Block) → IsInRange p → KeepsLimits p count [] b
first_keeps p count b valid = record { x03 = tt; x04 = omega arith; x08 = (omega (arith, valid.ud0), omega arith) }

pub keeps_where_none : (p : Params) (count : ℕ) (hs : List Head) (b : Block) → IsInRange p → newest hs ≡ None → KeepsLimits p count hs b
keeps_where_none p count [] b valid e = first_keeps p count b valid
keeps_where_none p count (h ∷ hs) b valid e = cc

pub none_there : (hs : List Head) → newest hs ≡ None → hs ≡ []
none_there [] e = refl
none_there (h ∷ hs) e = cc

pub some_there : (hs : List Head) (h : Head) → newest hs ≡ Some h → 1 ≤ length hs
some_there [] h e = cc
some_there (g ∷ hs) h e = omega arith

-- The median of the times, where the heads are over these parameters.
pub median_over-newest : (s : HeadsState) (p : Params) (h : Head) → AreOver s p → newest s.list ≡ Some h → median_over s ≡ median_of (map (λ g. g.time) (take p.median_time_blocks s.list))
median_over-newest s p h (inl none) e =
    let never : newest [] ≡ Some h = sym (ap newest none) ∙ e in cc
median_over-newest s p h (inr same) e = ap (λ n. median_of (map (λ g. g.time) (take n s.list))) same

-- The frame of the newest head.
pub frame_issuers-newest : (hs : List Head) (h : Head) → newest hs ≡ Some h → frame_issuers hs ≡ map (λ g. g.issuer) (take h.frame hs)
frame_issuers-newest [] h e = cc
frame_issuers-newest (g ∷ hs) h e =
    let same : g ≡ h = cc in ap (λ x. map (λ y. y.issuer) (take x.frame (g ∷ hs))) same

pub frame_issuers-le : (hs : List Head) → length (frame_issuers hs) ≤ length hs
frame_issuers-le [] = omega arith
frame_issuers-le (h ∷ hs) =
    omega (arith, length-map (take h.frame (h ∷ hs)) (λ g. g.issuer), length-take h.frame (h ∷ hs))

-- What stands at a place, with what is meant where nothing stands there.
pub index_found : {A : Type 0} (xs : List A) (i : ℕ) (d x : A) → slice_get xs i ≡ Some x → slice_index_or xs i d ≡ x
index_found [] i d x e = cc
index_found (y ∷ ys) zero d x e = cc
index_found (y ∷ ys) (suc i) d x e = index_found ys i d x e

pub index_missed : {A : Type 0} (xs : List A) (i : ℕ) (d : A) → slice_get xs i ≡ None → slice_index_or xs i d ≡ d
index_missed [] i d e = refl
index_missed (y ∷ ys) zero d e = cc
index_missed (y ∷ ys) (suc i) d e = index_missed ys i d e

-- Twice a median of numbers of blocks is small where the blocks are few.
counts_below : (m : ℕ) (ks js : List Text) → length ks < m → AllByRecursion (λ n. n < m) (map (blocks_of ks) js)
counts_below m ks [] few = tt
counts_below m ks (j ∷ js) few = (omega (arith, count_by-le-length (same_text j) ks), counts_below m ks js few)

pub doubled_median-below : (m : ℕ) (ks js : List Text) → length ks < m → doubled_median (map (blocks_of ks) js) < m + m
doubled_median-below m ks js few =
    let ns = map (blocks_of ks) js in
    let below = counts_below m ks js few in
    omega (arith, ranked_below m ns ((length ns - 1) / 2) (omega arith) below, ranked_below m ns (length ns / 2) (omega arith) below)

pub difficulty_for-newest : (p : Params) (hs : List Head) (first : ℕ) (k : Text) (h : Head) → newest hs ≡ Some h → difficulty_for p hs first k ≡ difficulty_behind p h hs k
difficulty_for-newest p [] first k h e = cc
difficulty_for-newest p (g ∷ hs) first k h e =
    let same : g ≡ h = cc in ap (λ x. difficulty_behind p x (g ∷ hs) k) same

-- What the code makes of the head without the money, and of the money.
pub accepted : (p : Params) (count : ℕ) (hs : List Head) (b : Block) (h head : Head) (money : Money) (result : Head) → newest hs ≡ Some h → head ≡ later_without p count h hs b → money ≡ money_at p count h head.median_time → FirstOf (MoneyHolds p count h head.median_time) limit_rules None → result ≡ with_money head money → (result ≡ next_head p count hs b) × KeepsLimits p count hs b
accepted p count hs b h head money result e is =
    subst (λ x. money ≡ money_at p count h x.median_time → FirstOf (MoneyHolds p count h x.median_time) limit_rules None → result ≡ with_money x money → (result ≡ next_head p count hs b) × KeepsLimits p count hs b) (sym is)
    (λ m f r.
    let next = next_from_money p count hs b h e f in
    (r ∙ ap (with_money (later_without p count h hs b)) m ∙ next.is, next.limits))

pub refused : (p : Params) (count : ℕ) (hs : List Head) (b : Block) (h head : Head) (rule : Rule) → newest hs ≡ Some h → head ≡ later_without p count h hs b → FirstOf (MoneyHolds p count h head.median_time) limit_rules (Some rule) → PassesLimit p count hs b rule head
refused p count hs b h head rule e is =
    subst (λ x. FirstOf (MoneyHolds p count h x.median_time) limit_rules (Some rule) → PassesLimit p count hs b rule x) (sym is)
    (λ f. passes_from_money p count hs b h rule e f)

-- The parts of a difficulty.

-- what a borrow that may be there tells is what its value tells
pub told_by : {X : Type 0} (f : X → ℕ) (own : Option (Bor X)) (o : Option X) → MatchOption own (o ≡ None) (λ h. o ≡ Some h.now) → option_map_or (λ h. f h.now) own 0 ≡ option_map_or f o 0
told_by f None o is = ap (λ x. option_map_or f x 0) (sym is)
told_by f (Some h) o is = ap (λ x. option_map_or f x 0) (sym is)

pub last_issuers-le : (hs : List Head) (k : Text) → AllByRecursion IsSmall hs → option_map_or (λ h. h.issuers) (last_issued hs k) 0 ≤ 2 ^ 40
last_issuers-le hs k all =
    elim (last_issued hs k) as (λ o. last_issued hs k ≡ o → option_map_or (λ h. h.issuers) o 0 ≤ 2 ^ 40) [
      | None ↦ λ _. omega arith
      | Some g ↦ λ e. (found_among IsSmall (λ h. same_text k h.issuer) hs g all e).issuers
    ] refl

pub blocks_since-le : (hs : List Head) (k : Text) → option_map_or (λ h. length hs - 1 - h.number) (last_issued hs k) 0 ≤ length hs
blocks_since-le hs k =
    elim (last_issued hs k) as (λ o. option_map_or (λ h. length hs - 1 - h.number) o 0 ≤ length hs) [
      | None ↦ omega arith
      | Some g ↦ omega arith
    ]

pub difficulty_is : (p : Params) (hs : List Head) (first : ℕ) (k : Text) (h : Head) (frame : List Text) (least issuers since handicap result : ℕ)
    → newest hs ≡ Some h → frame ≡ frame_issuers hs → least ≡ next_least_difficulty p h hs → handicap ≡ handicap_among frame k
    → issuers ≡ option_map_or (λ g. g.issuers) (last_issued hs k) 0
    → since ≡ option_map_or (λ g. length hs - 1 - g.number) (last_issued hs k) 0
    → result ≡ issuer_diff_of least p.percent_rot issuers since handicap
    → result ≡ difficulty_for p hs first k
difficulty_is p hs first k h frame least issuers since handicap result e is_frame is_least is_handicap is_issuers is_since is =
    let rot = p.percent_rot in
    let own = last_issued hs k in
    let last : ℕ = option_map_or (λ g. g.issuers) own 0 in
    let behind : ℕ = option_map_or (λ g. length hs - 1 - g.number) own 0 in
    let pow_min : ℕ = next_least_difficulty p h hs in
    is
    ∙ ap (λ x. issuer_diff_of x rot issuers since handicap) is_least
    ∙ ap (λ x. issuer_diff_of pow_min rot x since handicap) is_issuers
    ∙ ap (λ x. issuer_diff_of pow_min rot last x handicap) is_since
    ∙ ap (λ x. issuer_diff_of pow_min rot last behind x) (is_handicap ∙ ap (λ l. handicap_among l k) (is_frame ∙ frame_issuers-newest hs h e))
    ∙ sym (difficulty_for-newest p hs first k h e)

-- The size of a block behind a head.
pub small_enough : (hs : List Head) (h head : Head) (b : Block) (size bound : ℕ) → newest hs ≡ Some h → size ≡ size_of b → bound ≡ greatest_size head.issuers hs → IsTrue (nat_lt size bound) ↔ IsSmallEnough hs head b
small_enough [] h head b size bound e is is_bound = cc
small_enough (g ∷ hs) h head b size bound e is is_bound =
    (λ less. rw (← is, ← is_bound) (ltb-true _ _ less), λ less. lt-ltb _ _ (omega (arith, less, is, is_bound)))
