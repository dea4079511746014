-- What holds of the draft under way: at the start, with its header, with a document more, and without the last.
use Rattle.std.proofs.Common.{◌≡◌, ℕ, zero, suc, ◌+◌, ◌^◌, ◌<◌, ◌≤◌, Bool, true, false, List, [], ◌∷◌, ◌++◌, length, map, set, get_or, replicate, Some, refl, ap, sym, ◌∙◌, subst, arith}
use Rattle.std.specs.List.{slice_get}
use Rattle.std.proofs.lemmas.List.{length-append, length-map}
use Rattle.std.proofs.lemmas.Option.{slice_get-get_or, slice_get_read, slice_get_within}
use Rattle.dubp_docs.specs.declared.doc.Doc.{Doc}
use Rattle.dubp_docs.specs.Spelling.{IsDoc}
use Rattle.dubp_pool.specs.Pools.{AreApart, ArePending}
use Rattle.dubp_block.specs.Text.{size_of}
use Rattle.dubp_block.specs.declared.block.Block.{Block}
use Rattle.dubp_forging.specs.Filled.{IsDraft, IsFilled, KeepsDraft}
use Rattle.dubp_forging.specs.Drafts.{IsDraftOf, with_lines}
use Rattle.dubp_forging.specs.Forged.{Forging, is_in}
use Rattle.dubp_forge.specs.Steps.{IsBlank, IsDrafted, IsGiven, count_marked, docs_at, with_line, without_line}
use Rattle.dubp_forge.proofs.Places.{all_docs_at, all_front, all_push, docs_at-push, length-docs_at}
use Rattle.dubp_forge.proofs.Marks.{apart_front, apart_last, apart_push, count_few, count_set, count_unset, is_in-own, mark, mark_at, unmark}
use Rattle.dubp_forge.proofs.Sections.{keeps_less, keeps_more}
use Rattle.dubp_forge.proofs.Ranges.{few_joiners, is_draft, is_small}

-- ---- at the start

none_marked : (pool : List Doc) → replicate (length pool) false ≡ map (is_in []) pool
none_marked [] = refl
none_marked (d ∷ pool) = ap (λ l. false ∷ l) (none_marked pool)

count_none : (n : ℕ) → count_marked (replicate n false) ≡ 0
count_none zero = refl
count_none (suc n) = count_none n

pub begins : (f : Forging) (b : Block) (marks : List Bool) → IsBlank f b → marks ≡ replicate (length f.pool) false → IsDrafted f b [] marks
begins f b marks blank is = record {
  keeps = blank;
  there = tt;
  apart = tt;
  marked = is ∙ none_marked f.pool;
  counted = ap count_marked is ∙ count_none (length f.pool);
}

-- ---- what follows

some_at : (pool : List Doc) (p : ℕ) → p < length pool → (d : Doc) × (slice_get pool p ≡ Some d)
some_at [] p lt = absurd (omega (arith, lt))
some_at (d ∷ pool) p lt = (get_or (d ∷ pool) p d, slice_get-get_or (d ∷ pool) p d lt)

module _ (f : Forging) (b : Block) (ps : List ℕ) (ms : List Bool) (stands : IsDrafted f b ps ms) where
  pub as_many_marks : length ms ≡ length f.pool
  as_many_marks = ap length stands.marked ∙ length-map f.pool (is_in (docs_at f.pool ps))

  pub few_places : length ps ≤ length f.pool
  few_places = omega (arith, stands.counted, count_few ms, as_many_marks)

  pub as_many_docs : length (docs_at f.pool ps) ≡ length ps
  as_many_docs = length-docs_at f.pool ps stands.there

  pub mark_is : (p : ℕ) (d : Doc) (x : Bool) → slice_get f.pool p ≡ Some d → slice_get ms p ≡ Some x → is_in (docs_at f.pool ps) d ≡ x
  mark_is p d x is marked =
      let told : Some x ≡ Some (is_in (docs_at f.pool ps) d) = sym marked ∙ ap (λ l. slice_get l p) stands.marked ∙ mark_at (docs_at f.pool ps) f.pool p d is in
      cc

  pub in_pool : (p : ℕ) (x : Bool) → slice_get ms p ≡ Some x → p < length f.pool
  in_pool p x marked = omega (arith, slice_get_within ms p x marked, as_many_marks)

  pub mark_read : (p : ℕ) (x : Bool) → p < length f.pool → x ≡ get_or ms p x → slice_get ms p ≡ Some x
  mark_read p x lt read = slice_get_read ms (length f.pool) p x (sym as_many_marks) lt read

  -- the document at a place, and whether it is in the draft
  pub record Marked (p : ℕ) (x : Bool) : Type 0 where
    pub d : Doc
    pub at : slice_get f.pool p ≡ Some d
    pub is : is_in (docs_at f.pool ps) d ≡ x

  pub marked_at : (p : ℕ) (x : Bool) → p < length f.pool → x ≡ get_or ms p x → Marked p x
  marked_at p x lt read =
      let some = some_at f.pool p lt in
      record { d = some.0; at = some.1; is = mark_is p some.0 x some.1 (mark_read p x lt read) }

  -- ---- with its header

  module _ (given : IsGiven f) (pending : ArePending f.pool) where
    pub in_range : IsDraft b
    in_range = is_draft f.chain f.issuer f.time (docs_at f.pool ps) b given.time (all_docs_at IsDoc f.pool ps pending.each) stands.keeps

    pub in_size : size_of b < 2 ^ 53
    in_size = is_small f.chain f.issuer f.time (docs_at f.pool ps) b (all_docs_at IsDoc f.pool ps pending.each) (omega (arith, as_many_docs, few_places, pending.few)) stands.keeps

    pub joiners_few : length b.joiners ≤ 65536
    joiners_few = few_joiners f.chain f.issuer f.time (docs_at f.pool ps) b (omega (arith, as_many_docs, few_places, pending.few)) stands.keeps

  keeps_through : (a d e : Block) → KeepsDraft a d → KeepsDraft d e → KeepsDraft a e
  keeps_through a d e k l = record {
    issuer = l.issuer ∙ k.issuer;
    time = l.time ∙ k.time;
    identities = l.identities ∙ k.identities;
    joiners = l.joiners ∙ k.joiners;
    actives = l.actives ∙ k.actives;
    leavers = l.leavers ∙ k.leavers;
    revoked = l.revoked ∙ k.revoked;
    certifications = l.certifications ∙ k.certifications;
    transactions = l.transactions ∙ k.transactions;
  }

  pub is_draft_of : (e : Block) → IsFilled f.chain b e → IsDraftOf f.chain f.issuer f.time (docs_at f.pool ps) e
  is_draft_of e filled = record {
    keeps = keeps_through (with_lines f.chain f.issuer f.time (docs_at f.pool ps)) b e stands.keeps filled.keeps;
    behind = filled.behind;
    currency = filled.currency;
    number = filled.number;
    params = filled.params;
    excluded = filled.excluded;
    states = filled.states;
    money = filled.money;
    inner_hash = filled.inner_hash;
    nonce = filled.nonce;
    sig = filled.sig;
  }

  pub stands_filled : (e : Block) → IsFilled f.chain b e → IsDrafted f e ps ms
  stands_filled e filled = record {
    keeps = keeps_through (with_lines f.chain f.issuer f.time (docs_at f.pool ps)) b e stands.keeps filled.keeps;
    there = stands.there;
    apart = stands.apart;
    marked = stands.marked;
    counted = stands.counted;
  }

  -- ---- with a document more

  pub stands_added : (p : ℕ) (d : Doc) → ArePending f.pool → slice_get f.pool p ≡ Some d → slice_get ms p ≡ Some false → IsDrafted f (with_line f.chain d b) (ps ++ p ∷ []) (set ms p true)
  stands_added p d pending is free =
      let docs = docs_at f.pool ps in
      let more = docs_at-push f.pool ps p d is in
      record {
        keeps = subst (λ l. KeepsDraft (with_lines f.chain f.issuer f.time l) (with_line f.chain d b)) (sym more) (keeps_more f.chain f.issuer f.time docs b stands.keeps d);
        there = all_push (λ place. place < length f.pool) ps p stands.there (in_pool p false free);
        apart = subst AreApart (sym more) (apart_push docs d stands.apart (mark_is p d false is free));
        marked = ap (λ l. set l p true) stands.marked ∙ mark docs f.pool p d pending.apart is ∙ ap (λ l. map (is_in l) f.pool) (sym more);
        counted = count_set ms p free ∙ ap (λ n. n + 1) stands.counted ∙ sym (length-append ps (p ∷ []));
      }

-- ---- without the last document

pub stands_taken : (f : Forging) (b : Block) (ps : List ℕ) (p : ℕ) (ms : List Bool) (d : Doc) → IsDrafted f b (ps ++ p ∷ []) ms → ArePending f.pool → slice_get f.pool p ≡ Some d
    → IsDrafted f (without_line f.chain d b) ps (set ms p false)
stands_taken f b ps p ms d stands pending is =
    let docs = docs_at f.pool ps in
    let more = docs_at-push f.pool ps p d is in
    let apart = subst AreApart more stands.apart in
    let was : ms ≡ map (is_in (docs ++ d ∷ [])) f.pool = stands.marked ∙ ap (λ l. map (is_in l) f.pool) more in
    let in' : slice_get ms p ≡ Some true = ap (λ l. slice_get l p) was ∙ mark_at (docs ++ d ∷ []) f.pool p d is ∙ ap Some (is_in-own docs d) in
    record {
      keeps = keeps_less f.chain f.issuer f.time docs b d (subst (λ l. KeepsDraft (with_lines f.chain f.issuer f.time l) b) more stands.keeps);
      there = all_front (λ place. place < length f.pool) ps p stands.there;
      apart = apart_front docs d apart;
      marked = ap (λ l. set l p false) was ∙ unmark docs f.pool p d pending.apart is (apart_last docs d apart);
      counted = omega (arith, count_unset ms p in', stands.counted, length-append ps (p ∷ []));
    }
