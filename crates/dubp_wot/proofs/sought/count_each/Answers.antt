use Rattle.std.proofs.Common.{◌≡◌, ◌+◌, ◌<◌, ℕ, nat_eq, length, get_or, set, take, ◌∙◌, sym, subst, arith}
use Rattle.std.specs.Prelude.{count_by}
use Rattle.std.proofs.lemmas.List.{get_or_default, get_or_read, length-set, length-take-le}
use Rattle.std.proofs.lemmas.List.Sums.{count_by-le-length}
use Rattle.dubp_wot.proofs.Counts.{counts-next}
use Rattle.dubp_wot.proofs.Numbered.{AreBelow-at}
use Rattle.dubp_wot.proofs.sought.count_each.Goals as goal

pub index_mut-requires : goal.index_mut-requires
index_mut-requires c =
    let numbers = c.args.numbers.now in
    let i = c.loop-number.number-index in
    let n = get_or numbers i 0 in
    let within = c.loop-number-test.true in
    omega (arith, AreBelow-at c.args.size numbers i n c.requires within (get_or_default numbers i 0 n within), c.loop-number.invariant.length, c.loop-number.counts.ok.0)

pub overflow_add-index_mut : goal.overflow_add-index_mut
overflow_add-index_mut c =
    let numbers = c.args.numbers.now in
    let i = c.loop-number.number-index in
    let n = get_or numbers i 0 in
    let old = c.loop-number.counts.items in
    let within = c.loop-number-test.true in
    let room : n < length old = omega (arith, AreBelow-at c.args.size numbers i n c.requires within (get_or_default numbers i 0 n within), c.loop-number.invariant.length) in
    let is = get_or_read old n c.index_mut.result.now room c.index_mut.ensures.value 0 in
    omega (arith, is, c.loop-number.invariant.counts n, count_by-le-length (nat_eq n) (take i numbers), length-take-le i numbers (omega arith))

pub loop-number-preserved : goal.loop-number-preserved
loop-number-preserved c =
    let numbers = c.args.numbers.now in
    let i = c.loop-number.number-index in
    let n = get_or numbers i 0 in
    let old = c.loop-number.counts.items in
    let within = c.loop-number-test.true in
    let at = get_or_default numbers i 0 n within in
    let room : n < length old = omega (arith, AreBelow-at c.args.size numbers i n c.requires within at, c.loop-number.invariant.length) in
    let is = get_or_read old n c.index_mut.result.now room c.index_mut.ensures.value 0 in
    record {
      length = length-set old n (c.index_mut.result.now + 1) ∙ c.loop-number.invariant.length;
      counts =
          subst (λ (x : ℕ). (m : ℕ) → get_or (set old n (x + 1)) m 0 ≡ count_by (nat_eq m) (take (i + 1) numbers)) (sym is)
          (counts-next numbers old i n within at room c.loop-number.invariant.counts);
    }
