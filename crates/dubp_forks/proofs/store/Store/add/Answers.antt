use Rattle.std.proofs.Common.{◌∙◌, ◌<◌, ◌≤◌, ap, arith, is_some, sym, subst, refl, length}
use Rattle.dubp_validity.specs.Rules.{longest_block}
use Rattle.dubp_replay.specs.Turns.{is_known, most_stored}
use Rattle.dubp_forks.specs.Entries.{AreKept, blocks_in}
use Rattle.dubp_forks.specs.Stores.{AreOutside, state_of}
use Rattle.dubp_forks.proofs.Kept.{IsAdded, added, kept_len, known_chained, known_stored, unknown}
use Rattle.dubp_forks.proofs.store.Store.add.Goals as goal
use Rattle.dubp_forks.proofs.store.Store.add.Goals.{in-Err, in-Ok, then-contains_key-via-then-contains_key, then-contains_key-via-else-contains_key+then-is_some}

pub returns-then-contains_key-clause-added : goal.returns-then-contains_key-clause-added
returns-then-contains_key-clause-added g c = λ v. (
  c.stamp_of-stamp.ensures,
  elim c.then-contains_key.branch [
    | then-contains_key-via-then-contains_key w ↦
        known_stored v c.args.ledger.now c.self.inside.blocks.entries c.args.self.now c.stamp_of-stamp.result c.self.invariant c.self.view_is (sym c.contains_key.ensures ∙ w.if-contains_key.true)
    | then-contains_key-via-else-contains_key+then-is_some w ↦
        known_chained v c.args.ledger.now c.self.inside.blocks.entries c.args.self.now c.stamp_of-stamp.result c.self.invariant c.self.view_is
        (ap is_some (sym w.place_of.ensures) ∙ sym w.is_some.ensures ∙ w.if-is_some.true)
  ],
  refl,
)

pub returns-then-held-ge-MOST_STORED-clause-added : goal.returns-then-held-ge-MOST_STORED-clause-added
returns-then-held-ge-MOST_STORED-clause-added g c = λ v. (
  sym (ap (is_known (state_of v c.args.ledger.now c.args.self.now)) c.stamp_of-stamp.ensures)
      ∙ unknown v c.args.ledger.now c.self.inside.blocks.entries c.args.self.now c.stamp_of-stamp.result c.self.invariant c.self.view_is
      (sym c.contains_key.ensures ∙ c.if-contains_key.false) (ap is_some (sym c.place_of.ensures) ∙ sym c.is_some.ensures ∙ c.if-is_some.false),
  c.len-held.ensures.len ∙ kept_len c.self.inside.blocks.entries c.args.self.now c.self.invariant c.self.view_is,
  c.if-held-ge-MOST_STORED.true,
  refl,
)

pub invariant_of-self : goal.invariant_of-self
invariant_of-self g c =
    let len = kept_len c.self.inside.blocks.entries c.args.self.now c.self.invariant c.self.view_is in
    let held = c.len-held.ensures.len in
    let less = c.if-held-ge-MOST_STORED.false in
    let few : length c.args.self.now < most_stored = omega arith in
    elim c.match-put_text.branch [
      | in-Ok w ↦
          let a : IsAdded c.put_text.new.blocks.entries c.args.self.now c.args.ledger.now.chain c.args.block.now =
          added c.self.inside.blocks.entries c.put_text.new.blocks.entries c.args.self.now c.args.ledger.now.chain c.args.block.now c.stamp_of-stamp.result c.stamp_of-stamp.ensures c.self.invariant c.self.view_is
          (sym c.contains_key.ensures ∙ c.if-contains_key.false) (ap is_some (sym c.place_of.ensures) ∙ sym c.is_some.ensures ∙ c.if-is_some.false)
          (record { text = c.requires.range; short = subst (λ l. length l ≤ longest_block) c.requires.text c.requires.short }) few c.requires.outside w.in-Ok.ensures.entries in
          a.kept
      | in-Err w ↦ subst AreKept (sym w.in-Err.ensures.same) c.self.invariant
    ]

pub returns-clause-added : goal.returns-clause-added
returns-clause-added g c =
    let len = kept_len c.self.inside.blocks.entries c.args.self.now c.self.invariant c.self.view_is in
    let held = c.len-held.ensures.len in
    let less = c.if-held-ge-MOST_STORED.false in
    let few : length c.args.self.now < most_stored = omega arith in
    elim c.match-put_text.branch [
      | in-Ok w ↦
          let a : IsAdded c.put_text.new.blocks.entries c.args.self.now c.args.ledger.now.chain c.args.block.now =
          added c.self.inside.blocks.entries c.put_text.new.blocks.entries c.args.self.now c.args.ledger.now.chain c.args.block.now c.stamp_of-stamp.result c.stamp_of-stamp.ensures c.self.invariant c.self.view_is
          (sym c.contains_key.ensures ∙ c.if-contains_key.false) (ap is_some (sym c.place_of.ensures) ∙ sym c.is_some.ensures ∙ c.if-is_some.false)
          (record { text = c.requires.range; short = subst (λ l. length l ≤ longest_block) c.requires.text c.requires.short }) few c.requires.outside w.in-Ok.ensures.entries in
          λ v.
          rw w.result-is (
            c.stamp_of-stamp.ensures,
            unknown v c.args.ledger.now c.self.inside.blocks.entries c.args.self.now c.stamp_of-stamp.result c.self.invariant c.self.view_is
                (sym c.contains_key.ensures ∙ c.if-contains_key.false) (ap is_some (sym c.place_of.ensures) ∙ sym c.is_some.ensures ∙ c.if-is_some.false),
            few,
            a.view,
          )
      | in-Err w ↦ λ v. rw w.result-is (ap blocks_in w.in-Err.ensures.same ∙ c.self.view_is)
    ]

pub returns-clause-outside : goal.returns-clause-outside
returns-clause-outside g c =
    let len = kept_len c.self.inside.blocks.entries c.args.self.now c.self.invariant c.self.view_is in
    let held = c.len-held.ensures.len in
    let less = c.if-held-ge-MOST_STORED.false in
    let few : length c.args.self.now < most_stored = omega arith in
    elim c.match-put_text.branch [
      | in-Ok w ↦
          let a : IsAdded c.put_text.new.blocks.entries c.args.self.now c.args.ledger.now.chain c.args.block.now =
          added c.self.inside.blocks.entries c.put_text.new.blocks.entries c.args.self.now c.args.ledger.now.chain c.args.block.now c.stamp_of-stamp.result c.stamp_of-stamp.ensures c.self.invariant c.self.view_is
          (sym c.contains_key.ensures ∙ c.if-contains_key.false) (ap is_some (sym c.place_of.ensures) ∙ sym c.is_some.ensures ∙ c.if-is_some.false)
          (record { text = c.requires.range; short = subst (λ l. length l ≤ longest_block) c.requires.text c.requires.short }) few c.requires.outside w.in-Ok.ensures.entries in
          a.outside
      | in-Err w ↦
          subst (λ s. AreOutside s c.args.ledger.now.chain) (sym (ap blocks_in w.in-Err.ensures.same ∙ c.self.view_is)) c.requires.outside
    ]
