use Rattle.std.proofs.Common.{◌∙◌, ◌<◌, sym, ap, arith, refl, length}
use Rattle.dubp_pool.specs.Pools.{is_pending, most_pending}
use Rattle.dubp_pool.proofs.Kept.{added, held_is, is_found}
use Rattle.dubp_pool.proofs.pool.Pool.keep.Goals as goal

pub returns-then-contains_key : goal.returns-then-contains_key
returns-then-contains_key c = (
  c.requires.is,
  sym (is_found c.self.inside.documents.entries c.args.hash c.self.invariant ∙ ap (λ p. is_pending p c.args.hash) c.self.view_is) ∙ sym c.contains_key.ensures ∙ c.if-contains_key.true,
  refl,
)

pub returns-then-held-ge-MOST_PENDING : goal.returns-then-held-ge-MOST_PENDING
returns-then-held-ge-MOST_PENDING c = (
  sym (is_found c.self.inside.documents.entries c.args.hash c.self.invariant ∙ ap (λ p. is_pending p c.args.hash) c.self.view_is ∙ ap (is_pending c.args.self.now) c.requires.is) ∙ sym c.contains_key.ensures ∙ c.if-contains_key.false,
  c.len-held.ensures.len ∙ held_is c.self.inside.documents.entries ∙ ap length c.self.view_is,
  c.if-held-ge-MOST_PENDING.true,
  refl,
)

pub invariant_of-self : goal.invariant_of-self
invariant_of-self c =
    let len = held_is c.self.inside.documents.entries ∙ ap length c.self.view_is in
    let held = c.len-held.ensures.len in
    let less = c.if-held-ge-MOST_PENDING.false in
    let few : length c.args.self.now < most_pending = omega arith in
    (added c.self.inside.documents.entries c.insert.new.self.entries c.args.self.now c.args.hash c.args.document c.requires.is c.requires.text c.self.invariant c.self.view_is
    (sym c.contains_key.ensures ∙ c.if-contains_key.false) few c.in-Ok.ensures.entries).kept

pub returns-in-Ok : goal.returns-in-Ok
returns-in-Ok c =
    let len = held_is c.self.inside.documents.entries ∙ ap length c.self.view_is in
    let held = c.len-held.ensures.len in
    let less = c.if-held-ge-MOST_PENDING.false in
    let few : length c.args.self.now < most_pending = omega arith in
    let a = added c.self.inside.documents.entries c.insert.new.self.entries c.args.self.now c.args.hash c.args.document c.requires.is c.requires.text c.self.invariant c.self.view_is
    (sym c.contains_key.ensures ∙ c.if-contains_key.false) few c.in-Ok.ensures.entries in (
      c.requires.is,
      sym (is_found c.self.inside.documents.entries c.args.hash c.self.invariant ∙ ap (λ p. is_pending p c.args.hash) c.self.view_is) ∙ sym c.contains_key.ensures ∙ c.if-contains_key.false,
      few,
      a.view,
    )
