use Rattle.std.proofs.Common.{◌≡◌, ◌∙◌, [], ◌∷◌, ◌++◌, drop, length, reverse, refl, ap, sym, subst, option_to_list, arith}
use Rattle.dubp_chain.specs.Chains.{Chain}
use Rattle.dubp_kept.specs.KeptChain.{HasRoom, IsKnown, StandsWithin, WaitsWithin, last_steps}
use Rattle.dubp_kept.proofs.Known.{known_less, turned}
use Rattle.dubp_kept.proofs.Stands.{few_none, room_less, room_on, stands_on}
use Rattle.dubp_kept.proofs.Within.{last_within, waits_same, within_less}
use Rattle.dubp_kept.proofs.kept.Kept.withdraw.Goals as goal

pub invariant_of-self : goal.invariant_of-self
invariant_of-self g c =
    let s = c.self.inside in
    let rest = c.pop-2.new.self.items in
    let b = c.unwrap.result in
    let items : s.blocks.items ≡ rest ++ b ∷ [] = c.pop-2.ensures.items ∙ ap (λ o. rest ++ option_to_list o) c.unwrap.ensures in
    let here : reverse s.blocks.items ≡ b ∷ reverse rest = sym (turned rest rest s.blocks.items b refl items) in
    let known = subst (λ x. IsKnown x s.heads) here c.self.invariant.known in
    let old = s.tables in
    let new = c.back.new.self in
    let k = c.back.ensures in
    let stays : (m : g.T.Tables.Now) (d : Chain) → g.T.Tables.is (g.T.Tables.names old) m d → g.T.Tables.is (g.T.Tables.names new) m d = λ m d p. rw k.names p in
    let one_less = ap length k.kept in
    record {
      stands_is = subst (λ x. StandsWithin (g.T.Tables.is (g.T.Tables.names new)) (g.T.Tables.now new) (g.T.Tables.count new) (g.T.Tables.others new).kept (drop 1 x)) here
          (within_less (g.T.Tables.is (g.T.Tables.names old)) (g.T.Tables.is (g.T.Tables.names new)) stays (g.T.Tables.now old) (g.T.Tables.now new) (g.T.Tables.count old) (g.T.Tables.count new) (g.T.Tables.others old).kept (g.T.Tables.others new).kept (reverse s.blocks.items) k.kept c.self.invariant.stands_is);
      fits = omega (arith, one_less, ap length here, c.self.invariant.fits);
      known = known_less (reverse rest) b c.pop.result s.heads c.pop.new.self known c.pop.ensures.popped c.pop.ensures.span;
      heads_room = room_on (reverse rest) s.heads c.pop.new.self c.pop.ensures.keeps (room_less b (reverse rest) s.heads (subst (HasRoom s.heads) here c.self.invariant.heads_room));
      out_is = stands_on s.out (WaitsWithin (g.T.Tables.is (g.T.Tables.names s.tables)) (g.T.Tables.others s.tables)) (WaitsWithin (g.T.Tables.is (g.T.Tables.names c.back.new.self)) (g.T.Tables.others c.back.new.self)) (length (g.T.Tables.others s.tables).kept) (length (g.T.Tables.others new).kept) (length (g.T.Tables.others s.tables).ahead) (length (g.T.Tables.others c.back.new.self).ahead) s.heads c.pop.new.self s.behind.items (reverse s.blocks.items) (reverse rest) _ _
          c.self.invariant.out_is (λ o i. waits_same (g.T.Tables.is (g.T.Tables.names old)) (g.T.Tables.is (g.T.Tables.names new)) stays (g.T.Tables.others old) (g.T.Tables.others new) o i k.ahead k.root) (ap length c.back.ensures.ahead) c.pop.ensures.keeps (omega (arith, c.pop-2.ensures.capacity))
          (λ e. omega (arith, one_less, few_none s.out _ _ _ _ _ _ _ c.self.invariant.out_is e)) (λ o e. omega (arith, one_less, ap length here));
    }

pub returns-clause-steps : goal.returns-clause-steps
returns-clause-steps g c =
    let s = c.self.inside in
    let t = s.tables in
    let least = last_within (g.T.Tables.is (g.T.Tables.names t)) (g.T.Tables.now t) (g.T.Tables.count t) (g.T.Tables.others t).kept (reverse s.blocks.items) c.self.invariant.stands_is in
    omega (arith, c.back.ensures.steps, least, ap (λ v. last_steps v.chain) c.self.view_is)
