use Rattle.std.proofs.Common.{◌≡◌, ◌∙◌, ◌∷◌, length, reverse, min, cond, ap, sym, subst, arith}
use Rattle.dubp_kept.specs.KeptChain.{HasRoom, IsKnown, MayJoin, most_kept, StandsWithin, WaitsWithin}
use Rattle.dubp_kept.proofs.Known.{known_more, turned}
use Rattle.dubp_kept.proofs.Stands.{room_more, stands_on, trimmed_most, trimmed_few, trimmed_all}
use Rattle.dubp_head.specs.OfValidity.{IsSound}
use Rattle.dubp_kept.proofs.Within.{now_is}
use Rattle.dubp_kept.proofs.kept.Kept.add.Goals as goal

pub invariant_of-self-2 : goal.invariant_of-self-2
invariant_of-self-2 g c =
    let s = c.self.inside in
    let old = reverse s.blocks.items in
    let b = c.args.block in
    let here : old ≡ c.args.self.now.chain = ap (λ s. s.chain) c.self.view_is in
    let joins = subst (λ x. MayJoin x b c.args.head c.args.params.now) (sym here) c.requires.joins in
    let known = known_more old b c.args.head c.args.params.now s.heads c.push.new.self joins c.self.invariant.known c.in_default-push.ensures.pushed c.in_default-push.ensures.span in
    let wide = room_more b old c.push.new.self c.args.params.now known.are c.in_default-push.ensures.room c.in_default-push.ensures.width joins.same in
    let stands = c.trim_unless.ensures.stands (b ∷ old) (c.in-Ok.ensures.stands old known.sound joins.text joins.head c.self.invariant.stands_is) in
    let more : b ∷ old ≡ reverse c.push_reserved.new.self.items = turned s.blocks.items c.reserve.new.self.items c.push_reserved.new.self.items b c.reserve.ensures.items c.push_reserved.ensures.items in
    let before = length (g.T.Tables.others s.tables).kept in
    let entered = length (g.T.Tables.others c.enter.new.tables).kept in
    let depth = length (g.T.Tables.others c.trim_unless.new.tables).kept in
    let trimmed = subst (λ all. depth ≡ cond all entered (min entered most_kept)) c.is_some.ensures c.trim_unless.ensures.depth in
    record {
      stands_is = subst (λ x. StandsWithin (g.T.Tables.is (g.T.Tables.names c.trim_unless.new.tables)) (g.T.Tables.now c.trim_unless.new.tables) (g.T.Tables.count c.trim_unless.new.tables) (g.T.Tables.others c.trim_unless.new.tables).kept x) more stands;
      fits = omega (arith, ap length (sym more), trimmed_most s.out entered depth trimmed, c.in-Ok.ensures.depth, c.self.invariant.fits);
      known = subst (λ x. IsKnown x c.push.new.self) more known;
      heads_room = subst (HasRoom c.push.new.self) more wide;
      out_is = stands_on s.out (WaitsWithin (g.T.Tables.is (g.T.Tables.names s.tables)) (g.T.Tables.others s.tables)) (WaitsWithin (g.T.Tables.is (g.T.Tables.names c.trim_unless.new.tables)) (g.T.Tables.others c.trim_unless.new.tables)) before depth (length (g.T.Tables.others s.tables).ahead) (length (g.T.Tables.others c.trim_unless.new.tables).ahead) s.heads c.push.new.self s.behind.items old (reverse c.push_reserved.new.self.items) _ _
          c.self.invariant.out_is (λ o i w. c.trim_unless.ensures.waits o i (c.enter.ensures.waits o i w)) (ap length (c.trim_unless.ensures.ahead ∙ c.enter.ensures.ahead)) c.push.ensures.keeps
          (omega (arith, c.reserve.ensures.capacity, c.push_reserved.ensures.capacity)) (trimmed_few s.out entered depth trimmed) (λ o e. omega (arith, ap length (sym more), trimmed_all s.out entered depth trimmed o e, c.in-Ok.ensures.depth));
    }

pub returns-clause-left : goal.returns-clause-left
returns-clause-left g c =
    let t = c.self.inside.tables in
    let chain = c.args.self.now.chain in
    let seen = ap (λ v. v.chain) c.self.view_is in
    let at = g.met.T.Tables.is_at t chain (now_is (g.T.Tables.is (g.T.Tables.names t)) (g.T.Tables.now t) (g.T.Tables.count t) (g.T.Tables.others t).kept (reverse c.self.inside.blocks.items) chain seen c.self.invariant.stands_is) in
    let joins = c.requires.joins in
    c.in-Ok.ensures.left chain (joins.keeps, subst IsSound seen c.self.invariant.known.sound) joins.text joins.head at

pub returns-clause-steps : goal.returns-clause-steps
returns-clause-steps g c =
    let t = c.self.inside.tables in
    let chain = c.args.self.now.chain in
    let seen = ap (λ v. v.chain) c.self.view_is in
    let at = g.met.T.Tables.is_at t chain (now_is (g.T.Tables.is (g.T.Tables.names t)) (g.T.Tables.now t) (g.T.Tables.count t) (g.T.Tables.others t).kept (reverse c.self.inside.blocks.items) chain seen c.self.invariant.stands_is) in
    let joins = c.requires.joins in
    c.in-Ok.ensures.steps chain (joins.keeps, subst IsSound seen c.self.invariant.known.sound) joins.text joins.head at
