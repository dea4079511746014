use Rattle.std.proofs.Common.{◌∙◌, ap, sym, ◌∷◌, arith}
use Rattle.dubp_moving.specs.Chains.{stands_now}
use Rattle.dubp_kept.specs.KeptChain.{Fits}
use Rattle.dubp_kept.proofs.Within.{within_more, within_back, waits_same}
use Rattle.dubp_kept.proofs.moves.enter.Goals as goal

pub returns-in-Ok-clause-stands : goal.returns-in-Ok-clause-stands
returns-in-Ok-clause-stands g c = λ chain sound text head s.
    let t = c.args.tables.now in
    let m = c.mark.new.self in
    let w = c.write.new.self in
    let is = (stands_now (Fits (g.T.Tables.is (g.T.Tables.names t))) (g.T.Tables.now t, g.T.Tables.count t) (g.T.Tables.others t).kept chain s).0 in
    let marked = g.met.T.Tables.is_at m chain (rw (c.mark.ensures.names, c.mark.ensures.now) is) in
    let written = g.met.T.Tables.at_is w (c.args.block.now ∷ chain) (c.in-Ok.ensures.at chain sound text head marked) in
    let steps = c.in-Ok.ensures.steps chain sound text head marked in
    within_more (g.T.Tables.is (g.T.Tables.names t)) (g.T.Tables.is (g.T.Tables.names w)) (λ n d p. c.write.ensures.stays n d (rw c.mark.ensures.names p)) (g.T.Tables.now t) (g.T.Tables.now w) (g.T.Tables.count t) (g.T.Tables.count w) (g.T.Tables.others t).kept (g.T.Tables.others w).kept c.args.block.now chain
    (ap (λ o. o.kept) c.write.ensures.others ∙ c.in_ok-mark.ensures.kept) written (omega (arith, c.write.ensures.count, c.in_ok-mark.ensures.count, steps)) s

pub returns-in-Ok-clause-waits : goal.returns-in-Ok-clause-waits
returns-in-Ok-clause-waits g c = λ o i.
    let t = c.args.tables.now in
    let w = c.write.new.self in
    waits_same (g.T.Tables.is (g.T.Tables.names t)) (g.T.Tables.is (g.T.Tables.names w)) (λ n d p. c.write.ensures.stays n d (rw c.mark.ensures.names p)) (g.T.Tables.others t) (g.T.Tables.others w) o i
    (ap (λ x. x.ahead) c.write.ensures.others ∙ c.mark.ensures.ahead) (ap (λ x. x.root) c.write.ensures.others ∙ c.mark.ensures.root)

pub returns-in-Err-clause-waits : goal.returns-in-Err-clause-waits
returns-in-Err-clause-waits g c = λ o i.
    let t = c.args.tables.now in
    let b = c.back.new.self in
    waits_same (g.T.Tables.is (g.T.Tables.names t)) (g.T.Tables.is (g.T.Tables.names b)) (λ n d p. rw c.back.ensures.names (c.write.ensures.stays n d (rw c.mark.ensures.names p))) (g.T.Tables.others t) (g.T.Tables.others b) o i
    (c.back.ensures.ahead ∙ ap (λ x. x.ahead) c.write.ensures.others ∙ c.mark.ensures.ahead) (c.back.ensures.root ∙ ap (λ x. x.root) c.write.ensures.others ∙ c.mark.ensures.root)

pub returns-in-Err-clause-refused : goal.returns-in-Err-clause-refused
returns-in-Err-clause-refused g c = λ chain s.
    let t = c.args.tables.now in
    let b = c.back.new.self in
    let kept = sym c.back.ensures.kept ∙ ap (λ o. o.kept) c.write.ensures.others ∙ c.in_ok-mark.ensures.kept in
    within_back (g.T.Tables.is (g.T.Tables.names t)) (g.T.Tables.is (g.T.Tables.names b)) (λ n d p. rw c.back.ensures.names (c.write.ensures.stays n d (rw c.mark.ensures.names p))) (g.T.Tables.now t) (g.T.Tables.now b) (g.T.Tables.count t) (g.T.Tables.count b) (g.T.Tables.others t).kept (g.T.Tables.others b).kept chain kept s
