use Rattle.std.proofs.Common.{refl}
use Rattle.dubp_statement.proofs.Names.{put}
use Rattle.dubp_cond.specs.contracts.source.SourceIdPartialEq.TheImpl as derived
use Rattle.dubp_statement.proofs.tally.insert.Goals as goal

pub returns-in-Ok : goal.returns-in-Ok
returns-in-Ok c = λ x.
    put (derived.ghosts).eq (λ k b l n. refl) (λ k b l n. refl) (λ k b l n. refl) (λ k b l n. refl) c.args.source x c.args.names.now.keys c.insert.new.self.keys (c.in-Ok.ensures.updates.0 x)
