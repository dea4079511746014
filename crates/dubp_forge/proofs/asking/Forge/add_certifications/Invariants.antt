use Rattle.dubp_forge.specs.Steps.{Extends, Stands, docs_of}
use Rattle.dubp_forge.proofs.Passing.{CertifiesOn}
use Rattle.dubp_forge.proofs.asking.Forge.add_certifications.Given as goal

abbrev pub invariant-loop-place : goal.invariant-loop-place
invariant-loop-place g l = record {
  stands : Stands l.self l.draft;
  grows : Extends l.fn.draft.places.items l.draft.places.items;
  certifies : CertifiesOn l.self l.key l.place (docs_of l.self l.fn.draft) (docs_of l.self l.draft);
}
