use Rattle.std.specs.Prelude.{◌&&◌}
use Rattle.dubp_atoms.specs.Same.{same_text}
use Rattle.dubp_block.specs.declared.block.Block.{Block}
use Rattle.dubp_block.specs.declared.block.CertLine.{CertLine}
use Rattle.dubp_chain.specs.Members.{is_of}
use Rattle.dubp_chain.specs.People.{membership_lines}
use Rattle.dubp_left.proofs.Times.{written-time}
use Rattle.dubp_left.proofs.times_are_written.Goals as goal

pub returns : goal.returns
returns g = λ c sound. record {
  memberships = λ k w is. written-time membership_lines (is_of k) c sound w is;
  certifications = λ a b w is. written-time (λ (block : Block). block.certifications) (λ (line : CertLine). same_text a line.from && same_text b line.to) c sound w is;
  issuers = λ a w is. written-time (λ (block : Block). block.certifications) (λ (line : CertLine). same_text a line.from) c sound w is;
}
