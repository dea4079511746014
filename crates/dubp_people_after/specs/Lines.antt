-- What the rules on people ask of one line, on the chain with the block. Protocol: rules.
use Rattle.std.specs.Prelude.{IsTrue, not, ◌∷◌, ◌≤◌}
use Rattle.std.specs.List.{list_any}
use Rattle.dubp_block.specs.declared.block.Block.{Block}
use Rattle.dubp_block.specs.declared.block.CertLine.{CertLine}
use Rattle.dubp_block.specs.declared.block.MemberLine.{MemberLine}
use Rattle.dubp_chain.specs.Chains.{Chain, params}
use Rattle.dubp_chain.specs.Live.{received, stock}
use Rattle.dubp_chain.specs.Members.{member}
use Rattle.dubp_chain.specs.People.{identity_lines, leaving}
use Rattle.dubp_verdict.specs.Verdicts.{Verdicts}
use Rattle.dubp_registry.specs.OfValidity.{is_identity_of, IsCertifiedBy}

unfoldable pub HasMember : Chain → Block → CertLine → Type 0
HasMember c b line = IsTrue (member (b ∷ c) line.to)

unfoldable pub HasStaying : Chain → Block → CertLine → Type 0
HasStaying c b line = IsTrue (not (leaving (b ∷ c) line.to))

unfoldable pub HasIdentity : Chain → Block → MemberLine → Type 0
HasIdentity c b line = IsTrue (list_any (is_identity_of line) (identity_lines (b ∷ c)))

unfoldable pub IsCertified : Verdicts → Chain → Block → CertLine → Type 0
IsCertified v c b line = IsCertifiedBy v c b line

unfoldable pub KeepsStock : Chain → Block → CertLine → Type 0
KeepsStock c b line = stock (b ∷ c) line.from ≤ (params (b ∷ c)).sig_stock

unfoldable pub HasEnough : Chain → Block → MemberLine → Type 0
HasEnough c b line = (params (b ∷ c)).sig_qty ≤ received (b ∷ c) line.key
