-- What the lines of a block say of a key, as tests: who joins, comes, leaves and is excluded, which identity is made, and with whom it has
-- certifications. Protocol: people, certifications.
use Rattle.std.specs.Prelude.{◌≡◌, Bool, ◌&&◌, ◌||◌, ◌++◌, Option}
use Rattle.std.specs.List.{list_any}
use Rattle.dubp_atoms.specs.Same.{Text, same_text}
use Rattle.dubp_block.specs.declared.block.Block.{Block}
use Rattle.dubp_block.specs.declared.block.IdentityLine.{IdentityLine}
use Rattle.dubp_block.specs.declared.block.CertLine.{CertLine}
use Rattle.dubp_chain.specs.Words.{names, last_of}
use Rattle.dubp_chain.specs.Members.{is_of}
use Rattle.dubp_registry.specs.OfSteps.{of_pair}

-- the last line of Identities of a key; where each stands once it is the only one
abbrev pub identity_in : Block → Text → Option IdentityLine
identity_in b k = last_of (λ line. same_text k line.key) b.identities

abbrev pub same_pair : Text × Text → Text × Text → Bool
same_pair p q = same_text p.0 q.0 && same_text p.1 q.1

-- the last line of Certifications of a pair
abbrev pub certification_in : Block → Text × Text → Option CertLine
certification_in b p = last_of (of_pair p.0 p.1) b.certifications

-- a certification from one of the two keys to the other
abbrev pub is_between : Text → Text → CertLine → Bool
is_between x y line = of_pair x y line || of_pair y x line

pub record AreKeysOf (b : Block) (joins comes leaves out : Text → Bool) (identity : Text → Option IdentityLine) (certification : Text × Text → Option CertLine) (partner : Text → Text → Bool) : Type 0 where
  pub joiners : (k : Text) → joins k ≡ list_any (is_of k) b.joiners
  pub comers : (k : Text) → comes k ≡ list_any (is_of k) (b.joiners ++ b.actives)
  pub leavers : (k : Text) → leaves k ≡ list_any (is_of k) b.leavers
  pub excluded : (k : Text) → out k ≡ names b.excluded k
  pub identities : (k : Text) → identity k ≡ identity_in b k
  pub certifications : (x y : Text) → certification (x, y) ≡ certification_in b (x, y)
  pub partners : (x y : Text) → partner x y ≡ list_any (is_between x y) b.certifications
