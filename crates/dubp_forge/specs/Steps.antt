-- Steps of the code that forges a block: the draft under way, and what is done to it. Protocol: forging.
use Rattle.std.specs.Prelude.{◌≡◌, ◌≤◌, ◌<◌, ◌+◌, ◌-◌, ℕ, Bool, true, false, not, ◌&&◌, List, [], ◌∷◌, ◌++◌, length, map, take, find, slice_get, Option, Some, None, MatchBool, MatchOption, if◌then◌else◌}
use Rattle.std.specs.List.{AllByRecursion}
use Rattle.dubp_atoms.specs.Same.{Text}
use Rattle.dubp_atoms.specs.Spelling.{IsNumber}
use Rattle.dubp_docs.specs.declared.doc.IdentityDoc.{IdentityDoc}
use Rattle.dubp_docs.specs.declared.doc.Doc.{Doc}
use Rattle.dubp_docs.specs.declared.doc.Doc.TheVariants.{Identity, Revocation, Certification, Membership, Transaction}
use Rattle.dubp_pool.specs.Pools.{AreApart}
use Rattle.dubp_block.specs.declared.block.Block.{Block}
use Rattle.dubp_rules.specs.declared.rule.Rule.{Rule}
use Rattle.dubp_verdict.specs.Verdicts.{Verdicts}
use Rattle.dubp_chain.specs.Chains.{Chain}
use Rattle.dubp_chain.specs.Members.{member}
use Rattle.dubp_forging.specs.Filled.{KeepsDraft}
use Rattle.dubp_forging.specs.Drafts.{identity_line, membership_line, revoked_line, certification_line, with_lines}
use Rattle.dubp_forging.specs.Forged.{Adds, Forging, IsTried, is_in, is_joining, is_mendable}
use Rattle.dubp_forge.specs.declared.draft.Draft.{Draft}

-- ---- the draft under way

-- what is given when a block is forged: the chain has one, and the time is in range
pub record IsGiven (f : Forging) : Type 0 where
  pub some : 1 ≤ length f.chain
  pub time : IsNumber f.time

abbrev pub forging : Verdicts → Chain → Text → ℕ → List Doc → Forging
forging verdicts chain issuer time pool = record { verdicts = verdicts; chain = chain; issuer = issuer; time = time; pool = pool }

-- a block of this issuer at this time, without lines; what else it says is not read
abbrev pub IsBlank : Forging → Block → Type 0
IsBlank f b = KeepsDraft (with_lines f.chain f.issuer f.time []) b

abbrev pub one_of : Option Doc → List Doc
one_of None = []
one_of (Some d) = d ∷ []

-- the documents that stand at these places of the pool
abbrev pub docs_at : List Doc → List ℕ → List Doc
docs_at pool [] = []
docs_at pool (place ∷ places) = one_of (slice_get pool place) ++ docs_at pool places

-- how many are marked
abbrev pub count_marked : List Bool → ℕ
count_marked [] = 0
count_marked (true ∷ marks) = count_marked marks + 1
count_marked (false ∷ marks) = count_marked marks

-- The documents at these places of the pool were added, in this order; the block has their lines, and each is marked.
pub record IsDrafted (f : Forging) (b : Block) (places : List ℕ) (marks : List Bool) : Type 0 where
  pub keeps : KeepsDraft (with_lines f.chain f.issuer f.time (docs_at f.pool places)) b
  pub there : AllByRecursion (λ place. place < length f.pool) places
  pub apart : AreApart (docs_at f.pool places)
  pub marked : marks ≡ map (is_in (docs_at f.pool places)) f.pool
  pub counted : count_marked marks ≡ length places

abbrev pub Stands : Forging → Draft → Type 0
Stands f d = IsDrafted f d.block d.places.items d.marks.items

abbrev pub docs_of : Forging → Draft → List Doc
docs_of f d = docs_at f.pool d.places.items

-- there is a document at this place, which is not in the draft yet
abbrev pub IsFree : Draft → ℕ → Type 0
IsFree d place = slice_get d.marks.items place ≡ Some false

-- the places of the first are those of the second, and others may follow
pub record Extends (old new : List ℕ) : Type 0 where
  pub more : List ℕ
  pub is : new ≡ old ++ more

-- ---- lines

abbrev pub all_but_last : {A : Type 0} → List A → List A
all_but_last xs = take (length xs - 1) xs

-- the block with the line of a document more
abbrev pub with_line : Chain → Doc → Block → Block
with_line c (Identity d) b = record b { identities = b.identities ++ identity_line d ∷ [] }
with_line c (Revocation d) b = record b { revoked = b.revoked ++ revoked_line d ∷ [] }
with_line c (Certification d) b = record b { certifications = b.certifications ++ certification_line d ∷ [] }
with_line c (Membership d) b =
    if d.membership
    then (if member c d.issuer then record b { actives = b.actives ++ membership_line d ∷ [] } else record b { joiners = b.joiners ++ membership_line d ∷ [] })
    else record b { leavers = b.leavers ++ membership_line d ∷ [] }
with_line c (Transaction d) b = record b { transactions = b.transactions ++ d.tx ∷ [] }

-- the block without the last line of the section of a document
abbrev pub without_line : Chain → Doc → Block → Block
without_line c (Identity d) b = record b { identities = all_but_last b.identities }
without_line c (Revocation d) b = record b { revoked = all_but_last b.revoked }
without_line c (Certification d) b = record b { certifications = all_but_last b.certifications }
without_line c (Membership d) b =
    if d.membership
    then (if member c d.issuer then record b { actives = all_but_last b.actives } else record b { joiners = all_but_last b.joiners })
    else record b { leavers = all_but_last b.leavers }
without_line c (Transaction d) b = record b { transactions = all_but_last b.transactions }

-- ---- a document more

-- a membership that comes with this identity: it is not in the draft yet
abbrev pub comes_with : List Doc → IdentityDoc → Doc → Bool
comes_with docs i d = is_joining i d && not (is_in docs d)

-- at this place stands the first such membership; or there is none
abbrev pub IsJoining : Forging → Draft → IdentityDoc → Option ℕ → Type 0
IsJoining f draft i None = find (comes_with (docs_of f draft) i) f.pool ≡ None
IsJoining f draft i (Some place) = IsFree draft place × (find (comes_with (docs_of f draft) i) f.pool ≡ slice_get f.pool place)

-- a certification is added, and stays where the rule that the draft with it breaks can be mended
abbrev pub Offers : Forging → List Doc → Doc → List Doc → Type 0
Offers f docs d new =
    (found : Option Rule) × IsTried f (docs ++ d ∷ []) found
    × MatchBool (is_mendable found) (new ≡ docs ++ d ∷ []) (new ≡ docs)

-- a document is added with what comes with it, and stays where the draft with them breaks no rule
abbrev pub Asks : Forging → List Doc → Doc → Option Rule → List Doc → Type 0
Asks f docs d found new =
    (more : List Doc) × Adds f docs d more × IsTried f more found
    × MatchOption found (new ≡ more) (λ rule. new ≡ docs)
