-- The block that is forged of the documents that wait, and which of them are left out, by which rule. Protocol: forging.
use Rattle.std.specs.Prelude.{◌≡◌, ◌<◌, ℕ, Bool, true, false, not, ◌&&◌, List, [], ◌∷◌, ◌++◌, length, find, Option, Some, None, MatchBool, MatchOption}
use Rattle.dubp_atoms.specs.Same.{Text, same_text, same_stamp}
use Rattle.dubp_docs.specs.declared.doc.IdentityDoc.{IdentityDoc}
use Rattle.dubp_docs.specs.declared.doc.Doc.{Doc}
use Rattle.dubp_docs.specs.declared.doc.Doc.TheVariants.{Identity, Certification, Membership}
use Rattle.dubp_pool.specs.Pools.{doc_hash, is_pending}
use Rattle.dubp_block.specs.declared.block.Block.{Block}
use Rattle.dubp_rules.specs.declared.rule.Rule.{Rule}
use Rattle.dubp_rules.specs.declared.rule.Rule.TheVariants.{G76, G79}
use Rattle.dubp_verdict.specs.Verdicts.{Verdicts}
use Rattle.dubp_chain.specs.Chains.{Chain}
use Rattle.dubp_forging.specs.Drafts.{IsDraftOf, FirstBad}

-- what a block is forged from: the verdicts, the chain, who issues it and when, and the documents that wait
pub record Forging : Type 0 where
  pub verdicts : Verdicts
  pub chain : Chain
  pub issuer : Text
  pub time : ℕ
  pub pool : List Doc

-- Documents in the order in which they were added stand for the draft that they make. This is the first rule that it breaks, but for the
-- two that a block keeps once it is signed; or it breaks none.
pub record IsTried (f : Forging) (docs : List Doc) (found : Option Rule) : Type 0 where
  pub draft : Block
  pub is : IsDraftOf f.chain f.issuer f.time docs draft
  pub bad : FirstBad f.verdicts f.chain draft found

-- a document of this text is among them
abbrev pub is_in : List Doc → Doc → Bool
is_in docs d = is_pending docs (doc_hash d)

-- ---- a document more

-- a membership by which the key of this identity asks to be a member
abbrev pub is_joining : IdentityDoc → Doc → Bool
is_joining i (Membership d) = d.membership && (same_text i.issuer d.issuer && (same_text i.unique_id d.user_id && same_stamp i.timestamp d.cert_ts))
is_joining i d = false

abbrev pub with_found : List Doc → Option Doc → List Doc
with_found docs None = docs
with_found docs (Some d) = docs ++ d ∷ []

-- the first such membership that is not in the draft yet comes with the identity
abbrev pub with_membership : Forging → IdentityDoc → List Doc → List Doc
with_membership f i docs = with_found docs (find (λ d. is_joining i d && not (is_in docs d)) f.pool)

-- a certification of the identity of this key
abbrev pub is_certifying : Text → Doc → Bool
is_certifying key (Certification d) = same_text key d.idty_issuer
is_certifying key d = false

-- further certifications can mend these two
abbrev pub is_mendable : Option Rule → Bool
is_mendable None = true
is_mendable (Some G79) = true
is_mendable (Some G76) = true
is_mendable (Some rule) = false

-- such certifications are gone through in order: one that is not in the draft yet is added where the draft with it breaks no rule, or one that
-- further certifications can mend
abbrev pub Certifies : Forging → Text → List Doc → List Doc → List Doc → Type 0
Certifies f key [] docs new = new ≡ docs
Certifies f key (d ∷ rest) docs new =
    MatchBool (is_certifying key d && not (is_in docs d))
    ((found : Option Rule) × IsTried f (docs ++ d ∷ []) found
    × MatchBool (is_mendable found) (Certifies f key rest (docs ++ d ∷ []) new) (Certifies f key rest docs new))
    (Certifies f key rest docs new)

-- a document is added with its line; an identity with the membership and the certifications that bring it in
abbrev pub Adds : Forging → List Doc → Doc → List Doc → Type 0
Adds f docs (Identity i) new = Certifies f i.issuer f.pool (with_membership f i (docs ++ Identity i ∷ [])) new
Adds f docs d new = new ≡ docs ++ d ∷ []

-- ---- passes

-- through these documents of the pool, in order: one that is not in the draft yet is taken where the draft with it, and with what comes
-- with it, breaks no rule
abbrev pub Passes : Forging → List Doc → List Doc → List Doc → Type 0
Passes f [] docs new = new ≡ docs
Passes f (d ∷ rest) docs new =
    MatchBool (is_in docs d)
    (Passes f rest docs new)
    ((more : List Doc) × (found : Option Rule) × Adds f docs d more × IsTried f more found
    × MatchOption found (Passes f rest more new) (λ rule. Passes f rest docs new))

-- pass after pass, until one takes nothing; these are what the passes lead to
abbrev pub Settles : Forging → List (List Doc) → List Doc → List Doc → Type 0
Settles f [] docs new = Passes f f.pool docs docs × (new ≡ docs)
Settles f (next ∷ passes) docs new = Passes f f.pool docs next × (length docs < length next) × Settles f passes next new

-- ---- what is left out

-- each document of these that is not in the draft, by the SHA-256 of its text, with the rule that the draft with it breaks
abbrev pub LeavesOut : Forging → List Doc → List Doc → List (Text × Rule) → Type 0
LeavesOut f docs [] left = left ≡ []
LeavesOut f docs (d ∷ rest) left =
    MatchBool (is_in docs d)
    (LeavesOut f docs rest left)
    ((more : List Doc) × (rule : Rule) × (others : List (Text × Rule)) × Adds f docs d more × IsTried f more (Some rule)
    × (left ≡ (doc_hash d, rule) ∷ others) × LeavesOut f docs rest others)

-- the forged block, and what is left out: the draft without documents breaks no rule, and from there the passes lead to these documents
pub record IsForged (f : Forging) (b : Block) (left : List (Text × Rule)) : Type 0 where
  pub begins : IsTried f [] None
  pub passes : List (List Doc)
  pub docs : List Doc
  pub settles : Settles f passes [] docs
  pub draft : IsDraftOf f.chain f.issuer f.time docs b
  pub keeps : FirstBad f.verdicts f.chain b None
  pub leaves : LeavesOut f docs f.pool left
