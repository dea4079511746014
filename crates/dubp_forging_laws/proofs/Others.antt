-- Blocks that differ in their transactions, and in what is made when a block is signed, keep the same rules but those that read these.
use Rattle.std.proofs.Common.{◌≡◌, ◌⊎◌, ℕ, ◌≤◌, Bool, true, false, ◌&&◌, List, [], ◌∷◌, ◌++◌, length, Option, Some, None, refl, sym, ap, subst}
use Rattle.std.specs.Prelude.{filter, option_map, nat_lt, IsTrue}
use Rattle.std.specs.Option.{option_or, option_map_or, IsSomeAnd}
use Rattle.std.specs.List.{AllByRecursion}
use Rattle.dubp_atoms.specs.Same.{Text, same_text}
use Rattle.dubp_atoms.specs.Walks.{others, sentries_of, IsReachedBy, received_of, stock_of}
use Rattle.dubp_cond.specs.declared.tx.Tx.{Tx}
use Rattle.dubp_block.specs.declared.block.Block.{Block}
use Rattle.dubp_block.specs.declared.block.CertLine.{CertLine}
use Rattle.dubp_block.specs.declared.block.IdentityLine.{IdentityLine}
use Rattle.dubp_rules.specs.declared.rule.Rule.{Rule}
use Rattle.dubp_rules.specs.declared.rule.Rule.TheVariants.{X07, L01, L05, L18, L19, L20, L21, L22, L23, L24, G50, G62, G66, G71, G72, G79, G76, X05, G103, G87, G88, G89, G90}
use Rattle.dubp_verdict.specs.Verdicts.{Verdicts, HasVerdict}
use Rattle.dubp_chain.specs.Chains.{Chain, params}
use Rattle.dubp_chain.specs.Heads.{time_of}
use Rattle.dubp_chain.specs.Members.{members}
use Rattle.dubp_chain.specs.Made.{certification_stamp}
use Rattle.dubp_chain.specs.People.{Written, identity, written_in, last_line}
use Rattle.dubp_chain.specs.Words.{last_of}
use Rattle.dubp_chain.specs.Live.{live, live_at, live_pairs, certified_pairs, certification, end_of}
use Rattle.dubp_chain.specs.Distance.{IsNear, Passes}
use Rattle.dubp_validity.specs.PeopleRules.{IsCertifiedBy, certification_document, IsRenewal, LiveIsRenewed}
use Rattle.dubp_validity.specs.Rules.{Holds}

-- rules that read transactions, the inner hash, the nonce or the signature
abbrev pub reads_rest : Rule → Bool
reads_rest L01 = true
reads_rest L05 = true
reads_rest L18 = true
reads_rest L19 = true
reads_rest L20 = true
reads_rest L21 = true
reads_rest L22 = true
reads_rest L23 = true
reads_rest L24 = true
reads_rest G50 = true
reads_rest G62 = true
reads_rest X05 = true
reads_rest G103 = true
reads_rest G87 = true
reads_rest G88 = true
reads_rest G89 = true
reads_rest G90 = true
reads_rest rule = false

all_so : {X : Type 0} (P Q : X → Type 0) → ((x : X) → P x → Q x) → (xs : List X) → AllByRecursion P xs → AllByRecursion Q xs
all_so P Q so [] all = tt
all_so P Q so (x ∷ xs) all = (so x all.0, all_so P Q so xs all.1)

some_so : {X : Type 0} (P Q : X → Type 0) → ((x : X) → P x → Q x) → (o : Option X) → IsSomeAnd o P → IsSomeAnd o Q
some_so P Q so None some = some
some_so P Q so (Some x) some = so x some

module _ (v : Verdicts) (a : Block) (c : Chain) (b : Block) (txs : List Tx) (inner_hash : Text) (nonce : ℕ) (sig : Text) where
  abbrev pub other : Block
  other = record b { transactions = txs; inner_hash = inner_hash; nonce = nonce; sig = sig }

  abbrev old : Chain
  old = b ∷ a ∷ c

  abbrev new : Chain
  new = other ∷ a ∷ c

  -- which certifications are live
  live_same : (t : ℕ) (x y : Text) → live_at t old x y ≡ live_at t new x y
  live_same t x y = by_last (last_of test b.certifications)
    where
      test : CertLine → Bool
      test = λ line. same_text x line.from && same_text y line.to

      by_last : (o : Option CertLine)
          → option_map_or (λ w. nat_lt t (end_of old w)) (option_or (option_map (written_in b (a ∷ c)) o) (certification (a ∷ c) x y)) false
          ≡ option_map_or (λ w. nat_lt t (end_of new w)) (option_or (option_map (written_in other (a ∷ c)) o) (certification (a ∷ c) x y)) false
      by_last None = refl
      by_last (Some line) = refl

  pairs_same : live_pairs old ≡ live_pairs new
  pairs_same = λ i. filter (λ p. live_same (time_of old) p.0 p.1 i) (certified_pairs old)

  passes_same : (k : Text) → Passes old k → Passes new k
  passes_same k h = record {
    reached = h.reached;
    counted = subst (λ pairs. IsReachedBy (members old) pairs (params old).step_max k h.reached) pairs_same h.counted;
    near = subst (λ pairs. IsNear old h.reached (length (others (sentries_of (members old) pairs (params old).step_max) k))) pairs_same h.near;
  }

  renewed_same : (line : CertLine) → LiveIsRenewed (a ∷ c) b line → LiveIsRenewed (a ∷ c) other line
  renewed_same line h = λ is.
      some_so (IsRenewal (a ∷ c) b line) (IsRenewal (a ∷ c) other line) (λ last r. record { version = r.version; waited = r.waited; newer = r.newer })
      (certification (a ∷ c) line.from line.to) (h is)

  -- what is said of the identity of a receiver
  abbrev Said : CertLine → Block → Option IdentityLine → Type 0
  Said line d o = IsSomeAnd (option_or (option_map (written_in d (a ∷ c)) o) (identity (a ∷ c) line.to)) (λ of. IsSomeAnd (certification_stamp (a ∷ c) line) (λ stamp. HasVerdict v line.from (certification_document b.currency line of stamp) line.sig))

  said_same : (line : CertLine) (o : Option IdentityLine) → Said line b o → Said line other o
  said_same line None h = h
  said_same line (Some of) h = h

  certified_same : (line : CertLine) → IsCertifiedBy v (a ∷ c) b line → IsCertifiedBy v (a ∷ c) other line
  certified_same line h = said_same line (last_of (λ of. same_text line.to of.key) b.identities) h

  pub holds_same : (r : Rule) → reads_rest r ≡ false → Holds v (a ∷ c) b r → Holds v (a ∷ c) other r
  holds_same L01 e h = absurd cc
  holds_same L05 e h = absurd cc
  holds_same L18 e h = absurd cc
  holds_same L19 e h = absurd cc
  holds_same L20 e h = absurd cc
  holds_same L21 e h = absurd cc
  holds_same L22 e h = absurd cc
  holds_same L23 e h = absurd cc
  holds_same L24 e h = absurd cc
  holds_same G50 e h = absurd cc
  holds_same G62 e h = absurd cc
  holds_same X05 e h = absurd cc
  holds_same G103 e h = absurd cc
  holds_same G87 e h = absurd cc
  holds_same G88 e h = absurd cc
  holds_same G89 e h = absurd cc
  holds_same G90 e h = absurd cc
  holds_same X07 e h = record { number = h.number; time = h.time; median_time = h.median_time }
  holds_same G66 e h =
      all_so (λ (line : CertLine). stock_of (live_pairs old) line.from ≤ (params old).sig_stock) (λ (line : CertLine). stock_of (live_pairs new) line.from ≤ (params old).sig_stock)
      (λ line le. subst (λ pairs. stock_of pairs line.from ≤ (params old).sig_stock) pairs_same le) b.certifications h
  holds_same G71 e h = all_so (LiveIsRenewed (a ∷ c) b) (LiveIsRenewed (a ∷ c) other) renewed_same b.certifications h
  holds_same G72 e h = all_so (IsCertifiedBy v (a ∷ c) b) (IsCertifiedBy v (a ∷ c) other) certified_same b.certifications h
  holds_same G79 e h =
      all_so (λ line. (params old).sig_qty ≤ received_of (live_pairs old) line.key) (λ line. (params old).sig_qty ≤ received_of (live_pairs new) line.key)
      (λ line le. subst (λ pairs. (params old).sig_qty ≤ received_of pairs line.key) pairs_same le) b.joiners h
  holds_same G76 e h = all_so (λ line. Passes old line.key) (λ line. Passes new line.key) (λ line p. passes_same line.key p) (b.joiners ++ b.actives) h
  holds_same r e h = h
