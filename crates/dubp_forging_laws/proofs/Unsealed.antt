-- What a block says of people whatever its nonce and its signature are.
use Rattle.std.proofs.Common.{◌≡◌, ◌≤◌, ◌&&◌, ℕ, Bool, true, false, cond, nat_lt, List, [], ◌∷◌, ◌++◌, filter, length, Option, Some, None, option_map, refl, ap, subst, ◌∙◌}
use Rattle.std.specs.List.{AllByRecursion}
use Rattle.std.specs.Option.{IsSomeAnd, option_map_or, option_or}
use Rattle.dubp_atoms.specs.Letters.{is_sig}
use Rattle.dubp_atoms.specs.Same.{Text, same_text}
use Rattle.dubp_atoms.specs.Spelling.{IsNumber}
use Rattle.dubp_atoms.specs.Walks.{IsReachedBy, others, received_of, sentries_of, stock_of}
use Rattle.dubp_block.specs.Text.{IsBlock}
use Rattle.dubp_block.specs.declared.block.Block.{Block}
use Rattle.dubp_block.specs.declared.block.CertLine.{CertLine}
use Rattle.dubp_block.specs.declared.block.IdentityLine.{IdentityLine}
use Rattle.dubp_verdict.specs.Verdicts.{HasVerdict, Verdicts}
use Rattle.dubp_chain.specs.Chains.{Chain, params}
use Rattle.dubp_chain.specs.Distance.{IsNear, Passes}
use Rattle.dubp_chain.specs.Heads.{time_of}
use Rattle.dubp_chain.specs.Live.{certification, certified_pairs, end_of, live, live_pairs}
use Rattle.dubp_chain.specs.Made.{certification_stamp}
use Rattle.dubp_chain.specs.Members.{members}
use Rattle.dubp_chain.specs.People.{Written, identity, written_in}
use Rattle.dubp_chain.specs.Words.{last_of}
use Rattle.dubp_validity.specs.PeopleRules.{CertificationsAreSigned, ComersPass, certification_document, IsCertifiedBy, IsRenewal, JoinersAreCertified, LiveIsRenewed, LivePairsAreRenewed, StocksAreKept}
use Rattle.dubp_forging_laws.specs.Laws.{sealed}

all_more : {X : Type 0} (P Q : X → Type 0) → ((x : X) → P x → Q x) → (xs : List X) → AllByRecursion P xs → AllByRecursion Q xs
all_more P Q more [] all = tt
all_more P Q more (x ∷ xs) all = (more x all.0, all_more P Q more xs all.1)

some_more : {X : Type 0} (P Q : X → Type 0) → ((x : X) → P x → Q x) → (o : Option X) → IsSomeAnd o P → IsSomeAnd o Q
some_more P Q more None p = p
some_more P Q more (Some x) p = more x p

same_filter : {X : Type 0} (p q : X → Bool) → ((x : X) → p x ≡ q x) → (xs : List X) → filter p xs ≡ filter q xs
same_filter p q same [] = refl
same_filter p q same (x ∷ xs) =
    ap (λ r. cond r (x ∷ filter p xs) (filter p xs)) (same x) ∙ ap (λ l. cond (q x) (x ∷ l) l) (same_filter p q same xs)

abbrev is_from_to : Text → Text → CertLine → Bool
is_from_to from to line = same_text from line.from && same_text to line.to

module _ (b : Block) (nonce : ℕ) (sig : Text) where
  abbrev block : Block
  block = sealed b nonce sig

  pub in_range : IsBlock b → IsNumber nonce → is_sig sig ≡ true → IsBlock block
  in_range is number signature = record {
    version = is.version;
    currency = is.currency;
    number = is.number;
    pow_min = is.pow_min;
    time = is.time;
    median_time = is.median_time;
    dividend = is.dividend;
    unit_base = is.unit_base;
    issuer = is.issuer;
    frame = is.frame;
    frame_var = is.frame_var;
    issuers = is.issuers;
    previous = is.previous;
    params = is.params;
    members = is.members;
    identities = is.identities;
    joiners = is.joiners;
    actives = is.actives;
    leavers = is.leavers;
    revoked = is.revoked;
    excluded = is.excluded;
    certifications = is.certifications;
    transactions = is.transactions;
    inner_hash = is.inner_hash;
    nonce = number;
    sig = signature;
  }

  -- a line that stands in the block, or an earlier one
  value_written : {Line R : Type 0} (f : Written Line → R) (other : R) (c : Chain) → ((line : Line) → f (written_in b c line) ≡ f (written_in block c line)) → (o : Option Line) (rest : Option (Written Line))
      → option_map_or f (option_or (option_map (written_in b c) o) rest) other ≡ option_map_or f (option_or (option_map (written_in block c) o) rest) other
  value_written f other c same None rest = refl
  value_written f other c same (Some line) rest = same line

  fact_written : {Line : Type 0} (P : Written Line → Type 0) (c : Chain) → ((line : Line) → P (written_in b c line) → P (written_in block c line)) → (o : Option Line) (rest : Option (Written Line))
      → IsSomeAnd (option_or (option_map (written_in b c) o) rest) P → IsSomeAnd (option_or (option_map (written_in block c) o) rest) P
  fact_written P c more None rest p = p
  fact_written P c more (Some line) rest p = more line p

  same_live : (c : Chain) (from to : Text) → live (b ∷ c) from to ≡ live (block ∷ c) from to
  same_live [] from to =
      value_written (λ (w : Written CertLine). nat_lt (time_of (b ∷ [])) (end_of (b ∷ []) w)) false [] (λ line. refl)
      (last_of (is_from_to from to) b.certifications) None
  same_live (a ∷ c) from to =
      value_written (λ (w : Written CertLine). nat_lt (time_of (b ∷ a ∷ c)) (end_of (b ∷ a ∷ c) w)) false (a ∷ c) (λ line. refl)
      (last_of (is_from_to from to) b.certifications) (certification (a ∷ c) from to)

  same_pairs : (c : Chain) → live_pairs (b ∷ c) ≡ live_pairs (block ∷ c)
  same_pairs c = same_filter (λ p. live (b ∷ c) p.0 p.1) (λ p. live (block ∷ c) p.0 p.1) (λ p. same_live c p.0 p.1) (certified_pairs (b ∷ c))

  pub stocks : (c : Chain) → StocksAreKept c b → StocksAreKept c block
  stocks [] h = subst (λ (pairs : List (Text × Text)). AllByRecursion (λ line. stock_of pairs line.from ≤ (params (b ∷ [])).sig_stock) b.certifications) (same_pairs []) h
  stocks (a ∷ c) h = subst (λ (pairs : List (Text × Text)). AllByRecursion (λ line. stock_of pairs line.from ≤ (params (b ∷ a ∷ c)).sig_stock) b.certifications) (same_pairs (a ∷ c)) h

  pub received_enough : (c : Chain) → JoinersAreCertified c b → JoinersAreCertified c block
  received_enough [] h = subst (λ (pairs : List (Text × Text)). AllByRecursion (λ line. (params (b ∷ [])).sig_qty ≤ received_of pairs line.key) b.joiners) (same_pairs []) h
  received_enough (a ∷ c) h = subst (λ (pairs : List (Text × Text)). AllByRecursion (λ line. (params (b ∷ a ∷ c)).sig_qty ≤ received_of pairs line.key) b.joiners) (same_pairs (a ∷ c)) h

  passes : (c : Chain) (k : Text) → Passes (b ∷ c) k → Passes (block ∷ c) k
  passes [] k p = record {
    reached = p.reached;
    counted = subst (λ (pairs : List (Text × Text)). IsReachedBy (members (b ∷ [])) pairs (params (b ∷ [])).step_max k p.reached) (same_pairs []) p.counted;
    near = subst (λ (pairs : List (Text × Text)). IsNear (b ∷ []) p.reached (length (others (sentries_of (members (b ∷ [])) pairs (params (b ∷ [])).step_max) k))) (same_pairs []) p.near;
  }
  passes (a ∷ c) k p = record {
    reached = p.reached;
    counted = subst (λ (pairs : List (Text × Text)). IsReachedBy (members (b ∷ a ∷ c)) pairs (params (b ∷ a ∷ c)).step_max k p.reached) (same_pairs (a ∷ c)) p.counted;
    near = subst (λ (pairs : List (Text × Text)). IsNear (b ∷ a ∷ c) p.reached (length (others (sentries_of (members (b ∷ a ∷ c)) pairs (params (b ∷ a ∷ c)).step_max) k))) (same_pairs (a ∷ c)) p.near;
  }

  pub comers : (c : Chain) → ComersPass c b → ComersPass c block
  comers c h = all_more (λ line. Passes (b ∷ c) line.key) (λ line. Passes (block ∷ c) line.key) (λ line p. passes c line.key p) (b.joiners ++ b.actives) h

  pub renewed : (c : Chain) → LivePairsAreRenewed c b → LivePairsAreRenewed c block
  renewed [] h =
      all_more (LiveIsRenewed [] b) (LiveIsRenewed [] block)
      (λ line r lives. some_more (IsRenewal [] b line) (IsRenewal [] block line) (λ last s. record { version = s.version; waited = s.waited; newer = s.newer }) (certification [] line.from line.to) (r lives)) b.certifications h
  renewed (a ∷ c) h =
      all_more (LiveIsRenewed (a ∷ c) b) (LiveIsRenewed (a ∷ c) block)
      (λ line r lives. some_more (IsRenewal (a ∷ c) b line) (IsRenewal (a ∷ c) block line) (λ last s. record { version = s.version; waited = s.waited; newer = s.newer }) (certification (a ∷ c) line.from line.to) (r lives)) b.certifications h

  pub certified : (v : Verdicts) (c : Chain) → CertificationsAreSigned v c b → CertificationsAreSigned v c block
  certified v c h =
      all_more (IsCertifiedBy v c b) (IsCertifiedBy v c block)
      (λ line p.
      fact_written (λ (of : Written IdentityLine). IsSomeAnd (certification_stamp c line) (λ stamp. HasVerdict v line.from (certification_document b.currency line of stamp) line.sig)) c (λ identity_line q. q)
      (last_of (λ (l : IdentityLine). same_text line.to l.key) b.identities) (identity c line.to) p) b.certifications h
