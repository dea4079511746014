-- A draft becomes one block behind a chain.
use Rattle.std.proofs.Common.{◌≡◌, ◌∙◌, inl, inr, [], ◌∷◌, length, refl, ap, sym, subst}
use Rattle.dubp_atoms.specs.Same.{Text}
use Rattle.dubp_atoms.specs.Hashing.{hash_of}
use Rattle.dubp_block.specs.Text.{inner_text}
use Rattle.dubp_block.specs.declared.block.Block.{Block}
use Rattle.dubp_chain.specs.Chains.{Chain}
use Rattle.dubp_chain.specs.Members.{members}
use Rattle.dubp_forging.specs.Filled.{IsFilled, IsWithinLimits, StatesMoney, head_with}
use Rattle.dubp_forging_laws.specs.Laws.{DraftsAreOne}

-- what stands above its line is all that the inner hash is of
inner_text_of : (b : Block) (hash : Text) → inner_text (record b { inner_hash = hash }) ≡ inner_text b
unfolding inner_text
inner_text_of b hash = refl

module _ (a : Block) (c : Chain) (d b b' : Block) (p : IsFilled (a ∷ c) d b) (q : IsFilled (a ∷ c) d b') where
  abbrev chain : Chain
  chain = a ∷ c

  joiners : b.joiners ≡ b'.joiners
  joiners = p.keeps.joiners ∙ sym q.keeps.joiners

  excluded : b.excluded ≡ b'.excluded
  excluded = p.excluded ∙ sym q.excluded

  -- members and limits read these lines alone
  lined : b ≡ record b { joiners = b'.joiners; excluded = b'.excluded }
  lined = λ i. record b { joiners = joiners i; excluded = excluded i }

  counted : length (members (b ∷ chain)) ≡ length (members (b' ∷ chain))
  counted = ap (λ (x : Block). length (members (x ∷ chain))) lined

  paid : (head_with chain b).ud ≡ (head_with chain b').ud
  paid = ap (λ (x : Block). (head_with chain x).ud) lined

  based : (head_with chain b).unit_base ≡ (head_with chain b').unit_base
  based = ap (λ (x : Block). (head_with chain x).unit_base) lined

  within : IsWithinLimits chain b → IsWithinLimits chain b'
  within = subst (λ (x : Block). IsWithinLimits chain x) lined

  within_back : IsWithinLimits chain b' → IsWithinLimits chain b
  within_back = subst (λ (x : Block). IsWithinLimits chain x) (sym lined)

  money : StatesMoney chain b → StatesMoney chain b' → (b.dividend ≡ b'.dividend) × (b.unit_base ≡ b'.unit_base)
  money (inl x) (inl y) = (x.1.0 ∙ paid ∙ sym y.1.0, x.1.1 ∙ based ∙ sym y.1.1)
  money (inl x) (inr y) = absurd (y.0 (within x.0))
  money (inr x) (inl y) = absurd (x.0 (within_back y.0))
  money (inr x) (inr y) = (x.1.0 ∙ sym y.1.0, x.1.1 ∙ sym y.1.1)

  -- all but the inner hash
  one_above : b ≡ record b' { inner_hash = b.inner_hash }
  one_above =
      let version : b.version ≡ b'.version = p.behind.0 ∙ sym q.behind.0 in
      let currency : b.currency ≡ b'.currency = p.currency ∙ sym q.currency in
      let number : b.number ≡ b'.number = p.number ∙ sym q.number in
      let pow_min : b.pow_min ≡ b'.pow_min = p.states.pow_min ∙ sym q.states.pow_min in
      let time : b.time ≡ b'.time = p.keeps.time ∙ sym q.keeps.time in
      let median_time : b.median_time ≡ b'.median_time = p.states.median_time ∙ sym q.states.median_time in
      let paid_is = money p.money q.money in
      let dividend : b.dividend ≡ b'.dividend = paid_is.0 in
      let unit_base : b.unit_base ≡ b'.unit_base = paid_is.1 in
      let issuer : b.issuer ≡ b'.issuer = p.keeps.issuer ∙ sym q.keeps.issuer in
      let frame : b.frame ≡ b'.frame = p.states.frame ∙ sym q.states.frame in
      let frame_var : b.frame_var ≡ b'.frame_var = p.states.frame_var ∙ sym q.states.frame_var in
      let issuers : b.issuers ≡ b'.issuers = p.states.issuers ∙ sym q.states.issuers in
      let previous : b.previous ≡ b'.previous = p.behind.1 ∙ sym q.behind.1 in
      let params : b.params ≡ b'.params = p.params ∙ sym q.params in
      let members : b.members ≡ b'.members = p.states.members ∙ counted ∙ sym q.states.members in
      let identities : b.identities ≡ b'.identities = p.keeps.identities ∙ sym q.keeps.identities in
      let actives : b.actives ≡ b'.actives = p.keeps.actives ∙ sym q.keeps.actives in
      let leavers : b.leavers ≡ b'.leavers = p.keeps.leavers ∙ sym q.keeps.leavers in
      let revoked : b.revoked ≡ b'.revoked = p.keeps.revoked ∙ sym q.keeps.revoked in
      let certifications : b.certifications ≡ b'.certifications = p.keeps.certifications ∙ sym q.keeps.certifications in
      let transactions : b.transactions ≡ b'.transactions = p.keeps.transactions ∙ sym q.keeps.transactions in
      let nonce : b.nonce ≡ b'.nonce = p.nonce ∙ sym q.nonce in
      let sig : b.sig ≡ b'.sig = p.sig ∙ sym q.sig in
      λ i. record {
        version = version i;
        currency = currency i;
        number = number i;
        pow_min = pow_min i;
        time = time i;
        median_time = median_time i;
        dividend = dividend i;
        unit_base = unit_base i;
        issuer = issuer i;
        frame = frame i;
        frame_var = frame_var i;
        issuers = issuers i;
        previous = previous i;
        params = params i;
        members = members i;
        identities = identities i;
        joiners = joiners i;
        actives = actives i;
        leavers = leavers i;
        revoked = revoked i;
        excluded = excluded i;
        certifications = certifications i;
        transactions = transactions i;
        inner_hash = b.inner_hash;
        nonce = nonce i;
        sig = sig i;
      }

  hashed : b.inner_hash ≡ b'.inner_hash
  hashed = p.inner_hash ∙ ap hash_of (ap inner_text one_above ∙ inner_text_of b' b.inner_hash) ∙ sym q.inner_hash

  one_block : b ≡ b'
  one_block = one_above ∙ ap (λ (h : Text). record b' { inner_hash = h }) hashed

pub one_draft : DraftsAreOne
one_draft [] d b b' p q = absurd p.behind
one_draft (a ∷ c) d b b' p q = one_block a c d b b' p q
