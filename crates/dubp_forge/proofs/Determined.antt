-- A draft becomes one block behind a chain.
use Rattle.std.proofs.Common.{◌≡◌, ◌∙◌, inl, inr, List, [], ◌∷◌, refl, ap, sym, subst}
use Rattle.dubp_atoms.specs.Hashing.{hash_of}
use Rattle.dubp_block.specs.Text.{inner_text}
use Rattle.dubp_block.specs.declared.block.Block.{Block}
use Rattle.dubp_chain.specs.Chains.{Chain}
use Rattle.dubp_forging.specs.Filled.{IsFilled, States, StatesMoney, head_with}

-- a block with the header of another: what it says but for issuer, time and lines
abbrev with_header : Block → Block → Block
with_header h b = record b {
  version = h.version;
  currency = h.currency;
  number = h.number;
  pow_min = h.pow_min;
  median_time = h.median_time;
  dividend = h.dividend;
  unit_base = h.unit_base;
  frame = h.frame;
  frame_var = h.frame_var;
  issuers = h.issuers;
  previous = h.previous;
  params = h.params;
  members = h.members;
  inner_hash = h.inner_hash;
  nonce = h.nonce;
  sig = h.sig;
}

inner_text_of : (b : Block) (h : List _) → inner_text (record b { inner_hash = h }) ≡ inner_text b
unfolding inner_text
inner_text_of b h = refl

-- the values that the header states depend on the lines alone
module _ (a : Block) (c : Chain) (h b : Block) where
  record SameMoney : Type 0 where
    dividend : h.dividend ≡ b.dividend
    unit_base : h.unit_base ≡ b.unit_base

  same_money : StatesMoney (a ∷ c) (with_header h b) → StatesMoney (a ∷ c) b → SameMoney
  same_money (inl (within, (d, u))) (inl (also, (e, v))) = record { dividend = d ∙ sym e; unit_base = u ∙ sym v }
  same_money (inl (within, (d, u))) (inr (passes, (e, v))) = absurd (passes within)
  same_money (inr (passes, (d, u))) (inl (within, (e, v))) = absurd (passes within)
  same_money (inr (passes, (d, u))) (inr (also, (e, v))) = record { dividend = d ∙ sym e; unit_base = u ∙ sym v }

  record SameHeader : Type 0 where
    pow_min : h.pow_min ≡ b.pow_min
    median_time : h.median_time ≡ b.median_time
    frame : h.frame ≡ b.frame
    frame_var : h.frame_var ≡ b.frame_var
    issuers : h.issuers ≡ b.issuers
    members : h.members ≡ b.members

  same_header : States (head_with (a ∷ c) (with_header h b)) (with_header h b) → States (head_with (a ∷ c) b) b → SameHeader
  same_header s t = record {
    pow_min = s.pow_min ∙ sym t.pow_min;
    median_time = s.median_time ∙ sym t.median_time;
    frame = s.frame ∙ sym t.frame;
    frame_var = s.frame_var ∙ sym t.frame_var;
    issuers = s.issuers ∙ sym t.issuers;
    members = s.members ∙ sym t.members;
  }

pub one_filled : (c : Chain) (d b e : Block) → IsFilled c d b → IsFilled c d e → b ≡ e
one_filled [] d b e f g = absurd f.behind
one_filled (a ∷ c) d b e f g =
    let k = f.keeps in
    let l = g.keeps in
    let excluded = f.excluded ∙ sym g.excluded in
    let lines : b ≡ with_header b e = λ i. record {
      version = b.version;
      currency = b.currency;
      number = b.number;
      pow_min = b.pow_min;
      time = (k.time ∙ sym l.time) i;
      median_time = b.median_time;
      dividend = b.dividend;
      unit_base = b.unit_base;
      issuer = (k.issuer ∙ sym l.issuer) i;
      frame = b.frame;
      frame_var = b.frame_var;
      issuers = b.issuers;
      previous = b.previous;
      params = b.params;
      members = b.members;
      identities = (k.identities ∙ sym l.identities) i;
      joiners = (k.joiners ∙ sym l.joiners) i;
      actives = (k.actives ∙ sym l.actives) i;
      leavers = (k.leavers ∙ sym l.leavers) i;
      revoked = (k.revoked ∙ sym l.revoked) i;
      excluded = excluded i;
      certifications = (k.certifications ∙ sym l.certifications) i;
      transactions = (k.transactions ∙ sym l.transactions) i;
      inner_hash = b.inner_hash;
      nonce = b.nonce;
      sig = b.sig;
    } in
    let money = same_money a c b e (subst (StatesMoney (a ∷ c)) lines f.money) g.money in
    let header = same_header a c b e (subst (λ x. States (head_with (a ∷ c) x) x) lines f.states) g.states in
    let rest : b ≡ record e { inner_hash = b.inner_hash } = lines ∙ (λ i. record {
      version = (f.behind.0 ∙ sym g.behind.0) i;
      currency = (f.currency ∙ sym g.currency) i;
      number = (f.number ∙ sym g.number) i;
      pow_min = header.pow_min i;
      time = e.time;
      median_time = header.median_time i;
      dividend = money.dividend i;
      unit_base = money.unit_base i;
      issuer = e.issuer;
      frame = header.frame i;
      frame_var = header.frame_var i;
      issuers = header.issuers i;
      previous = (f.behind.1 ∙ sym g.behind.1) i;
      params = (f.params ∙ sym g.params) i;
      members = header.members i;
      identities = e.identities;
      joiners = e.joiners;
      actives = e.actives;
      leavers = e.leavers;
      revoked = e.revoked;
      excluded = e.excluded;
      certifications = e.certifications;
      transactions = e.transactions;
      inner_hash = b.inner_hash;
      nonce = (f.nonce ∙ sym g.nonce) i;
      sig = (f.sig ∙ sym g.sig) i;
    }) in
    let hash : b.inner_hash ≡ e.inner_hash = f.inner_hash ∙ ap (λ x. hash_of (inner_text x)) rest ∙ ap hash_of (inner_text_of e b.inner_hash) ∙ sym g.inner_hash in
    rest ∙ (λ i. record e { inner_hash = hash i })
