-- A draft that got its place, its header and its inner hash is filled as the definition says.
use Rattle.std.proofs.Common.{◌≡◌, inl, inr, ℕ, ◌^◌, ◌<◌, ◌≤◌, Bool, true, List, [], ◌∷◌, length, Option, Some, refl, ap, sym, subst, ◌∙◌, arith}
use Rattle.std.specs.List.{AllByRecursion}
use Rattle.std.specs.Option.{IsSome, option_map_or}
use Rattle.dubp_atoms.specs.Reading.{text_if}
use Rattle.dubp_atoms.specs.Same.{Text}
use Rattle.dubp_atoms.specs.Hashing.{hash_of}
use Rattle.dubp_block.specs.Text.{inner_text, IsBlock, IsVersion, size_of}
use Rattle.dubp_block.specs.declared.block.Block.{Block}
use Rattle.dubp_chain.specs.declared.head.Head.{Head}
use Rattle.dubp_chain.specs.Chains.{Chain, currency, params}
use Rattle.dubp_chain.specs.Heads.{head_of, heads_of, next_head}
use Rattle.dubp_chain.specs.Members.{members}
use Rattle.dubp_chain.specs.Live.{kick}
use Rattle.dubp_params.specs.declared.params.Params.{Params}
use Rattle.dubp_head.specs.Following.{MayFollow}
use Rattle.dubp_head.specs.Laws.{head_with}
use Rattle.dubp_people_and_money.specs.OfFacts.{First}
use Rattle.dubp_people_and_money.specs.OfFacts.{first_at}
use Rattle.dubp_people_and_money.proofs.OfKept.{length_heads}
use Rattle.dubp_forging.specs.Filled.{IsBehind, IsFilled, States, StatesMoney}
use Rattle.dubp_ledger.specs.Filling.{IsStated, hashed, placed, stating}

-- a text that passes the test of a reader is read
pub is_read : (test : List ℕ → Bool) (read : Option (List ℕ)) (text : List ℕ) → read ≡ text_if test text → test text ≡ true → IsSome read
is_read test read text e h = rw (e, h) refl

inner_text_of : (b : Block) → inner_text (hashed b) ≡ inner_text b
unfolding inner_text
inner_text_of b = refl

-- the header is that of the head with the filled block, since no value in it depends on what the header states
module _ (a : Block) (c : Chain) (d : Block) (name : Text) (last : Head) (excluded : List Text) (h : Head) where
  abbrev bare : Block
  bare = placed name (length (a ∷ c)) last excluded d

  abbrev block : Block
  block = hashed (stating d.time h bare)

  states : IsStated (a ∷ c) bare h → States (head_with (a ∷ c) block) block
  states (inl (limits, is)) = record {
    pow_min = ap (λ g. g.pow_min) is;
    median_time = ap (λ g. g.median_time) is;
    frame = ap (λ g. g.frame) is;
    frame_var = ap (λ g. g.frame_var) is;
    issuers = ap (λ g. g.issuers) is;
    members = ap (λ g. g.members) is;
  }
  states (inr (limits, is)) = record {
    pow_min = ap (λ g. g.pow_min) is;
    median_time = ap (λ g. g.median_time) is;
    frame = ap (λ g. g.frame) is;
    frame_var = ap (λ g. g.frame_var) is;
    issuers = ap (λ g. g.issuers) is;
    members = ap (λ g. g.members) is;
  }

  money : IsStated (a ∷ c) bare h → StatesMoney (a ∷ c) block
  money (inl (limits, is)) = inl (limits, (ap (λ g. g.ud) is, ap (λ g. g.unit_base) is))
  money (inr (passes, is)) = inr (passes, (ap (λ g. g.ud) is, ap (λ g. g.unit_base) is))

pub is_filled : (c : Chain) (d : Block) (name : Text) (n : ℕ) (last : Head) (excluded : List Text) (h : Head) → 1 ≤ length c → n ≡ length c → Some last ≡ head_of c → name ≡ currency c → excluded ≡ kick c
    → IsStated c (placed name n last excluded d) h → IsFilled c d (hashed (stating d.time h (placed name n last excluded d)))
is_filled [] d name n last excluded h some long is named kicked stated = absurd (omega (arith, some))
is_filled (a ∷ c) d name n last excluded h some long is named kicked stated =
    let here : IsStated (a ∷ c) (bare a c d name last excluded h) h = subst (λ m. IsStated (a ∷ c) (placed name m last excluded d) h) long stated in
    subst (λ m. IsFilled (a ∷ c) d (hashed (stating d.time h (placed name m last excluded d)))) (sym long) (record {
      keeps = record { issuer = refl; time = refl; identities = refl; joiners = refl; actives = refl; leavers = refl; revoked = refl; certifications = refl; transactions = refl };
      behind = subst (λ o. IsBehind o (block a c d name last excluded h)) is (refl, refl);
      currency = named;
      number = refl;
      params = refl;
      excluded = kicked;
      states = states a c d name last excluded h here;
      money = money a c d name last excluded h here;
      inner_hash = ap hash_of (sym (inner_text_of (stating d.time h (bare a c d name last excluded h))));
      nonce = refl;
      sig = refl;
    })

-- what the draft in its place keeps before its head is asked for
pub may_follow : (c : Chain) (b : Block) (n : ℕ) → 1 ≤ length c → IsBlock b → size_of b < 2 ^ 53 → b.number ≡ length c → b.number < 2 ^ 40 → b.time ≡ 0 → b.median_time ≡ 0 → n < 2 ^ 21 → MayFollow n (heads_of c) b
may_follow [] b n some text size number short time median few = absurd (omega (arith, some))
may_follow (a ∷ c) b n some text size number short time median few = record {
  text = text;
  size = size;
  number = omega (arith, number, length_heads (a ∷ c));
  small = record { number = short; time = omega (arith, time); median_time = omega (arith, median) };
  low = tt;
  few = few;
}

-- the head at a block has its version
head_version : (p : Params) (n : ℕ) (hs : List Head) (b : Block) → (next_head p n hs b).version ≡ b.version
head_version p n [] b = refl
head_version p n (h ∷ hs) b = refl

-- the last block has a version, and a head
pub last_version : (c : Chain) (last : Head) → AllByRecursion IsBlock c → Some last ≡ head_of c → IsVersion last.version
last_version [] last blocks is = absurd cc
last_version (a ∷ c) last blocks is =
    let here : last.version ≡ a.version = ap (λ o. option_map_or (λ h. h.version) o 0) is ∙ head_version (params (a ∷ c)) (length (members (a ∷ c))) (heads_of c) a in
    subst IsVersion (sym here) blocks.0.version

pub some_head : (c : Chain) (o : Option Head) → 1 ≤ length c → o ≡ head_of c → IsSome o
some_head [] o some is = absurd (omega (arith, some))
some_head (a ∷ c) o some is = subst IsSome (sym is) refl

pub some_first : (c : Chain) (o : Option First) → 1 ≤ length c → o ≡ first_at c tt → IsSome o
some_first [] o some is = absurd (omega (arith, some))
some_first (a ∷ c) o some is = subst IsSome (sym is) refl

pub first_params : (c : Chain) (f : First) → Some f ≡ first_at c tt → f.params ≡ params c
first_params [] f is = absurd cc
first_params (a ∷ c) f is = let same : f.params ≡ params (a ∷ c) = cc in same

pub first_currency : (c : Chain) (f : First) → Some f ≡ first_at c tt → f.currency ≡ currency c
first_currency [] f is = absurd cc
first_currency (a ∷ c) f is = let same : f.currency ≡ currency (a ∷ c) = cc in same
