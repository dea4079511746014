-- Which identity a key has, and that a line of Identities with a key, a UID and a stamp is found by its key.
use Rattle.std.proofs.Common.{◌≡◌, Bool, true, false, ◌||◌, ◌&&◌, List, [], ◌∷◌, Option, None, Some, refl, sym, ap, subst, ◌∙◌, true≢false, inl, inr, arith}
use Rattle.std.specs.Prelude.{option_map, is_some, find, ℕ, ◌==◌, cond}
use Rattle.std.proofs.lemmas.Bool.Decides.{Decides-eqb}
use Rattle.std.specs.Option.{option_map_or}
use Rattle.std.specs.List.{list_any}
use Rattle.std.proofs.lemmas.List.Folds.{list_any-append}
use Rattle.dubp_atoms.specs.Same.{Text, same_text, same_stamp}
use Rattle.dubp_atoms.specs.declared.stamp.Stamp.{Stamp}
use Rattle.dubp_rules.specs.declared.rule.Rule.TheVariants.{L09}
use Rattle.dubp_block.specs.declared.block.Block.{Block}
use Rattle.dubp_block.specs.declared.block.IdentityLine.{IdentityLine}
use Rattle.dubp_block.specs.declared.block.MemberLine.{MemberLine}
use Rattle.dubp_block.specs.declared.block.CertLine.{CertLine}
use Rattle.dubp_chain.specs.Chains.{Chain}
use Rattle.dubp_chain.specs.People.{Written, identity, identity_lines}
use Rattle.dubp_chain.specs.declared.head.Head.{Head}
use Rattle.dubp_chain.specs.HeadStamp.{head_stamp}
use Rattle.dubp_chain.specs.Heads.{heads_of}
use Rattle.dubp_chain.specs.Made.{head_numbered, certification_stamp}
use Rattle.dubp_registry.specs.OfFacts.{First}
use Rattle.dubp_registry.specs.OfFacts.{BlockTime}
use Rattle.dubp_registry.specs.OfFacts.{first_at, time_at, block_time}
use Rattle.dubp_registry.specs.OfValidity.{IsSound}
use Rattle.dubp_registry.specs.OfValidity.{is_identity_of}
use Rattle.dubp_registry.proofs.OfLists.{and_left, and_right, IsIn, any_in, in_any, last_in, is_false}
use Rattle.dubp_registry.proofs.OfLists.{same_text_is, same_text_own}
use Rattle.dubp_registry.proofs.OfLists.{last_any, last_line-any}
use Rattle.dubp_registry.proofs.OfLists.{Once, once_head, once_tail, each_once-map}
use Rattle.dubp_registry.specs.OfLeft.{IsAsked}
use Rattle.dubp_registry.specs.OfLeft.{Next}
use Rattle.dubp_registry.proofs.OfLeft.{last_line-in, identity_lines-once}
use Rattle.dubp_people_after.specs.Keys.{identity_in}
use Rattle.dubp_people_after.specs.Names.{name_of, name_of_line, is_repeated, stamp_at}
use Rattle.dubp_people_after.specs.declared.after.Name.{Name}

abbrev stamp_with : ℕ → Text → Stamp
stamp_with n hash = record { number = n; hash = hash }

abbrev OnceByKey : List IdentityLine → Type 0
OnceByKey lines = Once same_text same_text_is same_text_own (λ (line : IdentityLine). line.key) lines

same_truth : (a b : Bool) → (a ≡ true → b ≡ true) → (b ≡ true → a ≡ true) → a ≡ b
same_truth true b f g = sym (f refl)
same_truth false true f g = g refl
same_truth false false f g = refl

-- two lines of one key are one
one_line : (lines : List IdentityLine) (k : Text) (x y : IdentityLine) → OnceByKey lines → IsIn x lines → IsIn y lines → same_text k x.key ≡ true → same_text k y.key ≡ true → x ≡ y
one_line [] k x y o there there' same same' = absurd there
one_line (z ∷ zs) k x y o (inl e) (inl e') same same' = e ∙ sym e'
one_line (z ∷ zs) k x y o (inl e) (inr there') same same' =
    let is : k ≡ z.key = same_text_is k x.key same ∙ ap (λ (v : IdentityLine). v.key) e in
    absurd (true≢false (sym (in_any (λ (line : IdentityLine). same_text z.key line.key) zs y there' (subst (λ t. same_text t y.key ≡ true) is same')) ∙ once_head same_text same_text_is same_text_own (λ (line : IdentityLine). line.key) z zs o))
one_line (z ∷ zs) k x y o (inr there) (inl e') same same' =
    let is : k ≡ z.key = same_text_is k y.key same' ∙ ap (λ (v : IdentityLine). v.key) e' in
    absurd (true≢false (sym (in_any (λ (line : IdentityLine). same_text z.key line.key) zs x there (subst (λ t. same_text t x.key ≡ true) is same)) ∙ once_head same_text same_text_is same_text_own (λ (line : IdentityLine). line.key) z zs o))
one_line (z ∷ zs) k x y o (inr there) (inr there') same same' =
    one_line zs k x y (once_tail same_text same_text_is same_text_own (λ (line : IdentityLine). line.key) z zs o) there there' same same'

-- where the line of a key is found, a line with the key that passes is there exactly where it passes
found_told : (lines : List IdentityLine) (k : Text) (p : IdentityLine → Bool) → OnceByKey lines → (o : Option IdentityLine)
    → is_some o ≡ list_any (λ (l : IdentityLine). same_text k l.key) lines
    → ((x : IdentityLine) → o ≡ Some x → IsIn x lines × (same_text k x.key ≡ true))
    → option_map_or p o false ≡ list_any (λ (l : IdentityLine). same_text k l.key && p l) lines
found_told lines k p once None some there =
    sym (is_false (list_any (λ (l : IdentityLine). same_text k l.key && p l) lines) (λ found.
    let h = any_in (λ (l : IdentityLine). same_text k l.key && p l) lines found in
    true≢false (sym (in_any (λ (l : IdentityLine). same_text k l.key) lines h.0 h.1 (and_left (same_text k h.0.key) (p h.0) h.2)) ∙ sym some)))
found_told lines k p once (Some x) some there =
    let here = there x refl in
    same_truth (p x) (list_any (λ (l : IdentityLine). same_text k l.key && p l) lines)
    (λ passes. in_any (λ (l : IdentityLine). same_text k l.key && p l) lines x here.0 (both (same_text k x.key) (p x) here.1 passes))
    (λ found.
    let h = any_in (λ (l : IdentityLine). same_text k l.key && p l) lines found in
    let one = one_line lines k h.0 x once h.1 here.0 (and_left (same_text k h.0.key) (p h.0) h.2) here.1 in
    subst (λ (y : IdentityLine). p y ≡ true) one (and_right (same_text k h.0.key) (p h.0) h.2))
  where
    both : (a b : Bool) → a ≡ true → b ≡ true → (a && b) ≡ true
    both a b e f = cc

abbrev repeats_line : MemberLine → IdentityLine → Bool
repeats_line line l = same_text line.uid l.uid && same_stamp line.identity_stamp l.stamp

map_told : (line : MemberLine) (o : Option IdentityLine) → is_repeated line (option_map name_of_line o) ≡ option_map_or (repeats_line line) o false
map_told line None = refl
map_told line (Some x) = refl

made_told : (b : Block) → OnceByKey b.identities → (line : MemberLine)
    → is_repeated line (option_map name_of_line (identity_in b line.key)) ≡ list_any (is_identity_of line) b.identities
made_told b once line =
    map_told line (identity_in b line.key)
    ∙ found_told b.identities line.key (repeats_line line) once (identity_in b line.key)
    (last_any (λ (l : IdentityLine). same_text line.key l.key) b.identities)
    (λ x e. last_in (λ (l : IdentityLine). same_text line.key l.key) b.identities x e)

abbrev line_of : Written IdentityLine → IdentityLine
line_of w = w.line

written_told : (line : MemberLine) (o : Option (Written IdentityLine)) → is_repeated line (option_map name_of o) ≡ option_map_or (repeats_line line) (option_map line_of o) false
written_told line None = refl
written_told line (Some w) = refl

some_line : (o : Option (Written IdentityLine)) → is_some (option_map line_of o) ≡ is_some o
some_line None = refl
some_line (Some w) = refl

before_told : (c : Chain) → IsSound c → (line : MemberLine)
    → is_repeated line (option_map name_of (identity c line.key)) ≡ list_any (is_identity_of line) (identity_lines c)
before_told c sound line =
    written_told line (identity c line.key)
    ∙ found_told (identity_lines c) line.key (repeats_line line) (identity_lines-once c sound) (option_map line_of (identity c line.key))
    (some_line (identity c line.key) ∙ last_line-any (λ (b : Block). b.identities) (λ (l : IdentityLine). same_text line.key l.key) c)
    (there (identity c line.key) refl)
  where
    there : (o : Option (Written IdentityLine)) → identity c line.key ≡ o → (x : IdentityLine) → option_map line_of o ≡ Some x
        → IsIn x (identity_lines c) × (same_text line.key x.key ≡ true)
    there None e x f = cc
    there (Some w) e x f =
        let same : w.line ≡ x = cc in
        subst (λ (y : IdentityLine). IsIn y (identity_lines c) × (same_text line.key y.key ≡ true)) same
        (last_line-in (λ (b : Block). b.identities) (λ (l : IdentityLine). same_text line.key l.key) c w e)

pub identity_told : (c : Chain) (b : Block) (next : Next) → IsAsked c b next → (line : MemberLine) (made before : Option Name)
    → made ≡ option_map name_of_line (identity_in b line.key) → before ≡ option_map name_of (identity c line.key)
    → (is_repeated line made || is_repeated line before) ≡ list_any (is_identity_of line) (identity_lines (b ∷ c))
identity_told c b next asked line made before e f =
    let once : OnceByKey b.identities = sym (each_once-map same_text (λ (line : IdentityLine). line.key) b.identities) ∙ asked.before L09 refl (omega arith) in
    (λ i. is_repeated line (e i) || is_repeated line (f i))
    ∙ (λ i. made_told b once line i || before_told c asked.sound line i)
    ∙ sym (list_any-append (is_identity_of line) b.identities (identity_lines c))

-- ---- stamps

found_number : (n : ℕ) (hs : List Head) (h : Head) → find (λ (g : Head). g.number == n) hs ≡ Some h → h.number ≡ n
found_number n [] h e = cc
found_number n (g ∷ gs) h e =
    elim (g.number == n) as (λ r. (g.number == n) ≡ r → cond r (Some g) (find (λ (g : Head). g.number == n) gs) ≡ Some h → h.number ≡ n) [
      | true ↦ λ is f. let same : g ≡ h = cc in subst (λ (x : Head). x.number ≡ n) same ((Decides-eqb g.number n).0 is)
      | false ↦ λ is f. found_number n gs h f
    ] refl e

pub stamp_told : (c : Chain) (line : CertLine) (first : First) (at : Option BlockTime) (stamp : Option Stamp) → Some first ≡ first_at c tt → at ≡ time_at c line.number
    → stamp ≡ option_map (stamp_at line.number) at → stamp ≡ certification_stamp c line
stamp_told [] line first at stamp some e f = cc
stamp_told (b ∷ c) line first at stamp some e f = f ∙ ap (option_map (stamp_at line.number)) e ∙ by (head_numbered (b ∷ c) line.number) refl
  where
    by : (o : Option Head) → head_numbered (b ∷ c) line.number ≡ o → option_map (stamp_at line.number) (option_map block_time o) ≡ option_map head_stamp o
    by None is = refl
    by (Some h) is = ap (λ (n : ℕ). Some (stamp_with n h.hash)) (sym (found_number line.number (heads_of (b ∷ c)) h is))
