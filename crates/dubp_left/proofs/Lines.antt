-- On a sound chain each key has one line of Identities, so that an identity is found by its uid where a line has it, and the rows are as
-- many as the lines.
use Rattle.std.proofs.Common.{◌≡◌, ℕ, suc, ◌+◌, Bool, true, false, cond, not, ◌||◌, ◌&&◌, List, [], ◌∷◌, ◌++◌, length, Option, None, Some, refl, sym, ap, subst, ◌∙◌, inl, inr, ◌⊎◌, true≢false, arith}
use Rattle.std.specs.Prelude.{T, map, find, option_map, is_some, IsTrue}
use Rattle.std.specs.Option.{option_or, option_map_or}
use Rattle.std.specs.List.{AllByRecursion, list_any, flat_map}
use Rattle.std.specs.Ordering.{is_lt, is_eq, eq_by_cmp, ordering_reverse}
use Rattle.std.specs.declared.cmp.Ordering.{Ordering}
use Rattle.std.specs.declared.cmp.Ordering.TheVariants.{Less, Equal, Greater}
use Rattle.std.specs.Cmp.{IsTotalOrder}
use Rattle.std.specs.Cmp.Lexicographic.{texts_ties}
use Rattle.std.specs.FinMap as map_of
use Rattle.std.specs.FinMap.{FinMap, get, entries, len, from_entries, entries_sorted, is_sorted, get-entries, get-from_entries, len-insert, len-empty}
use Rattle.std.specs.FinMap.Entries.{below_all}
use Rattle.std.proofs.lemmas.Cmp.{nat_list_cmp_total, tied_itself}
use Rattle.dubp_atoms.specs.Same.{Text, same_text}
use Rattle.dubp_rules.specs.declared.rule.Rule.TheVariants.{L09, G74}
use Rattle.dubp_block.specs.declared.block.Block.{Block}
use Rattle.dubp_block.specs.declared.block.IdentityLine.{IdentityLine}
use Rattle.dubp_chain.specs.Words.{last_of, names}
use Rattle.dubp_chain.specs.Chains.{Chain}
use Rattle.dubp_chain.specs.People.{Written, written_in, last_line, identity, identity_lines}
use Rattle.dubp_chain.specs.Members.{member}
use Rattle.dubp_chain.specs.Tables.{IdentityRow as ChainRow}
use Rattle.dubp_facts.specs.OfValidity.{IsSound}
use Rattle.dubp_steps.proofs.OfLists.{IsIn, in_all, any_in, in_any, in_left, in_right, last_in, is_false, list_any-map}
use Rattle.dubp_steps.proofs.OfLists.{same_text_is, same_text_own}
use Rattle.dubp_steps.proofs.OfLists.{last_line-any}
use Rattle.dubp_steps.proofs.OfLists.{Once, once_head, once_tail, once-append, each_once-map}
use Rattle.dubp_iindex.specs.Rows.{texts, has_uid, key_with}
use Rattle.dubp_iindex.specs.declared.row.IdentityRow.{IdentityRow}
use Rattle.dubp_left.specs.Gathered.{entry_of, gathered, table_of}
use Rattle.dubp_left.specs.Left.{identity_entry, identity_left, identities_left}
use Rattle.dubp_left.proofs.Gathered.{found}
use Rattle.dubp_left.proofs.Left.{identities-at, texts-apart, named}

same_truth : (a b : Bool) → (a ≡ true → b ≡ true) → (b ≡ true → a ≡ true) → a ≡ b
same_truth true b f g = sym (f refl)
same_truth false true f g = g refl
same_truth false false f g = refl

-- ---- the last line that passes stands among the lines, and passes

pub last_line-in : {Line : Type 0} (lines : Block → List Line) (test : Line → Bool) (c : Chain) (w : Written Line) → last_line lines test c ≡ Some w → IsIn w.line (flat_map lines c) × (test w.line ≡ true)
last_line-in lines test [] w e = cc
last_line-in {Line = Line} lines test (b ∷ c) w e =
    elim (last_of test (lines b)) as (λ o. last_of test (lines b) ≡ o → option_or (option_map (written_in b c) o) (last_line lines test c) ≡ Some w → IsIn w.line (flat_map lines (b ∷ c)) × (test w.line ≡ true)) [
      | Some x ↦ λ found is.
          let there = last_in test (lines b) x found in
          let same : x ≡ w.line = cc in
          subst (λ z. IsIn z (lines b ++ flat_map lines c) × (test z ≡ true)) same (in_left x (lines b) (flat_map lines c) there.0, there.1)
      | None ↦ λ found is.
          let there = last_line-in lines test c w is in
          (in_right w.line (lines b) (flat_map lines c) there.0, there.1)
    ] refl e

-- ---- each key once

abbrev OnceByKey : List IdentityLine → Type 0
OnceByKey lines = Once same_text same_text_is same_text_own (λ (line : IdentityLine). line.key) lines

pub identity_lines-once : (c : Chain) → IsSound c → OnceByKey (identity_lines c)
identity_lines-once [] s = refl
identity_lines-once (b ∷ c) s =
    once-append same_text same_text_is same_text_own (λ (line : IdentityLine). line.key) b.identities (identity_lines c)
    (sym (each_once-map same_text (λ (line : IdentityLine). line.key) b.identities) ∙ s.0 L09 refl)
    (identity_lines-once c s.1)
    (λ x y there there'. is_false (same_text x.key y.key) (λ same.
    true≢false (sym (list_any-map (same_text x.key) (λ (line : IdentityLine). line.key) (identity_lines c) ∙ in_any (λ (line : IdentityLine). same_text x.key line.key) (identity_lines c) y there' same)
    ∙ new (names (map (λ line. line.key) (identity_lines c)) x.key) (in_all (λ line. IsTrue (not (names (map (λ old. old.key) (identity_lines c)) line.key))) b.identities (s.0 G74 refl) x there))))
  where
    new : (a : Bool) → IsTrue (not a) → a ≡ false
    new true e = sym e
    new false e = refl

-- two lines of one key are one
one_line : (lines : List IdentityLine) (x y : IdentityLine) → OnceByKey lines → IsIn x lines → IsIn y lines → same_text x.key y.key ≡ true → x ≡ y
one_line [] x y o there there' same = absurd there
one_line (z ∷ zs) x y o (inl e) (inl e') same = e ∙ sym e'
one_line (z ∷ zs) x y o (inl e) (inr there') same =
    absurd (true≢false (sym (in_any (λ (line : IdentityLine). same_text z.key line.key) zs y there' (subst (λ (v : IdentityLine). same_text v.key y.key ≡ true) e same)) ∙ once_head same_text same_text_is same_text_own (λ (line : IdentityLine). line.key) z zs o))
one_line (z ∷ zs) x y o (inr there) (inl e') same =
    let turned : same_text z.key x.key ≡ true = subst (λ t. same_text z.key t ≡ true) (ap (λ (v : IdentityLine). v.key) (sym e') ∙ sym (same_text_is x.key y.key same)) (same_text_own z.key) in
    absurd (true≢false (sym (in_any (λ (line : IdentityLine). same_text z.key line.key) zs x there turned) ∙ once_head same_text same_text_is same_text_own (λ (line : IdentityLine). line.key) z zs o))
one_line (z ∷ zs) x y o (inr there) (inr there') same =
    one_line zs x y (once_tail same_text same_text_is same_text_own (λ (line : IdentityLine). line.key) z zs o) there there' same

-- ---- an entry of a map, and what stands at its key

module _ {X : Type 0} (m : FinMap texts X) where
  -- the first entry of a key in a list is one of its entries
  find-in : (k : Text) (es : List (Text × X)) (v : X) → map_of.find texts k es ≡ Some v → IsIn (k, v) es
  find-in k [] v e = cc
  find-in k (x ∷ es) v e = elim (eq_by_cmp texts k x.0) as (λ b. eq_by_cmp texts k x.0 ≡ b → cond b (Some x.1) (map_of.find texts k es) ≡ Some v → IsIn (k, v) (x ∷ es)) [
    | true ↦ λ t is.
        let same : k ≡ x.0 = same_text_is k x.0 (texts_ties k x.0 ∙ t) in
        let value : x.1 ≡ v = cc in
        inl (λ i. (same i, sym value i))
    | false ↦ λ t is. inr (find-in k es v is)
  ] refl e

  pub get-in : (k : Text) (v : X) → get m k ≡ Some v → IsIn (k, v) (entries m)
  get-in k v e = find-in k (entries m) v (sym (get-entries m k) ∙ e)

front : (a b : Bool) → T (a && b) → T a
front true b p = tt
front false b p = absurd p

back : (a b : Bool) → T (a && b) → T b
back true b p = p
back false b p = absurd p

is_less : (r : Ordering) → T (is_lt r) → r ≡ Less
is_less Less p = refl
is_less Equal p = absurd p
is_less Greater p = absurd p

below-in : {X : Type 0} (k : Text) (es : List (Text × X)) (e : Text × X) → T (below_all texts k es) → IsIn e es → texts k e.0 ≡ Less
below-in k [] e b there = absurd there
below-in k (x ∷ es) e b (inl same) = subst (λ (y : _ × _). texts k y.0 ≡ Less) (sym same) (is_less _ (front _ _ b))
below-in k (x ∷ es) e b (inr there) = below-in k es e (back _ _ b) there

in-find : {X : Type 0} (es : List (Text × X)) (e : Text × X) → T (is_sorted texts es) → IsIn e es → map_of.find texts e.0 es ≡ Some e.1
in-find [] e s there = absurd there
in-find (x ∷ es) e s (inl same) =
    subst (λ (y : _ × _). map_of.find texts y.0 (x ∷ es) ≡ Some y.1) (sym same) (rw (tied_itself nat_list_cmp_total x.0) refl)
in-find (x ∷ es) e s (inr there) =
    let less = below-in x.0 es e (front _ _ s) there in
    let other : texts e.0 x.0 ≡ Greater = nat_list_cmp_total.antisymm e.0 x.0 ∙ ap ordering_reverse less in
    rw other (in-find es e (back _ _ s) there)

-- each entry is what stands at its key
pub in-get : {X : Type 0} (m : FinMap texts X) (e : Text × X) → IsIn e (entries m) → get m e.0 ≡ Some e.1
in-get m e there = get-entries m e.0 ∙ in-find (entries m) e (entries_sorted m) there

-- ---- an identity is found by its uid where a line has it

found_any : {X : Type 0} (p : X → Bool) (xs : List X) → is_some (find p xs) ≡ list_any p xs
found_any p [] = refl
found_any p (x ∷ xs) = elim (p x) as (λ b. is_some (cond b (Some x) (find p xs)) ≡ (b || list_any p xs)) [ true ↦ refl | false ↦ found_any p xs ]

some_map : {X Y : Type 0} (f : X → Y) (o : Option X) → is_some (option_map f o) ≡ is_some o
some_map f None = refl
some_map f (Some x) = refl

abbrev row_in : Chain → Text → Written IdentityLine → ChainRow
row_in c k w = record { uid = w.line.uid; stamp = w.line.stamp; sig = w.line.sig; written = w.block.number; is_member = member c k }

-- the row of a key that has an identity has the uid of its line
row-of : (c : Chain) (k : Text) (row : IdentityRow) → identity_left c k ≡ Some row → (w : Written IdentityLine) × (identity c k ≡ Some w) × (row.uid ≡ w.line.uid)
row-of c k row e = elim (identity c k) as (λ o. identity c k ≡ o → option_map identity_entry (option_map (row_in c k) o) ≡ Some row → (w : Written IdentityLine) × (identity c k ≡ Some w) × (row.uid ≡ w.line.uid)) [
  | None ↦ λ is from. cc
  | Some w ↦ λ is from. (w, is, ap (λ (o : Option IdentityRow). option_map_or (λ (r : IdentityRow). r.uid) o []) (sym from))
] refl e

line-of : (c : Chain) (k : Text) (w : Written IdentityLine) → identity c k ≡ Some w → (row : IdentityRow) × (identity_left c k ≡ Some row) × (row.uid ≡ w.line.uid)
line-of c k w e = rw e (_, refl, refl)

module _ (c : Chain) (sound : IsSound c) (uid : Text) where
  from_row : list_any (has_uid uid) (entries (identities_left c)) ≡ true → names (map (λ line. line.uid) (identity_lines c)) uid ≡ true
  from_row any =
      let e = any_in (has_uid uid) (entries (identities_left c)) any in
      let w = row-of c e.0.0 e.0.1 (sym (identities-at c e.0.0) ∙ in-get (identities_left c) e.0 e.1) in
      let there = last_line-in (λ b. b.identities) (λ line. same_text e.0.0 line.key) c w.0 w.1 in
      list_any-map (same_text uid) (λ (line : IdentityLine). line.uid) (identity_lines c)
      ∙ in_any (λ (line : IdentityLine). same_text uid line.uid) (identity_lines c) w.0.line there.0 (subst (λ t. same_text uid t ≡ true) w.2 e.2)

  from_line : names (map (λ line. line.uid) (identity_lines c)) uid ≡ true → list_any (has_uid uid) (entries (identities_left c)) ≡ true
  from_line any =
      let s = any_in (λ (line : IdentityLine). same_text uid line.uid) (identity_lines c) (sym (list_any-map (same_text uid) (λ (line : IdentityLine). line.uid) (identity_lines c)) ∙ any) in
      let there : is_some (identity c s.0.key) ≡ true = last_line-any (λ b. b.identities) (λ line. same_text s.0.key line.key) c ∙ in_any (λ (line : IdentityLine). same_text s.0.key line.key) (identity_lines c) s.0 s.1 (same_text_own s.0.key) in
      elim (identity c s.0.key) as (λ o. identity c s.0.key ≡ o → is_some o ≡ true → list_any (has_uid uid) (entries (identities_left c)) ≡ true) [
        | None ↦ λ is some. absurd (true≢false (sym some))
        | Some w ↦ λ is some.
            let at = last_line-in (λ b. b.identities) (λ line. same_text s.0.key line.key) c w is in
            let same : s.0 ≡ w.line = one_line (identity_lines c) s.0 w.line (identity_lines-once c sound) s.1 at.0 at.1 in
            let row = line-of c s.0.key w is in
            in_any (has_uid uid) (entries (identities_left c)) (s.0.key, row.0) (get-in (identities_left c) s.0.key row.0 (identities-at c s.0.key ∙ row.1))
            (subst (λ t. same_text uid t ≡ true) (ap (λ (l : IdentityLine). l.uid) same ∙ sym row.2) s.2)
      ] refl there

  pub uid-there : is_some (key_with uid (identities_left c)) ≡ names (map (λ line. line.uid) (identity_lines c)) uid
  uid-there =
      some_map _ (find (has_uid uid) (entries (identities_left c)))
      ∙ found_any (has_uid uid) (entries (identities_left c))
      ∙ same_truth _ _ from_row from_line

-- ---- and there are as many rows as lines

len-table : {X : Type 0} (f : Text → Option X) (lines : List IdentityLine) → OnceByKey lines → ((line : IdentityLine) → IsIn line lines → is_some (f line.key) ≡ true) → len (table_of texts f (map (λ line. line.key) lines)) ≡ length lines
len-table f [] once all = len-empty texts _
len-table {X = X} f (line ∷ lines) once all =
    let rest = len-table f lines (once_tail same_text same_text_is same_text_own (λ (l : IdentityLine). l.key) line lines once) (λ l there. all l (inr there)) in
    let none : list_any (eq_by_cmp texts line.key) (map (λ (l : IdentityLine). l.key) lines) ≡ false = named (λ (l : IdentityLine). l.key) line.key lines ∙ once_head same_text same_text_is same_text_own (λ (l : IdentityLine). l.key) line lines once in
    let before : get (table_of texts f (map (λ (l : IdentityLine). l.key) lines)) line.key ≡ None =
    get-from_entries nat_list_cmp_total (gathered f (map (λ (l : IdentityLine). l.key) lines)) line.key
    ∙ found nat_list_cmp_total texts-apart f line.key (map (λ (l : IdentityLine). l.key) lines) ∙ ap (λ b. cond b (f line.key) None) none in
    elim (f line.key) as (λ o. f line.key ≡ o → is_some o ≡ true → len (from_entries {R = texts} (entry_of line.key o (gathered f (map (λ (l : IdentityLine). l.key) lines)))) ≡ suc (length lines)) [
      | None ↦ λ is some. absurd (true≢false (sym some))
      | Some x ↦ λ is some. len-insert nat_list_cmp_total (table_of texts f (map (λ (l : IdentityLine). l.key) lines)) line.key x ∙ rw before (omega (arith, rest))
    ] refl (all line (inl refl))

pub identities-counted : (c : Chain) → IsSound c → len (identities_left c) ≡ length (identity_lines c)
identities-counted c sound =
    len-table (identity_left c) (identity_lines c) (identity_lines-once c sound) (λ line there.
    some_map _ _ ∙ some_map _ (identity c line.key) ∙ last_line-any (λ b. b.identities) (λ l. same_text line.key l.key) c
    ∙ in_any (λ (l : IdentityLine). same_text line.key l.key) (identity_lines c) line there (same_text_own line.key))
