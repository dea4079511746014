-- Sets of keys beside the lists that they are made of: who joins and who leaves with the block, and the order of sets.
use Rattle.std.proofs.Common.{◌≡◌, ℕ, ◌+◌, Bool, true, false, cond, not, ◌||◌, ◌&&◌, List, Some, take, get_or, slice_get, refl, ap, sym, subst, ◌∙◌, true≢false}
use Rattle.std.specs.List.{list_any}
use Rattle.std.specs.Ordering.{is_eq}
use Rattle.std.specs.Cmp.Lexicographic.{nat_list_eq_equiv, texts_ties}
use Rattle.std.proofs.lemmas.Option.{slice_get_within, slice_get-get_or, same_Some}
use Rattle.dubp_atoms.specs.Same.{Text, same_text}
use Rattle.dubp_block.specs.declared.block.Block.{Block}
use Rattle.dubp_chain.specs.Words.{names}
use Rattle.dubp_chain.specs.Chains.{Chain}
use Rattle.dubp_chain.specs.Members.{is_of, member}
use Rattle.dubp_iindex.specs.Rows.{texts}
use Rattle.dubp_lists.proofs.Elements.{and_left, and_right, any_in, in_any}
use Rattle.dubp_lists.proofs.InOrder.{same_text_is}
use Rattle.dubp_lists.proofs.OneMore.{any_more}
use Rattle.dubp_people_distance.specs.Moved.{joins, leaves, is_joining, is_leaving}

pub tied : (key k : Text) → same_text k key ≡ is_eq (texts key k)
tied key k = nat_list_eq_equiv.symm k key ∙ texts_ties key k

-- one key put into a set
put_key : (has t : Bool) → cond t true has ≡ (has || t)
put_key true true = refl
put_key true false = refl
put_key false true = refl
put_key false false = refl

pub tree_put : (key k : Text) (now new : Bool) → new ≡ cond (is_eq (texts key k)) true now → new ≡ (now || same_text k key)
tree_put key k now new e = e ∙ put_key now (is_eq (texts key k)) ∙ ap (λ (t : Bool). now || t) (sym (tied key k))

pub table_put : (key k : Text) (now new : Bool) → new ≡ cond (same_text key k) true now → new ≡ (now || same_text k key)
table_put key k now new e = e ∙ put_key now (same_text key k) ∙ ap (λ (t : Bool). now || t) (nat_list_eq_equiv.symm key k)

-- a key that is put where it passes
pub put_where : (test : Bool) (key k : Text) (now new : Bool) → test ≡ true → new ≡ (now || same_text k key) → new ≡ (now || (same_text k key && test))
put_where test key k now new passes e = e ∙ ap (λ (t : Bool). now || t) (by (same_text k key) test passes)
  where
    by : (s t : Bool) → t ≡ true → s ≡ (s && t)
    by true t h = sym h
    by false t h = refl

pub left_out : (test : Bool) (key k : Text) (now new : Bool) → test ≡ false → new ≡ now → new ≡ (now || (same_text k key && test))
left_out test key k now new fails e = e ∙ by now (same_text k key) test fails
  where
    by : (n s t : Bool) → t ≡ false → n ≡ (n || (s && t))
    by true s t h = refl
    by false true t h = sym h
    by false false t h = refl

-- a set of the keys of a list, by place
pub one_more_at : (keys : List Text) (i : ℕ) (key k : Text) (first now new : Bool) → slice_get keys i ≡ Some key
    → now ≡ (first || names (take i keys) k) → new ≡ cond (is_eq (texts key k)) true now → new ≡ (first || names (take (i + 1) keys) k)
one_more_at keys i key k first now new at holds grown =
    let within = slice_get_within keys i key at in
    any_more (same_text k) keys i key first now new within (sym (same_Some (get_or keys i key) key (sym (slice_get-get_or keys i key within) ∙ at))) holds (tree_put key k now new grown)

-- ---- who joins, and who leaves

same_truth : (a b : Bool) → (a ≡ true → b ≡ true) → (b ≡ true → a ≡ true) → a ≡ b
same_truth true b f g = sym (f refl)
same_truth false true f g = g refl
same_truth false false f g = refl

both : (s t : Bool) → s ≡ true → t ≡ true → (s && t) ≡ true
both s t h k = cc

module _ (c : Chain) (b : Block) (k : Text) where
  joiner : joins c b k ≡ true → list_any (is_of k) b.joiners ≡ true
  joiner = by (names b.excluded k) (list_any (is_of k) b.joiners) (member c k)
    where
      by : (out inside was : Bool) → (cond out false (cond inside true was) && not was) ≡ true → inside ≡ true
      by out true was e = refl
      by true false was e = absurd (true≢false (sym e))
      by false false true e = absurd (true≢false (sym e))
      by false false false e = absurd (true≢false (sym e))

  leaver : leaves c b k ≡ true → names b.excluded k ≡ true
  leaver = by (names b.excluded k) (list_any (is_of k) b.joiners) (member c k)
    where
      by : (out inside was : Bool) → (was && not (cond out false (cond inside true was))) ≡ true → out ≡ true
      by true inside was e = refl
      by false true true e = absurd (true≢false (sym e))
      by false true false e = absurd (true≢false (sym e))
      by false false true e = absurd (true≢false (sym e))
      by false false false e = absurd (true≢false (sym e))

  -- among the lines of Joiners are all that join, and among the keys of Excluded all that leave
  pub joiners_joined : list_any (is_joining c b k) b.joiners ≡ joins c b k
  joiners_joined = same_truth (list_any (is_joining c b k) b.joiners) (joins c b k)
      (λ e.
      let h = any_in (is_joining c b k) b.joiners e in
      let own = same_text_is k h.0.key (and_left (same_text k h.0.key) (joins c b h.0.key) h.2) in
      subst (λ z. joins c b z ≡ true) (sym own) (and_right (same_text k h.0.key) (joins c b h.0.key) h.2))
      (λ e.
      let h = any_in (is_of k) b.joiners (joiner e) in
      in_any (is_joining c b k) b.joiners h.0 h.1 (both (same_text k h.0.key) (joins c b h.0.key) h.2 (subst (λ z. joins c b z ≡ true) (same_text_is k h.0.key h.2) e)))

  pub excluded_left : list_any (is_leaving c b k) b.excluded ≡ leaves c b k
  excluded_left = same_truth (list_any (is_leaving c b k) b.excluded) (leaves c b k)
      (λ e.
      let h = any_in (is_leaving c b k) b.excluded e in
      let own = same_text_is k h.0 (and_left (same_text k h.0) (leaves c b h.0) h.2) in
      subst (λ z. leaves c b z ≡ true) (sym own) (and_right (same_text k h.0) (leaves c b h.0) h.2))
      (λ e.
      let h = any_in (same_text k) b.excluded (leaver e) in
      in_any (is_leaving c b k) b.excluded h.0 h.1 (both (same_text k h.0) (leaves c b h.0) h.2 (subst (λ z. leaves c b z ≡ true) (same_text_is k h.0 h.2) e)))
