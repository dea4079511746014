-- The queue that a chain leaves has at each entry what the chain says.
use Rattle.std.proofs.Common.{◌≡◌, ℕ, ◌+◌, ◌*◌, Bool, true, false, cond, ◌&&◌, ◌==◌, List, [], ◌∷◌, ◌++◌, Option, None, Some, refl, sym, ap, subst, ◌∙◌, inl, inr, ◌⊎◌, true≢false}
use Rattle.std.specs.Prelude.{map, option_map, is_some}
use Rattle.std.specs.Option.{option_map_or}
use Rattle.std.specs.List.{list_any, flat_map}
use Rattle.std.specs.Ordering.{is_eq, eq_by_cmp}
use Rattle.std.specs.FinMap.{get}
use Rattle.std.proofs.lemmas.Cmp.{tied_itself}
use Rattle.std.proofs.lemmas.Bool.{eqb-true}
use Rattle.dubp_atoms.specs.Same.{Text, same_text}
use Rattle.dubp_block.specs.declared.block.Block.{Block}
use Rattle.dubp_block.specs.declared.block.MemberLine.{MemberLine}
use Rattle.dubp_block.specs.declared.block.CertLine.{CertLine}
use Rattle.dubp_chain.specs.Chains.{Chain, params}
use Rattle.dubp_chain.specs.Members.{is_of}
use Rattle.dubp_chain.specs.Made.{made}
use Rattle.dubp_chain.specs.People.{Written, last_line, membership_lines, membership_made, expiry, revocation}
use Rattle.dubp_chain.specs.Live.{certified_pairs, certification, end_of}
use Rattle.dubp_chain.specs.Tables.{is_queued, falls_at}
use Rattle.dubp_steps.proofs.OfLists.{IsIn, in_left, in_right, in_append, in_any, in_map, and_left, and_right}
use Rattle.dubp_steps.proofs.OfLists.{same_text_is}
use Rattle.dubp_expiry.specs.DueOrder.{entry_cmp}
use Rattle.dubp_expiry.specs.declared.due.Due.{Due}
use Rattle.dubp_expiry.specs.declared.due.Due.TheVariants.{Membership, Revocation, Certification}
use Rattle.dubp_expiry.proofs.Order.{entry_total, entry_exact}
use Rattle.dubp_left.specs.Left.{due_of, queued_left, due_at, ends_of_member, ends_of_pair, ends, membership_keys, queue_left}
use Rattle.dubp_left.proofs.Gathered.{get-table}
use Rattle.dubp_left.proofs.Lines.{last_line-in}

-- ---- elements of the lists that are put together

in_flat : {X Y : Type 0} (f g : X → List Y) (xs : List X) (y : Y) → ((x : X) → IsIn y (f x) → IsIn y (g x)) → IsIn y (flat_map f xs) → IsIn y (flat_map g xs)
in_flat f g [] y more there = absurd there
in_flat f g (x ∷ xs) y more there = elim (in_append y (f x) (flat_map f xs) there) [
  | inl h ↦ in_left y (g x) (flat_map g xs) (more x h)
  | inr h ↦ in_right y (g x) (flat_map g xs) (in_flat f g xs y more h)
]

in_one : {X Y : Type 0} (f : X → List Y) (xs : List X) (x : X) (y : Y) → IsIn x xs → IsIn y (f x) → IsIn y (flat_map f xs)
in_one f [] x y there of = absurd there
in_one f (z ∷ zs) x y (inl e) of = in_left y (f z) (flat_map f zs) (subst (λ v. IsIn y (f v)) e of)
in_one f (z ∷ zs) x y (inr there) of = in_right y (f z) (flat_map f zs) (in_one f zs x y there of)

mapped : {X Y Z : Type 0} (g : Y → Z) (f : X → List Y) (xs : List X) (y : Y) → IsIn y (flat_map f xs) → IsIn (g y) (flat_map (λ x. map g (f x)) xs)
mapped g f [] y there = absurd there
mapped g f (x ∷ xs) y there = elim (in_append y (f x) (flat_map f xs) there) [
  | inl h ↦ in_left (g y) (map g (f x)) (flat_map (λ z. map g (f z)) xs) (in_map g (f x) y h)
  | inr h ↦ in_right (g y) (map g (f x)) (flat_map (λ z. map g (f z)) xs) (mapped g f xs y h)
]

-- ---- where an end stands in the list of ends

falls : (due : Option ℕ) (at : ℕ) → falls_at due at ≡ true → due ≡ Some at
falls None at e = absurd (true≢false (sym e))
falls (Some time) at e = ap Some (eqb-true time at e)

map-some : {X Y : Type 0} (f : X → Y) (o : Option X) (y : Y) → option_map f o ≡ Some y → (x : X) × (o ≡ Some x)
map-some f None y e = cc
map-some f (Some x) y e = (x, refl)

-- a key whose membership was made stands among the keys of memberships
made-in : (c : Chain) (k : Text) (m : ℕ) → membership_made c k ≡ Some m → IsIn k (membership_keys c)
made-in c k m e =
    let w = map-some _ (last_line (λ b. b.joiners ++ b.actives) (is_of k) c) m e in
    let there = last_line-in (λ b. b.joiners ++ b.actives) (is_of k) c w.0 w.1 in
    let among = in_flat (λ b. b.joiners ++ b.actives) membership_lines c w.0.line (λ b h.
    elim (in_append w.0.line b.joiners b.actives h) [
      | inl j ↦ in_left w.0.line b.joiners (b.actives ++ b.leavers) j
      | inr a ↦ in_right w.0.line b.joiners (b.actives ++ b.leavers) (in_left w.0.line b.actives b.leavers a)
    ]) there.0 in
    subst (λ t. IsIn t (membership_keys c)) (sym (same_text_is k w.0.line.key there.1)) (in_map (λ (line : MemberLine). line.key) (flat_map membership_lines c) w.0.line among)

member_end : (c : Chain) (k : Text) (e : ℕ × Due) → IsIn k (membership_keys c) → IsIn e (ends_of_member c k) → IsIn e (ends c)
member_end c k e key there = in_left e (flat_map (ends_of_member c) (membership_keys c)) (flat_map (ends_of_pair c) (certified_pairs c)) (in_one (ends_of_member c) (membership_keys c) k e key there)

first_due : (due : Due) (o : Option ℕ) (at : ℕ) (rest : List (ℕ × Due)) → o ≡ Some at → IsIn (at, due) (due_at due o rest)
first_due due o at rest e = rw e (inl refl)

behind_due : (due : Due) (o : Option ℕ) (e : ℕ × Due) (rest : List (ℕ × Due)) → IsIn e rest → IsIn e (due_at due o rest)
behind_due due None e rest there = there
behind_due due (Some at) e rest there = inr there

pair-in : (c : Chain) (a b : Text) (w : Written CertLine) → certification c a b ≡ Some w → IsIn (a, b) (certified_pairs c)
pair-in c a b w e =
    let there = last_line-in (λ block. block.certifications) (λ line. same_text a line.from && same_text b line.to) c w e in
    let from = same_text_is a w.line.from (and_left (same_text a w.line.from) (same_text b w.line.to) there.1) in
    let to = same_text_is b w.line.to (and_right (same_text a w.line.from) (same_text b w.line.to) there.1) in
    subst (λ (p : Text × Text). IsIn p (certified_pairs c)) (λ i. (sym from i, sym to i)) (mapped (λ (line : CertLine). (line.from, line.to)) (λ (block : Block). block.certifications) c w.line there.0)

end-in : (c : Chain) (at : ℕ) (due : Due) → is_queued c at (due_of due) ≡ true → IsIn (at, due) (ends c)
end-in c at (Membership k) e =
    let due = falls (expiry c k) at (and_right _ _ (and_right _ _ e)) in
    let m = map-some _ (membership_made c k) at due in
    member_end c k (at, Membership k) (made-in c k m.0 m.1) (first_due (Membership k) (expiry c k) at _ due)
end-in c at (Revocation k) e =
    let due = falls (revocation c k) at (and_right _ _ (and_right _ _ e)) in
    let m = map-some _ (membership_made c k) at due in
    member_end c k (at, Revocation k) (made-in c k m.0 m.1) (behind_due (Membership k) (expiry c k) (at, Revocation k) _ (first_due (Revocation k) (revocation c k) at [] due))
end-in c at (Certification a b) e =
    let due = falls (option_map (end_of c) (certification c a b)) at (and_right _ _ e) in
    let w = map-some _ (certification c a b) at due in
    in_right (at, Certification a b) (flat_map (ends_of_member c) (membership_keys c)) (flat_map (ends_of_pair c) (certified_pairs c))
    (in_one (ends_of_pair c) (certified_pairs c) (a, b) (at, Certification a b) (pair-in c a b w.0 w.1) (first_due (Certification a b) _ at [] due))

shown : (b : Bool) → is_some (cond b (Some (tt {0})) None) ≡ true → b ≡ true
shown true e = refl
shown false e = absurd (true≢false (sym e))

pub queue-at : (c : Chain) (e : ℕ × Due) → get (queue_left c) e ≡ queued_left c e
queue-at c e =
    get-table entry_total entry_exact (queued_left c) e (ends c) (λ some.
    in_any (eq_by_cmp entry_cmp e) (ends c) e (end-in c e.0 e.1 (shown _ some)) (ap is_eq (tied_itself entry_total e)))
