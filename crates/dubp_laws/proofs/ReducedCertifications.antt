-- The records of a chain leave its certifications. The last line of a block for a pair makes its row, live where it ends behind the
-- time of the block. What was live before the block and is not with it is ended by a record of its own. Nothing else changes a row:
-- the time never falls, so that no certification is live again without a new line.
use Rattle.std.proofs.Common.{◌≡◌, ℕ, ◌+◌, ◌<◌, Bool, true, false, cond, not, ◌||◌, ◌&&◌, List, [], ◌∷◌, Option, Some, None, option_map, is_some, unwrap_or, map, filter, refl, ap, sym, ◌∙◌, true≢false, arith, nat_lt, ltb-true, lt-ltb}
use Rattle.std.specs.Option.{option_or, option_map_or}
use Rattle.std.specs.List.{list_any, flat_map}
use Rattle.std.proofs.lemmas.List.Folds.{list_any-append}
use Rattle.std.proofs.lemmas.Map.Views.{any-filter_same}
use Rattle.std.proofs.lemmas.Option.{none-some}
use Rattle.dubp_atoms.specs.Same.{Text, same_text}
use Rattle.dubp_block.specs.declared.block.Block.{Block}
use Rattle.dubp_block.specs.declared.block.IdentityLine.{IdentityLine}
use Rattle.dubp_block.specs.declared.block.MemberLine.{MemberLine}
use Rattle.dubp_block.specs.declared.block.RevokedLine.{RevokedLine}
use Rattle.dubp_block.specs.declared.block.CertLine.{CertLine}
use Rattle.dubp_validity.specs.declared.record.Record.TheVariants.{Create, Enter, Exit, Join, Active, Leave, Revoke, Expire, ExpireRev, Cert, CertExpire, Spend, Dividend, Clear}
use Rattle.dubp_chain.specs.Words.{last_of, in_order}
use Rattle.dubp_chain.specs.Chains.{Chain, params}
use Rattle.dubp_chain.specs.Heads.{time_of}
use Rattle.dubp_chain.specs.Made.{certification_made}
use Rattle.dubp_chain.specs.Money.{Source}
use Rattle.dubp_chain.specs.People.{Written, written_in}
use Rattle.dubp_chain.specs.Live.{certification, made_of, live, certified_pairs}
use Rattle.dubp_validity.specs.Records.{transaction_records, records, membership_time, make_record, input_of, receivers_of, pairs_in_order}
use Rattle.dubp_chain.specs.Tables.{CertificationRow, certification_row}
use Rattle.dubp_validity.specs.Reduced.{certified, set_ended, certification_change, reduced_certification}
use Rattle.dubp_lists.proofs.Elements.{and_left, and_right, IsIn, in_any, any_in, list_any-map, in_map, kept_in, any_of_flat_map}
use Rattle.dubp_lists.proofs.InOrder.{same_text_is, same_text_own, in_order-in}
use Rattle.dubp_lists.proofs.LastLines.{last_line-any, time_of-rises}
use Rattle.dubp_lists.proofs.Folds.{Gives, gives_both, left_out, each_left_out, changed, made_anew}

abbrev of_pair : Text → Text → CertLine → Bool
of_pair a b line = same_text a line.from && same_text b line.to

abbrev is_pair : Text → Text → Text × Text → Bool
is_pair a b p = same_text a p.0 && same_text b p.1

-- ---- a pair that has a line stands among the pairs in order

pair_in_order : (a b : Text) (pairs : List (Text × Text)) → list_any (is_pair a b) pairs ≡ true → list_any (is_pair a b) (pairs_in_order pairs) ≡ true
pair_in_order a b pairs found =
    let h = any_in (is_pair a b) pairs found in
    let from = and_left (same_text a h.0.0) (same_text b h.0.1) h.2 in
    let to = and_right (same_text a h.0.0) (same_text b h.0.1) h.2 in
    let issuer = h.0.0 in
    let receives : IsIn h.0.1 (receivers_of pairs issuer) =
    in_order-in h.0.1 (map (λ p. p.1) (filter (λ p. same_text issuer p.0) pairs))
    (in_map (λ (p : Text × Text). p.1) (filter (λ p. same_text issuer p.0) pairs) h.0
    (kept_in (λ (p : Text × Text). same_text issuer p.0) pairs h.0 h.1 (same_text_own issuer))) in
    any_of_flat_map (is_pair a b) (λ x. map (λ y. (x, y)) (receivers_of pairs x)) (in_order (map (λ p. p.0) pairs)) issuer
    (in_order-in issuer (map (λ p. p.0) pairs) (in_map (λ (p : Text × Text). p.0) pairs h.0 h.1))
    (in_any (is_pair a b) (map (λ y. (issuer, y)) (receivers_of pairs issuer)) (issuer, h.0.1)
    (in_map (λ (y : Text). (issuer, y)) (receivers_of pairs issuer) h.0.1 receives) (rw (from, to) refl))

-- the pairs of a chain are those that have a certification
pairs-certified : (c : Chain) (a b : Text) → is_some (certification c a b) ≡ list_any (is_pair a b) (certified_pairs c)
pairs-certified c a b = last_line-any (λ block. block.certifications) (of_pair a b) c ∙ lines c
  where
    lines : (c : Chain) → list_any (of_pair a b) (flat_map (λ (block : Block). block.certifications) c) ≡ list_any (is_pair a b) (certified_pairs c)
    lines [] = refl
    lines (x ∷ c) =
        list_any-append (of_pair a b) x.certifications (flat_map (λ (block : Block). block.certifications) c)
        ∙ (λ i. sym (list_any-map (is_pair a b) (λ (line : CertLine). (line.from, line.to)) x.certifications) i || lines c i)
        ∙ sym (list_any-append (is_pair a b) (map (λ (line : CertLine). (line.from, line.to)) x.certifications) (certified_pairs c))

-- ---- what ends with a block

-- live before the block and not with it
abbrev ends : Chain → Block → Text × Text → Bool
ends c x p = live c p.0 p.1 && not (live (x ∷ c) p.0 p.1)

live_some : (t : ℕ) (v : ℕ) (w : Option (Written CertLine)) → option_map_or (λ w. nat_lt t (made_of w + v)) w false ≡ true → is_some w ≡ true
live_some t v None is = is
live_some t v (Some w) is = refl

-- a pair has a record of its end exactly where it ends
ended-is : (c : Chain) (x : Block) (a b : Text) → list_any (is_pair a b) (filter (ends c x) (pairs_in_order (certified_pairs c))) ≡ ends c x (a, b)
ended-is c x a b =
    any-filter_same (is_pair a b) (ends c x) (ends c x (a, b)) same (pairs_in_order (certified_pairs c))
    ∙ whole (ends c x (a, b)) (list_any (is_pair a b) (pairs_in_order (certified_pairs c)))
    (λ e. pair_in_order a b (certified_pairs c) (sym (pairs-certified c a b) ∙ live_some (time_of c) (params c).sig_validity (certification c a b) (and_left (live c a b) (not (live (x ∷ c) a b)) e)))
  where
    same : (p : Text × Text) → is_pair a b p ≡ true → ends c x p ≡ ends c x (a, b)
    same p is =
        let from = same_text_is a p.0 (and_left (same_text a p.0) (same_text b p.1) is) in
        let to = same_text_is b p.1 (and_right (same_text a p.0) (same_text b p.1) is) in
        λ i. ends c x (sym from i, sym to i)

    whole : (g h : Bool) → (g ≡ true → h ≡ true) → (g && h) ≡ g
    whole true h then = then refl
    whole false h then = refl

-- ---- what a block makes of the certification from a to b

end_again : (row : Option CertificationRow) → option_map set_ended (option_map set_ended row) ≡ option_map set_ended row
end_again None = refl
end_again (Some r) = refl

-- the row of a line of x
abbrev made_row : Chain → Block → CertLine → CertificationRow
made_row c x line = certified x.number (time_of (x ∷ c)) (params (x ∷ c)).sig_validity (unwrap_or (certification_made c x line) 0)

abbrev with_lines : Chain → Block → Text → Text → Option CertificationRow → Option CertificationRow
with_lines c x a b row = option_or (option_map (made_row c x) (last_of (of_pair a b) x.certifications)) row

abbrev after_block : Chain → Block → Text → Text → Option CertificationRow → Option CertificationRow
after_block c x a b row =
    cond (list_any (is_pair a b) (filter (ends c x) (pairs_in_order (certified_pairs c)))) (option_map set_ended (with_lines c x a b row)) (with_lines c x a b row)

-- all other records leave it
block_gives : (c : Chain) (x : Block) (a b : Text)
    → Gives (certification_change x.number (time_of (x ∷ c)) (params (x ∷ c)).sig_validity a b) (records c x) (after_block c x a b)
block_gives c x a b =
    let change = certification_change x.number (time_of (x ∷ c)) (params (x ∷ c)).sig_validity a b in
    gives_both change
    (gives_both change (left_out change (λ (line : IdentityLine). Create line.key line.uid line.stamp) (λ line row. refl) x.identities)
    (gives_both change (each_left_out change (λ (line : MemberLine). Enter line.key ∷ Join line.key (membership_time c x line) ∷ []) (λ line. record { at = λ row. refl }) x.joiners)
    (gives_both change (left_out change (λ (line : MemberLine). Active line.key (membership_time c x line)) (λ line row. refl) x.actives)
    (gives_both change (left_out change (λ (line : MemberLine). Leave line.key (membership_time c x line)) (λ line row. refl) x.leavers)
    (gives_both change (left_out change (λ (line : RevokedLine). Revoke line.key) (λ line row. refl) x.revoked)
    (gives_both change (left_out change Exit (λ key row. refl) x.excluded)
    (made_anew change (λ (line : CertLine). Cert line.from line.to (unwrap_or (certification_made c x line) 0)) (of_pair a b) (made_row c x) (λ line row. refl) x.certifications)))))))
    (gives_both change (left_out change Expire (λ key row. refl) _)
    (gives_both change (left_out change ExpireRev (λ key row. refl) _)
    (gives_both change (changed change (option_map set_ended) end_again (λ (p : Text × Text). CertExpire p.0 p.1) (is_pair a b) (λ p row. refl) (filter (ends c x) (pairs_in_order (certified_pairs c))))
    (gives_both change (each_left_out change (transaction_records c x)
    (λ tx. gives_both change (left_out change Spend (λ input row. refl) tx.inputs) (left_out change make_record (λ s row. refl) _)) x.transactions)
    (gives_both change (left_out change (λ (s : Source). Dividend (input_of s)) (λ s row. refl) _)
    (left_out change (λ (s : Source). Clear (input_of s)) (λ s row. refl) _))))))

-- ---- the law

-- what is live at a time, with this validity
abbrev lasts : ℕ → ℕ → Written CertLine → Bool
lasts t v w = nat_lt t (made_of w + v)

abbrev row_with : Bool → Written CertLine → CertificationRow
row_with is w = record { made = made_of w; written = w.block.number; is_live = is }

-- what lasts with the block lasted before it
lasted : (c : Chain) (x : Block) (a b : Text) (w : Written CertLine) → certification c a b ≡ Some w
    → lasts (time_of (x ∷ c)) (params (x ∷ c)).sig_validity w ≡ true → lasts (time_of c) (params c).sig_validity w ≡ true
lasted [] x a b w is lasts' = absurd (none-some w is)
lasted (y ∷ c) x a b w is lasts' =
    let h = ltb-true _ _ lasts' in
    let k : time_of (y ∷ c) < made_of w + (params (y ∷ c)).sig_validity = omega (arith, time_of-rises x (y ∷ c), h) in
    lt-ltb _ _ k

still : (w : Written CertLine) (l l' ended : Bool) → ended ≡ (l && not l') → (l' ≡ true → l ≡ true)
    → ◌≡◌ {A = Option CertificationRow} (cond ended (Some (set_ended (row_with l w))) (Some (row_with l w))) (Some (row_with l' w))
still w true true ended e before = rw e refl
still w true false ended e before = rw e refl
still w false true ended e before = absurd (true≢false (sym (before refl)))
still w false false ended e before = rw e refl

anew : (made number : ℕ) (l l' ended : Bool) → ended ≡ (l && not l')
    → ◌≡◌ {A = Option CertificationRow} (cond ended (Some (record { made = made; written = number; is_live = false })) (Some (record { made = made; written = number; is_live = l' }))) (Some (record { made = made; written = number; is_live = l' }))
anew made number true true ended e = rw e refl
anew made number true false ended e = rw e refl
anew made number false l' ended e = rw e refl

-- the rows by cases: the pair has a line in the block, or one before it, or none
after_is : (c : Chain) (x : Block) (t v t' v' : ℕ) (line : Option CertLine) (before : Option (Written CertLine)) (ended : Bool)
    → ended ≡ (option_map_or (lasts t v) before false && not (option_map_or (lasts t' v') (option_or (option_map (written_in x c) line) before) false))
    → ((w : Written CertLine) → before ≡ Some w → lasts t' v' w ≡ true → lasts t v w ≡ true)
    → cond ended (option_map set_ended (option_or (option_map (λ (l : CertLine). certified x.number t' v' (unwrap_or (certification_made c x l) 0)) line) (option_map (row_with (option_map_or (lasts t v) before false)) before)))
    (option_or (option_map (λ (l : CertLine). certified x.number t' v' (unwrap_or (certification_made c x l) 0)) line) (option_map (row_with (option_map_or (lasts t v) before false)) before))
    ≡ option_map (row_with (option_map_or (lasts t' v') (option_or (option_map (written_in x c) line) before) false)) (option_or (option_map (written_in x c) line) before)
after_is c x t v t' v' None None true e later = refl
after_is c x t v t' v' None None false e later = refl
after_is c x t v t' v' None (Some w) ended e later = still w (lasts t v w) (lasts t' v' w) ended e (later w refl)
after_is c x t v t' v' (Some l) before ended e later =
    anew (unwrap_or (certification_made c x l) 0) x.number (option_map_or (lasts t v) before false) (lasts t' v' (written_in x c l)) ended e

pub certifications_are : (c : Chain) (a b : Text) → reduced_certification c a b ≡ certification_row c a b
certifications_are [] a b = refl
certifications_are (x ∷ c) a b =
    (block_gives c x a b).at (reduced_certification c a b)
    ∙ ap (after_block c x a b) (certifications_are c a b)
    ∙ after_is c x (time_of c) (params c).sig_validity (time_of (x ∷ c)) (params (x ∷ c)).sig_validity (last_of (of_pair a b) x.certifications) (certification c a b)
    (list_any (is_pair a b) (filter (ends c x) (pairs_in_order (certified_pairs c)))) (ended-is c x a b) (lasted c x a b)
