-- The records of a chain leave its identities. Of a block only its lines of Identities, Joiners and Excluded change an identity: the
-- last line of Identities of a key makes it anew, and a key of Joiners or Excluded becomes a member or ends to be one. Each new
-- identity joins in its own block, so that it does not matter what the chain says of its key.
use Rattle.std.proofs.Common.{◌≡◌, ℕ, Bool, true, false, cond, [], ◌∷◌, Option, Some, None, option_map, refl, ap, sym, ◌∙◌, subst, true≢false, unwrap_or}
use Rattle.std.specs.Option.{option_or}
use Rattle.std.specs.List.{list_any}
use Rattle.dubp_atoms.specs.Same.{Text, same_text}
use Rattle.dubp_block.specs.declared.block.Block.{Block}
use Rattle.dubp_block.specs.declared.block.IdentityLine.{IdentityLine}
use Rattle.dubp_block.specs.declared.block.MemberLine.{MemberLine}
use Rattle.dubp_block.specs.declared.block.RevokedLine.{RevokedLine}
use Rattle.dubp_block.specs.declared.block.CertLine.{CertLine}
use Rattle.dubp_chain.specs.Made.{certification_made}
use Rattle.dubp_chain.specs.Money.{Source}
use Rattle.dubp_rules.specs.declared.rule.Rule.TheVariants.{L10}
use Rattle.dubp_validity.specs.declared.record.Record.TheVariants.{Create, Enter, Exit, Join, Active, Leave, Revoke, Expire, ExpireRev, Cert, CertExpire, Spend, Dividend, Clear}
use Rattle.dubp_chain.specs.Words.{names, last_of}
use Rattle.dubp_chain.specs.Chains.{Chain}
use Rattle.dubp_chain.specs.Members.{is_of, member}
use Rattle.dubp_chain.specs.People.{Written, written_in, identity}
use Rattle.dubp_validity.specs.LocalRules.{joins, IdentitiesJoin}
use Rattle.dubp_validity.specs.Records.{transaction_records, records, membership_time, make_record, input_of}
use Rattle.dubp_chain.specs.Tables.{identity_row}
use Rattle.dubp_validity.specs.Reduced.{ReducedIdentity, set_member, identity_change, reduced_identity, without_signature}
use Rattle.dubp_validity.specs.Rules.{IsSound}
use Rattle.dubp_lists.proofs.Elements.{and_left, in_all, in_any, any_in, last_in}
use Rattle.dubp_lists.proofs.InOrder.{same_text_is}
use Rattle.dubp_lists.proofs.Folds.{Gives, gives_both, left_out, each_left_out, changed, each_changed, made_anew}

abbrev of_key : Text → IdentityLine → Bool
of_key k line = same_text k line.key

-- a new identity, before its key enters
abbrev created : ℕ → IdentityLine → ReducedIdentity
created number line = record { uid = line.uid; stamp = line.stamp; written = number; is_member = false }

-- the key becomes a member, or ends to be one
abbrev set_if : Bool → Bool → Option ReducedIdentity → Option ReducedIdentity
set_if b is row = cond b (option_map (set_member is) row) row

set_again : (is : Bool) (row : Option ReducedIdentity) → option_map (set_member is) (option_map (set_member is) row) ≡ option_map (set_member is) row
set_again is None = refl
set_again is (Some r) = refl

-- what a block makes of the identity of k
abbrev after_block : Block → Text → Option ReducedIdentity → Option ReducedIdentity
after_block b k row =
    set_if (names b.excluded k) false
    (set_if (list_any (is_of k) b.joiners) true
    (option_or (option_map (created b.number) (last_of (of_key k) b.identities)) row))

-- all other records leave it
block_gives : (c : Chain) (b : Block) (k : Text) → Gives (identity_change b.number k) (records c b) (after_block b k)
block_gives c b k =
    let change = identity_change b.number k in
    gives_both change
    (gives_both change (made_anew change (λ (line : IdentityLine). Create line.key line.uid line.stamp) (of_key k) (created b.number) (λ line row. refl) b.identities)
    (gives_both change (each_changed change (option_map (set_member true)) (set_again true) (λ (line : MemberLine). Enter line.key ∷ Join line.key (membership_time c b line) ∷ []) (is_of k) (λ line row. refl) b.joiners)
    (gives_both change (left_out change (λ (line : MemberLine). Active line.key (membership_time c b line)) (λ line row. refl) b.actives)
    (gives_both change (left_out change (λ (line : MemberLine). Leave line.key (membership_time c b line)) (λ line row. refl) b.leavers)
    (gives_both change (left_out change (λ (line : RevokedLine). Revoke line.key) (λ line row. refl) b.revoked)
    (gives_both change (changed change (option_map (set_member false)) (set_again false) Exit (same_text k) (λ key row. refl) b.excluded)
    (left_out change (λ (line : CertLine). Cert line.from line.to (unwrap_or (certification_made c b line) 0)) (λ line row. refl) b.certifications)))))))
    (gives_both change (left_out change Expire (λ x row. refl) _)
    (gives_both change (left_out change ExpireRev (λ x row. refl) _)
    (gives_both change (left_out change (λ (p : Text × Text). CertExpire p.0 p.1) (λ x row. refl) _)
    (gives_both change (each_left_out change (transaction_records c b)
    (λ tx. gives_both change (left_out change Spend (λ x row. refl) tx.inputs) (left_out change make_record (λ x row. refl) _)) b.transactions)
    (gives_both change (left_out change (λ (s : Source). Dividend (input_of s)) (λ x row. refl) _)
    (left_out change (λ (s : Source). Clear (input_of s)) (λ x row. refl) _))))))

-- whom a block gives an identity joins in it
joined : (b : Block) → IdentitiesJoin b → (k : Text) (line : IdentityLine) → last_of (of_key k) b.identities ≡ Some line → list_any (is_of k) b.joiners ≡ true
joined b join k line is =
    let last = last_in (of_key k) b.identities line is in
    let joiner = any_in (joins line) b.joiners (in_all _ b.identities join line last.0) in
    in_any (is_of k) b.joiners joiner.0 joiner.1
    (subst (λ key. same_text key joiner.0.key ≡ true) (sym (same_text_is k line.key last.1)) (and_left (same_text line.key joiner.0.key) _ joiner.2))

-- the row of a line, without its signature
abbrev row_with : Bool → Written IdentityLine → ReducedIdentity
row_with is w = record { uid = w.line.uid; stamp = w.line.stamp; written = w.block.number; is_member = is }

after_is : (b : Block) (c : Chain) (k : Text) (out inside m : Bool) (line : Option IdentityLine) (before : Option (Written IdentityLine))
    → ((l : IdentityLine) → line ≡ Some l → inside ≡ true)
    → set_if out false (set_if inside true (option_or (option_map (created b.number) line) (option_map (row_with m) before)))
    ≡ option_map (row_with (cond out false (cond inside true m))) (option_or (option_map (written_in b c) line) before)
after_is b c k true true m None None enters = refl
after_is b c k true false m None None enters = refl
after_is b c k false true m None None enters = refl
after_is b c k false false m None None enters = refl
after_is b c k true true m None (Some w) enters = refl
after_is b c k true false m None (Some w) enters = refl
after_is b c k false true m None (Some w) enters = refl
after_is b c k false false m None (Some w) enters = refl
after_is b c k true true m (Some l) before enters = refl
after_is b c k false true m (Some l) before enters = refl
after_is b c k out false m (Some l) before enters = absurd (true≢false (sym (enters l refl)))

pub identities_are : (c : Chain) → IsSound c → (k : Text) → reduced_identity c k ≡ option_map without_signature (identity_row c k)
identities_are [] sound k = refl
identities_are (b ∷ c) sound k =
    (block_gives c b k).at (reduced_identity c k)
    ∙ ap (after_block b k) (identities_are c sound.1 k ∙ same (member c k) (identity c k))
    ∙ after_is b c k (names b.excluded k) (list_any (is_of k) b.joiners) (member c k) (last_of (of_key k) b.identities) (identity c k) (joined b (sound.0 L10 refl) k)
    ∙ sym (same (member (b ∷ c) k) (identity (b ∷ c) k))
  where
    same : (is : Bool) (w : Option (Written IdentityLine))
        → option_map without_signature (option_map (λ w. record { uid = w.line.uid; stamp = w.line.stamp; sig = w.line.sig; written = w.block.number; is_member = is }) w)
        ≡ option_map (row_with is) w
    same is None = refl
    same is (Some w) = refl
