-- Each kind of line is read exactly from its spelling, which has no LF.
use Rattle.std.proofs.Common.{◌≡◌, ℕ, pos, ◌<◌, ◌≤◌, Bool, true, List, [], ◌∷◌, ◌++◌, length, Some, refl, subst, arith, lit<, inl, decimal}
use Rattle.std.specs.Fmt.{signed_decimal}
use Rattle.dubp_atoms.specs.Letters.{is_key, is_hash, is_sig, is_uid, is_currency}
use Rattle.dubp_atoms.specs.Reading.{Lacks, text_if, number_of, signed_of, stamp_of}
use Rattle.dubp_atoms.specs.Spelling.{IsNumber, IsSigned, IsStamp, stamp_text}
use Rattle.dubp_atoms.specs.declared.stamp.Stamp.{Stamp}
use Rattle.dubp_atoms.proofs.Numbers.{bind_some, some_is, by_test, number_found, number_again}
use Rattle.dubp_atoms.proofs.Signed.{signed_found, signed_again}
use Rattle.dubp_atoms.proofs.Fields.{text_found, text_again}
use Rattle.dubp_atoms.proofs.Stamps.{colon, line_end, number_lacks, key_lacks, hash_lacks, sig_lacks, uid_lacks, currency_lacks, stamp_lacks, stamp_found, stamp_again}
use Rattle.dubp_lines.proofs.Readers.{IsSpelled}
use Rattle.dubp_params.specs.Reading.{params_of, field_at}
use Rattle.dubp_params.specs.Spelling.{IsParams, params_text}
use Rattle.dubp_params.proofs.ParamsRead.{params_found, params_again}
use Rattle.dubp_params.proofs.Fields.{step, field_again, behind}
use Rattle.dubp_cond.specs.ReadingLines.{input_of, unlock_line_of, output_of}
use Rattle.dubp_cond.specs.Sources.{IsInput, input_text}
use Rattle.dubp_cond.specs.Unlocks.{IsUnlockLine, unlock_line_text}
use Rattle.dubp_cond.specs.Outputs.{IsOutput, output_text}
use Rattle.dubp_cond.specs.Transactions.{is_comment}
use Rattle.dubp_cond.proofs.Sources.{input_found, input_again}
use Rattle.dubp_cond.proofs.Unlocks.{unlock_line_found, unlock_line_again}
use Rattle.dubp_cond.proofs.Outputs.{output_found, output_again}
use Rattle.dubp_cond.proofs.LineEnds.{input_lacks, unlock_line_lacks, output_lacks, comment_lacks}
use Rattle.dubp_block.specs.Sections.{identity_text, member_text, revoked_text, certification_text, IsIdentity, IsMembership, IsRevocation, IsCertification}
use Rattle.dubp_block.specs.Text.{IsVersion}
use Rattle.dubp_block.specs.ReadingLines.{version_of, base_of, identity_of, member_of, revoked_of, certification_of, comment_of}
use Rattle.dubp_block.specs.declared.block.IdentityLine.{IdentityLine}
use Rattle.dubp_block.specs.declared.block.MemberLine.{MemberLine}
use Rattle.dubp_block.specs.declared.block.RevokedLine.{RevokedLine}
use Rattle.dubp_block.specs.declared.block.CertLine.{CertLine}
use Rattle.dubp_block.proofs.Lacking.{version_small, signed_lacks, params_lacks, field_lacks}
use Rattle.dubp_block.proofs.Values.{version_found, version_again, base_found, base_again}
use Rattle.dubp_block.proofs.Witnesses.{some_key, key_is, some_hash, hash_is, some_sig, sig_is, some_name, uid_is, currency_is, comment_is, some_stamp, stamp_is, some_params, params_is, some_input, input_is, some_unlock, unlock_is, some_output, output_is}

abbrev pub itself : List ℕ → List ℕ
itself text = text

abbrev pub Passes : (List ℕ → Bool) → List ℕ → Type 0
Passes test text = test text ≡ true

-- ---- values of a header

pub number_spelled : IsSpelled number_of decimal IsNumber
number_spelled = record { value = 0; is = omega arith; clear = number_lacks 10 line_end; found = number_found; again = number_again }

pub signed_spelled : IsSpelled signed_of signed_decimal IsSigned
signed_spelled = record { value = pos 0; is = lit< tt; clear = signed_lacks 10 line_end; found = signed_found; again = signed_again }

pub text_spelled : (test : List ℕ → Bool) (text : List ℕ) → test text ≡ true → ((t : List ℕ) → test t ≡ true → Lacks 10 t) → IsSpelled (text_if test) itself (Passes test)
text_spelled test text is clear = record { value = text; is = is; clear = clear; found = text_found test; again = text_again test }

pub key_spelled : IsSpelled (text_if is_key) itself (Passes is_key)
key_spelled = text_spelled is_key some_key key_is (key_lacks 10 line_end)

pub hash_spelled : IsSpelled (text_if is_hash) itself (Passes is_hash)
hash_spelled = text_spelled is_hash some_hash hash_is (hash_lacks 10 line_end)

pub sig_spelled : IsSpelled (text_if is_sig) itself (Passes is_sig)
sig_spelled = text_spelled is_sig some_sig sig_is (sig_lacks 10 line_end)

pub currency_spelled : IsSpelled (text_if is_currency) itself (Passes is_currency)
currency_spelled = text_spelled is_currency some_name currency_is (currency_lacks 10 line_end)

pub version_spelled : IsSpelled version_of decimal IsVersion
version_spelled = record { value = 10; is = inl refl; clear = λ n is. number_lacks 10 line_end n (version_small n is); found = version_found; again = version_again }

abbrev pub IsBase : ℕ → Type 0
IsBase n = n ≤ 15

pub base_spelled : IsSpelled base_of decimal IsBase
base_spelled = record { value = 0; is = omega arith; clear = λ n is. number_lacks 10 line_end n (omega arith); found = base_found; again = base_again }

pub params_spelled : IsSpelled params_of params_text IsParams
params_spelled = record { value = some_params; is = params_is; clear = params_lacks; found = params_found; again = params_again }

pub stamp_spelled : IsSpelled stamp_of stamp_text IsStamp
stamp_spelled = record { value = some_stamp; is = stamp_is; clear = stamp_lacks 10 line_end; found = stamp_found; again = stamp_again }

-- ---- lines of a transaction

pub input_spelled : IsSpelled input_of input_text IsInput
input_spelled = record { value = some_input; is = input_is; clear = input_lacks; found = input_found; again = input_again }

pub unlock_spelled : IsSpelled unlock_line_of unlock_line_text IsUnlockLine
unlock_spelled = record { value = some_unlock; is = unlock_is; clear = unlock_line_lacks; found = unlock_line_found; again = unlock_line_again }

pub output_spelled : IsSpelled output_of output_text IsOutput
output_spelled = record { value = some_output; is = output_is; clear = output_lacks; found = output_found; again = output_again }

-- a comment that has a line
pub record IsLineComment (text : List ℕ) : Type 0 where
  pub is : is_comment text ≡ true
  pub some : 0 < length text

comment_found : (text t : List ℕ) → comment_of text ≡ Some t → IsLineComment t × (text ≡ t)
unfolding comment_of
comment_found [] t e = absurd cc
comment_found (c ∷ cs) t e =
    let g = by_test (is_comment (c ∷ cs)) (Some (c ∷ cs)) t e in
    let same = some_is (c ∷ cs) t g.1 in
    (subst IsLineComment same (record { is = g.0; some = omega arith }), same)

comment_again : (t : List ℕ) → IsLineComment t → comment_of t ≡ Some t
unfolding comment_of
comment_again [] h = let lt = h.some in absurd (omega arith)
comment_again (c ∷ cs) h = rw h.is refl

pub comment_spelled : IsSpelled comment_of itself IsLineComment
comment_spelled = record { value = some_name; is = record { is = comment_is; some = omega arith }; clear = λ t h. comment_lacks t h.is; found = comment_found; again = comment_again }

-- ---- lines of the sections

text_field : (test : List ℕ → Bool) (t rest : List ℕ) → Lacks 58 t → test t ≡ true → field_at (text_if test) (t ++ 58 ∷ rest) ≡ Some (t, rest)
text_field test t rest lacks h = field_again (text_if test) t rest t lacks (text_again test t h)

key_field : (t rest : List ℕ) → is_key t ≡ true → field_at (text_if is_key) (t ++ 58 ∷ rest) ≡ Some (t, rest)
key_field t rest h = text_field is_key t rest (key_lacks 58 colon t h) h

sig_field : (t rest : List ℕ) → is_sig t ≡ true → field_at (text_if is_sig) (t ++ 58 ∷ rest) ≡ Some (t, rest)
sig_field t rest h = text_field is_sig t rest (sig_lacks 58 colon t h) h

stamp_field : (s : Stamp) (rest : List ℕ) → IsStamp s → field_at stamp_of (stamp_text s ++ 58 ∷ rest) ≡ Some (s, rest)
stamp_field s rest h = field_again stamp_of (stamp_text s) rest s (stamp_lacks 58 colon s h) (stamp_again s h)

number_field : (n : ℕ) (rest : List ℕ) → IsNumber n → field_at number_of (decimal n ++ 58 ∷ rest) ≡ Some (n, rest)
number_field n rest h = field_again number_of (decimal n) rest n (number_lacks 58 colon n h) (number_again n h)

identity_found : (text : List ℕ) (l : IdentityLine) → identity_of text ≡ Some l → IsIdentity l × (text ≡ identity_text l)
unfolding identity_of
identity_found text l e =
    let k = step (text_if is_key) itself (Passes is_key) (text_found is_key) text _ _ e in
    let s = step (text_if is_sig) itself (Passes is_sig) (text_found is_sig) k.rest _ _ k.goes_on in
    let m = step stamp_of stamp_text IsStamp stamp_found s.rest _ _ s.goes_on in
    let z = bind_some (text_if is_uid m.rest) _ _ m.goes_on in
    let u = text_found is_uid m.rest z.0 z.1 in
    let got : IdentityLine = record { key = k.value; sig = s.value; stamp = m.value; uid = z.0 } in
    let is : IsIdentity got = record { key = k.is; sig = s.is; stamp = m.is; uid = u.0 } in
    let whole : text ≡ identity_text got = behind _ k.value _ _ k.parts (behind _ s.value _ _ s.parts (behind _ (stamp_text m.value) _ _ m.parts u.1)) in
    subst (λ (x : IdentityLine). IsIdentity x × (text ≡ identity_text x)) (some_is got l z.2) (is, whole)

identity_again : (l : IdentityLine) → IsIdentity l → identity_of (identity_text l) ≡ Some l
unfolding identity_of
identity_again l is = rw (key_field l.key _ is.key, sig_field l.sig _ is.sig, stamp_field l.stamp _ is.stamp, text_again is_uid l.uid is.uid) refl

identity_lacks : (l : IdentityLine) → IsIdentity l → Lacks 10 (identity_text l)
identity_lacks l is =
    field_lacks l.key _ (key_lacks 10 line_end l.key is.key) (field_lacks l.sig _ (sig_lacks 10 line_end l.sig is.sig)
    (field_lacks (stamp_text l.stamp) _ (stamp_lacks 10 line_end l.stamp is.stamp) (uid_lacks 10 line_end l.uid is.uid)))

pub identity_spelled : IsSpelled identity_of identity_text IsIdentity
identity_spelled = record {
  value = record { key = some_key; sig = some_sig; stamp = some_stamp; uid = some_name };
  is = record { key = key_is; sig = sig_is; stamp = stamp_is; uid = uid_is };
  clear = identity_lacks;
  found = identity_found;
  again = identity_again;
}

member_found : (text : List ℕ) (l : MemberLine) → member_of text ≡ Some l → IsMembership l × (text ≡ member_text l)
unfolding member_of
member_found text l e =
    let k = step (text_if is_key) itself (Passes is_key) (text_found is_key) text _ _ e in
    let s = step (text_if is_sig) itself (Passes is_sig) (text_found is_sig) k.rest _ _ k.goes_on in
    let m = step stamp_of stamp_text IsStamp stamp_found s.rest _ _ s.goes_on in
    let i = step stamp_of stamp_text IsStamp stamp_found m.rest _ _ m.goes_on in
    let z = bind_some (text_if is_uid i.rest) _ _ i.goes_on in
    let u = text_found is_uid i.rest z.0 z.1 in
    let got : MemberLine = record { key = k.value; sig = s.value; stamp = m.value; identity_stamp = i.value; uid = z.0 } in
    let is : IsMembership got = record { key = k.is; sig = s.is; stamp = m.is; identity_stamp = i.is; uid = u.0 } in
    let whole : text ≡ member_text got = behind _ k.value _ _ k.parts (behind _ s.value _ _ s.parts (behind _ (stamp_text m.value) _ _ m.parts (behind _ (stamp_text i.value) _ _ i.parts u.1))) in
    subst (λ (x : MemberLine). IsMembership x × (text ≡ member_text x)) (some_is got l z.2) (is, whole)

member_again : (l : MemberLine) → IsMembership l → member_of (member_text l) ≡ Some l
unfolding member_of
member_again l is =
    rw (key_field l.key _ is.key, sig_field l.sig _ is.sig, stamp_field l.stamp _ is.stamp, stamp_field l.identity_stamp _ is.identity_stamp, text_again is_uid l.uid is.uid) refl

member_lacks : (l : MemberLine) → IsMembership l → Lacks 10 (member_text l)
member_lacks l is =
    field_lacks l.key _ (key_lacks 10 line_end l.key is.key) (field_lacks l.sig _ (sig_lacks 10 line_end l.sig is.sig)
    (field_lacks (stamp_text l.stamp) _ (stamp_lacks 10 line_end l.stamp is.stamp) (field_lacks (stamp_text l.identity_stamp) _ (stamp_lacks 10 line_end l.identity_stamp is.identity_stamp) (uid_lacks 10 line_end l.uid is.uid))))

pub member_spelled : IsSpelled member_of member_text IsMembership
member_spelled = record {
  value = record { key = some_key; sig = some_sig; stamp = some_stamp; identity_stamp = some_stamp; uid = some_name };
  is = record { key = key_is; sig = sig_is; stamp = stamp_is; identity_stamp = stamp_is; uid = uid_is };
  clear = member_lacks;
  found = member_found;
  again = member_again;
}

revoked_found : (text : List ℕ) (l : RevokedLine) → revoked_of text ≡ Some l → IsRevocation l × (text ≡ revoked_text l)
unfolding revoked_of
revoked_found text l e =
    let k = step (text_if is_key) itself (Passes is_key) (text_found is_key) text _ _ e in
    let z = bind_some (text_if is_sig k.rest) _ _ k.goes_on in
    let s = text_found is_sig k.rest z.0 z.1 in
    let got : RevokedLine = record { key = k.value; sig = z.0 } in
    let is : IsRevocation got = record { key = k.is; sig = s.0 } in
    let whole : text ≡ revoked_text got = behind _ k.value _ _ k.parts s.1 in
    subst (λ (x : RevokedLine). IsRevocation x × (text ≡ revoked_text x)) (some_is got l z.2) (is, whole)

revoked_again : (l : RevokedLine) → IsRevocation l → revoked_of (revoked_text l) ≡ Some l
unfolding revoked_of
revoked_again l is = rw (key_field l.key _ is.key, text_again is_sig l.sig is.sig) refl

pub revoked_spelled : IsSpelled revoked_of revoked_text IsRevocation
revoked_spelled = record {
  value = record { key = some_key; sig = some_sig };
  is = record { key = key_is; sig = sig_is };
  clear = λ l is. field_lacks l.key l.sig (key_lacks 10 line_end l.key is.key) (sig_lacks 10 line_end l.sig is.sig);
  found = revoked_found;
  again = revoked_again;
}

certification_found : (text : List ℕ) (l : CertLine) → certification_of text ≡ Some l → IsCertification l × (text ≡ certification_text l)
unfolding certification_of
certification_found text l e =
    let f = step (text_if is_key) itself (Passes is_key) (text_found is_key) text _ _ e in
    let t = step (text_if is_key) itself (Passes is_key) (text_found is_key) f.rest _ _ f.goes_on in
    let n = step number_of decimal IsNumber number_found t.rest _ _ t.goes_on in
    let z = bind_some (text_if is_sig n.rest) _ _ n.goes_on in
    let s = text_found is_sig n.rest z.0 z.1 in
    let got : CertLine = record { from = f.value; to = t.value; number = n.value; sig = z.0 } in
    let is : IsCertification got = record { from = f.is; to = t.is; number = n.is; sig = s.0 } in
    let whole : text ≡ certification_text got = behind _ f.value _ _ f.parts (behind _ t.value _ _ t.parts (behind _ (decimal n.value) _ _ n.parts s.1)) in
    subst (λ (x : CertLine). IsCertification x × (text ≡ certification_text x)) (some_is got l z.2) (is, whole)

certification_again : (l : CertLine) → IsCertification l → certification_of (certification_text l) ≡ Some l
unfolding certification_of
certification_again l is = rw (key_field l.from _ is.from, key_field l.to _ is.to, number_field l.number _ is.number, text_again is_sig l.sig is.sig) refl

pub certification_spelled : IsSpelled certification_of certification_text IsCertification
certification_spelled = record {
  value = record { from = some_key; to = some_key; number = 0; sig = some_sig };
  is = record { from = key_is; to = key_is; number = omega arith; sig = sig_is };
  clear = λ l is. field_lacks l.from _ (key_lacks 10 line_end l.from is.from) (field_lacks l.to _ (key_lacks 10 line_end l.to is.to)
      (field_lacks (decimal l.number) l.sig (number_lacks 10 line_end l.number is.number) (sig_lacks 10 line_end l.sig is.sig)));
  found = certification_found;
  again = certification_again;
}
