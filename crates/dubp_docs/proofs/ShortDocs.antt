-- What is read as a document that is no transaction is its one text.
use Rattle.std.proofs.Common.{◌≡◌, ℕ, Bool, true, false, List, [], ◌∷◌, ◌++◌, codes, Some, None, Ok, refl, ap, subst, ◌∙◌, if◌then◌else◌}
use Rattle.dubp_atoms.specs.Letters.{is_key, is_uid, is_sig}
use Rattle.dubp_atoms.specs.Reading.{text_if, stamp_of}
use Rattle.dubp_atoms.specs.Spelling.{stamp_text, IsStamp}
use Rattle.dubp_atoms.proofs.Stamps.{stamp_found, stamp_again}
use Rattle.dubp_lines.specs.Lines.{Place}
use Rattle.dubp_lines.specs.Takes.{Spans}
use Rattle.dubp_lines.specs.Taking.{same_line}
use Rattle.dubp_lines.proofs.Taken.{bind_ok, ok_is, same_text}
use Rattle.dubp_docs.specs.Spelling.{identity_lines, revocation_lines, certification_lines, membership_lines, direction_text, IsIdentityDoc, IsRevocationDoc, IsCertificationDoc, IsMembershipDoc}
use Rattle.dubp_docs.specs.Reading.{named_line, sig_line, opening_at, direction_of, identity_at, revocation_at, certification_at, membership_at}
use Rattle.dubp_docs.specs.declared.doc.IdentityDoc.{IdentityDoc}
use Rattle.dubp_docs.specs.declared.doc.RevocationDoc.{RevocationDoc}
use Rattle.dubp_docs.specs.declared.doc.CertificationDoc.{CertificationDoc}
use Rattle.dubp_docs.specs.declared.doc.MembershipDoc.{MembershipDoc}
use Rattle.dubp_docs.proofs.OneLine.{IsRead, text_is, then_lines, named_took, named_takes, sig_took, sig_takes, opening_took, opening_takes}

pub stamp_is : IsRead stamp_of stamp_text IsStamp
stamp_is = record { found = stamp_found; again = stamp_again }

abbrev Any : Bool → Type 0
Any b = Unit {0}

direction_found : (text : List ℕ) (b : Bool) → direction_of text ≡ Some b → Unit {0} × (text ≡ direction_text b)
direction_found text b h = by_in (same_line (codes "IN") text) refl (same_line (codes "OUT") text) refl h
  where
    by_in : (x : Bool) → same_line (codes "IN") text ≡ x → (y : Bool) → same_line (codes "OUT") text ≡ y → (if x then Some true else (if y then Some false else None)) ≡ Some b → Unit {0} × (text ≡ direction_text b)
    by_in true e y f g = let is : true ≡ b = cc in (tt, same_text text (codes "IN") e ∙ ap direction_text is)
    by_in false e true f g = let is : false ≡ b = cc in (tt, same_text text (codes "OUT") f ∙ ap direction_text is)
    by_in false e false f g = absurd cc

direction_again : (b : Bool) → Unit {0} → direction_of (direction_text b) ≡ Some b
direction_again true g = refl
direction_again false g = refl

direction_is : IsRead direction_of direction_text Any
direction_is = record { found = direction_found; again = direction_again }

-- ---- identities

module _ (p : Place) (d : IdentityDoc) (q : Place) where
  pub identity_found : identity_at p ≡ Ok (d, q) → IsIdentityDoc d × Spans p (identity_lines d ++ d.sig ∷ []) q
  unfolding identity_at
  identity_found h =
      let y : IdentityDoc × Place = (d, q) in
      let a = bind_ok (opening_at (codes "Type: Identity") p) _ y h in
      let b = bind_ok (named_line (text_if is_key) (codes "Issuer: ") a.0.1) _ y a.2 in
      let c = bind_ok (named_line (text_if is_uid) (codes "UniqueID: ") b.0.1) _ y b.2 in
      let e = bind_ok (named_line stamp_of (codes "Timestamp: ") c.0.1) _ y c.2 in
      let f = bind_ok (sig_line e.0.1) _ y e.2 in
      let a' = opening_took (codes "Type: Identity") p a.0.0 a.0.1 a.1 in
      let b' = named_took (text_is is_key) (codes "Issuer: ") a.0.1 b.0.0 b.0.1 b.1 in
      let c' = named_took (text_is is_uid) (codes "UniqueID: ") b.0.1 c.0.0 c.0.1 c.1 in
      let e' = named_took stamp_is (codes "Timestamp: ") c.0.1 e.0.0 e.0.1 e.1 in
      let f' = sig_took e.0.1 f.0.0 f.0.1 f.1 in
      let made : IdentityDoc × Place = (record { currency = a.0.0; issuer = b.0.0; unique_id = c.0.0; timestamp = e.0.0; sig = f.0.0 }, f.0.1) in
      subst (λ (z : IdentityDoc × Place). IsIdentityDoc z.0 × Spans p (identity_lines z.0 ++ z.0.sig ∷ []) z.1) (ok_is made y f.2) (
        record { currency = a'.0; issuer = b'.0; unique_id = c'.0; timestamp = e'.0; sig = f'.0 },
        then_lines a'.1 (then_lines b'.1 (then_lines c'.1 (then_lines e'.1 f'.1))),
      )

pub identity_again : (d : IdentityDoc) → IsIdentityDoc d → identity_at (identity_lines d ++ d.sig ∷ [], []) ≡ Ok (d, ([], []))
unfolding identity_at
identity_again d is =
    let l5 = d.sig ∷ [] in
    let l4 = (codes "Timestamp: " ++ stamp_text d.timestamp) ∷ l5 in
    let l3 = (codes "UniqueID: " ++ d.unique_id) ∷ l4 in
    let l2 = (codes "Issuer: " ++ d.issuer) ∷ l3 in
    rw (
      opening_takes (codes "Type: Identity") d.currency l2 [] is.currency,
      named_takes (text_is is_key) (codes "Issuer: ") d.issuer l3 [] is.issuer,
      named_takes (text_is is_uid) (codes "UniqueID: ") d.unique_id l4 [] is.unique_id,
      named_takes stamp_is (codes "Timestamp: ") d.timestamp l5 [] is.timestamp,
      sig_takes d.sig [] [] is.sig,
    ) refl

-- ---- revocations

module _ (p : Place) (d : RevocationDoc) (q : Place) where
  pub revocation_found : revocation_at p ≡ Ok (d, q) → IsRevocationDoc d × Spans p (revocation_lines d ++ d.sig ∷ []) q
  unfolding revocation_at
  revocation_found h' =
      let y : RevocationDoc × Place = (d, q) in
      let a = bind_ok (opening_at (codes "Type: Revocation") p) _ y h' in
      let b = bind_ok (named_line (text_if is_key) (codes "Issuer: ") a.0.1) _ y a.2 in
      let c = bind_ok (named_line (text_if is_uid) (codes "IdtyUniqueID: ") b.0.1) _ y b.2 in
      let e = bind_ok (named_line stamp_of (codes "IdtyTimestamp: ") c.0.1) _ y c.2 in
      let f = bind_ok (named_line (text_if is_sig) (codes "IdtySignature: ") e.0.1) _ y e.2 in
      let s = bind_ok (sig_line f.0.1) _ y f.2 in
      let a' = opening_took (codes "Type: Revocation") p a.0.0 a.0.1 a.1 in
      let b' = named_took (text_is is_key) (codes "Issuer: ") a.0.1 b.0.0 b.0.1 b.1 in
      let c' = named_took (text_is is_uid) (codes "IdtyUniqueID: ") b.0.1 c.0.0 c.0.1 c.1 in
      let e' = named_took stamp_is (codes "IdtyTimestamp: ") c.0.1 e.0.0 e.0.1 e.1 in
      let f' = named_took (text_is is_sig) (codes "IdtySignature: ") e.0.1 f.0.0 f.0.1 f.1 in
      let s' = sig_took f.0.1 s.0.0 s.0.1 s.1 in
      let made : RevocationDoc × Place = (record { currency = a.0.0; issuer = b.0.0; idty_unique_id = c.0.0; idty_timestamp = e.0.0; idty_signature = f.0.0; sig = s.0.0 }, s.0.1) in
      subst (λ (z : RevocationDoc × Place). IsRevocationDoc z.0 × Spans p (revocation_lines z.0 ++ z.0.sig ∷ []) z.1) (ok_is made y s.2) (
        record { currency = a'.0; issuer = b'.0; idty_unique_id = c'.0; idty_timestamp = e'.0; idty_signature = f'.0; sig = s'.0 },
        then_lines a'.1 (then_lines b'.1 (then_lines c'.1 (then_lines e'.1 (then_lines f'.1 s'.1)))),
      )

pub revocation_again : (d : RevocationDoc) → IsRevocationDoc d → revocation_at (revocation_lines d ++ d.sig ∷ [], []) ≡ Ok (d, ([], []))
unfolding revocation_at
revocation_again d is =
    let l4 = d.sig ∷ [] in
    let l3 = (codes "IdtySignature: " ++ d.idty_signature) ∷ l4 in
    let l2 = (codes "IdtyTimestamp: " ++ stamp_text d.idty_timestamp) ∷ l3 in
    let l1 = (codes "IdtyUniqueID: " ++ d.idty_unique_id) ∷ l2 in
    let l0 = (codes "Issuer: " ++ d.issuer) ∷ l1 in
    rw (
      opening_takes (codes "Type: Revocation") d.currency l0 [] is.currency,
      named_takes (text_is is_key) (codes "Issuer: ") d.issuer l1 [] is.issuer,
      named_takes (text_is is_uid) (codes "IdtyUniqueID: ") d.idty_unique_id l2 [] is.idty_unique_id,
      named_takes stamp_is (codes "IdtyTimestamp: ") d.idty_timestamp l3 [] is.idty_timestamp,
      named_takes (text_is is_sig) (codes "IdtySignature: ") d.idty_signature l4 [] is.idty_signature,
      sig_takes d.sig [] [] is.sig,
    ) refl

-- ---- certifications

module _ (p : Place) (d : CertificationDoc) (q : Place) where
  pub certification_found : certification_at p ≡ Ok (d, q) → IsCertificationDoc d × Spans p (certification_lines d ++ d.sig ∷ []) q
  unfolding certification_at
  certification_found h' =
      let y : CertificationDoc × Place = (d, q) in
      let a = bind_ok (opening_at (codes "Type: Certification") p) _ y h' in
      let b = bind_ok (named_line (text_if is_key) (codes "Issuer: ") a.0.1) _ y a.2 in
      let c = bind_ok (named_line (text_if is_key) (codes "IdtyIssuer: ") b.0.1) _ y b.2 in
      let e = bind_ok (named_line (text_if is_uid) (codes "IdtyUniqueID: ") c.0.1) _ y c.2 in
      let f = bind_ok (named_line stamp_of (codes "IdtyTimestamp: ") e.0.1) _ y e.2 in
      let g = bind_ok (named_line (text_if is_sig) (codes "IdtySignature: ") f.0.1) _ y f.2 in
      let h = bind_ok (named_line stamp_of (codes "CertTimestamp: ") g.0.1) _ y g.2 in
      let s = bind_ok (sig_line h.0.1) _ y h.2 in
      let a' = opening_took (codes "Type: Certification") p a.0.0 a.0.1 a.1 in
      let b' = named_took (text_is is_key) (codes "Issuer: ") a.0.1 b.0.0 b.0.1 b.1 in
      let c' = named_took (text_is is_key) (codes "IdtyIssuer: ") b.0.1 c.0.0 c.0.1 c.1 in
      let e' = named_took (text_is is_uid) (codes "IdtyUniqueID: ") c.0.1 e.0.0 e.0.1 e.1 in
      let f' = named_took stamp_is (codes "IdtyTimestamp: ") e.0.1 f.0.0 f.0.1 f.1 in
      let g' = named_took (text_is is_sig) (codes "IdtySignature: ") f.0.1 g.0.0 g.0.1 g.1 in
      let h' = named_took stamp_is (codes "CertTimestamp: ") g.0.1 h.0.0 h.0.1 h.1 in
      let s' = sig_took h.0.1 s.0.0 s.0.1 s.1 in
      let made : CertificationDoc × Place = (record { currency = a.0.0; issuer = b.0.0; idty_issuer = c.0.0; idty_unique_id = e.0.0; idty_timestamp = f.0.0; idty_signature = g.0.0; cert_timestamp = h.0.0; sig = s.0.0 }, s.0.1) in
      subst (λ (z : CertificationDoc × Place). IsCertificationDoc z.0 × Spans p (certification_lines z.0 ++ z.0.sig ∷ []) z.1) (ok_is made y s.2) (
        record { currency = a'.0; issuer = b'.0; idty_issuer = c'.0; idty_unique_id = e'.0; idty_timestamp = f'.0; idty_signature = g'.0; cert_timestamp = h'.0; sig = s'.0 },
        then_lines a'.1 (then_lines b'.1 (then_lines c'.1 (then_lines e'.1 (then_lines f'.1 (then_lines g'.1 (then_lines h'.1 s'.1)))))),
      )

pub certification_again : (d : CertificationDoc) → IsCertificationDoc d → certification_at (certification_lines d ++ d.sig ∷ [], []) ≡ Ok (d, ([], []))
unfolding certification_at
certification_again d is =
    let l6 = d.sig ∷ [] in
    let l5 = (codes "CertTimestamp: " ++ stamp_text d.cert_timestamp) ∷ l6 in
    let l4 = (codes "IdtySignature: " ++ d.idty_signature) ∷ l5 in
    let l3 = (codes "IdtyTimestamp: " ++ stamp_text d.idty_timestamp) ∷ l4 in
    let l2 = (codes "IdtyUniqueID: " ++ d.idty_unique_id) ∷ l3 in
    let l1 = (codes "IdtyIssuer: " ++ d.idty_issuer) ∷ l2 in
    let l0 = (codes "Issuer: " ++ d.issuer) ∷ l1 in
    rw (
      opening_takes (codes "Type: Certification") d.currency l0 [] is.currency,
      named_takes (text_is is_key) (codes "Issuer: ") d.issuer l1 [] is.issuer,
      named_takes (text_is is_key) (codes "IdtyIssuer: ") d.idty_issuer l2 [] is.idty_issuer,
      named_takes (text_is is_uid) (codes "IdtyUniqueID: ") d.idty_unique_id l3 [] is.idty_unique_id,
      named_takes stamp_is (codes "IdtyTimestamp: ") d.idty_timestamp l4 [] is.idty_timestamp,
      named_takes (text_is is_sig) (codes "IdtySignature: ") d.idty_signature l5 [] is.idty_signature,
      named_takes stamp_is (codes "CertTimestamp: ") d.cert_timestamp l6 [] is.cert_timestamp,
      sig_takes d.sig [] [] is.sig,
    ) refl

-- ---- memberships

module _ (p : Place) (d : MembershipDoc) (q : Place) where
  pub membership_found : membership_at p ≡ Ok (d, q) → IsMembershipDoc d × Spans p (membership_lines d ++ d.sig ∷ []) q
  unfolding membership_at
  membership_found h' =
      let y : MembershipDoc × Place = (d, q) in
      let a = bind_ok (opening_at (codes "Type: Membership") p) _ y h' in
      let b = bind_ok (named_line (text_if is_key) (codes "Issuer: ") a.0.1) _ y a.2 in
      let c = bind_ok (named_line stamp_of (codes "Block: ") b.0.1) _ y b.2 in
      let e = bind_ok (named_line direction_of (codes "Membership: ") c.0.1) _ y c.2 in
      let f = bind_ok (named_line (text_if is_uid) (codes "UserID: ") e.0.1) _ y e.2 in
      let g = bind_ok (named_line stamp_of (codes "CertTS: ") f.0.1) _ y f.2 in
      let s = bind_ok (sig_line g.0.1) _ y g.2 in
      let a' = opening_took (codes "Type: Membership") p a.0.0 a.0.1 a.1 in
      let b' = named_took (text_is is_key) (codes "Issuer: ") a.0.1 b.0.0 b.0.1 b.1 in
      let c' = named_took stamp_is (codes "Block: ") b.0.1 c.0.0 c.0.1 c.1 in
      let e' = named_took direction_is (codes "Membership: ") c.0.1 e.0.0 e.0.1 e.1 in
      let f' = named_took (text_is is_uid) (codes "UserID: ") e.0.1 f.0.0 f.0.1 f.1 in
      let g' = named_took stamp_is (codes "CertTS: ") f.0.1 g.0.0 g.0.1 g.1 in
      let s' = sig_took g.0.1 s.0.0 s.0.1 s.1 in
      let made : MembershipDoc × Place = (record { currency = a.0.0; issuer = b.0.0; block = c.0.0; membership = e.0.0; user_id = f.0.0; cert_ts = g.0.0; sig = s.0.0 }, s.0.1) in
      subst (λ (z : MembershipDoc × Place). IsMembershipDoc z.0 × Spans p (membership_lines z.0 ++ z.0.sig ∷ []) z.1) (ok_is made y s.2) (
        record { currency = a'.0; issuer = b'.0; block = c'.0; user_id = f'.0; cert_ts = g'.0; sig = s'.0 },
        then_lines a'.1 (then_lines b'.1 (then_lines c'.1 (then_lines e'.1 (then_lines f'.1 (then_lines g'.1 s'.1))))),
      )

pub membership_again : (d : MembershipDoc) → IsMembershipDoc d → membership_at (membership_lines d ++ d.sig ∷ [], []) ≡ Ok (d, ([], []))
unfolding membership_at
membership_again d is =
    let l5 = d.sig ∷ [] in
    let l4 = (codes "CertTS: " ++ stamp_text d.cert_ts) ∷ l5 in
    let l3 = (codes "UserID: " ++ d.user_id) ∷ l4 in
    let l2 = (codes "Membership: " ++ direction_text d.membership) ∷ l3 in
    let l1 = (codes "Block: " ++ stamp_text d.block) ∷ l2 in
    let l0 = (codes "Issuer: " ++ d.issuer) ∷ l1 in
    rw (
      opening_takes (codes "Type: Membership") d.currency l0 [] is.currency,
      named_takes (text_is is_key) (codes "Issuer: ") d.issuer l1 [] is.issuer,
      named_takes stamp_is (codes "Block: ") d.block l2 [] is.block,
      named_takes direction_is (codes "Membership: ") d.membership l3 [] tt,
      named_takes (text_is is_uid) (codes "UserID: ") d.user_id l4 [] is.user_id,
      named_takes stamp_is (codes "CertTS: ") d.cert_ts l5 [] is.cert_ts,
      sig_takes d.sig [] [] is.sig,
    ) refl
