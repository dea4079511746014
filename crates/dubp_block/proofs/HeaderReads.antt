-- The readers of a block's header and end read exactly the spelling of their fields. Each field is a step: the last argument of a
-- step is what the fields behind it keep.
use Rattle.std.proofs.Common.{◌≡◌, ◌≢◌, ◌≤◌, ℕ, Bool, true, false, cond, eqb, List, [], ◌∷◌, ◌++◌, drop, Option, Some, None, refl, sym, ap, subst, decimal}
use Rattle.std.proofs.lemmas.Bool.{eqb-true, eqb-false}
use Rattle.std.specs.Prelude.{codes}
use Rattle.dubp_atoms.specs.Letters.{is_key, is_hash, is_sig, is_currency}
use Rattle.dubp_atoms.specs.Reading.{number_of}
use Rattle.dubp_atoms.specs.Spelling.{IsNumber, IsSigned}
use Rattle.dubp_lines.specs.Readers.{optional}
use Rattle.dubp_lines.proofs.Readers.{Rows, Always, Reads, named_spelled, line_reads, just_then, then_reads, then_before, behind_reads, gives_reads, only_reads, reads_as, spelled_as}
use Rattle.dubp_lines.proofs.Rows.{optional_row, IsOptional, NotNext, optional_reads}
use Rattle.dubp_params.specs.Spelling.{IsParams}
use Rattle.dubp_params.specs.declared.params.Params.{Params}
use Rattle.dubp_block.specs.Text.{IsVersion, IsDividend, IsPrevious, IsFirstParams, opening_lines, dividend_lines, issuer_lines, previous_lines, params_lines}
use Rattle.dubp_block.specs.Reading.{opening_at, issuing_at, first_links_at, later_links_at, links_at, closing_at}
use Rattle.dubp_block.specs.declared.reading.Opening.{Opening}
use Rattle.dubp_block.specs.declared.reading.Issuing.{Issuing}
use Rattle.dubp_block.specs.declared.reading.Links.{Links}
use Rattle.dubp_block.specs.declared.reading.Closing.{Closing}
use Rattle.dubp_block.proofs.Spelled.{Passes, IsBase, number_spelled, signed_spelled, key_spelled, hash_spelled, sig_spelled, currency_spelled, version_spelled, base_spelled, params_spelled}

-- ---- from Version to MedianTime

pub record IsOpening (x : Opening) : Type 0 where
  pub version : IsVersion x.version
  pub currency : is_currency x.currency ≡ true
  pub number : IsNumber x.number
  pub pow_min : IsNumber x.pow_min
  pub time : IsNumber x.time
  pub median_time : IsNumber x.median_time

abbrev pub opening_text : Opening → Rows
opening_text x = opening_lines x.version x.currency x.number x.pow_min x.time x.median_time

abbrev OpeningIs : Opening → Type 0
OpeningIs x = Unit {0} × (IsVersion x.version × (Passes is_currency x.currency × (IsNumber x.number × (IsNumber x.pow_min × (IsNumber x.time × (IsNumber x.median_time × Unit {0}))))))

opening_steps : Reads opening_at opening_text OpeningIs Always
unfolding opening_at
opening_steps =
    then_reads _ _ _ _ _ _ (λ x. x.version) _ _ (line_reads _ _ _ (named_spelled (codes "Version: ") _ _ _ refl version_spelled)) (λ version is_version.
    just_then (codes "Type: Block") _ _ _ _ refl (
    then_reads _ _ _ _ _ _ (λ x. x.currency) _ _ (line_reads _ _ _ (named_spelled (codes "Currency: ") _ _ _ refl currency_spelled)) (λ currency is_currency.
    then_reads _ _ _ _ _ _ (λ x. x.number) _ _ (line_reads _ _ _ (named_spelled (codes "Number: ") _ _ _ refl number_spelled)) (λ number is_number.
    then_reads _ _ _ _ _ _ (λ x. x.pow_min) _ _ (line_reads _ _ _ (named_spelled (codes "PoWMin: ") _ _ _ refl number_spelled)) (λ pow_min is_pow_min.
    then_reads _ _ _ _ _ _ (λ x. x.time) _ _ (line_reads _ _ _ (named_spelled (codes "Time: ") _ _ _ refl number_spelled)) (λ time is_time.
    then_reads _ _ _ _ _ _ (λ x. x.median_time) _ _ (line_reads _ _ _ (named_spelled (codes "MedianTime: ") _ _ _ refl number_spelled)) (λ median_time is_median_time.
    gives_reads _ _ _ ((((((tt, refl), refl), refl), refl), refl), refl)
    (λ x k. λ i. record { version = k.0.0.0.0.0.1 i; currency = k.0.0.0.0.1 i; number = k.0.0.0.1 i; pow_min = k.0.0.1 i; time = k.0.1 i; median_time = k.1 i }))))))))

opening_to : (x : Opening) → OpeningIs x → IsOpening x
opening_to x h = record { version = h.1.0; currency = h.1.1.0; number = h.1.1.1.0; pow_min = h.1.1.1.1.0; time = h.1.1.1.1.1.0; median_time = h.1.1.1.1.1.1.0 }

opening_from : (x : Opening) → IsOpening x → OpeningIs x
opening_from x is = (tt, (is.version, (is.currency, (is.number, (is.pow_min, (is.time, (is.median_time, tt)))))))

pub opening_reads : Reads opening_at opening_text IsOpening Always
opening_reads = reads_as opening_at opening_text OpeningIs IsOpening Always opening_to opening_from opening_steps

-- ---- from UniversalDividend to DifferentIssuersCount

pub record IsIssuing (x : Issuing) : Type 0 where
  pub dividend : IsDividend x.dividend
  pub unit_base : x.unit_base ≤ 15
  pub issuer : is_key x.issuer ≡ true
  pub frame : IsNumber x.frame
  pub frame_var : IsSigned x.frame_var
  pub issuers : IsNumber x.issuers

abbrev pub issuing_text : Issuing → Rows
issuing_text x = dividend_lines x.dividend ++ issuer_lines x.unit_base x.issuer x.frame x.frame_var x.issuers

abbrev dividend_name : List ℕ
dividend_name = codes "UniversalDividend: "

dividend_spelled : (o : Option ℕ) → optional_row dividend_name decimal o ≡ dividend_lines o
dividend_spelled None = refl
dividend_spelled (Some n) = refl

dividend_to : (o : Option ℕ) → IsOptional IsNumber o → IsDividend o
dividend_to None h = tt
dividend_to (Some n) h = h

dividend_from : (o : Option ℕ) → IsDividend o → IsOptional IsNumber o
dividend_from None h = tt
dividend_from (Some n) h = h

dividend_reads : Reads (optional dividend_name number_of) dividend_lines IsDividend (NotNext dividend_name)
dividend_reads =
    spelled_as (optional dividend_name number_of) (optional_row dividend_name decimal) dividend_lines IsDividend (NotNext dividend_name) (λ o h. dividend_spelled o)
    (reads_as (optional dividend_name number_of) (optional_row dividend_name decimal) (IsOptional IsNumber) IsDividend (NotNext dividend_name) dividend_to dividend_from
    (optional_reads dividend_name number_of decimal IsNumber (named_spelled dividend_name number_of decimal IsNumber refl number_spelled)))

abbrev IssuingIs : Issuing → Type 0
IssuingIs x = Unit {0} × (IsDividend x.dividend × (IsBase x.unit_base × (Passes is_key x.issuer × (IsNumber x.frame × (IsSigned x.frame_var × (IsNumber x.issuers × Unit {0}))))))

issuing_steps : Reads issuing_at issuing_text IssuingIs Always
unfolding issuing_at
issuing_steps =
    then_before _ _ _ _ _ _ _ (λ x. x.dividend) _ _ dividend_reads (λ dividend is_dividend.
    then_reads _ _ _ _ _ _ (λ x. x.unit_base) _ _ (line_reads _ _ _ (named_spelled (codes "UnitBase: ") _ _ _ refl base_spelled)) (λ unit_base is_unit_base.
    then_reads _ _ _ _ _ _ (λ x. x.issuer) _ _ (line_reads _ _ _ (named_spelled (codes "Issuer: ") _ _ _ refl key_spelled)) (λ issuer is_issuer.
    then_reads _ _ _ _ _ _ (λ x. x.frame) _ _ (line_reads _ _ _ (named_spelled (codes "IssuersFrame: ") _ _ _ refl number_spelled)) (λ frame is_frame.
    then_reads _ _ _ _ _ _ (λ x. x.frame_var) _ _ (line_reads _ _ _ (named_spelled (codes "IssuersFrameVar: ") _ _ _ refl signed_spelled)) (λ frame_var is_frame_var.
    then_reads _ _ _ _ _ _ (λ x. x.issuers) _ _ (line_reads _ _ _ (named_spelled (codes "DifferentIssuersCount: ") _ _ _ refl number_spelled)) (λ issuers is_issuers.
    gives_reads _ _ _ ((((((tt, refl), refl), refl), refl), refl), refl)
    (λ x k. λ i. record { dividend = k.0.0.0.0.0.1 i; unit_base = k.0.0.0.0.1 i; issuer = k.0.0.0.1 i; frame = k.0.0.1 i; frame_var = k.0.1 i; issuers = k.1 i })))))))
    (λ x ls h stop. refl)

issuing_to : (x : Issuing) → IssuingIs x → IsIssuing x
issuing_to x h = record { dividend = h.1.0; unit_base = h.1.1.0; issuer = h.1.1.1.0; frame = h.1.1.1.1.0; frame_var = h.1.1.1.1.1.0; issuers = h.1.1.1.1.1.1.0 }

issuing_from : (x : Issuing) → IsIssuing x → IssuingIs x
issuing_from x is = (tt, (is.dividend, (is.unit_base, (is.issuer, (is.frame, (is.frame_var, (is.issuers, tt)))))))

pub issuing_reads : Reads issuing_at issuing_text IsIssuing Always
issuing_reads = reads_as issuing_at issuing_text IssuingIs IsIssuing Always issuing_to issuing_from issuing_steps

-- ---- what links a block to the one before, or block 0 to its currency

abbrev pub links_text : Links → Rows
links_text x = previous_lines x.previous ++ params_lines x.params

pub record IsLinks (number : ℕ) (x : Links) : Type 0 where
  pub previous : IsPrevious number x.previous
  pub params : IsFirstParams number x.params

abbrev with_params : Params → Links
with_params p = record { previous = None; params = Some p }

abbrev with_previous : List ℕ → List ℕ → Links
with_previous hash issuer = record { previous = Some (hash, issuer); params = None }

abbrev FirstIs : Links → Type 0
FirstIs x = (p : Params) × (IsParams p × (x ≡ with_params p))

first_steps : Reads first_links_at links_text FirstIs Always
unfolding first_links_at
first_steps =
    behind_reads _ _ _ _ _ (λ x. []) Always links_text FirstIs (λ p x. x ≡ with_params p) (line_reads _ _ _ (named_spelled (codes "Parameters: ") _ _ _ refl params_spelled))
    (λ p is. only_reads (with_params p) Always)
    (λ p x e. ap links_text e)
    (λ p x is e. (p, (is, e)))
    (λ x h. h)
    (λ p x ls e stop. tt)

abbrev LaterIs : Links → Type 0
LaterIs x = (hash : List ℕ) × (Passes is_hash hash × ((issuer : List ℕ) × (Passes is_key issuer × (x ≡ with_previous hash issuer))))

later_steps : Reads later_links_at links_text LaterIs Always
unfolding later_links_at
later_steps =
    behind_reads _ _ _ _ _ (λ x. drop 1 (links_text x)) Always links_text LaterIs (λ hash x. (issuer : List ℕ) × (Passes is_key issuer × (x ≡ with_previous hash issuer))) (line_reads _ _ _ (named_spelled (codes "PreviousHash: ") _ _ _ refl hash_spelled))
    (λ hash is_hash.
    behind_reads _ _ _ _ _ (λ x. []) Always (λ x. drop 1 (links_text x)) (λ x. (issuer : List ℕ) × (Passes is_key issuer × (x ≡ with_previous hash issuer))) (λ issuer x. x ≡ with_previous hash issuer) (line_reads _ _ _ (named_spelled (codes "PreviousIssuer: ") _ _ _ refl key_spelled))
    (λ issuer is. only_reads (with_previous hash issuer) Always)
    (λ issuer x e. ap (λ (y : Links). drop 1 (links_text y)) e)
    (λ issuer x is e. (issuer, (is, e)))
    (λ x h. h)
    (λ issuer x ls e stop. tt))
    (λ hash x h. later_first hash h.0 x h.1.1)
    (λ hash x is h. (hash, (is, h)))
    (λ x h. h)
    (λ hash x ls e stop. tt)
  where
    later_first : (hash issuer : List ℕ) (x : Links) → x ≡ with_previous hash issuer → links_text x ≡ (codes "PreviousHash: " ++ hash) ∷ drop 1 (links_text x)
    later_first hash issuer x e = subst (λ (y : Links). links_text y ≡ (codes "PreviousHash: " ++ hash) ∷ drop 1 (links_text y)) (sym e) refl

first_to : (number : ℕ) → number ≡ 0 → (x : Links) → FirstIs x → IsLinks number x
first_to number zero x h = subst (IsLinks number) (sym h.1.1) (record { previous = zero; params = (zero, h.1.0) })

first_by : (number : ℕ) → number ≡ 0 → (before : Option (List ℕ × List ℕ)) (params : Option Params) → IsPrevious number before → IsFirstParams number params → FirstIs (record { previous = before; params = params })
first_by number zero None (Some p) a b = (p, (b.1, refl))
first_by number zero None None a b = absurd (b zero)
first_by number zero (Some q) params a b = absurd (a.0 zero)

later_to : (number : ℕ) → number ≢ 0 → (x : Links) → LaterIs x → IsLinks number x
later_to number other x h = subst (IsLinks number) (sym h.1.1.1.1) (record { previous = (other, h.1.0, h.1.1.1.0); params = other })

later_by : (number : ℕ) → number ≢ 0 → (before : Option (List ℕ × List ℕ)) (params : Option Params) → IsPrevious number before → IsFirstParams number params → LaterIs (record { previous = before; params = params })
later_by number other (Some q) None a b = (q.0, (a.1, (q.1, (a.2, refl))))
later_by number other (Some q) (Some p) a b = absurd (other b.0)
later_by number other None params a b = absurd (other a)

links_by : (number : ℕ) (b : Bool) → eqb number 0 ≡ b → Reads (cond b first_links_at later_links_at) links_text (IsLinks number) Always
links_by number true e =
    let zero : number ≡ 0 = eqb-true number 0 e in
    reads_as first_links_at links_text FirstIs (IsLinks number) Always (first_to number zero) (λ x h. first_by number zero x.previous x.params h.previous h.params) first_steps
links_by number false e =
    let other : number ≢ 0 = eqb-false number 0 e in
    reads_as later_links_at links_text LaterIs (IsLinks number) Always (later_to number other) (λ x h. later_by number other x.previous x.params h.previous h.params) later_steps

pub links_reads : (number : ℕ) → Reads (links_at number) links_text (IsLinks number) Always
links_reads number = links_by number (eqb number 0) refl

-- ---- InnerHash, Nonce and the signature

pub record IsClosing (x : Closing) : Type 0 where
  pub inner_hash : is_hash x.inner_hash ≡ true
  pub nonce : IsNumber x.nonce
  pub sig : is_sig x.sig ≡ true

abbrev pub closing_text : Closing → Rows
closing_text x = (codes "InnerHash: " ++ x.inner_hash) ∷ (codes "Nonce: " ++ decimal x.nonce) ∷ x.sig ∷ []

abbrev ClosingIs : Closing → Type 0
ClosingIs x = Unit {0} × (Passes is_hash x.inner_hash × (IsNumber x.nonce × (Passes is_sig x.sig × Unit {0})))

closing_steps : Reads closing_at closing_text ClosingIs Always
unfolding closing_at
closing_steps =
    then_reads _ _ _ _ _ _ (λ x. x.inner_hash) _ _ (line_reads _ _ _ (named_spelled (codes "InnerHash: ") _ _ _ refl hash_spelled)) (λ inner_hash is_inner_hash.
    then_reads _ _ _ _ _ _ (λ x. x.nonce) _ _ (line_reads _ _ _ (named_spelled (codes "Nonce: ") _ _ _ refl number_spelled)) (λ nonce is_nonce.
    then_reads _ _ _ _ _ _ (λ x. x.sig) _ _ (line_reads _ _ _ sig_spelled) (λ sig is_sig.
    gives_reads _ _ _ (((tt, refl), refl), refl) (λ x k. λ i. record { inner_hash = k.0.0.1 i; nonce = k.0.1 i; sig = k.1 i }))))

pub closing_reads : Reads closing_at closing_text IsClosing Always
closing_reads = reads_as closing_at closing_text ClosingIs IsClosing Always
    (λ x h. record { inner_hash = h.1.0; nonce = h.1.1.0; sig = h.1.1.1.0 })
    (λ x is. (tt, (is.inner_hash, (is.nonce, (is.sig, tt)))))
    closing_steps
