-- What is read as parameters is their one text, and that text is read. The fields go in four groups of five: each group has two
-- lemmas, found and again, and the parameters have them from their groups.
use Rattle.std.proofs.Common.{◌≡◌, ℕ, List, ◌∷◌, ◌++◌, Option, Some, None, refl, sym, ap, subst, ◌∙◌, arith, decimal}
use Rattle.std.specs.Prelude.{IfSome}
use Rattle.dubp_atoms.specs.Letters.{COLON}
use Rattle.dubp_atoms.specs.Reading.{◌>>=◌, number_of, dec_of}
use Rattle.dubp_atoms.specs.Spelling.{IsNumber, IsDec, dec_text}
use Rattle.dubp_atoms.specs.declared.dec.Dec.{Dec}
use Rattle.dubp_atoms.proofs.Numbers.{bind_some, some_is, number_found, number_again}
use Rattle.dubp_atoms.proofs.Decs.{dec_found, dec_again}
use Rattle.dubp_atoms.proofs.Stamps.{colon, number_lacks}
use Rattle.dubp_params.proofs.Fields.{Step, step, field_again, behind}
use Rattle.dubp_params.proofs.Lacking.{dec_lacks_by}
use Rattle.dubp_params.specs.declared.params.Params.{Params}
use Rattle.dubp_params.specs.declared.reading.FirstFive.{FirstFive}
use Rattle.dubp_params.specs.declared.reading.SecondFive.{SecondFive}
use Rattle.dubp_params.specs.declared.reading.ThirdFive.{ThirdFive}
use Rattle.dubp_params.specs.declared.reading.LastFive.{LastFive}
use Rattle.dubp_params.specs.Spelling.{params_text, IsParams}
use Rattle.dubp_params.specs.Reading.{field_at, first_at, second_at, third_at, last_at, made, params_of}

-- ---- a field

number_step : {V : Type 0} (text : List ℕ) (next : ℕ × List ℕ → Option V) (v : V) → (field_at number_of text >>= next) ≡ Some v → Step decimal IsNumber text next v
number_step text next v e = step number_of decimal IsNumber number_found text next v e

dec_step : {V : Type 0} (text : List ℕ) (next : Dec × List ℕ → Option V) (v : V) → (field_at dec_of text >>= next) ≡ Some v → Step dec_text IsDec text next v
dec_step text next v e = step dec_of dec_text IsDec dec_found text next v e

number_field : (n : ℕ) (rest : List ℕ) → IsNumber n → field_at number_of (decimal n ++ COLON ∷ rest) ≡ Some (n, rest)
number_field n rest is = field_again number_of (decimal n) rest n (number_lacks 58 colon n is) (number_again n is)

dec_field : (d : Dec) (rest : List ℕ) → IsDec d → field_at dec_of (dec_text d ++ COLON ∷ rest) ≡ Some (d, rest)
dec_field d rest is = field_again dec_of (dec_text d) rest d (dec_lacks_by 58 colon (λ e. omega arith) d is) (dec_again d is)

-- ---- the first five

abbrev first_text : FirstFive → List ℕ → List ℕ
first_text x rest = dec_text x.c ++ COLON ∷ (decimal x.dt ++ COLON ∷ (decimal x.ud0 ++ COLON ∷ (decimal x.sig_period ++ COLON ∷ (decimal x.sig_stock ++ COLON ∷ rest))))

abbrev IsFirstFive : FirstFive → Type 0
IsFirstFive x = IsDec x.c × IsNumber x.dt × IsNumber x.ud0 × IsNumber x.sig_period × IsNumber x.sig_stock

first_found : (text : List ℕ) (x : FirstFive) (rest : List ℕ) → first_at text ≡ Some (x, rest) → IsFirstFive x × (text ≡ first_text x rest)
unfolding first_at
first_found text x rest e =
    let t0 = dec_step text _ _ e in
    let t1 = number_step t0.rest _ _ t0.goes_on in
    let t2 = number_step t1.rest _ _ t1.goes_on in
    let t3 = number_step t2.rest _ _ t2.goes_on in
    let t4 = number_step t3.rest _ _ t3.goes_on in
    let got : FirstFive × List ℕ = (record { c = t0.value; dt = t1.value; ud0 = t2.value; sig_period = t3.value; sig_stock = t4.value }, t4.rest) in
    let whole : text ≡ first_text got.0 got.1 = behind _ (dec_text t0.value) _ _ t0.parts (behind _ (decimal t1.value) _ _ t1.parts (behind _ (decimal t2.value) _ _ t2.parts (behind _ (decimal t3.value) _ _ t3.parts (t4.parts)))) in
    subst (λ (y : FirstFive × List ℕ). IsFirstFive y.0 × (text ≡ first_text y.0 y.1)) (some_is got (x, rest) t4.goes_on) ((t0.is, t1.is, t2.is, t3.is, t4.is), whole)

first_again : (x : FirstFive) (rest : List ℕ) → IsFirstFive x → first_at (first_text x rest) ≡ Some (x, rest)
unfolding first_at
first_again x rest is =
    rw (dec_field x.c _ is.0, number_field x.dt _ is.1, number_field x.ud0 _ is.2, number_field x.sig_period _ is.3, number_field x.sig_stock _ is.4) refl

-- ---- the second five

abbrev second_text : SecondFive → List ℕ → List ℕ
second_text x rest = decimal x.sig_window ++ COLON ∷ (decimal x.sig_validity ++ COLON ∷ (decimal x.sig_qty ++ COLON ∷ (decimal x.idty_window ++ COLON ∷ (decimal x.ms_window ++ COLON ∷ rest))))

abbrev IsSecondFive : SecondFive → Type 0
IsSecondFive x = IsNumber x.sig_window × IsNumber x.sig_validity × IsNumber x.sig_qty × IsNumber x.idty_window × IsNumber x.ms_window

second_found : (text : List ℕ) (x : SecondFive) (rest : List ℕ) → second_at text ≡ Some (x, rest) → IsSecondFive x × (text ≡ second_text x rest)
unfolding second_at
second_found text x rest e =
    let t0 = number_step text _ _ e in
    let t1 = number_step t0.rest _ _ t0.goes_on in
    let t2 = number_step t1.rest _ _ t1.goes_on in
    let t3 = number_step t2.rest _ _ t2.goes_on in
    let t4 = number_step t3.rest _ _ t3.goes_on in
    let got : SecondFive × List ℕ = (record { sig_window = t0.value; sig_validity = t1.value; sig_qty = t2.value; idty_window = t3.value; ms_window = t4.value }, t4.rest) in
    let whole : text ≡ second_text got.0 got.1 = behind _ (decimal t0.value) _ _ t0.parts (behind _ (decimal t1.value) _ _ t1.parts (behind _ (decimal t2.value) _ _ t2.parts (behind _ (decimal t3.value) _ _ t3.parts (t4.parts)))) in
    subst (λ (y : SecondFive × List ℕ). IsSecondFive y.0 × (text ≡ second_text y.0 y.1)) (some_is got (x, rest) t4.goes_on) ((t0.is, t1.is, t2.is, t3.is, t4.is), whole)

second_again : (x : SecondFive) (rest : List ℕ) → IsSecondFive x → second_at (second_text x rest) ≡ Some (x, rest)
unfolding second_at
second_again x rest is =
    rw (number_field x.sig_window _ is.0, number_field x.sig_validity _ is.1, number_field x.sig_qty _ is.2, number_field x.idty_window _ is.3, number_field x.ms_window _ is.4) refl

-- ---- the third five

abbrev third_text : ThirdFive → List ℕ → List ℕ
third_text x rest = dec_text x.xpercent ++ COLON ∷ (decimal x.ms_validity ++ COLON ∷ (decimal x.step_max ++ COLON ∷ (decimal x.median_time_blocks ++ COLON ∷ (decimal x.avg_gen_time ++ COLON ∷ rest))))

abbrev IsThirdFive : ThirdFive → Type 0
IsThirdFive x = IsDec x.xpercent × IsNumber x.ms_validity × IsNumber x.step_max × IsNumber x.median_time_blocks × IsNumber x.avg_gen_time

third_found : (text : List ℕ) (x : ThirdFive) (rest : List ℕ) → third_at text ≡ Some (x, rest) → IsThirdFive x × (text ≡ third_text x rest)
unfolding third_at
third_found text x rest e =
    let t0 = dec_step text _ _ e in
    let t1 = number_step t0.rest _ _ t0.goes_on in
    let t2 = number_step t1.rest _ _ t1.goes_on in
    let t3 = number_step t2.rest _ _ t2.goes_on in
    let t4 = number_step t3.rest _ _ t3.goes_on in
    let got : ThirdFive × List ℕ = (record { xpercent = t0.value; ms_validity = t1.value; step_max = t2.value; median_time_blocks = t3.value; avg_gen_time = t4.value }, t4.rest) in
    let whole : text ≡ third_text got.0 got.1 = behind _ (dec_text t0.value) _ _ t0.parts (behind _ (decimal t1.value) _ _ t1.parts (behind _ (decimal t2.value) _ _ t2.parts (behind _ (decimal t3.value) _ _ t3.parts (t4.parts)))) in
    subst (λ (y : ThirdFive × List ℕ). IsThirdFive y.0 × (text ≡ third_text y.0 y.1)) (some_is got (x, rest) t4.goes_on) ((t0.is, t1.is, t2.is, t3.is, t4.is), whole)

third_again : (x : ThirdFive) (rest : List ℕ) → IsThirdFive x → third_at (third_text x rest) ≡ Some (x, rest)
unfolding third_at
third_again x rest is =
    rw (dec_field x.xpercent _ is.0, number_field x.ms_validity _ is.1, number_field x.step_max _ is.2, number_field x.median_time_blocks _ is.3, number_field x.avg_gen_time _ is.4) refl

-- ---- the last five

abbrev last_text : LastFive → List ℕ
last_text x = decimal x.dt_diff_eval ++ COLON ∷ (dec_text x.percent_rot ++ COLON ∷ (decimal x.ud_time0 ++ COLON ∷ (decimal x.ud_reeval_time0 ++ COLON ∷ (decimal x.dt_reeval))))

abbrev IsLastFive : LastFive → Type 0
IsLastFive x = IsNumber x.dt_diff_eval × IsDec x.percent_rot × IsNumber x.ud_time0 × IsNumber x.ud_reeval_time0 × IsNumber x.dt_reeval

last_found : (text : List ℕ) (x : LastFive) → last_at text ≡ Some x → IsLastFive x × (text ≡ last_text x)
unfolding last_at
last_found text x e =
    let t0 = number_step text _ _ e in
    let t1 = dec_step t0.rest _ _ t0.goes_on in
    let t2 = number_step t1.rest _ _ t1.goes_on in
    let t3 = number_step t2.rest _ _ t2.goes_on in
    let z = bind_some (number_of t3.rest) _ _ t3.goes_on in
    let n = number_found t3.rest z.0 z.1 in
    let got : LastFive = record { dt_diff_eval = t0.value; percent_rot = t1.value; ud_time0 = t2.value; ud_reeval_time0 = t3.value; dt_reeval = z.0 } in
    let whole : text ≡ last_text got = behind _ (decimal t0.value) _ _ t0.parts (behind _ (dec_text t1.value) _ _ t1.parts (behind _ (decimal t2.value) _ _ t2.parts (behind _ (decimal t3.value) _ _ t3.parts (n.1)))) in
    subst (λ (y : LastFive). IsLastFive y × (text ≡ last_text y)) (some_is got x z.2) ((t0.is, t1.is, t2.is, t3.is, n.0), whole)

last_again : (x : LastFive) → IsLastFive x → last_at (last_text x) ≡ Some x
unfolding last_at
last_again x is =
    rw (number_field x.dt_diff_eval _ is.0, dec_field x.percent_rot _ is.1, number_field x.ud_time0 _ is.2, number_field x.ud_reeval_time0 _ is.3, number_again x.dt_reeval is.4) refl

-- ---- the parameters

abbrev first_of : Params → FirstFive
first_of p = record { c = p.c; dt = p.dt; ud0 = p.ud0; sig_period = p.sig_period; sig_stock = p.sig_stock }

abbrev second_of : Params → SecondFive
second_of p = record { sig_window = p.sig_window; sig_validity = p.sig_validity; sig_qty = p.sig_qty; idty_window = p.idty_window; ms_window = p.ms_window }

abbrev third_of : Params → ThirdFive
third_of p = record { xpercent = p.xpercent; ms_validity = p.ms_validity; step_max = p.step_max; median_time_blocks = p.median_time_blocks; avg_gen_time = p.avg_gen_time }

abbrev last_of : Params → LastFive
last_of p = record { dt_diff_eval = p.dt_diff_eval; percent_rot = p.percent_rot; ud_time0 = p.ud_time0; ud_reeval_time0 = p.ud_reeval_time0; dt_reeval = p.dt_reeval }

pub params_found : (text : List ℕ) (p : Params) → params_of text ≡ Some p → IsParams p × (text ≡ params_text p)
unfolding params_of
params_found text p e =
    let b0 = bind_some (first_at text) _ _ e in
    let b1 = bind_some (second_at b0.0.1) _ _ b0.2 in
    let b2 = bind_some (third_at b1.0.1) _ _ b1.2 in
    let b3 = bind_some (last_at b2.0.1) _ _ b2.2 in
    let f0 = first_found text b0.0.0 b0.0.1 b0.1 in
    let f1 = second_found b0.0.1 b1.0.0 b1.0.1 b1.1 in
    let f2 = third_found b1.0.1 b2.0.0 b2.0.1 b2.1 in
    let f3 = last_found b2.0.1 b3.0 b3.1 in
    let got : Params = made b0.0.0 b1.0.0 b2.0.0 b3.0 in
    let is : IsParams got = record { c = f0.0.0; dt = f0.0.1; ud0 = f0.0.2; sig_period = f0.0.3; sig_stock = f0.0.4; sig_window = f1.0.0; sig_validity = f1.0.1; sig_qty = f1.0.2; idty_window = f1.0.3; ms_window = f1.0.4; xpercent = f2.0.0; ms_validity = f2.0.1; step_max = f2.0.2; median_time_blocks = f2.0.3; avg_gen_time = f2.0.4; dt_diff_eval = f3.0.0; percent_rot = f3.0.1; ud_time0 = f3.0.2; ud_reeval_time0 = f3.0.3; dt_reeval = f3.0.4 } in
    let whole : text ≡ params_text got = f0.1 ∙ ap (first_text b0.0.0) (f1.1 ∙ ap (second_text b1.0.0) (f2.1 ∙ ap (third_text b2.0.0) f3.1)) in
    subst (λ (x : Params). IsParams x × (text ≡ params_text x)) (some_is got p b3.2) (is, whole)

pub params_again : (p : Params) → IsParams p → params_of (params_text p) ≡ Some p
unfolding params_of
params_again p is =
    rw (
      first_again (first_of p) _ (is.c, is.dt, is.ud0, is.sig_period, is.sig_stock),
      second_again (second_of p) _ (is.sig_window, is.sig_validity, is.sig_qty, is.idty_window, is.ms_window),
      third_again (third_of p) _ (is.xpercent, is.ms_validity, is.step_max, is.median_time_blocks, is.avg_gen_time),
      last_again (last_of p) (is.dt_diff_eval, is.percent_rot, is.ud_time0, is.ud_reeval_time0, is.dt_reeval),
    ) refl

pub params_is_found : (text : List ℕ) (o : Option Params) → o ≡ params_of text → IfSome o (λ p. IsParams p × (text ≡ params_text p))
params_is_found text (Some p) e = params_found text p (sym e)
params_is_found text None e = tt
