-- The one spelling of the twenty parameters, and which lists of values have one. Protocol: parameters.
use Rattle.std.specs.Prelude.{ℕ, List, ◌∷◌, ◌++◌}
use Rattle.std.specs.Fmt.{decimal}
use Rattle.dubp_atoms.specs.Letters.{COLON}
use Rattle.dubp_atoms.specs.Spelling.{IsNumber, IsDec, dec_text}
use Rattle.dubp_params.specs.declared.params.Params.{Params}

-- the fields in order, with `:` between
abbrev pub params_text : Params → List ℕ
params_text p =
    dec_text p.c ++ COLON ∷ (
    decimal p.dt ++ COLON ∷ (
    decimal p.ud0 ++ COLON ∷ (
    decimal p.sig_period ++ COLON ∷ (
    decimal p.sig_stock ++ COLON ∷ (
    decimal p.sig_window ++ COLON ∷ (
    decimal p.sig_validity ++ COLON ∷ (
    decimal p.sig_qty ++ COLON ∷ (
    decimal p.idty_window ++ COLON ∷ (
    decimal p.ms_window ++ COLON ∷ (
    dec_text p.xpercent ++ COLON ∷ (
    decimal p.ms_validity ++ COLON ∷ (
    decimal p.step_max ++ COLON ∷ (
    decimal p.median_time_blocks ++ COLON ∷ (
    decimal p.avg_gen_time ++ COLON ∷ (
    decimal p.dt_diff_eval ++ COLON ∷ (
    dec_text p.percent_rot ++ COLON ∷ (
    decimal p.ud_time0 ++ COLON ∷ (
    decimal p.ud_reeval_time0 ++ COLON ∷ (
    decimal p.dt_reeval)))))))))))))))))))

pub record IsParams (p : Params) : Type 0 where
  pub c : IsDec p.c
  pub dt : IsNumber p.dt
  pub ud0 : IsNumber p.ud0
  pub sig_period : IsNumber p.sig_period
  pub sig_stock : IsNumber p.sig_stock
  pub sig_window : IsNumber p.sig_window
  pub sig_validity : IsNumber p.sig_validity
  pub sig_qty : IsNumber p.sig_qty
  pub idty_window : IsNumber p.idty_window
  pub ms_window : IsNumber p.ms_window
  pub xpercent : IsDec p.xpercent
  pub ms_validity : IsNumber p.ms_validity
  pub step_max : IsNumber p.step_max
  pub median_time_blocks : IsNumber p.median_time_blocks
  pub avg_gen_time : IsNumber p.avg_gen_time
  pub dt_diff_eval : IsNumber p.dt_diff_eval
  pub percent_rot : IsDec p.percent_rot
  pub ud_time0 : IsNumber p.ud_time0
  pub ud_reeval_time0 : IsNumber p.ud_reeval_time0
  pub dt_reeval : IsNumber p.dt_reeval
