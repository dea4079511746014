-- How the code reads parameters, field after field. The laws that join it to the spelling stand in the contract of `read_params`.
use Rattle.std.specs.Prelude.{ℕ, List, Option, Some}
use Rattle.dubp_atoms.specs.Letters.{COLON}
use Rattle.dubp_atoms.specs.Reading.{◌>>=◌, cut_at, number_of, dec_of}
use Rattle.dubp_params.specs.declared.params.Params.{Params}
use Rattle.dubp_params.specs.declared.reading.FirstFive.{FirstFive}
use Rattle.dubp_params.specs.declared.reading.SecondFive.{SecondFive}
use Rattle.dubp_params.specs.declared.reading.ThirdFive.{ThirdFive}
use Rattle.dubp_params.specs.declared.reading.LastFive.{LastFive}

-- a field before a `:`, and what stands behind it
abbrev pub field_at : {A : Type 0} → (List ℕ → Option A) → List ℕ → Option (A × List ℕ)
field_at read text = do
  parts ← cut_at COLON text
  value ← read parts.0
  Some (value, parts.1)

unfoldable pub first_at : List ℕ → Option (FirstFive × List ℕ)
first_at text = do
  c ← field_at dec_of text
  dt ← field_at number_of c.1
  ud0 ← field_at number_of dt.1
  sig_period ← field_at number_of ud0.1
  sig_stock ← field_at number_of sig_period.1
  Some (record { c = c.0; dt = dt.0; ud0 = ud0.0; sig_period = sig_period.0; sig_stock = sig_stock.0 }, sig_stock.1)

unfoldable pub second_at : List ℕ → Option (SecondFive × List ℕ)
second_at text = do
  sig_window ← field_at number_of text
  sig_validity ← field_at number_of sig_window.1
  sig_qty ← field_at number_of sig_validity.1
  idty_window ← field_at number_of sig_qty.1
  ms_window ← field_at number_of idty_window.1
  Some (record { sig_window = sig_window.0; sig_validity = sig_validity.0; sig_qty = sig_qty.0; idty_window = idty_window.0; ms_window = ms_window.0 }, ms_window.1)

unfoldable pub third_at : List ℕ → Option (ThirdFive × List ℕ)
third_at text = do
  xpercent ← field_at dec_of text
  ms_validity ← field_at number_of xpercent.1
  step_max ← field_at number_of ms_validity.1
  median_time_blocks ← field_at number_of step_max.1
  avg_gen_time ← field_at number_of median_time_blocks.1
  Some (record { xpercent = xpercent.0; ms_validity = ms_validity.0; step_max = step_max.0; median_time_blocks = median_time_blocks.0; avg_gen_time = avg_gen_time.0 }, avg_gen_time.1)

unfoldable pub last_at : List ℕ → Option LastFive
last_at text = do
  dt_diff_eval ← field_at number_of text
  percent_rot ← field_at dec_of dt_diff_eval.1
  ud_time0 ← field_at number_of percent_rot.1
  ud_reeval_time0 ← field_at number_of ud_time0.1
  dt_reeval ← number_of ud_reeval_time0.1
  Some (record { dt_diff_eval = dt_diff_eval.0; percent_rot = percent_rot.0; ud_time0 = ud_time0.0; ud_reeval_time0 = ud_reeval_time0.0; dt_reeval = dt_reeval })

abbrev pub made : FirstFive → SecondFive → ThirdFive → LastFive → Params
made first second third last = record {
  c = first.c;
  dt = first.dt;
  ud0 = first.ud0;
  sig_period = first.sig_period;
  sig_stock = first.sig_stock;
  sig_window = second.sig_window;
  sig_validity = second.sig_validity;
  sig_qty = second.sig_qty;
  idty_window = second.idty_window;
  ms_window = second.ms_window;
  xpercent = third.xpercent;
  ms_validity = third.ms_validity;
  step_max = third.step_max;
  median_time_blocks = third.median_time_blocks;
  avg_gen_time = third.avg_gen_time;
  dt_diff_eval = last.dt_diff_eval;
  percent_rot = last.percent_rot;
  ud_time0 = last.ud_time0;
  ud_reeval_time0 = last.ud_reeval_time0;
  dt_reeval = last.dt_reeval;
}

unfoldable pub params_of : List ℕ → Option Params
params_of text = do
  first ← first_at text
  second ← second_at first.1
  third ← third_at second.1
  last ← last_at third.1
  Some (made first.0 second.0 third.0 last)
