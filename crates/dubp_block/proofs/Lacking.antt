-- No line of a block has LF in it.
use Rattle.std.proofs.Common.{◌≡◌, ℕ, ℤ, pos, negsuc, unsigned_abs, suc, ◌^◌, ◌<◌, List, ◌∷◌, ◌++◌, arith, inl, inr, decimal}
use Rattle.std.specs.Fmt.{signed_decimal}
use Rattle.dubp_atoms.specs.Reading.{Lacks}
use Rattle.dubp_atoms.specs.Spelling.{IsDec, dec_text}
use Rattle.dubp_atoms.specs.declared.dec.Dec.{Dec}
use Rattle.dubp_atoms.proofs.Fields.{Lacks-append, Lacks-cons}
use Rattle.dubp_atoms.proofs.Stamps.{IsApart, line_end, number_lacks}
use Rattle.dubp_params.specs.declared.params.Params.{Params}
use Rattle.dubp_params.specs.Spelling.{IsParams, params_text}
use Rattle.dubp_params.proofs.Lacking.{dec_lacks_by}
use Rattle.dubp_block.specs.Text.{IsVersion}

pub version_small : (n : ℕ) → IsVersion n → n < 2 ^ 53
version_small n (inl e) = omega arith
version_small n (inr e) = omega arith

pub signed_lacks : (b : ℕ) → IsApart b → (z : ℤ) → unsigned_abs z < 2 ^ 53 → Lacks b (signed_decimal z)
signed_lacks b apart (pos n) lt = number_lacks b apart n lt
signed_lacks b apart (negsuc n) lt = Lacks-cons b 45 (decimal (suc n)) (λ e. apart.dash (sym_of 45 b e)) (number_lacks b apart (suc n) lt)
  where
    sym_of : (m n : ℕ) → m ≡ n → n ≡ m
    sym_of m n e = omega arith

-- a field and `:`, and what stands behind them
pub field_lacks : (x rest : List ℕ) → Lacks 10 x → Lacks 10 rest → Lacks 10 (x ++ 58 ∷ rest)
field_lacks x rest l r = Lacks-append 10 x (58 ∷ rest) l (Lacks-cons 10 58 rest (λ e. omega arith) r)

number : (n : ℕ) → n < 2 ^ 53 → Lacks 10 (decimal n)
number n lt = number_lacks 10 line_end n lt

dec : (d : Dec) → IsDec d → Lacks 10 (dec_text d)
dec d is = dec_lacks_by 10 line_end (λ e. omega arith) d is

pub params_lacks : (p : Params) → IsParams p → Lacks 10 (params_text p)
params_lacks p is =
    field_lacks (dec_text p.c) _ (dec p.c is.c) (
    field_lacks (decimal p.dt) _ (number p.dt is.dt) (
    field_lacks (decimal p.ud0) _ (number p.ud0 is.ud0) (
    field_lacks (decimal p.sig_period) _ (number p.sig_period is.sig_period) (
    field_lacks (decimal p.sig_stock) _ (number p.sig_stock is.sig_stock) (
    field_lacks (decimal p.sig_window) _ (number p.sig_window is.sig_window) (
    field_lacks (decimal p.sig_validity) _ (number p.sig_validity is.sig_validity) (
    field_lacks (decimal p.sig_qty) _ (number p.sig_qty is.sig_qty) (
    field_lacks (decimal p.idty_window) _ (number p.idty_window is.idty_window) (
    field_lacks (decimal p.ms_window) _ (number p.ms_window is.ms_window) (
    field_lacks (dec_text p.xpercent) _ (dec p.xpercent is.xpercent) (
    field_lacks (decimal p.ms_validity) _ (number p.ms_validity is.ms_validity) (
    field_lacks (decimal p.step_max) _ (number p.step_max is.step_max) (
    field_lacks (decimal p.median_time_blocks) _ (number p.median_time_blocks is.median_time_blocks) (
    field_lacks (decimal p.avg_gen_time) _ (number p.avg_gen_time is.avg_gen_time) (
    field_lacks (decimal p.dt_diff_eval) _ (number p.dt_diff_eval is.dt_diff_eval) (
    field_lacks (dec_text p.percent_rot) _ (dec p.percent_rot is.percent_rot) (
    field_lacks (decimal p.ud_time0) _ (number p.ud_time0 is.ud_time0) (
    field_lacks (decimal p.ud_reeval_time0) _ (number p.ud_reeval_time0 is.ud_reeval_time0) (
    number p.dt_reeval is.dt_reeval)))))))))))))))))))
