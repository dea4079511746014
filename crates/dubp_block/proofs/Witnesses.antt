-- Some value of each kind that a line has: the shortest rest of a block is made of them.
use Rattle.std.proofs.Common.{◌≡◌, ℕ, true, List, [], ◌∷◌, refl, arith, lit≤, lit<, ◌≤◌, length, length-append, decimal}
use Rattle.std.specs.Prelude.{codes}
use Rattle.std.proofs.lemmas.Fmt.{length-decimal-le}
use Rattle.std.proofs.lemmas.List.Elements.{All-nil, All-cons}
use Rattle.dubp_atoms.specs.Letters.{is_key, is_hash, is_sig, is_uid, is_currency}
use Rattle.dubp_atoms.specs.Spelling.{IsDec, IsStamp}
use Rattle.dubp_atoms.specs.declared.dec.Dec.{Dec}
use Rattle.dubp_atoms.specs.declared.stamp.Stamp.{Stamp}
use Rattle.dubp_params.specs.Spelling.{IsParams}
use Rattle.dubp_params.specs.declared.params.Params.{Params}
use Rattle.dubp_cond.specs.Tree.{sig, no_items, add_item, CondTree, no_alls, add_all}
use Rattle.dubp_cond.specs.Conditions.{IsCond}
use Rattle.dubp_cond.specs.Sources.{IsInput}
use Rattle.dubp_cond.specs.Unlocks.{IsUnlock, IsUnlockLine, unlock_line_text}
use Rattle.dubp_cond.specs.Outputs.{IsOutput}
use Rattle.dubp_cond.specs.Transactions.{is_comment}
use Rattle.dubp_cond.specs.declared.source.SourceId.TheVariants.{D}
use Rattle.dubp_cond.specs.declared.source.Input.{Input}
use Rattle.dubp_cond.specs.declared.unlock.Unlock.TheVariants as unlocks
use Rattle.dubp_cond.specs.declared.unlock.UnlockLine.{UnlockLine}
use Rattle.dubp_cond.specs.declared.output.Output.{Output}

abbrev pub some_key : List ℕ
some_key = codes "1111111111111111111111111111111111111111111"

pub key_is : is_key some_key ≡ true
unfolding is_key
key_is = refl

abbrev pub some_hash : List ℕ
some_hash = codes "0000000000000000000000000000000000000000000000000000000000000000"

pub hash_is : is_hash some_hash ≡ true
unfolding is_hash
hash_is = refl

abbrev pub some_sig : List ℕ
some_sig = codes "AAAAAAAAAAAAAAAAAAAAAAAAAAAAAAAAAAAAAAAAAAAAAAAAAAAAAAAAAAAAAAAAAAAAAAAAAAAAAAAAAAAAAA=="

pub sig_is : is_sig some_sig ≡ true
unfolding is_sig
sig_is = refl

-- a name of an identity and of a currency
abbrev pub some_name : List ℕ
some_name = codes "aa"

pub uid_is : is_uid some_name ≡ true
unfolding is_uid
uid_is = refl

pub currency_is : is_currency some_name ≡ true
unfolding is_currency
currency_is = refl

pub comment_is : is_comment some_name ≡ true
unfolding is_comment
comment_is = refl

abbrev pub some_stamp : Stamp
some_stamp = record { number = 0; hash = some_hash }

pub stamp_is : IsStamp some_stamp
stamp_is = record { number = omega arith; hash = hash_is }

abbrev zero_dec : Dec
zero_dec = record { mantissa = 0; places = 0 }

dec_is : IsDec zero_dec
dec_is = record { mantissa = omega arith; places = omega arith }

abbrev pub some_params : Params
some_params = record { c = zero_dec; dt = 0; ud0 = 0; sig_period = 0; sig_stock = 0; sig_window = 0; sig_validity = 0; sig_qty = 0; idty_window = 0; ms_window = 0; xpercent = zero_dec; ms_validity = 0; step_max = 0; median_time_blocks = 0; avg_gen_time = 0; dt_diff_eval = 0; percent_rot = zero_dec; ud_time0 = 0; ud_reeval_time0 = 0; dt_reeval = 0 }

pub params_is : IsParams some_params
params_is = record { c = dec_is; dt = omega arith; ud0 = omega arith; sig_period = omega arith; sig_stock = omega arith; sig_window = omega arith; sig_validity = omega arith; sig_qty = omega arith; idty_window = omega arith; ms_window = omega arith; xpercent = dec_is; ms_validity = omega arith; step_max = omega arith; median_time_blocks = omega arith; avg_gen_time = omega arith; dt_diff_eval = omega arith; percent_rot = dec_is; ud_time0 = omega arith; ud_reeval_time0 = omega arith; dt_reeval = omega arith }

abbrev pub some_input : Input
some_input = record { amount = 0; base = 0; source = D some_key 0 }

pub input_is : IsInput some_input
input_is = record { amount = omega arith; base = omega arith; source = (key_is, omega arith) }

abbrev pub some_unlock : UnlockLine
some_unlock = record { input = 0; list = unlocks.Sig 0 ∷ [] }

unlock_short : length (unlock_line_text some_unlock) ≤ 1000
unlock_short =
    let digits : length (decimal 0) ≤ 1 = length-decimal-le 1 0 (omega arith) (lit< tt) (lit< tt) in
    simp (length-append) (omega arith)

pub unlock_is : IsUnlockLine some_unlock
unlock_is = record { input = omega arith; some = omega arith; few = omega arith; each = All-cons IsUnlock (unlocks.Sig 0) [] (omega arith) (All-nil IsUnlock); short = unlock_short }

abbrev some_cond : CondTree
some_cond = add_all (add_item (sig some_key) no_items) no_alls

cond_is : IsCond some_cond
cond_is = record { fits = ((key_is, tt), tt); nests = lit≤ tt; short = lit≤ tt }

abbrev pub some_output : Output
some_output = record { amount = 0; base = 0; cond = some_cond }

pub output_is : IsOutput some_output
output_is = record { amount = omega arith; base = omega arith; cond = cond_is }
