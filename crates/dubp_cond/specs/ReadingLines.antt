-- How the code reads sources, inputs, unlock lines and outputs. The laws that join it to the spelling stand in the contracts
-- of `read_input`, `read_unlock` and `read_output`.
use Rattle.std.specs.Prelude.{ℕ, nat_le, List, length, Option, Some, None, if◌then◌else◌, codes}
use Rattle.dubp_atoms.specs.Letters.{COLON, is_key, is_hash}
use Rattle.dubp_atoms.specs.Reading.{◌>>=◌, text_if, number_of, field}
use Rattle.dubp_cond.specs.Unlocks.{is_password}
use Rattle.dubp_cond.specs.Separated.{Read, after, either, read_map, closed, if_last, separated_up_to}
use Rattle.dubp_cond.specs.Reading.{cond_of_text}
use Rattle.dubp_cond.specs.declared.source.SourceId.{SourceId}
use Rattle.dubp_cond.specs.declared.source.SourceId.TheVariants.{D, T}
use Rattle.dubp_cond.specs.declared.source.Input.{Input}
use Rattle.dubp_cond.specs.declared.unlock.Unlock.{Unlock}
use Rattle.dubp_cond.specs.declared.unlock.Unlock.TheVariants.{Sig, Xhx}
use Rattle.dubp_cond.specs.declared.unlock.UnlockLine.{UnlockLine}
use Rattle.dubp_cond.specs.declared.output.Output.{Output}

-- BASE
abbrev pub base_of : List ℕ → Option ℕ
base_of text = number_of text >>= (λ n. if nat_le n 15 then Some n else None)

abbrev pub dividend_of : List ℕ → Option SourceId
dividend_of text = field COLON (text_if is_key) text (λ key rest. number_of rest >>= (λ block. Some (D key block)))

abbrev pub made_output_of : List ℕ → Option SourceId
made_output_of text = field COLON (text_if is_hash) text (λ tx rest. number_of rest >>= (λ index. Some (T tx index)))

unfoldable pub source_of : List ℕ → Option SourceId
source_of text = either (after (codes "D:") text) dividend_of (after (codes "T:") text >>= made_output_of)

unfoldable pub input_of : List ℕ → Option Input
input_of text =
    field COLON number_of text (λ amount rest.
    field COLON base_of rest (λ base rest.
    source_of rest >>= (λ source.
    Some (record { amount = amount; base = base; source = source }))))

abbrev pub unlock_at : Read Unlock
unlock_at text =
    either (after (codes "SIG(") text) (λ r. read_map (λ issuer. Sig issuer) (closed number_of r))
    (after (codes "XHX(") text >>= (λ r. read_map (λ password. Xhx password) (closed (text_if is_password) r)))

abbrev pub unlocks_at : ℕ → Read (List Unlock)
unlocks_at most = separated_up_to unlock_at (codes " ") most

-- 1 to 8 functions that are the whole text
abbrev pub unlocks_of : List ℕ → Option (List Unlock)
unlocks_of text = unlocks_at 8 text >>= if_last

unfoldable pub unlock_line_of : List ℕ → Option UnlockLine
unlock_line_of text =
    if nat_le (length text) 1000
    then field COLON number_of text (λ input rest.
    unlocks_of rest >>= (λ list.
    Some (record { input = input; list = list })))
    else None

unfoldable pub output_of : List ℕ → Option Output
output_of text =
    field COLON number_of text (λ amount rest.
    field COLON base_of rest (λ base rest.
    cond_of_text rest >>= (λ c.
    Some (record { amount = amount; base = base; cond = c }))))
