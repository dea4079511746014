-- A chain of blocks: its blocks by number, its first block, its parameters and its currency. Protocol: chains.
use Rattle.std.specs.Prelude.{ℕ, List, [], ◌∷◌, reverse, slice_get, Option, Some, None, unwrap_or, option_and_then}
use Rattle.std.specs.Option.{option_map_or}
use Rattle.dubp_time.specs.OfAtoms.{Text}
use Rattle.dubp_time.specs.OfAtoms.{Dec}
use Rattle.dubp_block.specs.declared.block.Block.{Block}
use Rattle.dubp_block.specs.OfParams.{Params}

-- the blocks, newest first: 'the chain with a block behind it' is the list with the block at its front
abbrev pub Chain : Type 0
Chain = List Block

-- the block of a number, of which the first block has 0
abbrev pub block_of_number : Chain → ℕ → Option Block
block_of_number c number = slice_get (reverse c) number

abbrev pub first_block : Chain → Option Block
first_block [] = None
first_block (b ∷ []) = Some b
first_block (b ∷ a ∷ c) = first_block (a ∷ c)

-- where nothing sets parameters, none are asked for, and these are all 0
abbrev pub no_dec : Dec
no_dec = record { mantissa = 0; places = 0 }

abbrev pub no_params : Params
no_params = record {
  c = no_dec;
  dt = 0;
  ud0 = 0;
  sig_period = 0;
  sig_stock = 0;
  sig_window = 0;
  sig_validity = 0;
  sig_qty = 0;
  idty_window = 0;
  ms_window = 0;
  xpercent = no_dec;
  ms_validity = 0;
  step_max = 0;
  median_time_blocks = 0;
  avg_gen_time = 0;
  dt_diff_eval = 0;
  percent_rot = no_dec;
  ud_time0 = 0;
  ud_reeval_time0 = 0;
  dt_reeval = 0;
}

-- the parameters and the currency are those of the first block
abbrev pub params : Chain → Params
params c = unwrap_or (option_and_then (λ b. b.params) (first_block c)) no_params

abbrev pub currency : Chain → Text
currency c = option_map_or (λ b. b.currency) (first_block c) []
