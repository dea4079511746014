-- What is read as a command with a frame is that command, and the line of such a command is read as it.
use Rattle.std.proofs.Common.{◌≡◌, ℕ, List, ◌++◌, Option, Some, None, refl, sym, ap, subst, ◌∙◌, decimal}
use Rattle.std.specs.Prelude.{codes, IfSome, option_map}
use Rattle.std.specs.Option.{option_or}
use Rattle.dubp_atoms.specs.Reading.{number_of}
use Rattle.dubp_atoms.specs.Spelling.{IsNumber}
use Rattle.dubp_atoms.proofs.Numbers.{number_found, number_again}
use Rattle.dubp_lines.specs.Taking.{named}
use Rattle.dubp_lines.proofs.Taken.{named_found, named_again}
use Rattle.dubp_replay.specs.declared.command.Command.TheVariants as command
use Rattle.dubp_script.specs.Spelling.{Says}
use Rattle.dubp_script.specs.Framed.{framed_command, framed_of}
use Rattle.dubp_script.specs.declared.framed.Framed.{Framed}
use Rattle.dubp_script.specs.declared.framed.Framed.TheVariants as framed

module _ (word : List ℕ) (line : List ℕ) (len : ℕ) where
  -- a number behind a word
  record IsBehind : Type 0 where
    is : IsNumber len
    text : line ≡ word ++ decimal len

  behind : named word number_of line ≡ Some len → IsBehind
  behind e =
      let n = named_found word number_of line len e in
      let f = number_found n.0 len n.2 in
      record { is = f.0; text = n.1 ∙ ap (λ t. word ++ t) f.1 }

  again : line ≡ word ++ decimal len → IsNumber len → named word number_of line ≡ Some len
  again text is = subst (λ l. named word number_of l ≡ Some len) (sym text) (named_again word number_of (decimal len) len (number_again len is))

block_found : (line : List ℕ) (len : ℕ) → named (codes "BLOCK ") number_of line ≡ Some len → Says line (command.Block len)
block_found line len e = let b = behind (codes "BLOCK ") line len e in record { is = b.is; text = b.text }

offer_found : (line : List ℕ) (len : ℕ) → named (codes "OFFER ") number_of line ≡ Some len → Says line (command.Offer len)
offer_found line len e = let b = behind (codes "OFFER ") line len e in record { is = b.is; text = b.text }

pend_found : (line : List ℕ) (len : ℕ) → named (codes "PEND ") number_of line ≡ Some len → Says line (command.Pend len)
pend_found line len e = let b = behind (codes "PEND ") line len e in record { is = b.is; text = b.text }

-- the first of the three that there is
abbrev first : Option ℕ → Option ℕ → Option ℕ → Option Framed
first block offer pend = option_or (option_map framed.Block block) (option_or (option_map framed.Offer offer) (option_map framed.Pend pend))

one_found : (line : List ℕ) (a b c : Option ℕ) → named (codes "BLOCK ") number_of line ≡ a → named (codes "OFFER ") number_of line ≡ b → named (codes "PEND ") number_of line ≡ c → IfSome (first a b c) (λ f. Says line (framed_command f))
one_found line (Some len) b c p q r = block_found line len p
one_found line None (Some len) c p q r = offer_found line len q
one_found line None None (Some len) p q r = pend_found line len r
one_found line None None None p q r = tt

pub framed_found : (line : List ℕ) → IfSome (framed_of line) (λ f. Says line (framed_command f))
unfolding framed_of
framed_found line = one_found line (named (codes "BLOCK ") number_of line) (named (codes "OFFER ") number_of line) (named (codes "PEND ") number_of line) refl refl refl

-- a line begins with one of the words
no_block : (digits : List ℕ) → named (codes "BLOCK ") number_of (codes "OFFER " ++ digits) ≡ None
no_block digits = refl

no_block_either : (digits : List ℕ) → named (codes "BLOCK ") number_of (codes "PEND " ++ digits) ≡ None
no_block_either digits = refl

no_offer : (digits : List ℕ) → named (codes "OFFER ") number_of (codes "PEND " ++ digits) ≡ None
no_offer digits = refl

pub framed_again : (line : List ℕ) (f : Framed) → Says line (framed_command f) → framed_of line ≡ Some f
unfolding framed_of
framed_again line (framed.Block len) says =
    ap (λ o. first o (named (codes "OFFER ") number_of line) (named (codes "PEND ") number_of line)) (again (codes "BLOCK ") line len says.text says.is)
framed_again line (framed.Offer len) says =
    ap (λ o. first o (named (codes "OFFER ") number_of line) (named (codes "PEND ") number_of line)) (ap (named (codes "BLOCK ") number_of) says.text ∙ no_block (decimal len))
    ∙ ap (λ o. first None o (named (codes "PEND ") number_of line)) (again (codes "OFFER ") line len says.text says.is)
framed_again line (framed.Pend len) says =
    ap (λ o. first o (named (codes "OFFER ") number_of line) (named (codes "PEND ") number_of line)) (ap (named (codes "BLOCK ") number_of) says.text ∙ no_block_either (decimal len))
    ∙ ap (λ o. first None o (named (codes "PEND ") number_of line)) (ap (named (codes "OFFER ") number_of) says.text ∙ no_offer (decimal len))
    ∙ ap (λ o. first None None o) (again (codes "PEND ") line len says.text says.is)
