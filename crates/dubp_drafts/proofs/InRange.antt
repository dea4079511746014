-- A draft with lines that are in range is in range.
use Rattle.std.proofs.Common.{◌≡◌, ℕ, ◌+◌, ◌*◌, ◌%◌, ◌<◌, true, List, refl, inl, arith, lit<, lit≤}
use Rattle.std.specs.List.{All}
use Rattle.std.proofs.lemmas.List.Elements.{All-nil}
use Rattle.dubp_atoms.specs.Letters.{is_currency, is_hash, is_key}
use Rattle.dubp_params.specs.Spelling.{IsParams}
use Rattle.dubp_cond.specs.Transactions.{IsTx}
use Rattle.dubp_cond.specs.declared.tx.Tx.{Tx}
use Rattle.dubp_block.specs.Sections.{IsIdentity, IsMembership, IsRevocation, IsCertification}
use Rattle.dubp_block.specs.Text.{IsBlock}
use Rattle.dubp_block.specs.declared.block.IdentityLine.{IdentityLine}
use Rattle.dubp_block.specs.declared.block.MemberLine.{MemberLine}
use Rattle.dubp_block.specs.declared.block.CertLine.{CertLine}
use Rattle.dubp_drafts.specs.Keys.{key_text}
use Rattle.dubp_drafts.specs.Drafting.{blank, blank_hash, currency, parameters, with_parameters}
use Rattle.dubp_drafts.proofs.Paying.{key_is_key, blank_sig_is_sig}

currency_is_currency : is_currency currency ≡ true
unfolding is_currency
currency_is_currency = refl

blank_hash_is_hash : is_hash blank_hash ≡ true
unfolding is_hash
blank_hash_is_hash = refl

parameters_are_parameters : IsParams parameters
parameters_are_parameters = record {
  c = record { mantissa = lit< tt; places = lit≤ tt };
  dt = lit< tt;
  ud0 = lit< tt;
  sig_period = lit< tt;
  sig_stock = lit< tt;
  sig_window = lit< tt;
  sig_validity = lit< tt;
  sig_qty = lit< tt;
  idty_window = lit< tt;
  ms_window = lit< tt;
  xpercent = record { mantissa = lit< tt; places = lit≤ tt };
  ms_validity = lit< tt;
  step_max = lit< tt;
  median_time_blocks = lit< tt;
  avg_gen_time = lit< tt;
  dt_diff_eval = lit< tt;
  percent_rot = record { mantissa = lit< tt; places = lit≤ tt };
  ud_time0 = lit< tt;
  ud_reeval_time0 = lit< tt;
  dt_reeval = lit< tt;
}

pub with_lines_is_block : (n : ℕ) (identities : List IdentityLine) (joiners actives : List MemberLine) (certifications : List CertLine) (transactions : List Tx)
    → n < 5000
    → All IsIdentity identities
    → All IsMembership joiners
    → All IsMembership actives
    → All IsCertification certifications
    → All IsTx transactions
    → IsBlock (with_parameters (record (blank (key_text (n % 8)) (1000000 + 60 * n)) { identities = identities; joiners = joiners; actives = actives; certifications = certifications; transactions = transactions }))
with_lines_is_block n identities joiners actives certifications transactions small i j a c t = record {
  version = inl refl;
  currency = currency_is_currency;
  number = lit< tt;
  pow_min = lit< tt;
  time = omega arith;
  median_time = omega arith;
  dividend = tt;
  unit_base = lit≤ tt;
  issuer = key_is_key (n % 8) (omega arith);
  frame = lit< tt;
  frame_var = lit< tt;
  issuers = lit< tt;
  previous = refl;
  params = (refl, parameters_are_parameters);
  members = lit< tt;
  identities = i;
  joiners = j;
  actives = a;
  leavers = All-nil IsMembership;
  revoked = All-nil IsRevocation;
  excluded = All-nil (λ key. is_key key ≡ true);
  certifications = c;
  transactions = t;
  inner_hash = blank_hash_is_hash;
  nonce = lit< tt;
  sig = blank_sig_is_sig;
}
