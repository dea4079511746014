-- An example of a block with a line in each section, and its lines as they were written by hand. Protocol: block text.
use Rattle.std.specs.Prelude.{ℕ, List, [], ◌∷◌, ◌++◌, codes, negsuc, Some, None}
use Rattle.dubp_atoms.specs.declared.stamp.Stamp.{Stamp}
use Rattle.dubp_cond.specs.Tree.{sig, no_items, add_item, no_alls, add_all}
use Rattle.dubp_cond.specs.declared.source.SourceId.TheVariants.{D}
use Rattle.dubp_cond.specs.declared.unlock.Unlock.TheVariants.{Sig}
use Rattle.dubp_cond.specs.declared.tx.Tx.{Tx}
use Rattle.dubp_block.specs.declared.block.Block.{Block}

abbrev key_a : List ℕ
key_a = codes "4tsFXtKofD6jK8zwLymgXWAoMBzhFx7KNANhtK86mKzA"

abbrev key_b : List ℕ
key_b = codes "1111111111111111111111111111111111111111111"

abbrev sig_a : List ℕ
sig_a = codes "AAAAAAAAAAAAAAAAAAAAAAAAAAAAAAAAAAAAAAAAAAAAAAAAAAAAAAAAAAAAAAAAAAAAAAAAAAAAAAAAAAAAAA=="

abbrev sig_b : List ℕ
sig_b = codes "BBBBBBBBBBBBBBBBBBBBBBBBBBBBBBBBBBBBBBBBBBBBBBBBBBBBBBBBBBBBBBBBBBBBBBBBBBBBBBBBBBBBBB=="

abbrev hash_a : List ℕ
hash_a = codes "213EECFB0EEA61A655E64854E92BE5C3C4F3DE3D12DAD82F421E4DFA250CBB36"

abbrev hash_b : List ℕ
hash_b = codes "9880AB695793A40B4291DC5A5FB6FB082B901AFAD5E758E3B1B90168CFFB80B0"

abbrev stamp_a : Stamp
stamp_a = record { number = 7; hash = hash_a }

abbrev stamp_b : Stamp
stamp_b = record { number = 3; hash = hash_b }

abbrev pub example_transaction : Tx
example_transaction = record {
  stamp = stamp_a;
  locktime = 60;
  issuers = key_a ∷ key_b ∷ [];
  inputs = record { amount = 1000; base = 0; source = D key_a 4 } ∷ [];
  unlocks = record { input = 0; list = Sig 1 ∷ [] } ∷ [];
  outputs = record { amount = 400; base = 0; cond = add_all (add_item (sig key_b) no_items) no_alls } ∷ record { amount = 600; base = 0; cond = add_all (add_item (sig key_a) no_items) no_alls } ∷ [];
  comment = codes "thanks";
  sigs = sig_a ∷ sig_b ∷ [];
}

abbrev pub example_transaction_lines : List (List ℕ)
example_transaction_lines =
    codes "TX:10:2:1:1:2:1:60"
    ∷ (codes "7-" ++ hash_a)
    ∷ key_a
    ∷ key_b
    ∷ (codes "1000:0:D:" ++ key_a ++ codes ":4")
    ∷ codes "0:SIG(1)"
    ∷ (codes "400:0:SIG(" ++ key_b ++ codes ")")
    ∷ (codes "600:0:SIG(" ++ key_a ++ codes ")")
    ∷ codes "thanks"
    ∷ sig_a
    ∷ sig_b
    ∷ []

-- a block behind another, with a dividend
abbrev pub example_block : Block
example_block = record {
  version = 10;
  currency = codes "g1";
  number = 12;
  pow_min = 70;
  time = 1488987127;
  median_time = 1488987000;
  dividend = Some 1000;
  unit_base = 0;
  issuer = key_a;
  frame = 6;
  frame_var = negsuc 4;
  issuers = 1;
  previous = Some (hash_a, key_b);
  params = None;
  members = 59;
  identities = record { key = key_a; sig = sig_a; stamp = stamp_a; uid = codes "alice" } ∷ [];
  joiners = record { key = key_a; sig = sig_b; stamp = stamp_a; identity_stamp = stamp_b; uid = codes "alice" } ∷ [];
  actives = [];
  leavers = record { key = key_b; sig = sig_a; stamp = stamp_b; identity_stamp = stamp_a; uid = codes "bob" } ∷ [];
  revoked = record { key = key_b; sig = sig_b } ∷ [];
  excluded = key_b ∷ [];
  certifications = record { from = key_a; to = key_b; number = 9; sig = sig_a } ∷ record { from = key_b; to = key_a; number = 10; sig = sig_b } ∷ [];
  transactions = example_transaction ∷ [];
  inner_hash = hash_b;
  nonce = 10500;
  sig = sig_b;
}

abbrev pub example_block_lines : List (List ℕ)
example_block_lines =
    (codes "Version: 10"
    ∷ codes "Type: Block"
    ∷ codes "Currency: g1"
    ∷ codes "Number: 12"
    ∷ codes "PoWMin: 70"
    ∷ codes "Time: 1488987127"
    ∷ codes "MedianTime: 1488987000"
    ∷ codes "UniversalDividend: 1000"
    ∷ codes "UnitBase: 0"
    ∷ (codes "Issuer: " ++ key_a)
    ∷ codes "IssuersFrame: 6"
    ∷ codes "IssuersFrameVar: -5"
    ∷ codes "DifferentIssuersCount: 1"
    ∷ (codes "PreviousHash: " ++ hash_a)
    ∷ (codes "PreviousIssuer: " ++ key_b)
    ∷ codes "MembersCount: 59"
    ∷ codes "Identities:"
    ∷ (key_a ++ codes ":" ++ sig_a ++ codes ":7-" ++ hash_a ++ codes ":alice")
    ∷ codes "Joiners:"
    ∷ (key_a ++ codes ":" ++ sig_b ++ codes ":7-" ++ hash_a ++ codes ":3-" ++ hash_b ++ codes ":alice")
    ∷ codes "Actives:"
    ∷ codes "Leavers:"
    ∷ (key_b ++ codes ":" ++ sig_a ++ codes ":3-" ++ hash_b ++ codes ":7-" ++ hash_a ++ codes ":bob")
    ∷ codes "Revoked:"
    ∷ (key_b ++ codes ":" ++ sig_b)
    ∷ codes "Excluded:"
    ∷ key_b
    ∷ codes "Certifications:"
    ∷ (key_a ++ codes ":" ++ key_b ++ codes ":9:" ++ sig_a)
    ∷ (key_b ++ codes ":" ++ key_a ++ codes ":10:" ++ sig_b)
    ∷ codes "Transactions:"
    ∷ example_transaction_lines)
    ++ (codes "InnerHash: " ++ hash_b)
    ∷ codes "Nonce: 10500"
    ∷ sig_b
    ∷ []
