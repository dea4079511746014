-- The answers on an identity, of the texts that are told of it and of the key that has a uid.
use Rattle.std.proofs.Common.{◌≡◌, ℕ, List, Option, Some, None, option_map, refl}
use Rattle.std.specs.Prelude.{codes}
use Rattle.std.specs.Option.{option_map_or}
use Rattle.dubp_atoms.specs.Same.{Text}
use Rattle.dubp_block.specs.declared.block.IdentityLine.{IdentityLine}
use Rattle.dubp_chain.specs.Chains.{Chain}
use Rattle.dubp_chain.specs.People.{Written}
use Rattle.dubp_replay.specs.Answers.{identity_answer, identity_answer_of, identity_values, none_answer, uid_answer_of, values_line}

-- the answer with these texts, or that there is none
abbrev pub texts_answer : Option (List Text) → List ℕ
texts_answer texts = option_map_or (values_line (codes "IDENTITY")) texts none_answer

pub identity_answered : (c : Chain) (found : Option (Written IdentityLine)) → texts_answer (option_map (identity_values c) found) ≡ identity_answer_of c found
identity_answered c None = refl
identity_answered c (Some w) = refl

-- the answer of the key, or that there is none
abbrev pub key_answer : Chain → Option Text → List ℕ
key_answer c key = option_map_or (identity_answer c) key none_answer

pub uid_answered : (c : Chain) (found : Option IdentityLine) → key_answer c (option_map (λ line. line.key) found) ≡ uid_answer_of c found
uid_answered c None = refl
uid_answered c (Some line) = refl
