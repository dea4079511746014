-- What is read as a query that is answered in one line is its one text, and the text of such a query is read as it.
use Rattle.std.proofs.Common.{◌≡◌, List, ℕ, Option, Some, None, refl, sym}
use Rattle.std.specs.Prelude.{IfSome, option_map}
use Rattle.dubp_atoms.specs.Letters.{is_key, is_uid}
use Rattle.dubp_atoms.proofs.Fields.{text_again}
use Rattle.dubp_replay.specs.OneLine.{IsOneLine, query_of}
use Rattle.dubp_replay.specs.declared.asked.Asked.{Asked}
use Rattle.dubp_replay.specs.declared.query.Query.{Query}
use Rattle.dubp_replay.specs.declared.query.Query.TheVariants as query
use Rattle.dubp_script.specs.Spelling.{IsQuery, query_text}
use Rattle.dubp_script.specs.Reading.{one_line_of}
use Rattle.dubp_script.proofs.Commands.{cond_text_again, one_line_says}

pub asked_found : (line : List ℕ) (o : Option Asked) → option_map query_of o ≡ one_line_of line → IfSome o (λ a. IsQuery (query_of a) × (line ≡ query_text (query_of a)))
asked_found line (Some a) e = one_line_says line (query_of a) (sym e)
asked_found line None e = tt

pub asked_again : (q : Query) → IsOneLine q → IsQuery q → one_line_of (query_text q) ≡ Some q
unfolding one_line_of
asked_again query.Head one is = refl
asked_again query.Money one is = refl
asked_again (query.Identity key) one is = rw (text_again is_key key is) refl
asked_again (query.Uid uid) one is = rw (text_again is_uid uid is) refl
asked_again (query.Balance cond) one is = rw (cond_text_again cond.items is) refl
asked_again (query.Distance key) one is = rw (text_again is_key key is) refl
asked_again (query.Diff key) one is = rw (text_again is_key key is) refl
asked_again (query.Certs key) one is = absurd one
asked_again (query.Sources cond) one is = absurd one
asked_again (query.Records number) one is = absurd one
asked_again (query.Show number) one is = absurd one
