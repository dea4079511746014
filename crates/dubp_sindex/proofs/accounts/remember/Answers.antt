use Rattle.std.proofs.Common.{Some, Ok, Err, OnOk, OnErr, ◌≡◌, sym, subst}
use Rattle.std.specs.HashMap.{get, IsUnchanged, Updates}
use Rattle.std.specs.Map.{lookup}
use Rattle.std.specs.Option.{IfSome}
use Rattle.dubp_atoms.specs.Same.{same_text}
use Rattle.dubp_sindex.specs.Numbering.{number_of, signed_text}
use Rattle.dubp_sindex.proofs.Texts.{numbers_with}
use Rattle.dubp_sindex.proofs.accounts.remember.Goals as goal

pub returns : goal.returns
returns c = λ texts is are k.
    let old = c.args.signed.now in
    let new = c.insert.new.self in
    let key = c.args.key.now in
    let n = c.args.number in
    elim c.insert.result as (λ r. OnOk r (Updates same_text old new key (Some n)) → OnErr r (IsUnchanged old new)
    → IfSome (get same_text new k) (λ m. number_of texts (signed_text k) ≡ Some m)) [
      | Ok was ↦ λ put _. numbers_with old new texts key n is put.0 are k
      | Err error ↦ λ _ same. subst (λ entries. IfSome (lookup (same_text k) entries) (λ m. number_of texts (signed_text k) ≡ Some m)) (sym same) (are k)
    ] c.insert.ensures.updates c.insert.ensures.err
