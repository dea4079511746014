use Rattle.std.proofs.Common.{◌∙◌, ◌++◌, ◌∷◌, [], Option, ap, refl, subst, sym}
use Rattle.std.proofs.lemmas.List.{append-nil}
use Rattle.dubp_atoms.specs.Same.{Text}
use Rattle.dubp_undo.specs.MovingTable.{get}
use Rattle.dubp_iindex.specs.Rows.{newest_rows, texts, members}
use Rattle.dubp_iindex.proofs.Walked.{after_of, behind-key, walk-falls, found-next, found-none, AreLeft, all_left, one_less, none_left, put_one, put_all, begins-more}
use Rattle.dubp_iindex.proofs.index.IIndex.put_members.Goals as goal

pub loop-key-init : goal.loop-key-init
loop-key-init c =
    rw c.walk_from-walk.ensures (record {
      over = refl;
      from = refl;
      put = λ s by. (members (newest_rows s), all_left (newest_rows s), refl);
      begins = ([], sym (append-nil c.args.members.now.items));
    })

pub loop-key-smaller : goal.loop-key-smaller
loop-key-smaller c =
    let w = c.loop-key.walk in
    let n = c.next.new.self in
    walk-falls w.map n.map w.from n.from _ c.next.ensures.map c.in-Some.ensures.from c.loop-key.invariant.from c.in-Some.ensures.found

pub loop-key-preserved : goal.loop-key-preserved
loop-key-preserved c =
    let before = c.loop-key.invariant in
    let w = c.loop-key.walk in
    let n = c.next.new.self in
    record {
      over = c.next.ensures.map ∙ before.over;
      from = behind-key _ n.from c.in-Some.ensures.from;
      put = λ s by.
          let was = before.put s by in
          let next = found-next (newest_rows s) w.map (λ q. ap (λ m. get texts m q) before.over ∙ by q) w.from before.from _ c.in-Some.ensures.found in
          let one = one_less (newest_rows s) (after_of w.from) was.0 _ was.1 next in (
            one.0,
            subst (λ (o : Option Text). AreLeft (newest_rows s) o one.0) (sym (ap after_of c.in-Some.ensures.from)) one.2,
            put_one c.args.members.now.items c.loop-key.members.items (members (newest_rows s)) one.0 c.put.new.keys.items was.0 _ was.2 one.1 c.in_ok-put.ensures.put,
          );
      begins = (
        before.begins.0 ++ _ ∷ [],
        begins-more c.args.members.now.items c.loop-key.members.items before.begins.0 c.put.new.keys.items _ before.begins.1 c.in_ok-put.ensures.put,
      );
    }

pub returns-clause-put : goal.returns-clause-put
returns-clause-put c = λ s at.
    let before = c.loop-key.invariant in
    let w = c.loop-key.walk in
    let was = before.put s at.1.1 in
    put_all c.args.members.now.items c.loop-key.members.items (members (newest_rows s)) was.0 was.2
    (none_left (newest_rows s) (after_of w.from) was.0 was.1
    (found-none (newest_rows s) w.map (λ q. ap (λ m. get texts m q) before.over ∙ at.1.1 q) w.from before.from c.in_default.ensures.none))
