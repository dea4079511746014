use Rattle.std.proofs.Common.{sym, ◌∙◌, arith, ◌+◌, take, drop, refl}
use Rattle.dubp_entries.specs.Entries.{Line}
use Rattle.dubp_entries.proofs.Cuts.{text_begins_none, line_shape}
use Rattle.dubp_entries.proofs.reading.take_first.Goals as goal

pub returns-in_default : goal.returns-in_default
returns-in_default c = (omega arith, λ bytes e command more w q. text_begins_none c.args.hand.now c.in_default.ensures command more w (sym e ∙ q))

pub returns-in-None : goal.returns-in-None
returns-in-None c =
    let l = c.in-Some.ensures in
    let hand = c.args.hand.now in
    let end = c.in-Some.end in (
      omega arith,
      omega (arith, l.0),
      λ bytes e. record {
        command = Line (take end hand);
        bytes_are = e ∙ l.2 ∙ sym (line_shape (take end hand) (drop (end + 1) hand));
        whole = (l.1, c.in-None.ensures);
        shows = refl;
      },
    )
