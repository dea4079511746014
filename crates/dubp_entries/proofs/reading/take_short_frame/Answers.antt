use Rattle.std.proofs.Common.{◌≡◌, ◌+◌, ◌<◌, ◌≤◌, ◌-◌, ◌∷◌, ◌++◌, ap, sym, subst, ◌∙◌, arith, rules, length, take, drop, get_or, length-drop, length-take-le}
use Rattle.std.proofs.lemmas.List.{take_all}
use Rattle.dubp_entries.specs.Entries.{Frame, HeadsFrame}
use Rattle.dubp_entries.proofs.Wholes.{framed_heads, framed_short, heads_len}
use Rattle.dubp_entries.proofs.Taking.{frame_waits, frame_bytes}
use Rattle.dubp_entries.proofs.reading.take_short_frame.Goals as goal

pub returns-then-behind-len : goal.returns-then-behind-len
returns-then-behind-len c =
    let hand = c.args.hand.now in
    let n = length-drop (c.args.end + 1) hand in
    let head : HeadsFrame (take c.args.end hand) c.args.len = subst (HeadsFrame (take c.args.end hand)) c.requires.len (framed_heads (take c.args.end hand) c.args.framed c.requires.head) in
    let short_line : length (take c.args.end hand) ≤ 22 = framed_short (take c.args.end hand) c.args.framed c.requires.head in
    let short : length (drop (c.args.end + 1) hand) ≤ c.args.len = omega arith in
    let fits : length hand ≤ 1048600 = omega (arith, length-take-le c.args.end hand (omega arith)) in
    (fits, λ bytes e. frame_waits hand bytes c.args.end c.args.len c.requires.line.0 c.requires.line.1 (heads_len _ _ head) short e)

pub returns : goal.returns
returns c =
    let hand = c.args.hand.now in
    let behind = take (length hand - (c.args.end + 1)) (drop (c.args.end + 1) hand) in
    let same : behind ≡ drop (c.args.end + 1) hand = take_all (length hand - (c.args.end + 1)) (drop (c.args.end + 1) hand) (omega (arith, length-drop (c.args.end + 1) hand)) in
    let n = ap length same ∙ length-drop (c.args.end + 1) hand in
    let within : c.args.len < length behind = omega (arith, n) in
    let long : length (take c.args.len behind) ≡ c.args.len = length-take-le c.args.len behind (omega arith) in
    let head : HeadsFrame (take c.args.end hand) c.args.len = subst (HeadsFrame (take c.args.end hand)) c.requires.len (framed_heads (take c.args.end hand) c.args.framed c.requires.head) in (
      omega arith,
      omega (arith, n),
      λ bytes e. record {
        command = Frame (take c.args.end hand) (take c.args.len behind) (get_or behind c.args.len 0);
        bytes_are = frame_bytes hand bytes behind c.args.end c.args.len (c.requires.line.1 ∙ ap (λ t. take c.args.end hand ++ 10 ∷ t) (sym same)) same within e;
        whole = (c.requires.line.0, subst (HeadsFrame (take c.args.end hand)) (sym long) head);
        shows = (take c.args.end hand, search rules, c.requires.head, c.requires.len ∙ sym long, omega (arith, long, c.requires.fits));
      },
    )
