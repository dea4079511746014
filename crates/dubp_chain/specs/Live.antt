-- Which certifications are live, how many a key has received and issued, and who is to be excluded. Protocol: certifications.
use Rattle.std.specs.Prelude.{ℕ, ◌+◌, Bool, false, ◌&&◌, ◌||◌, List, Option, option_map, unwrap_or, map, filter, nat_lt}
use Rattle.std.specs.Option.{option_map_or}
use Rattle.std.specs.List.{flat_map}
use Rattle.dubp_time.specs.OfAtoms.{Text, same_text}
use Rattle.dubp_time.specs.OfAtoms.{received_of, stock_of}
use Rattle.dubp_block.specs.declared.block.CertLine.{CertLine}
use Rattle.dubp_chain.specs.Chains.{Chain, params}
use Rattle.dubp_chain.specs.Members.{members}
use Rattle.dubp_chain.specs.Heads.{time_of}
use Rattle.dubp_chain.specs.Made.{certification_made}
use Rattle.dubp_chain.specs.People.{Written, last_line, revoked, expired}

-- the last certification from a to b; earlier lines of the pair do not count
abbrev pub certification : Chain → Text → Text → Option (Written CertLine)
certification c a b = last_line (λ block. block.certifications) (λ line. same_text a line.from && same_text b line.to) c

-- the last certification from a
abbrev pub last_from : Chain → Text → Option (Written CertLine)
last_from c a = last_line (λ block. block.certifications) (λ line. same_text a line.from) c

-- the number of its block
abbrev pub wrote : Chain → Text → Option ℕ
wrote c a = option_map (λ w. w.block.number) (last_from c a)

-- when it was made; a line without a time counts as made at 0, and no answer depends on it
abbrev pub made_of : Written CertLine → ℕ
made_of w = unwrap_or (certification_made w.before w.block w.line) 0

-- it lasts sigValidity seconds: at that time it is live no more
abbrev pub end_of : Chain → Written CertLine → ℕ
end_of c w = made_of w + (params c).sig_validity

-- by the lines of c, the certification from a to b is live at this time
abbrev pub live_at : ℕ → Chain → Text → Text → Bool
live_at t c a b = option_map_or (λ w. nat_lt t (end_of c w)) (certification c a b) false

abbrev pub live : Chain → Text → Text → Bool
live c = live_at (time_of c) c

-- all pairs of a certification, each as often as it stands in a block
abbrev pub certified_pairs : Chain → List (Text × Text)
certified_pairs c = flat_map (λ b. map (λ line. (line.from, line.to)) b.certifications) c

abbrev pub live_pairs : Chain → List (Text × Text)
live_pairs c = filter (λ p. live c p.0 p.1) (certified_pairs c)

-- how many live certifications k has received, and issued; each pair counts once
abbrev pub received : Chain → Text → ℕ
received c k = received_of (live_pairs c) k

abbrev pub stock : Chain → Text → ℕ
stock c k = stock_of (live_pairs c) k

-- a member who is revoked or expired, or has received less than sigQty
abbrev pub is_kicked : Chain → Text → Bool
is_kicked c k = revoked c k || (expired c k || nat_lt (received c k) (params c).sig_qty)

-- who is to be excluded, by key; nobody of the empty chain
abbrev pub kick : Chain → List Text
kick c = filter (is_kicked c) (members c)
