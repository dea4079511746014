-- Who is paid a dividend. Protocol: chains.
use Rattle.std.specs.Prelude.{List, []}
use Rattle.std.specs.Option.{option_map_or}
use Rattle.dubp_atoms.specs.Same.{Text}
use Rattle.dubp_chain.specs.declared.head.Head.{Head}
use Rattle.dubp_chain.specs.Chains.{Chain}
use Rattle.dubp_chain.specs.Members.{members}

-- the members of c by key, where its head has a dividend; else nobody
abbrev pub paid_keys : Chain → Head → List Text
paid_keys c h = option_map_or (λ amount. members c) h.ud []
