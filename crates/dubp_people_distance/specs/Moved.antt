-- Who joins with a block, who leaves and who stays. Protocol: people.
use Rattle.std.specs.Prelude.{◌≡◌, Bool, ◌&&◌, not, ◌∷◌}
use Rattle.dubp_atoms.specs.Same.{Text, same_text}
use Rattle.dubp_block.specs.declared.block.Block.{Block}
use Rattle.dubp_block.specs.declared.block.MemberLine.{MemberLine}
use Rattle.dubp_chain.specs.Chains.{Chain}
use Rattle.dubp_chain.specs.Members.{is_of, member}

-- a member with the block, and none before
abbrev pub joins : Chain → Block → Text → Bool
joins c b k = member (b ∷ c) k && not (member c k)

-- a member before the block, and none with it
abbrev pub leaves : Chain → Block → Text → Bool
leaves c b k = member c k && not (member (b ∷ c) k)

-- a member before the block and with it
abbrev pub stays : Chain → Block → Text → Bool
stays c b k = member c k && member (b ∷ c) k

-- this key, or the key of this line, is k, which joins, and which leaves
abbrev pub is_joining : Chain → Block → Text → MemberLine → Bool
is_joining c b k line = is_of k line && joins c b line.key

abbrev pub is_leaving : Chain → Block → Text → Text → Bool
is_leaving c b k key = same_text k key && leaves c b key

-- a test that says of each key whether it joins, and whether it leaves
abbrev pub SaysWhoJoins : Chain → Block → (Text → Bool) → Type 0
SaysWhoJoins c b test = (k : Text) → test k ≡ joins c b k

abbrev pub SaysWhoLeaves : Chain → Block → (Text → Bool) → Type 0
SaysWhoLeaves c b test = (k : Text) → test k ≡ leaves c b k
