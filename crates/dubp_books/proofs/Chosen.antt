-- Who is paid a dividend, by the head of a chain.
use Rattle.std.proofs.Common.{◌≡◌, ◌∷◌, [], ◌++◌, ◌&&◌, not, ℕ, List, Option, Some, None, IfSome, filter, unwrap_or, refl, sym, ap}
use Rattle.std.specs.Option.{option_map_or}
use Rattle.dubp_atoms.specs.Same.{Text}
use Rattle.dubp_block.specs.declared.block.Block.{Block}
use Rattle.dubp_chain.specs.declared.head.Head.{Head}
use Rattle.dubp_chain.specs.Chains.{Chain}
use Rattle.dubp_chain.specs.Heads.{head_of}
use Rattle.dubp_chain.specs.Live.{live, certified_pairs}
use Rattle.dubp_chain.specs.Made.{certification_made}
use Rattle.dubp_chain.specs.Members.{members}
use Rattle.dubp_chain.specs.People.{expired}
use Rattle.dubp_validity.specs.declared.record.Record.TheVariants.{Create, Enter, Exit, Join, Active, Leave, Revoke, Expire, ExpireRev, Cert, CertExpire}
use Rattle.dubp_validity.specs.Records.{membership_time, identity_keys, is_revoked_by_time, pairs_in_order, line_records, expiry_records, revocation_records, ended_records}
use Rattle.dubp_people.specs.OfSteps.{people_records}
use Rattle.dubp_money_rules.specs.OfMoney.{ArePaid}
use Rattle.dubp_kept.specs.LeftBehind.{paid_by}
use Rattle.dubp_books.specs.Paid.{paid_keys}

paid_where : (ud : Option ℕ) (keys paid : List Text) → keys ≡ option_map_or (λ amount. paid) ud [] → IfSome ud (λ amount. keys ≡ paid)
paid_where None keys paid e = tt
paid_where (Some amount) keys paid e = e

pub are_paid : (c : Chain) (h : Head) (keys : List Text) → keys ≡ paid_keys c h → ArePaid c h keys
are_paid c h keys e = paid_where h.ud keys (members c) e

pub paid_by_head : (c : Chain) (b : Block) (h : Head) → head_of (b ∷ c) ≡ Some h → paid_keys (b ∷ c) h ≡ paid_by c b
paid_by_head c b h e = sym (ap (λ o. option_map_or (paid_keys (b ∷ c)) o []) e)
