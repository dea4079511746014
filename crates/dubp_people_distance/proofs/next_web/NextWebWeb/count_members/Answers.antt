use Rattle.dubp_people_distance.proofs.Made.{count_made, order_made}
use Rattle.dubp_people_distance.proofs.next_web.NextWebWeb.count_members.Goals as goal

pub returns-clause-count : goal.returns-clause-count
returns-clause-count g c = λ keys pairs shown. count_made shown.0 shown.1 _ _ _ _ shown.2.1.0 keys pairs shown.2.1.1

pub returns-clause-in_order : goal.returns-clause-in_order
returns-clause-in_order g c = λ keys pairs shown. order_made shown.0 shown.1 _ _ _ _ shown.2.1.0 keys pairs shown.2.1.1
