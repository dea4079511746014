-- The parts of the records of a block, one behind the other, are its records.
use Rattle.std.proofs.Common.{◌≡◌, ℕ, List, [], ◌∷◌, ◌++◌, map, Option, None, Some, refl, sym, ap, ◌∙◌, append_assoc}
use Rattle.std.specs.Option.{option_map_or}
use Rattle.std.specs.List.{flat_map}
use Rattle.dubp_atoms.specs.Same.{Text}
use Rattle.dubp_block.specs.declared.block.Block.{Block}
use Rattle.dubp_chain.specs.declared.head.Head.{Head}
use Rattle.dubp_chain.specs.Chains.{Chain}
use Rattle.dubp_chain.specs.Heads.{head_of}
use Rattle.dubp_chain.specs.Members.{members}
use Rattle.dubp_chain.specs.Money.{dividends_made, dividends_at}
use Rattle.dubp_validity.specs.declared.record.Record.{Record}
use Rattle.dubp_validity.specs.declared.record.Record.TheVariants.{Dividend}
use Rattle.dubp_validity.specs.Records.{input_of, records, line_records, expiry_records, revocation_records, ended_records, transaction_records, clearing_records}
use Rattle.dubp_kept.specs.declared.left_behind.LeftBehind.{LeftBehind}
use Rattle.dubp_kept.specs.LeftBehind.{left_behind}

-- who was paid, where the head pays something
abbrev paid_by_head : Option Head → List Text → List Text
paid_by_head head keys = option_map_or (λ h. option_map_or (λ amount. keys) h.ud []) head []

same_payment : (number : ℕ) (h : Head) (keys : List Text) → dividends_at number (Some h) (paid_by_head (Some h) keys) ≡ dividends_at number (Some h) keys
same_payment number h keys = by h.ud
  where
    by : (paid : Option ℕ) → dividends_made h.median_time number paid h.unit_base (option_map_or (λ amount. keys) paid []) ≡ dividends_made h.median_time number paid h.unit_base keys
    by None = refl
    by (Some amount) = refl

-- and they are paid what the members are
pub payments_are : (number : ℕ) (head : Option Head) (h : Head) (keys : List Text) → head ≡ Some h → dividends_at number (Some h) (paid_by_head head keys) ≡ dividends_at number head keys
payments_are number head h keys is =
    ap (λ o. dividends_at number (Some h) (paid_by_head o keys)) is ∙ same_payment number h keys ∙ ap (λ o. dividends_at number o keys) (sym is)

-- the lists that are appended in turn
in_turn : (o l e v n t p k o1 o2 o3 o4 o5 : List Record) → o1 ≡ o ++ l → o2 ≡ o1 ++ (e ++ (v ++ n)) → o3 ≡ o2 ++ t → o4 ≡ o3 ++ p → o5 ≡ o4 ++ k → o5 ≡ o ++ (l ++ (e ++ (v ++ (n ++ (t ++ (p ++ k))))))
in_turn o l e v n t p k o1 o2 o3 o4 o5 e1 e2 e3 e4 e5 =
    e5 ∙ ap (λ z. z ++ k) e4 ∙ ap (λ z. (z ++ p) ++ k) e3 ∙ ap (λ z. ((z ++ t) ++ p) ++ k) e2 ∙ ap (λ z. (((z ++ (e ++ (v ++ n))) ++ t) ++ p) ++ k) e1
    ∙ append_assoc (((o ++ l) ++ (e ++ (v ++ n))) ++ t) p k
    ∙ append_assoc ((o ++ l) ++ (e ++ (v ++ n))) t (p ++ k)
    ∙ append_assoc (o ++ l) (e ++ (v ++ n)) (t ++ (p ++ k))
    ∙ append_assoc o l ((e ++ (v ++ n)) ++ (t ++ (p ++ k)))
    ∙ ap (λ z. o ++ (l ++ z)) (append_assoc e (v ++ n) (t ++ (p ++ k)) ∙ ap (λ z. e ++ z) (append_assoc v n (t ++ (p ++ k))))

pub records_put : (c : Chain) (b : Block) (h : Head) (left : LeftBehind) (o o1 o2 o3 o4 o5 : List Record) → head_of (b ∷ c) ≡ Some h → left ≡ left_behind c b
    → o1 ≡ o ++ line_records c b → o2 ≡ o1 ++ left.ended → o3 ≡ o2 ++ flat_map (transaction_records c b) b.transactions
    → o4 ≡ o3 ++ map (λ s. Dividend (input_of s)) (dividends_at b.number (Some h) left.paid) → o5 ≡ o4 ++ left.cleared
    → o5 ≡ o ++ records c b
records_put c b h left o o1 o2 o3 o4 o5 head is e1 e2 e3 e4 e5 =
    in_turn o (line_records c b) (expiry_records c b) (revocation_records c b) (ended_records c b) (flat_map (transaction_records c b) b.transactions) (map (λ s. Dividend (input_of s)) (dividends_at b.number (head_of (b ∷ c)) (members (b ∷ c)))) (clearing_records c b) o1 o2 o3 o4 o5
    e1
    (e2 ∙ ap (λ (l : LeftBehind). o1 ++ l.ended) is)
    e3
    (e4 ∙ ap (λ (l : LeftBehind). o3 ++ map (λ s. Dividend (input_of s)) (dividends_at b.number (Some h) l.paid)) is ∙ ap (λ l. o3 ++ map (λ s. Dividend (input_of s)) l) (payments_are b.number (head_of (b ∷ c)) h (members (b ∷ c)) head))
    (e5 ∙ ap (λ (l : LeftBehind). o4 ++ l.cleared) is)
