-- A block sets at most eight keys for each record on people, and eight.
use Rattle.std.proofs.Common.{◌≡◌, ℕ, ◌+◌, ◌*◌, ◌≤◌, List, [], ◌∷◌, ◌++◌, map, length, unwrap_or, refl, ap, ◌∙◌, arith, length-append}
use Rattle.std.specs.List.{flat_map}
use Rattle.std.proofs.lemmas.List.{length-map}
use Rattle.dubp_block.specs.declared.block.Block.{Block}
use Rattle.dubp_block.specs.declared.block.MemberLine.{MemberLine}
use Rattle.dubp_chain.specs.Chains.{Chain}
use Rattle.dubp_chain.specs.Made.{certification_made}
use Rattle.dubp_validity.specs.declared.record.Record.{Record}
use Rattle.dubp_validity.specs.declared.record.Record.TheVariants.{Create, Enter, Exit, Join, Active, Leave, Revoke, Cert}
use Rattle.dubp_validity.specs.Records.{membership_time, line_records, expiry_records, revocation_records, ended_records}
use Rattle.dubp_steps.specs.Steps.{people_records}
use Rattle.dubp_people_apply.specs.Counting.{SetsFit, touching_lines}
use Rattle.dubp_people_apply.specs.Ends.{end_records}

length-twice : {X Y : Type 0} (f : X → List Y) → ((x : X) → length (f x) ≡ 2) → (xs : List X) → length (flat_map f xs) ≡ 2 * length xs
length-twice f two [] = refl
length-twice f two (x ∷ xs) = let a = length-append (f x) (flat_map f xs) in let b = two x in let c = length-twice f two xs in omega (arith, a, b, c)

length-seven : (a j t l r x k : List Record) → length (a ++ (j ++ (t ++ (l ++ (r ++ (x ++ k)))))) ≡ length a + (length j + (length t + (length l + (length r + (length x + length k)))))
length-seven a j t l r x k =
    let e1 = length-append a (j ++ (t ++ (l ++ (r ++ (x ++ k))))) in
    let e2 = length-append j (t ++ (l ++ (r ++ (x ++ k)))) in
    let e3 = length-append t (l ++ (r ++ (x ++ k))) in
    let e4 = length-append l (r ++ (x ++ k)) in
    let e5 = length-append r (x ++ k) in
    let e6 = length-append x k in omega (arith, e1, e2, e3, e4, e5, e6)

length-lines : (c : Chain) (b : Block)
    → length (line_records c b) ≡ length b.identities + (2 * length b.joiners + (length b.actives + (length b.leavers + (length b.revoked + (length b.excluded + length b.certifications)))))
length-lines c b =
    let all = length-seven (map (λ line. Create line.key line.uid line.stamp) b.identities) (flat_map (λ line. Enter line.key ∷ Join line.key (membership_time c b line) ∷ []) b.joiners)
    (map (λ line. Active line.key (membership_time c b line)) b.actives) (map (λ line. Leave line.key (membership_time c b line)) b.leavers) (map (λ line. Revoke line.key) b.revoked) (map Exit b.excluded)
    (map (λ line. Cert line.from line.to (unwrap_or (certification_made c b line) 0)) b.certifications) in
    let i = length-map b.identities (λ line. Create line.key line.uid line.stamp) in
    let j = length-twice (λ (line : MemberLine). Enter line.key ∷ Join line.key (membership_time c b line) ∷ []) (λ line. refl) b.joiners in
    let t = length-map b.actives (λ line. Active line.key (membership_time c b line)) in
    let l = length-map b.leavers (λ line. Leave line.key (membership_time c b line)) in
    let r = length-map b.revoked (λ line. Revoke line.key) in
    let x = length-map b.excluded Exit in
    let k = length-map b.certifications (λ line. Cert line.from line.to (unwrap_or (certification_made c b line) 0)) in
    omega (arith, all, i, j, t, l, r, x, k)

length-people : (c : Chain) (b : Block) → length (people_records c b) ≡ length (line_records c b) + (length (expiry_records c b) + (length (revocation_records c b) + length (ended_records c b)))
length-people c b =
    let a = length-append (line_records c b) (expiry_records c b ++ (revocation_records c b ++ ended_records c b)) in
    let e = length-append (expiry_records c b) (revocation_records c b ++ ended_records c b) in
    let r = length-append (revocation_records c b) (ended_records c b) in omega (arith, a, e, r)

numbers_fit : (i j t l r x k e v n kicked all : ℕ) → all ≡ (i + (2 * j + (t + (l + (r + (x + k)))))) + (e + (v + n)) → kicked ≤ all
    → 4 * (i + j + x) + ((j + t + l + r + v) + (5 * k + 5 * n) + (4 * (j + t) + r + 2 * k + (e + (v + n)))) + kicked + 2 ≤ 8 * all + 8
numbers_fit i j t l r x k e v n kicked all is few = omega (arith, is, few)

pub sets_fit : SetsFit
sets_fit c b kicked few =
    numbers_fit (length b.identities) (length b.joiners) (length b.actives) (length b.leavers) (length b.revoked) (length b.excluded) (length b.certifications) (length (expiry_records c b)) (length (revocation_records c b))
    (length (ended_records c b)) kicked (length (people_records c b)) (length-people c b ∙ ap (λ n. n + (length (expiry_records c b) + (length (revocation_records c b) + length (ended_records c b)))) (length-lines c b)) few

-- the lines that may change who has to be excluded, and the ends, are no more than the records
pub touching_fits : (c : Chain) (b : Block) → touching_lines b + length (end_records c b) ≤ length (people_records c b)
touching_fits c b =
    let all = length-append (line_records c b) (end_records c b) in
    let lines = length-lines c b in
    omega (arith, all, lines)
