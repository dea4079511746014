-- A block has fewer lines than its text has bytes.
use Rattle.std.proofs.Common.{◌≡◌, ◌≤◌, ◌+◌, ℕ, suc, List, [], ◌∷◌, ◌++◌, codes, decimal, length, map, refl, ap, arith, length-append}
use Rattle.dubp_lines.specs.Lines.{unlines}
use Rattle.dubp_block.specs.declared.block.Block.{Block}
use Rattle.dubp_block.specs.Sections.{section, identity_text, member_text, revoked_text, certification_text, transaction_lines}
use Rattle.dubp_block.specs.Text.{block_text, block_lines, inner_lines, section_lines, size_of, opening_lines, dividend_lines, issuer_lines, previous_lines, params_lines, signed_lines}

lines_take : (ls : List (List ℕ)) → length ls ≤ length (unlines ls)
lines_take [] = omega arith
lines_take (l ∷ ls) = omega (arith, lines_take ls, length-append (l ++ 10 ∷ []) (unlines ls), length-append l (10 ∷ []))

length_map : {X Y : Type 0} (f : X → Y) (xs : List X) → length (map f xs) ≡ length xs
length_map f [] = refl
length_map f (x ∷ xs) = ap suc (length_map f xs)

behind : {X : Type 0} (xs ys : List X) → length ys ≤ length (xs ++ ys)
behind xs ys = omega (arith, length-append xs ys)

before : {X : Type 0} (xs ys : List X) → length xs ≤ length (xs ++ ys)
before xs ys = omega (arith, length-append xs ys)

-- a section has its heading and its lines
in_section : (heading : List ℕ) (ls more : List (List ℕ)) → length (section heading ls ++ more) ≡ suc (length ls + length more)
in_section heading ls more = omega (arith, length-append (heading ∷ ls) more)

size_in_sections : (b : Block) → size_of b ≤ length (section_lines b)
size_in_sections b =
    let transactions = section (codes "Transactions:") (transaction_lines b.transactions) in
    let certifications = section (codes "Certifications:") (map certification_text b.certifications) ++ transactions in
    let excluded = section (codes "Excluded:") b.excluded ++ certifications in
    let revoked = section (codes "Revoked:") (map revoked_text b.revoked) ++ excluded in
    let leavers = section (codes "Leavers:") (map member_text b.leavers) ++ revoked in
    let actives = section (codes "Actives:") (map member_text b.actives) ++ leavers in
    let joiners = section (codes "Joiners:") (map member_text b.joiners) ++ actives in
    omega (
      arith,
      in_section (codes "Identities:") (map identity_text b.identities) joiners,
      length_map identity_text b.identities,
      in_section (codes "Joiners:") (map member_text b.joiners) actives,
      length_map member_text b.joiners,
      in_section (codes "Actives:") (map member_text b.actives) leavers,
      length_map member_text b.actives,
      in_section (codes "Leavers:") (map member_text b.leavers) revoked,
      length_map member_text b.leavers,
      in_section (codes "Revoked:") (map revoked_text b.revoked) excluded,
      length_map revoked_text b.revoked,
      in_section (codes "Excluded:") b.excluded certifications,
      in_section (codes "Certifications:") (map certification_text b.certifications) transactions,
      length_map certification_text b.certifications,
    )

inner_has : (b : Block) → size_of b ≤ length (inner_lines b)
inner_has b =
    let last = (codes "MembersCount: " ++ decimal b.members) ∷ section_lines b in
    let params = params_lines b.params ++ last in
    let previous = previous_lines b.previous ++ params in
    let issuer = issuer_lines b.unit_base b.issuer b.frame b.frame_var b.issuers ++ previous in
    let dividend = dividend_lines b.dividend ++ issuer in
    omega (arith, size_in_sections b, behind (params_lines b.params) last, behind (previous_lines b.previous) params, behind (issuer_lines b.unit_base b.issuer b.frame b.frame_var b.issuers) previous, behind (dividend_lines b.dividend) issuer, behind (opening_lines b.version b.currency b.number b.pow_min b.time b.median_time) dividend)

pub size_is_within : (b : Block) → size_of b ≤ length (block_text b)
unfolding block_text
size_is_within b =
    omega (arith, inner_has b, before (inner_lines b) (signed_lines b ++ b.sig ∷ []), lines_take (block_lines b))
