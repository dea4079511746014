-- The reader of a block reads exactly the lines of the blocks in range.
use Rattle.std.proofs.Common.{◌≡◌, ℕ, List, [], ◌∷◌, ◌++◌, refl, sym, ap, subst, append_assoc, append-nil, decimal}
use Rattle.std.specs.Prelude.{codes, map}
use Rattle.dubp_atoms.specs.Spelling.{IsNumber}
use Rattle.dubp_lines.proofs.Readers.{Rows, Always, Reads, named_spelled, line_reads, then_reads, then_before, gives_reads, reads_as, spelled_as}
use Rattle.dubp_block.specs.Sections.{section, identity_text, member_text, revoked_text, certification_text, transaction_lines}
use Rattle.dubp_block.specs.Text.{IsBlock, block_lines, dividend_lines, issuer_lines, previous_lines, params_lines}
use Rattle.dubp_block.specs.Reading.{made, block_at}
use Rattle.dubp_block.specs.declared.block.Block.{Block}
use Rattle.dubp_block.specs.declared.reading.Opening.{Opening}
use Rattle.dubp_block.specs.declared.reading.Issuing.{Issuing}
use Rattle.dubp_block.specs.declared.reading.Links.{Links}
use Rattle.dubp_block.specs.declared.reading.Closing.{Closing}
use Rattle.dubp_block.specs.declared.sections.FirstSections.{FirstSections}
use Rattle.dubp_block.specs.declared.sections.LastSections.{LastSections}
use Rattle.dubp_block.proofs.Spelled.{number_spelled}
use Rattle.dubp_block.proofs.HeaderReads.{IsOpening, opening_text, opening_reads, IsIssuing, issuing_text, issuing_reads, IsLinks, links_text, links_reads, IsClosing, closing_text, closing_reads}
use Rattle.dubp_block.proofs.SectionReads.{IsFirstSections, first_text, first_reads, IsLastSections, last_text, last_reads}

-- ---- the parts of a block

abbrev opened : Block → Opening
opened b = record { version = b.version; currency = b.currency; number = b.number; pow_min = b.pow_min; time = b.time; median_time = b.median_time }

abbrev issued : Block → Issuing
issued b = record { dividend = b.dividend; unit_base = b.unit_base; issuer = b.issuer; frame = b.frame; frame_var = b.frame_var; issuers = b.issuers }

abbrev linked : Block → Links
linked b = record { previous = b.previous; params = b.params }

abbrev firsts : Block → FirstSections
firsts b = record { identities = b.identities; joiners = b.joiners; actives = b.actives; leavers = b.leavers }

abbrev lasts : Block → LastSections
lasts b = record { revoked = b.revoked; excluded = b.excluded; certifications = b.certifications; transactions = b.transactions }

abbrev closed : Block → Closing
closed b = record { inner_hash = b.inner_hash; nonce = b.nonce; sig = b.sig }

abbrev part_lines : Block → Rows
part_lines b =
    opening_text (opened b)
    ++ (issuing_text (issued b)
    ++ (links_text (linked b)
    ++ ((codes "MembersCount: " ++ decimal b.members)
    ∷ (first_text (firsts b)
    ++ (last_text (lasts b)
    ++ (closing_text (closed b)
    ++ []))))))

abbrev PartsAre : Block → Type 0
PartsAre b = Unit {0} × (IsOpening (opened b) × (IsIssuing (issued b) × (IsLinks b.number (linked b) × (IsNumber b.members × (IsFirstSections (firsts b) × (IsLastSections (lasts b) × (IsClosing (closed b) × Unit {0})))))))

block_steps : Reads block_at part_lines PartsAre Always
unfolding block_at
block_steps =
    then_reads _ _ _ _ _ _ opened _ _ opening_reads (λ opening is_opening.
    then_reads _ _ _ _ _ _ issued _ _ issuing_reads (λ issuing is_issuing.
    reads_as _ _ _ _ _
    (λ b h. (h.0, (subst (λ (n : ℕ). IsLinks n (linked b)) (sym (ap (λ (x : Opening). x.number) h.0.0.1)) h.1.0, h.1.1)))
    (λ b h. (h.0, (subst (λ (n : ℕ). IsLinks n (linked b)) (ap (λ (x : Opening). x.number) h.0.0.1) h.1.0, h.1.1)))
    (then_reads _ _ _ _ _ _ linked _ _ (links_reads opening.number) (λ links are_links.
    then_reads _ _ _ _ _ _ (λ b. b.members) _ _ (line_reads _ _ _ (named_spelled (codes "MembersCount: ") _ _ _ refl number_spelled)) (λ members are_members.
    then_before _ _ _ _ _ _ _ firsts _ _ first_reads (λ first is_first.
    then_before _ _ _ _ _ _ _ lasts _ _ last_reads (λ last is_last.
    then_reads _ _ _ _ _ _ closed _ _ closing_reads (λ closing is_closing.
    gives_reads _ _ _ (((((((tt, refl), refl), refl), refl), refl), refl), refl)
    (λ b k. λ i. made (k.0.0.0.0.0.0.1 i) (k.0.0.0.0.0.1 i) (k.0.0.0.0.1 i) (k.0.0.0.1 i) (k.0.0.1 i) (k.0.1 i) (k.1 i))))
    (λ b ls h stop. refl))
    (λ b ls h stop. refl))))))

to_block : (b : Block) → PartsAre b → IsBlock b
to_block b h =
    let o = h.1.0 in
    let i = h.1.1.0 in
    let l = h.1.1.1.0 in
    let f = h.1.1.1.1.1.0 in
    let s = h.1.1.1.1.1.1.0 in
    let c = h.1.1.1.1.1.1.1.0 in
    record {
      version = o.version;
      currency = o.currency;
      number = o.number;
      pow_min = o.pow_min;
      time = o.time;
      median_time = o.median_time;
      dividend = i.dividend;
      unit_base = i.unit_base;
      issuer = i.issuer;
      frame = i.frame;
      frame_var = i.frame_var;
      issuers = i.issuers;
      previous = l.previous;
      params = l.params;
      members = h.1.1.1.1.0;
      identities = f.identities;
      joiners = f.joiners;
      actives = f.actives;
      leavers = f.leavers;
      revoked = s.revoked;
      excluded = s.excluded;
      certifications = s.certifications;
      transactions = s.transactions;
      inner_hash = c.inner_hash;
      nonce = c.nonce;
      sig = c.sig;
    }

from_block : (b : Block) → IsBlock b → PartsAre b
from_block b is =
    let o : IsOpening (opened b) = record { version = is.version; currency = is.currency; number = is.number; pow_min = is.pow_min; time = is.time; median_time = is.median_time } in
    let i : IsIssuing (issued b) = record { dividend = is.dividend; unit_base = is.unit_base; issuer = is.issuer; frame = is.frame; frame_var = is.frame_var; issuers = is.issuers } in
    let l : IsLinks b.number (linked b) = record { previous = is.previous; params = is.params } in
    let f : IsFirstSections (firsts b) = record { identities = is.identities; joiners = is.joiners; actives = is.actives; leavers = is.leavers } in
    let s : IsLastSections (lasts b) = record { revoked = is.revoked; excluded = is.excluded; certifications = is.certifications; transactions = is.transactions } in
    let c : IsClosing (closed b) = record { inner_hash = is.inner_hash; nonce = is.nonce; sig = is.sig } in
    (tt, (o, (i, (l, (is.members, (f, (s, (c, tt))))))))

-- the lines of the parts are those of the block: only how they are joined differs
joined_so : (o d i p q : Rows) (m : List ℕ) (s1 s2 s3 s4 s5 s6 s7 s8 c : Rows)
    → o ++ ((d ++ i) ++ ((p ++ q) ++ (m ∷ ((s1 ++ (s2 ++ (s3 ++ (s4 ++ [])))) ++ ((s5 ++ (s6 ++ (s7 ++ (s8 ++ [])))) ++ (c ++ []))))))
    ≡ (o ++ (d ++ (i ++ (p ++ (q ++ (m ∷ (s1 ++ (s2 ++ (s3 ++ (s4 ++ (s5 ++ (s6 ++ (s7 ++ s8))))))))))))) ++ c
joined_so o d i p q m s1 s2 s3 s4 s5 s6 s7 s8 c = simp (append_assoc, append-nil)

lines_are : (b : Block) → part_lines b ≡ block_lines b
lines_are b =
    joined_so (opening_text (opened b)) (dividend_lines b.dividend) (issuer_lines b.unit_base b.issuer b.frame b.frame_var b.issuers) (previous_lines b.previous) (params_lines b.params) (codes "MembersCount: " ++ decimal b.members)
    (section (codes "Identities:") (map identity_text b.identities)) (section (codes "Joiners:") (map member_text b.joiners)) (section (codes "Actives:") (map member_text b.actives)) (section (codes "Leavers:") (map member_text b.leavers))
    (section (codes "Revoked:") (map revoked_text b.revoked)) (section (codes "Excluded:") b.excluded) (section (codes "Certifications:") (map certification_text b.certifications)) (section (codes "Transactions:") (transaction_lines b.transactions))
    (closing_text (closed b))

pub block_reads : Reads block_at block_lines IsBlock Always
block_reads = spelled_as block_at part_lines block_lines IsBlock Always (λ b is. lines_are b) (reads_as block_at part_lines PartsAre IsBlock Always to_block from_block block_steps)
