-- The rows that a chain leaves have at each key what the chain says.
use Rattle.std.proofs.Common.{◌≡◌, Bool, true, false, ◌||◌, ◌&&◌, List, [], ◌∷◌, Option, None, Some, refl, sym, ap, ◌∙◌}
use Rattle.std.specs.Prelude.{map, option_map, is_some, nat_eq}
use Rattle.std.specs.List.{list_any, flat_map}
use Rattle.std.specs.Ordering.{nat_cmp, is_eq, eq_by_cmp, ordering_then}
use Rattle.std.specs.declared.cmp.Ordering.{Ordering}
use Rattle.std.specs.declared.cmp.Ordering.TheVariants.{Less, Equal, Greater}
use Rattle.std.proofs.lemmas.List.Folds.{list_any-append}
use Rattle.std.specs.Cmp.Lexicographic.{slice_cmp, texts_ties}
use Rattle.std.specs.FinMap.{get, IsAntisymmetric, nat_cmp-IsAntisymmetric, slice_cmp-IsAntisymmetric}
use Rattle.std.proofs.lemmas.Cmp.{nat_list_cmp_total}
use Rattle.dubp_atoms.specs.Same.{Text, same_text}
use Rattle.dubp_block.specs.declared.block.Block.{Block}
use Rattle.dubp_block.specs.declared.block.CertLine.{CertLine}
use Rattle.dubp_chain.specs.Chains.{Chain}
use Rattle.dubp_chain.specs.Members.{is_of}
use Rattle.dubp_chain.specs.People.{identity, identity_lines, membership, membership_lines}
use Rattle.dubp_chain.specs.Live.{certified_pairs, certification}
use Rattle.dubp_cindex.specs.Orders.{pair_cmp}
use Rattle.dubp_cindex.proofs.Texts.{pair_total, pair_exact}
use Rattle.dubp_steps.proofs.OfLists.{last_line-any}
use Rattle.dubp_iindex.specs.Rows.{texts}
use Rattle.dubp_left.specs.Left.{identity_left, identities_left, membership_left, memberships_left, certification_left, certifications_left}
use Rattle.dubp_left.proofs.Gathered.{get-table}

pub texts-apart : IsAntisymmetric texts
texts-apart = slice_cmp-IsAntisymmetric nat_cmp-IsAntisymmetric

some_map : {X Y : Type 0} (f : X → Y) (o : Option X) → is_some (option_map f o) ≡ is_some o
some_map f None = refl
some_map f (Some x) = refl

-- a key stands among those of some lines where one of them has it
pub named : {L : Type 0} (key : L → Text) (k : Text) (lines : List L) → list_any (eq_by_cmp texts k) (map key lines) ≡ list_any (λ line. same_text k (key line)) lines
named key k [] = refl
named key k (line ∷ lines) = λ i. sym (texts_ties k (key line)) i || named key k lines i

pub identities-at : (c : Chain) (k : Text) → get (identities_left c) k ≡ identity_left c k
identities-at c k =
    get-table nat_list_cmp_total texts-apart (identity_left c) k (map (λ line. line.key) (identity_lines c)) (λ some.
    named (λ line. line.key) k (identity_lines c)
    ∙ sym (last_line-any (λ b. b.identities) (λ line. same_text k line.key) c)
    ∙ sym (some_map _ (identity c k)) ∙ sym (some_map _ _) ∙ some)

pub memberships-at : (c : Chain) (k : Text) → get (memberships_left c) k ≡ membership_left c k
memberships-at c k =
    get-table nat_list_cmp_total texts-apart (membership_left c) k (map (λ line. line.key) (flat_map membership_lines c)) (λ some.
    named (λ line. line.key) k (flat_map membership_lines c)
    ∙ sym (last_line-any membership_lines (is_of k) c)
    ∙ sym (some_map _ (membership c k)) ∙ sym (some_map _ _) ∙ some)

-- ---- pairs

then_tied : (x y : Ordering) → is_eq (ordering_then x y) ≡ (is_eq x && is_eq y)
then_tied Less y = refl
then_tied Equal y = refl
then_tied Greater y = refl

pair_tied : (a b : Text) (p : Text × Text) → eq_by_cmp pair_cmp (a, b) p ≡ (same_text a p.0 && same_text b p.1)
pair_tied a b p = then_tied (texts a p.0) (texts b p.1) ∙ (λ i. sym (texts_ties a p.0) i && sym (texts_ties b p.1) i)

abbrev of_pair : Text → Text → CertLine → Bool
of_pair a b line = same_text a line.from && same_text b line.to

pairs-named : (a b : Text) (lines : List CertLine) → list_any (eq_by_cmp pair_cmp (a, b)) (map (λ line. (line.from, line.to)) lines) ≡ list_any (of_pair a b) lines
pairs-named a b [] = refl
pairs-named a b (line ∷ lines) = λ i. pair_tied a b (line.from, line.to) i || pairs-named a b lines i

pairs-flat : (a b : Text) (c : Chain) → list_any (eq_by_cmp pair_cmp (a, b)) (certified_pairs c) ≡ list_any (of_pair a b) (flat_map (λ block. block.certifications) c)
pairs-flat a b [] = refl
pairs-flat a b (block ∷ c) =
    list_any-append (eq_by_cmp pair_cmp (a, b)) (map (λ line. (line.from, line.to)) block.certifications) (certified_pairs c)
    ∙ (λ i. pairs-named a b block.certifications i || pairs-flat a b c i)
    ∙ sym (list_any-append (of_pair a b) block.certifications (flat_map (λ (d : Block). d.certifications) c))

pub certifications-at : (c : Chain) (p : Text × Text) → get (certifications_left c) p ≡ certification_left c p
certifications-at c p =
    get-table pair_total pair_exact (certification_left c) p (certified_pairs c) (λ some.
    pairs-flat p.0 p.1 c
    ∙ sym (last_line-any (λ block. block.certifications) (of_pair p.0 p.1) c)
    ∙ sym (some_map _ (certification c p.0 p.1)) ∙ sym (some_map _ _) ∙ some)
