-- A key that has issued the same live certifications on two chains has issued as many.
use Rattle.std.proofs.Common.{◌≡◌, Bool, true, false, ◌&&◌, List, filter, refl, ap, sym, ◌∙◌}
use Rattle.std.specs.List.{IsDistinct}
use Rattle.std.proofs.lemmas.List.Kept.{IsStrictlySortedBy-filter}
use Rattle.std.proofs.lemmas.Map.Views.{any-filter_same}
use Rattle.dubp_atoms.specs.Same.{Text, same_text}
use Rattle.dubp_chain.specs.Words.{names, in_order}
use Rattle.dubp_chain.specs.Chains.{Chain}
use Rattle.dubp_chain.specs.Live.{live, stock}
use Rattle.dubp_iindex.specs.Rows.{texts}
use Rattle.dubp_lists.proofs.InOrder.{names_in_order, same_text_is}
use Rattle.dubp_left.proofs.OfSteps.{receivers_named, receivers_from, stock_is_count}
use Rattle.dubp_people_distance.proofs.Counted.{in_order_sorted, sorted_once}

-- to whom k has issued a live certification, each once
abbrev receivers : Chain → Text → List Text
receivers c k = filter (live c k) (in_order (receivers_from c k))

receivers_once : (c : Chain) (k : Text) → IsDistinct same_text (receivers c k)
receivers_once c k = sorted_once (receivers c k) (IsStrictlySortedBy-filter texts (live c k) (in_order (receivers_from c k)) (in_order_sorted (receivers_from c k)))

receivers_are : (c : Chain) (k a : Text) → names (receivers c k) a ≡ live c k a
receivers_are c k a =
    any-filter_same (same_text a) (live c k) (live c k a) (λ x same. ap (live c k) (sym (same_text_is a x same))) (in_order (receivers_from c k))
    ∙ whole (live c k a) (names (in_order (receivers_from c k)) a) (λ is. names_in_order a (receivers_from c k) (receivers_named c k a ∙ is))
  where
    whole : (m there : Bool) → (m ≡ true → there ≡ true) → (m && there) ≡ m
    whole true there then = then refl
    whole false there then = refl

pub same_stock : (c d : Chain) (k : Text) → ((a : Text) → live c k a ≡ live d k a) → stock c k ≡ stock d k
same_stock c d k same =
    sym (stock_is_count c k (receivers c k) (receivers_once c k) (receivers_are c k))
    ∙ stock_is_count d k (receivers c k) (receivers_once c k) (λ a. receivers_are c k a ∙ same a)
