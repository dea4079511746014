-- What a walk over the tables of a chain finds next is the next of the keys that the chain says.
use Rattle.std.proofs.Common.{◌≡◌, inl, inr, Bool, true, false, All, Contains, List, [], ◌∷◌, Option, None, Some, refl, sym, ap, subst, ◌∙◌}
use Rattle.std.specs.Prelude.{option_map}
use Rattle.std.specs.Option.{option_map_or}
use Rattle.std.specs.FinMap.{get}
use Rattle.std.proofs.lemmas.List.Elements.{All-nil, All-cons, All-weaker, All-contains, Contains-append_left, Contains-append_right, Contains-push}
use Rattle.dubp_atoms.specs.Same.{Text, same_text}
use Rattle.dubp_left.specs.OfChain.{names}
use Rattle.dubp_left.specs.OfChain.{Chain}
use Rattle.dubp_left.specs.OfChain.{members as members_of}
use Rattle.dubp_left.specs.OfChain.{member}
use Rattle.dubp_left.specs.OfChain.{live}
use Rattle.dubp_left.specs.OfFacts.{IsSound}
use Rattle.dubp_iindex.specs.Order.{IsNext, AreNext}
use Rattle.dubp_cindex.specs.Orders as certifications
use Rattle.dubp_left.specs.OfChain.{CertificationRow, certification_row}
use Rattle.dubp_left.proofs.OfLists.{IsIn, in_any, any_in}
use Rattle.dubp_left.proofs.OfLists.{same_text_is, same_text_own}
use Rattle.dubp_left.proofs.OfSteps.{live_is_of_row}
use Rattle.dubp_left.proofs.OfSteps.{members_are_table}
use Rattle.dubp_iindex.specs.Rows.{is_member_at, members}
use Rattle.dubp_iindex.proofs.Members.{members-in_order, member-listed, listed-member}
use Rattle.dubp_cindex.specs.Rows.{lives}
use Rattle.dubp_left.specs.Left.{identities_left, cert_entry, certifications_left}
use Rattle.dubp_left.proofs.Left.{identities-at, certifications-at}
use Rattle.dubp_left.proofs.Looked.{member-look}

-- the next of some keys is the next of the same keys said otherwise
pub next-same : (P Q : Text → Type 0) → ((a : Text) → P a → Q a) → ((a : Text) → Q a → P a) → (after result : Option Text) → IsNext P after result → IsNext Q after result
next-same P Q there back after None h = λ a q. h a (back a q)
next-same P Q there back after (Some k) h = (there k h.0, h.1, λ a q. h.2 a (back a q))

-- and all of them, in order
pub all-same : (P Q : Text → Type 0) → ((a : Text) → P a → Q a) → ((a : Text) → Q a → P a) → (after : Option Text) (keys : List Text) → certifications.AreNext P after keys → AreNext Q after keys
all-same P Q there back after [] none = next-same P Q there back after None none
all-same P Q there back after (k ∷ keys) is = (next-same P Q there back after (Some k) is.0, all-same P Q there back (Some k) keys is.1)

same_truth : (a b : Bool) → (a ≡ true → b ≡ true) → (b ≡ true → a ≡ true) → a ≡ b
same_truth true b f g = sym (f refl)
same_truth false true f g = g refl
same_truth false false f g = refl

in_contains : {X : Type 0} (x : X) (xs : List X) → IsIn x xs → Contains xs x
in_contains x [] there = absurd there
in_contains x (y ∷ ys) (inl e) = Contains-append_left (y ∷ []) ys x (subst (λ z. Contains (y ∷ []) z) (sym e) (Contains-push [] y))
in_contains x (y ∷ ys) (inr there) = Contains-append_right (y ∷ []) ys x (in_contains x ys there)

all_own : {X : Type 0} (xs : List X) → All (λ z. IsIn z xs) xs
all_own {X} [] = All-nil (λ z. ⊥)
all_own {X} (y ∷ ys) = All-cons (λ z. IsIn z (y ∷ ys)) y ys (inl refl) (All-weaker (λ z. IsIn z ys) (λ z. IsIn z (y ∷ ys)) (λ z there. inr there) ys (all_own ys))

contains_in : {X : Type 0} (x : X) (xs : List X) → Contains xs x → IsIn x xs
contains_in x xs c = All-contains (λ z. IsIn z xs) xs x (all_own xs) c

pub member-shown : (c : Chain) → IsSound c → (k : Text) → is_member_at (identities_left c) k ≡ member c k
member-shown c sound k = member-look c sound k _ (identities-at c k)

live_told : (o : Option CertificationRow) → lives (option_map cert_entry o) ≡ option_map_or (λ (row : CertificationRow). row.is_live) o false
live_told None = refl
live_told (Some row) = refl

pub live-shown : (c : Chain) (a to : Text) → lives (get (certifications_left c) (a, to)) ≡ live c a to
live-shown c a to = ap lives (certifications-at c (a, to)) ∙ live_told (certification_row c a to) ∙ sym (live_is_of_row c a to)

-- the members in order are the list of them
pub members-shown : (c : Chain) → IsSound c → members (identities_left c) ≡ members_of c
members-shown c sound = members_are_table c (members (identities_left c)) (members-in_order (identities_left c)) (λ k. named k ∙ member-shown c sound k)
  where
    in_names : (k : Text) (ks : List Text) → Contains ks k → names ks k ≡ true
    in_names k ks there = in_any (same_text k) ks k (contains_in k ks there) (same_text_own k)

    names_in : (k : Text) (ks : List Text) → names ks k ≡ true → Contains ks k
    names_in k ks is = let x = any_in (same_text k) ks is in subst (Contains ks) (sym (same_text_is k x.0 x.2)) (in_contains x.0 ks x.1)

    named : (k : Text) → names (members (identities_left c)) k ≡ is_member_at (identities_left c) k
    named k = same_truth _ _ (λ is. listed-member (identities_left c) k (names_in k (members (identities_left c)) is)) (λ is. in_names k (members (identities_left c)) (member-listed (identities_left c) k is))
