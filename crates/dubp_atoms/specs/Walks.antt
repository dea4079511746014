-- Walks of certifications among members: from whom a key is reached, and who is a sentry. A web is a list of members and a list
-- of pairs (who certifies, who is certified); a pair that stands in the list twice counts once. Protocol: distance.
use Rattle.std.specs.Prelude.{◌≡◌, ℕ, ◌+◌, ◌^◌, ◌≤◌, ◌↔◌, Bool, IsTrue, ◌&&◌, not, List, [], ◌∷◌, length, filter, map, count_by, nat_le, find, unwrap_or}
use Rattle.std.specs.List.{Contains, range_with_len}
use Rattle.std.specs.Set.{distinct_count}
use Rattle.dubp_atoms.specs.Same.{Text, same_text}

-- from a over the keys of the path to k: each is a member, and each leads to the next by a pair
abbrev pub IsWalk : {K : Type 0} → List K → List (K × K) → K → List K → K → Type 0
IsWalk members pairs a [] k = Contains members a × (a ≡ k)
IsWalk members pairs a (b ∷ path) k = Contains members a × Contains pairs (a, b) × IsWalk members pairs b path k

-- a walk of at most this many pairs leads from a to k
abbrev pub Reaches : {K : Type 0} → List K → List (K × K) → ℕ → K → K → Type 0
Reaches {K} members pairs steps a k = (path : List K) × (length path ≤ steps) × IsWalk members pairs a path k

-- n elements of the list have P
abbrev pub IsCountOf : {X : Type 0} → (X → Type 0) → List X → ℕ → Type 0
IsCountOf {X} P xs n = (test : X → Bool) × ((x : X) → IsTrue (test x) ↔ P x) × (n ≡ count_by test xs)

-- by how many keys this key is certified, and how many it certifies
abbrev pub received_of : List (Text × Text) → Text → ℕ
received_of pairs k = distinct_count same_text (map (λ p. p.0) (filter (λ p. same_text k p.1) pairs))

abbrev pub stock_of : List (Text × Text) → Text → ℕ
stock_of pairs k = distinct_count same_text (map (λ p. p.1) (filter (λ p. same_text k p.0) pairs))

-- the least d with d ^ steps ≥ members: what a sentry of so many members has issued and received
abbrev pub d_sen_of : ℕ → ℕ → ℕ
d_sen_of members steps = unwrap_or (find (λ d. nat_le members (d ^ steps)) (range_with_len 0 (members + 1))) 0

-- at least d certifications issued and at least d received
abbrev pub has_issued_and_received : List (Text × Text) → ℕ → Text → Bool
has_issued_and_received pairs d k = nat_le d (stock_of pairs k) && nat_le d (received_of pairs k)

-- the members who are sentries
abbrev pub sentries_of : List Text → List (Text × Text) → ℕ → List Text
sentries_of members pairs steps = filter (has_issued_and_received pairs (d_sen_of (length members) steps)) members

-- the keys other than k
abbrev pub others : List Text → Text → List Text
others keys k = filter (λ q. not (same_text k q)) keys

-- so many of the sentries other than k reach it within these steps
abbrev pub IsReachedBy : List Text → List (Text × Text) → ℕ → Text → ℕ → Type 0
IsReachedBy members pairs steps k n =
    IsCountOf (λ q. Reaches members pairs steps q k) (others (sentries_of members pairs steps) k) n
