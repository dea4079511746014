-- The keys of dead slots are given up while nothing is ahead: every map stays.
use Rattle.std.proofs.Common.{◌≡◌, ℕ, ◌+◌, ◌≤◌, List, [], ◌∷◌, length, get_or, Option, None, refl, sym, ◌∙◌, inl, inr, arith}
use Rattle.std.specs.declared.cmp.Ordering.{Ordering}
use Rattle.dubp_journal.specs.MovingTable.{IsPlaced}
use Rattle.dubp_journal.specs.Slots.{live, keys_in, IsDead, GivesUp}
use Rattle.dubp_journal.specs.Journal.{states, named, Follows, IsKept}
use Rattle.dubp_journal.proofs.Journals.{no_spare}
use Rattle.dubp_journal.proofs.Live.{live_keys, is_some-slot}
use Rattle.dubp_journal.proofs.Naming.{named-le, states_same}
use Rattle.dubp_journal.proofs.Placed.{places_forgotten}

module _ {K V : Type 0} {cmp : K → K → Ordering} {slot_of : K → Option ℕ} {keys : List (Option K)} {uses : List ℕ} {slots root : List (Option V)} {rooted : List (K × V)} {j redo : List (ℕ × Option V)} {marks redo_marks : List ℕ} {spare jr mr rr rmr : ℕ} (k : IsKept cmp slot_of keys uses slots root rooted j redo marks redo_marks spare jr mr rr rmr) where
  -- all that is ahead is forgotten
  pub forgotten_kept : {uses' : List ℕ} → Follows uses uses' redo [] → IsKept cmp slot_of keys uses' slots root rooted j [] marks [] 0 jr mr rr rmr
  forgotten_kept f = record {
    finds = k.finds;
    places = places_forgotten k.places f;
    back_ok = k.back_ok;
    forward_ok = record { within = λ i d lt. absurd (omega arith); divided = refl };
    root_fits = k.root_fits;
    rooted_is = λ some. absurd (omega arith);
    room = no_spare _ _ _ _ _ _ _ _ (omega (arith, k.room.back)) (omega (arith, k.room.back_marks)) (omega arith) (omega arith);
  }

  module _ {slot_of' : K → Option ℕ} {keys' : List (Option K)} (g : GivesUp cmp uses slots keys slot_of keys' slot_of') where
    dead_unnamed : (i : ℕ) → IsDead uses slots i → named i j ≡ 0
    dead_unnamed i dead = omega (arith, k.places.counted i, dead.unnamed)

    pub swept_live : live keys' slots ≡ live keys slots
    swept_live = live_keys keys keys' slots (λ x. elim (g.others x) [ inl same ↦ inl same | inr dead ↦ inr dead.nothing ])

    pub swept_states : states keys' slots j marks ≡ states keys slots j marks
    swept_states = states_same keys keys' (IsDead uses slots) g.others slots (λ i dead. dead.nothing) j marks dead_unnamed

    dead_now : (i : ℕ) → get_or keys' i None ≡ None → IsDead uses slots i
    dead_now i none = elim (g.dead i none) [ inl was ↦ k.places.free i was | inr dead ↦ dead ]

    -- the root's slots are then those of now, since nothing goes on from it
    pub swept_kept : length redo_marks ≡ 0 → IsKept cmp slot_of' keys' uses slots slots rooted j redo marks redo_marks spare jr mr rr rmr
    swept_kept none = record {
      finds = g.finds;
      places = record {
        keys_each = g.same_length ∙ k.places.keys_each;
        uses_each = k.places.uses_each;
        counted = k.places.counted;
        free = dead_now;
        free_root = λ i none. (dead_now i none).nothing;
      };
      back_ok = k.back_ok;
      forward_ok = record { within = λ i d lt. omega (arith, k.forward_ok.within i d lt, k.root_fits); divided = k.forward_ok.divided };
      root_fits = omega arith;
      rooted_is = λ some. absurd (omega (arith, none, some));
      room = k.room;
    }

    pub swept_placed : (q : K) → IsPlaced cmp q (keys_in keys') → IsPlaced cmp q (keys_in keys)
    swept_placed q is = sym (is_some-slot k.finds q) ∙ g.only q (is_some-slot g.finds q ∙ is)

-- the counts, as the calls of a table need them
module _ {K V : Type 0} {cmp : K → K → Ordering} {slot_of : K → Option ℕ} {keys : List (Option K)} {uses : List ℕ} {slots root : List (Option V)} {rooted : List (K × V)} {j redo : List (ℕ × Option V)} {marks redo_marks : List ℕ} {spare jr mr rr rmr : ℕ} (k : IsKept cmp slot_of keys uses slots root rooted j redo marks redo_marks spare jr mr rr rmr) where
  pub counted_back : (i : ℕ) → named i j ≤ get_or uses i 0
  counted_back i = omega (arith, k.places.counted i)

  pub counted_ahead : (i : ℕ) → named i redo ≤ get_or uses i 0
  counted_ahead i = omega (arith, k.places.counted i)

  pub counted_few : (i : ℕ) → get_or uses i 0 ≤ length j + length redo
  counted_few i = omega (arith, k.places.counted i, named-le i j, named-le i redo)

-- nothing at all
pub empty_kept : {K V : Type 0} (cmp : K → K → Ordering) (slot_of : K → Option ℕ) → ((q : K) → slot_of q ≡ None) → (jr mr rr rmr : ℕ) → IsKept {K = K} {V = V} cmp slot_of [] [] [] [] [] [] [] [] [] 0 jr mr rr rmr
empty_kept cmp slot_of none jr mr rr rmr = record {
  finds = record { found = λ i k e. absurd (cc); has = λ q i e. absurd (cc (none q)); alike = λ q k s. none q ∙ sym (none k) };
  places = record { keys_each = refl; uses_each = refl; counted = λ i. refl; free = λ i none. record { nothing = refl; unnamed = refl }; free_root = λ i none. refl };
  back_ok = record { within = λ i d lt. absurd (omega arith); divided = refl };
  forward_ok = record { within = λ i d lt. absurd (omega arith); divided = refl };
  root_fits = omega arith;
  rooted_is = λ some. refl;
  room = no_spare _ _ _ _ _ _ _ _ (omega arith) (omega arith) (omega arith) (omega arith);
}

pub nothing_kept : {K V : Type 0} (cmp : K → K → Ordering) (slot_of : K → Option ℕ) → ((q : K) → slot_of q ≡ None) → (keys : List (Option K)) (uses : List ℕ) (slots root : List (Option V)) (rooted : List (K × V)) (j redo : List (ℕ × Option V)) (marks redo_marks : List ℕ) (jr mr rr rmr : ℕ) → keys ≡ [] → uses ≡ [] → slots ≡ [] → root ≡ [] → rooted ≡ [] → j ≡ [] → redo ≡ [] → marks ≡ [] → redo_marks ≡ [] → IsKept cmp slot_of keys uses slots root rooted j redo marks redo_marks 0 jr mr rr rmr
nothing_kept cmp slot_of none keys uses slots root rooted j redo marks redo_marks jr mr rr rmr b c d e f g h i l = rw (b, c, d, e, f, g, h, i, l) (empty_kept cmp slot_of none jr mr rr rmr)

-- nothing is ahead, whatever the slots
pub no_states : {K V : Type 0} (keys other : List (Option K)) (slots more : List (Option V)) (j : List (ℕ × Option V)) (marks : List ℕ) → length marks ≡ 0 → states other more j marks ≡ states keys slots j marks
no_states keys other slots more j [] none = refl
no_states keys other slots more j (n ∷ marks) none = absurd (omega (arith, none))
