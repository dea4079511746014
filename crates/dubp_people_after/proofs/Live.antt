-- Which certifications are live on the chain with the block: those of its lines, and those of the chain before it that go on.
use Rattle.std.proofs.Common.{◌≡◌, ◌+◌, ◌⊎◌, inl, inr, Bool, true, false, ◌&&◌, ◌||◌, List, [], ◌∷◌, Option, None, Some, map, filter, refl, sym, ap, ◌∙◌, true≢false}
use Rattle.std.specs.Prelude.{option_map, nat_lt}
use Rattle.std.specs.Option.{option_map_or}
use Rattle.std.specs.List.{list_any}
use Rattle.std.specs.FinMap.{empty, entries}
use Rattle.dubp_atoms.specs.Same.{Text, same_text}
use Rattle.dubp_block.specs.declared.block.Block.{Block}
use Rattle.dubp_block.specs.declared.block.CertLine.{CertLine}
use Rattle.dubp_chain.specs.Words.{last_of}
use Rattle.dubp_chain.specs.Chains.{Chain, params}
use Rattle.dubp_chain.specs.Live.{live, live_at}
use Rattle.dubp_chain.specs.Tables.{CertificationRow, certification_row}
use Rattle.dubp_registry.proofs.OfLists.{and_left, IsIn, in_any, in_left, in_right, in_map, kept_in, last_in}
use Rattle.dubp_registry.proofs.OfLists.{same_text_own}
use Rattle.dubp_registry.proofs.OfLists.{time_of-rises}
use Rattle.dubp_cindex.specs.declared.row.CertRow.{CertRow}
use Rattle.dubp_cindex.specs.Rows.{Rows, Entry, live_to, live_from, rows_about, told}
use Rattle.dubp_cindex.proofs.Walked as walked
use Rattle.dubp_cindex.proofs.Entries.{got_in}
use Rattle.dubp_registry.specs.OfSteps.{now_of, cert_lasting, certification_time, of_pair}
use Rattle.dubp_registry.proofs.OfSteps.{live_at_is_of_row, live_step}
use Rattle.dubp_registry.specs.OfLeft.{cert_entry, certification_left, certifications_left}
use Rattle.dubp_registry.proofs.OfLeft.{certifications-at}
use Rattle.dubp_registry.proofs.OfLeft.{newest-left}
use Rattle.dubp_moving.specs.States.{newest, states}
use Rattle.dubp_people_after.specs.Keys.{is_between}
use Rattle.dubp_people_after.specs.Near.{HasIssuers, HasReceivers, is_end_of}

turned : {X : Type 0} (x : X) (xs : List X) → walked.IsIn x xs → IsIn x xs
turned x [] there = there
turned x (y ∷ ys) (inl e) = inl (sym e)
turned x (y ∷ ys) (inr there) = inr (turned x ys there)

-- a line names the pair, or the row of the chain before is live
module _ (c : Chain) (b : Block) (x y : Text) where
  row_alive : (o : Option CertificationRow) → option_map_or (λ (row : CertificationRow). row.is_live && nat_lt (now_of c b) (row.made + (params c).sig_validity)) o false ≡ true
      → (row : CertRow) × (option_map cert_entry o ≡ Some row) × (row.live ≡ true)
  row_alive None e = absurd (true≢false (sym e))
  row_alive (Some row) e = (cert_entry row, refl, and_left row.is_live (nat_lt (now_of c b) (row.made + (params c).sig_validity)) e)

  pub lives_by : live (b ∷ c) x y ≡ true
      → ((line : CertLine) × IsIn line b.certifications × (of_pair x y line ≡ true)) ⊎ ((row : CertRow) × (certification_left c (x, y) ≡ Some row) × (row.live ≡ true))
  lives_by alive = by (last_of (of_pair x y) b.certifications) refl (sym (live_step c b x y) ∙ alive)
    where
      by : (o : Option CertLine) → last_of (of_pair x y) b.certifications ≡ o
          → option_map_or (λ line. nat_lt (now_of c b) (certification_time c b line + cert_lasting c b)) (last_of (of_pair x y) b.certifications) (live_at (now_of c b) c x y) ≡ true
          → ((line : CertLine) × IsIn line b.certifications × (of_pair x y line ≡ true)) ⊎ ((row : CertRow) × (certification_left c (x, y) ≡ Some row) × (row.live ≡ true))
      by (Some line) e alive = let found = last_in (of_pair x y) b.certifications line e in inl (line, found.0, found.1)
      by None e alive =
          inr (row_alive (certification_row c x y)
          (sym (live_at_is_of_row c (now_of c b) (time_of-rises b c) x y)
          ∙ sym (ap (λ (o : Option CertLine). option_map_or (λ line. nat_lt (now_of c b) (certification_time c b line + cert_lasting c b)) o (live_at (now_of c b) c x y)) e) ∙ alive))

  entry_there : (row : CertRow) → certification_left c (x, y) ≡ Some row → IsIn ((x, y), row) (entries (certifications_left c))
  entry_there row e = turned ((x, y), row) (entries (certifications_left c)) (got_in (certifications_left c) (x, y) row (certifications-at c (x, y) ∙ e))

both : (s t : Bool) → s ≡ true → t ≡ true → (s && t) ≡ true
both s t h k = cc

first : (s t : Bool) → s ≡ true → (s || t) ≡ true
first s t h = rw h refl

second : (s t : Bool) → t ≡ true → (s || t) ≡ true
second true t h = refl
second false t h = h

module _ (c : Chain) (b : Block) (key a : Text) where
  abbrev found : Bool
  found = list_any (is_end_of a) (rows_about (certifications_left c) key) || list_any (is_between key a) b.certifications

  row_found : (e : Entry) → IsIn e (entries (certifications_left c)) → (live_to key e ≡ true) ⊎ (live_from key e ≡ true) → is_end_of a (told e) ≡ true
      → list_any (is_end_of a) (rows_about (certifications_left c) key) ≡ true
  row_found e there side ends =
      let es = entries (certifications_left c) in
      in_any (is_end_of a) (rows_about (certifications_left c) key) (told e)
      (elim side [
        | inl h ↦ in_left (told e) (map told (filter (live_to key) es)) (map told (filter (live_from key) es)) (in_map told (filter (live_to key) es) e (kept_in (live_to key) es e there h))
        | inr h ↦ in_right (told e) (map told (filter (live_to key) es)) (map told (filter (live_from key) es)) (in_map told (filter (live_from key) es) e (kept_in (live_from key) es e there h))
      ]) ends

  pub issuer_found : live (b ∷ c) a key ≡ true → found ≡ true
  issuer_found alive = elim (lives_by c b a key alive) [
    | inl l ↦
        second (list_any (is_end_of a) (rows_about (certifications_left c) key)) (list_any (is_between key a) b.certifications)
        (in_any (is_between key a) b.certifications l.0 l.1 (second (of_pair key a l.0) (of_pair a key l.0) l.2))
    | inr r ↦
        first (list_any (is_end_of a) (rows_about (certifications_left c) key)) (list_any (is_between key a) b.certifications)
        (row_found ((a, key), r.0) (entry_there c b a key r.0 r.1) (inl (both (same_text key key) r.0.live (same_text_own key) r.2))
        (first (same_text a a) (same_text key a) (same_text_own a)))
  ]

  pub receiver_found : live (b ∷ c) key a ≡ true → found ≡ true
  receiver_found alive = elim (lives_by c b key a alive) [
    | inl l ↦
        second (list_any (is_end_of a) (rows_about (certifications_left c) key)) (list_any (is_between key a) b.certifications)
        (in_any (is_between key a) b.certifications l.0 l.1 (first (of_pair key a l.0) (of_pair a key l.0) l.2))
    | inr r ↦
        first (list_any (is_end_of a) (rows_about (certifications_left c) key)) (list_any (is_between key a) b.certifications)
        (row_found ((key, a), r.0) (entry_there c b key a r.0 r.1) (inr (both (same_text key key) r.0.live (same_text_own key) r.2))
        (second (same_text key a) (same_text a a) (same_text_own a)))
  ]

-- the keys of the rows and the partners, put into a set
module _ (c : Chain) (b : Block) (key : Text) (rows : List (Text × Text × CertRow)) (partners : List Text) (before between test : Text → Bool)
    (of_rows : rows ≡ rows_about (newest empty (states certifications_left c)) key) (of_lines : (k : Text) → list_any (same_text k) partners ≡ list_any (is_between key k) b.certifications)
    (put : (k : Text) → between k ≡ (before k || list_any (is_end_of k) rows)) (put' : (k : Text) → test k ≡ (between k || list_any (same_text k) partners)) where
  in_set : (a : Text) → found c b key a ≡ true → test a ≡ true
  in_set a is =
      let same : rows ≡ rows_about (certifications_left c) key = of_rows ∙ ap (λ (m : Rows). rows_about m key) (newest-left empty certifications_left refl c) in
      put' a ∙ (λ i. put a i || of_lines a i) ∙ (λ i. (before a || list_any (is_end_of a) (same i)) || list_any (is_between key a) b.certifications)
      ∙ grouped (before a) (list_any (is_end_of a) (rows_about (certifications_left c) key)) (list_any (is_between key a) b.certifications) is
    where
      grouped : (s t u : Bool) → (t || u) ≡ true → ((s || t) || u) ≡ true
      grouped true t u h = refl
      grouped false t u h = h

  pub issuers_near : HasIssuers c b key test
  unfolding HasIssuers
  issuers_near = λ a alive. in_set a (issuer_found c b key a alive)

  pub receivers_near : HasReceivers c b key test
  unfolding HasReceivers
  receivers_near = λ a alive. in_set a (receiver_found c b key a alive)
