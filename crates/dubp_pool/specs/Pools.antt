-- The documents that wait for a block: their list, in the order in which they came. Protocol: documents that wait.
use Rattle.std.specs.Prelude.{◌≡◌, ◌≤◌, ◌<◌, ℕ, Bool, true, false, not, List, [], ◌∷◌, ◌++◌, length, map, filter, Result, Ok, Err, ⊤}
use Rattle.std.specs.List.{AllByRecursion, list_any}
use Rattle.dubp_atoms.specs.Hashing.{hash_of}
use Rattle.dubp_atoms.specs.Same.{Text, same_text}
use Rattle.dubp_docs.specs.Spelling.{IsDoc, doc_text}
use Rattle.dubp_docs.specs.declared.doc.Doc.{Doc}
use Rattle.dubp_pool.specs.declared.refusal.PendRefusal.{PendRefusal}
use Rattle.dubp_pool.specs.declared.refusal.PendRefusal.TheVariants.{Unread, Known, Full, NoMemory}

-- how many documents wait at most
abbrev pub most_pending : ℕ
most_pending = 1024

-- what a document is known by: the SHA-256 of its text
abbrev pub doc_hash : Doc → Text
doc_hash d = hash_of (doc_text d)

abbrev pub has_hash : Text → Doc → Bool
has_hash hash d = same_text hash (doc_hash d)

abbrev pub is_pending : List Doc → Text → Bool
is_pending pool hash = list_any (has_hash hash) pool

abbrev pub without : Text → List Doc → List Doc
without hash pool = filter (λ d. not (has_hash hash d)) pool

-- no two of these documents have one text
abbrev pub AreApart : List Doc → Type 0
AreApart [] = ⊤
AreApart (d ∷ pool) = (is_pending pool (doc_hash d) ≡ false) × AreApart pool

-- what may wait
pub record ArePending (pool : List Doc) : Type 0 where
  pub each : AllByRecursion IsDoc pool
  pub apart : AreApart pool
  pub few : length pool ≤ most_pending

-- ---- a document more

-- the document goes to the end, unless it waits already or as many wait as may
abbrev pub Keeps : List Doc → Doc → Result Text PendRefusal → List Doc → Type 0
Keeps old d (Ok hash) new = (hash ≡ doc_hash d) × (is_pending old hash ≡ false) × (length old < most_pending) × (new ≡ old ++ d ∷ [])
Keeps old d (Err (Known hash)) new = (hash ≡ doc_hash d) × (is_pending old hash ≡ true) × (new ≡ old)
Keeps old d (Err (Full held)) new = (is_pending old (doc_hash d) ≡ false) × (held ≡ length old) × (most_pending ≤ held) × (new ≡ old)
Keeps old d (Err NoMemory) new = new ≡ old
Keeps old d (Err Unread) new = ⊥

-- these bytes are the text of this document
pub record IsRead (bytes : List ℕ) (d : Doc) : Type 0 where
  pub is : IsDoc d
  pub text : bytes ≡ doc_text d

-- the document of these bytes, or they are that of none; memory is wanted for documents alone
abbrev pub Pends : List Doc → List ℕ → Result Text PendRefusal → List Doc → Type 0
Pends old bytes (Ok hash) new = (d : Doc) × IsRead bytes d × Keeps old d (Ok hash) new
Pends old bytes (Err (Known hash)) new = (d : Doc) × IsRead bytes d × Keeps old d (Err (Known hash)) new
Pends old bytes (Err (Full held)) new = (d : Doc) × IsRead bytes d × Keeps old d (Err (Full held)) new
Pends old bytes (Err Unread) new = ((d : Doc) → IsRead bytes d → ⊥) × (new ≡ old)
Pends old bytes (Err NoMemory) new = ((d : Doc) × IsRead bytes d) × (new ≡ old)

-- ---- what private contracts see: the map of the documents by their hashes

abbrev pub Entries : Type 0
Entries = List (Text × Doc)

abbrev pub entry_of : Doc → Text × Doc
entry_of d = (doc_hash d, d)

abbrev pub documents_in : Entries → List Doc
documents_in entries = map (λ e. e.1) entries

-- each stands under its hash, and they may wait
pub record AreKept (entries : Entries) : Type 0 where
  pub whole : entries ≡ map entry_of (documents_in entries)
  pub pending : ArePending (documents_in entries)

-- the key of an entry is another
abbrev pub differs : Text → Text → Bool
differs hash key = not (same_text key hash)
