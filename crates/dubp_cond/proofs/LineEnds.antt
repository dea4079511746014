-- No text of these has a line end in it, so that lines can be cut at LF.
use Rattle.std.proofs.Common.{◌≡◌, ℕ, ◌<◌, ◌≤◌, ◌^◌, Bool, true, not, ◌==◌, List, [], ◌∷◌, ◌++◌, map, codes, decimal, refl, arith}
use Rattle.std.specs.List.{list_all, AllByRecursion}
use Rattle.std.proofs.lemmas.List.Elements.{recursion_from_All}
use Rattle.dubp_atoms.specs.Reading.{Lacks}
use Rattle.dubp_atoms.proofs.Numbers.{both}
use Rattle.dubp_atoms.proofs.Fields.{Lacks-append, Lacks-cons, Lacks-all}
use Rattle.dubp_atoms.proofs.Stamps.{line_end, number_lacks, key_lacks, hash_lacks}
use Rattle.dubp_cond.specs.Tree.{ItemTree, sig, xhx, csv, cltv, group, AllTree, no_items, add_item, CondTree, no_alls, add_all}
use Rattle.dubp_cond.specs.Joined.{joined}
use Rattle.dubp_cond.specs.Conditions.{and_word, or_word, item_text, item_texts, all_texts, cond_text, FitsItem, FitsAll, FitItems, FitsCond, FitAlls, IsCond}
use Rattle.dubp_cond.specs.Sources.{source_text, IsSource, input_text, IsInput}
use Rattle.dubp_cond.specs.Unlocks.{is_password_letter, is_password, unlock_text, IsUnlock, unlock_line_text, IsUnlockLine}
use Rattle.dubp_cond.specs.Outputs.{output_text, IsOutput}
use Rattle.dubp_cond.specs.Transactions.{is_comment_letter, is_comment}
use Rattle.dubp_cond.specs.declared.source.SourceId.{SourceId}
use Rattle.dubp_cond.specs.declared.source.SourceId.TheVariants.{D, T}
use Rattle.dubp_cond.specs.declared.source.Input.{Input}
use Rattle.dubp_cond.specs.declared.unlock.Unlock.{Unlock}
use Rattle.dubp_cond.specs.declared.unlock.Unlock.TheVariants.{Sig, Xhx}
use Rattle.dubp_cond.specs.declared.unlock.UnlockLine.{UnlockLine}
use Rattle.dubp_cond.specs.declared.output.Output.{Output}

abbrev other : ℕ → Bool
other c = not (c == 10)

-- a fixed word, by a test that computes
word_lacks : (word : List ℕ) → list_all other word ≡ true → Lacks 10 word
word_lacks word h = Lacks-all 10 other word (omega arith) refl h

colon_lacks : (t : List ℕ) → Lacks 10 t → Lacks 10 (58 ∷ t)
colon_lacks t h = Lacks-cons 10 58 t (λ e. omega arith) h

function_lacks : (word value : List ℕ) → list_all other word ≡ true → Lacks 10 value → Lacks 10 (word ++ (value ++ codes ")"))
function_lacks word value h v = Lacks-append 10 word (value ++ codes ")") (word_lacks word h) (Lacks-append 10 value (codes ")") v (word_lacks (codes ")") refl))

joined_lacks : (word : List ℕ) → Lacks 10 word → (ts : List (List ℕ)) → AllByRecursion (Lacks 10) ts → Lacks 10 (joined word ts)
joined_lacks word w [] h = λ k e. omega arith
joined_lacks word w (t ∷ []) h = h.0
joined_lacks word w (t ∷ u ∷ ts) h = Lacks-append 10 t (word ++ joined word (u ∷ ts)) h.0 (Lacks-append 10 word (joined word (u ∷ ts)) w (joined_lacks word w (u ∷ ts) h.1))

number : (n : ℕ) → n < 2 ^ 53 → Lacks 10 (decimal n)
number n lt = number_lacks 10 line_end n lt

and_lacks : Lacks 10 and_word
and_lacks = word_lacks and_word refl

or_lacks : Lacks 10 or_word
or_lacks = word_lacks or_word refl

mutual
  item_lacks : (i : ItemTree) → FitsItem i → Lacks 10 (item_text i)
  item_lacks (sig k) f = function_lacks (codes "SIG(") k refl (key_lacks 10 line_end k f)
  item_lacks (xhx h) f = function_lacks (codes "XHX(") h refl (hash_lacks 10 line_end h f)
  item_lacks (csv n) f = function_lacks (codes "CSV(") (decimal n) refl (number n f)
  item_lacks (cltv n) f = function_lacks (codes "CLTV(") (decimal n) refl (number n f)
  item_lacks (group c) f = function_lacks (codes "(") (cond_text c) refl (joined_lacks or_word or_lacks (all_texts c) (each_alls c f))

  items_lack : (a : AllTree) → FitItems a → AllByRecursion (Lacks 10) (item_texts a)
  items_lack no_items f = tt
  items_lack (add_item i more) f = (item_lacks i f.0, items_lack more f.1)

  each_items : (a : AllTree) → FitsAll a → AllByRecursion (Lacks 10) (item_texts a)
  each_items no_items f = absurd f
  each_items (add_item i more) f = (item_lacks i f.0, items_lack more f.1)

  alls_lack : (c : CondTree) → FitAlls c → AllByRecursion (Lacks 10) (all_texts c)
  alls_lack no_alls f = tt
  alls_lack (add_all a more) f = (joined_lacks and_word and_lacks (item_texts a) (each_items a f.0), alls_lack more f.1)

  each_alls : (c : CondTree) → FitsCond c → AllByRecursion (Lacks 10) (all_texts c)
  each_alls no_alls f = absurd f
  each_alls (add_all a more) f = (joined_lacks and_word and_lacks (item_texts a) (each_items a f.0), alls_lack more f.1)

pub cond_lacks : (c : CondTree) → IsCond c → Lacks 10 (cond_text c)
cond_lacks c is = joined_lacks or_word or_lacks (all_texts c) (each_alls c is.fits)

source_lacks : (s : SourceId) → IsSource s → Lacks 10 (source_text s)
source_lacks (D key block) is = Lacks-append 10 (codes "D:") (key ++ 58 ∷ decimal block) (word_lacks (codes "D:") refl) (Lacks-append 10 key (58 ∷ decimal block) (key_lacks 10 line_end key is.0) (colon_lacks (decimal block) (number block is.1)))
source_lacks (T tx index) is = Lacks-append 10 (codes "T:") (tx ++ 58 ∷ decimal index) (word_lacks (codes "T:") refl) (Lacks-append 10 tx (58 ∷ decimal index) (hash_lacks 10 line_end tx is.0) (colon_lacks (decimal index) (number index is.1)))

-- an amount, a base, and what follows
amount_lacks : (amount base : ℕ) (t : List ℕ) → amount < 2 ^ 53 → base ≤ 15 → Lacks 10 t → Lacks 10 (decimal amount ++ 58 ∷ (decimal base ++ 58 ∷ t))
amount_lacks amount base t a b h =
    Lacks-append 10 (decimal amount) (58 ∷ (decimal base ++ 58 ∷ t)) (number amount a)
    (colon_lacks (decimal base ++ 58 ∷ t) (Lacks-append 10 (decimal base) (58 ∷ t) (number base (omega arith)) (colon_lacks t h)))

pub input_lacks : (i : Input) → IsInput i → Lacks 10 (input_text i)
input_lacks i is = amount_lacks i.amount i.base (source_text i.source) is.amount is.base (source_lacks i.source is.source)

pub output_lacks : (o : Output) → IsOutput o → Lacks 10 (output_text o)
output_lacks o is = amount_lacks o.amount o.base (cond_text o.cond) is.amount is.base (cond_lacks o.cond is.cond)

password_lacks : (t : List ℕ) → is_password t ≡ true → Lacks 10 t
unfolding is_password
password_lacks t h = Lacks-all 10 is_password_letter t (omega arith) refl (both _ _ h).1

unlock_lacks : (u : Unlock) → IsUnlock u → Lacks 10 (unlock_text u)
unlock_lacks (Sig n) is = function_lacks (codes "SIG(") (decimal n) refl (number n is)
unlock_lacks (Xhx t) is = function_lacks (codes "XHX(") t refl (password_lacks t is)

unlocks_lack : (list : List Unlock) → AllByRecursion IsUnlock list → AllByRecursion (Lacks 10) (map unlock_text list)
unlocks_lack [] h = tt
unlocks_lack (u ∷ us) h = (unlock_lacks u h.0, unlocks_lack us h.1)

pub unlock_line_lacks : (l : UnlockLine) → IsUnlockLine l → Lacks 10 (unlock_line_text l)
unlock_line_lacks l is =
    let texts = map unlock_text l.list in
    Lacks-append 10 (decimal l.input) (58 ∷ joined (codes " ") texts) (number l.input is.input)
    (colon_lacks (joined (codes " ") texts) (joined_lacks (codes " ") (word_lacks (codes " ") refl) texts (unlocks_lack l.list (recursion_from_All IsUnlock l.list is.each))))

pub comment_lacks : (t : List ℕ) → is_comment t ≡ true → Lacks 10 t
unfolding is_comment
comment_lacks t h = Lacks-all 10 is_comment_letter t (omega arith) refl (both _ _ h).1
