-- How the code reads a condition. The laws that join it to the spelling stand in the contracts of `read_cond` and `is_cond`.
use Rattle.std.specs.Prelude.{ℕ, zero, suc, nat_le, List, length, Option, Some, None, option_map, if◌then◌else◌, codes}
use Rattle.dubp_atoms.specs.Letters.{is_key, is_hash}
use Rattle.dubp_atoms.specs.Reading.{◌>>=◌, text_if, number_of}
use Rattle.dubp_cond.specs.Tree.{ItemTree, sig, xhx, csv, cltv, group, AllTree, CondTree}
use Rattle.dubp_cond.specs.Conditions.{and_word, or_word}
use Rattle.dubp_cond.specs.Lists.{all_of, cond_of}
use Rattle.dubp_cond.specs.Separated.{Read, after, either, read_map, closed, go_on, if_last, separated}

-- ITEMs with ` && ` between
abbrev pub all_with : Read ItemTree → Read AllTree
all_with item text = read_map all_of (separated item and_word text)

-- ALLs with ` || ` between
abbrev pub cond_with : Read ItemTree → Read CondTree
cond_with item text = read_map cond_of (separated (all_with item) or_word text)

-- the group of a condition, with its `)`
abbrev pub shut : CondTree × List ℕ → Option (ItemTree × List ℕ)
shut c = option_map (λ rest. (group c.0, rest)) (after (codes ")") c.1)

-- the rest of a group, behind its `(`
abbrev pub group_with : Read CondTree → Read ItemTree
group_with inner text = inner text >>= shut

-- an item that is no group
abbrev pub leaf_at : Read ItemTree
leaf_at text =
    either (after (codes "SIG(") text) (λ r. read_map (λ key. sig key) (closed (text_if is_key) r))
    (either (after (codes "XHX(") text) (λ r. read_map (λ hash. xhx hash) (closed (text_if is_hash) r))
    (either (after (codes "CSV(") text) (λ r. read_map (λ seconds. csv seconds) (closed number_of r))
    (either (after (codes "CLTV(") text) (λ r. read_map (λ time. cltv time) (closed number_of r))
    None)))

-- an item that is no group, or None where a group begins
abbrev pub front_at : Read (Option ItemTree)
front_at text = either (after (codes "(") text) (λ rest. Some (None, rest)) (read_map (λ i. Some i) (leaf_at text))

abbrev pub item_on : Read CondTree → Option ItemTree → Read ItemTree
item_on inner (Some i) rest = Some (i, rest)
item_on inner None rest = group_with inner rest

abbrev pub item_with : Read CondTree → Read ItemTree
item_with inner text = front_at text >>= (λ p. item_on inner p.0 p.1)

-- an item with at most this many groups open at once
unfoldable pub item_at : ℕ → Read ItemTree
item_at zero = item_with (λ text. None)
item_at (suc groups) = item_with (cond_with (item_at groups))

abbrev pub all_at : ℕ → Read AllTree
all_at groups = all_with (item_at groups)

abbrev pub cond_at : ℕ → Read CondTree
cond_at groups = cond_with (item_at groups)

-- an ALL, a condition, and a group, behind the first item, ALL, and item of it
abbrev pub all_from : ℕ → ItemTree × List ℕ → Option (AllTree × List ℕ)
all_from groups p = read_map all_of (go_on (separated (item_at groups) and_word) p.0 (after and_word p.1) p.1)

abbrev pub cond_from : ℕ → AllTree × List ℕ → Option (CondTree × List ℕ)
cond_from groups p = read_map cond_of (go_on (separated (all_at groups) or_word) p.0 (after or_word p.1) p.1)

abbrev pub group_from : ℕ → ItemTree × List ℕ → Option (ItemTree × List ℕ)
group_from groups p = all_from groups p >>= (λ a. cond_from groups a >>= shut)

-- so many groups that are open, the innermost behind its first item, with at most so many open in it
abbrev pub in_open : ℕ → ℕ → ItemTree × List ℕ → Option (ItemTree × List ℕ)
in_open zero groups p = Some p
in_open (suc more) groups p = group_from groups p >>= in_open more (suc groups)

-- a condition that is the whole text
unfoldable pub cond_of_text : List ℕ → Option CondTree
cond_of_text text = if nat_le (length text) 1000 then cond_at 64 text >>= if_last else None
