-- The table of rules: their order, and the codes that name them in texts.
use Rattle.std.specs.Prelude.{◌≡◌, ℕ, ◌<◌, Bool, true, List, [], ◌∷◌, codes, position, unwrap_or, nat_eq, nat_lt, ◌&&◌}
use Rattle.std.specs.Cmp.Lexicographic.{pointwise}
use Rattle.dubp_rules.specs.declared.rule.Rule.{Rule}
use Rattle.dubp_rules.specs.declared.rule.Rule.TheVariants.{X01, P01, X02, X07, L01, L02, L03, L04, L05, L06, L07, L08, L09, L10, L11, L12, L13, L14, L15, L16, L17, L18, L19, L20, L21, L22, L23, L24, G51, G52, G53, G49, G101, X03, X04, X08, G50, G54, G55, G56, G57, G58, G59, G60, G61, G62, X06, G63, G73, G74, G64, G75, G108, G82, G78, G81, G80, G77, G83, G84, G65, G66, G67, G68, G69, G70, G71, G72, G79, G76, G85, G86, X05, G103, G87, G88, G89, G90}

-- the rules, in the order in which they are read
abbrev pub table_rules : List Rule
table_rules =
    X01 ∷ P01 ∷ X02 ∷ X07 ∷ L01 ∷ L02 ∷ L03 ∷ L04 ∷ L05 ∷ L06 ∷ L07 ∷ L08 ∷ L09 ∷ L10 ∷ L11 ∷ L12 ∷
    L13 ∷ L14 ∷ L15 ∷ L16 ∷ L17 ∷ L18 ∷ L19 ∷ L20 ∷ L21 ∷ L22 ∷ L23 ∷ L24 ∷ G51 ∷ G52 ∷ G53 ∷ G49 ∷
    G101 ∷ X03 ∷ X04 ∷ X08 ∷ G50 ∷ G54 ∷ G55 ∷ G56 ∷ G57 ∷ G58 ∷ G59 ∷ G60 ∷ G61 ∷ G62 ∷ X06 ∷ G63 ∷
    G73 ∷ G74 ∷ G64 ∷ G75 ∷ G108 ∷ G82 ∷ G78 ∷ G81 ∷ G80 ∷ G77 ∷ G83 ∷ G84 ∷ G65 ∷ G66 ∷ G67 ∷ G68 ∷
    G69 ∷ G70 ∷ G71 ∷ G72 ∷ G79 ∷ G76 ∷ G85 ∷ G86 ∷ X05 ∷ G103 ∷ G87 ∷ G88 ∷ G89 ∷ G90 ∷ []

-- the code that names a rule
abbrev pub code_text : Rule → List ℕ
code_text X01 = codes "X01"
code_text P01 = codes "P01"
code_text X02 = codes "X02"
code_text X07 = codes "X07"
code_text L01 = codes "L01"
code_text L02 = codes "L02"
code_text L03 = codes "L03"
code_text L04 = codes "L04"
code_text L05 = codes "L05"
code_text L06 = codes "L06"
code_text L07 = codes "L07"
code_text L08 = codes "L08"
code_text L09 = codes "L09"
code_text L10 = codes "L10"
code_text L11 = codes "L11"
code_text L12 = codes "L12"
code_text L13 = codes "L13"
code_text L14 = codes "L14"
code_text L15 = codes "L15"
code_text L16 = codes "L16"
code_text L17 = codes "L17"
code_text L18 = codes "L18"
code_text L19 = codes "L19"
code_text L20 = codes "L20"
code_text L21 = codes "L21"
code_text L22 = codes "L22"
code_text L23 = codes "L23"
code_text L24 = codes "L24"
code_text G51 = codes "G51"
code_text G52 = codes "G52"
code_text G53 = codes "G53"
code_text G49 = codes "G49"
code_text G101 = codes "G101"
code_text X03 = codes "X03"
code_text X04 = codes "X04"
code_text X08 = codes "X08"
code_text G50 = codes "G50"
code_text G54 = codes "G54"
code_text G55 = codes "G55"
code_text G56 = codes "G56"
code_text G57 = codes "G57"
code_text G58 = codes "G58"
code_text G59 = codes "G59"
code_text G60 = codes "G60"
code_text G61 = codes "G61"
code_text G62 = codes "G62"
code_text X06 = codes "X06"
code_text G63 = codes "G63"
code_text G73 = codes "G73"
code_text G74 = codes "G74"
code_text G64 = codes "G64"
code_text G75 = codes "G75"
code_text G108 = codes "G108"
code_text G82 = codes "G82"
code_text G78 = codes "G78"
code_text G81 = codes "G81"
code_text G80 = codes "G80"
code_text G77 = codes "G77"
code_text G83 = codes "G83"
code_text G84 = codes "G84"
code_text G65 = codes "G65"
code_text G66 = codes "G66"
code_text G67 = codes "G67"
code_text G68 = codes "G68"
code_text G69 = codes "G69"
code_text G70 = codes "G70"
code_text G71 = codes "G71"
code_text G72 = codes "G72"
code_text G79 = codes "G79"
code_text G76 = codes "G76"
code_text G85 = codes "G85"
code_text G86 = codes "G86"
code_text X05 = codes "X05"
code_text G103 = codes "G103"
code_text G87 = codes "G87"
code_text G88 = codes "G88"
code_text G89 = codes "G89"
code_text G90 = codes "G90"

-- whether a text is the code of a rule
abbrev pub names : List ℕ → Rule → Bool
names text r = pointwise nat_eq text (code_text r)

-- the place of a rule in the table, from 0
abbrev pub place_of : Rule → ℕ
place_of r = unwrap_or (position (names (code_text r)) table_rules) 0

-- r stands before q in the table
abbrev pub StandsBefore : Rule → Rule → Type 0
StandsBefore r q = place_of r < place_of q

-- whether the places of the rules of a list rise
abbrev pub rises : {R : Type 0} → (R → ℕ) → List R → Bool
rises place [] = true
rises place (r ∷ []) = true
rises place (r ∷ q ∷ rs) = nat_lt (place r) (place q) && rises place (q ∷ rs)

-- the list keeps the order of the table, as each part of it does
abbrev pub IsInOrder : List Rule → Type 0
IsInOrder rs = rises place_of rs ≡ true
