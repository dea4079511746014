-- The one spelling of an UNLOCK line, and which lines have one. Protocol: unlocks.
use Rattle.std.specs.Prelude.{ℕ, ◌≤◌, ◌≡◌, Bool, true, not, ◌&&◌, List, ◌∷◌, ◌++◌, length, map, codes, decimal, All}
use Rattle.std.specs.List.{list_all}
use Rattle.dubp_atoms.specs.Letters.{COLON, is_between}
use Rattle.dubp_atoms.specs.Spelling.{IsNumber}
use Rattle.dubp_cond.specs.Signs.{LEFT_PARENTHESIS, RIGHT_PARENTHESIS, EXCLAMATION_MARK, TILDE}
use Rattle.dubp_cond.specs.Joined.{joined}
use Rattle.dubp_cond.specs.declared.unlock.Unlock.{Unlock}
use Rattle.dubp_cond.specs.declared.unlock.Unlock.TheVariants.{Sig, Xhx}
use Rattle.dubp_cond.specs.declared.unlock.UnlockLine.{UnlockLine}

-- `!` to `~` other than `(` and `)`
abbrev pub is_password_letter : ℕ → Bool
is_password_letter c = is_between EXCLAMATION_MARK TILDE c && not (is_between LEFT_PARENTHESIS RIGHT_PARENTHESIS c)

-- PASSWORD: 1 to 255 of these characters
unfoldable pub is_password : List ℕ → Bool
is_password text = is_between 1 255 (length text) && list_all is_password_letter text

-- `SIG(NUM)` or `XHX(PASSWORD)`
abbrev pub unlock_text : Unlock → List ℕ
unlock_text (Sig issuer) = codes "SIG(" ++ (decimal issuer ++ codes ")")
unlock_text (Xhx password) = codes "XHX(" ++ (password ++ codes ")")

abbrev pub IsUnlock : Unlock → Type 0
IsUnlock (Sig issuer) = IsNumber issuer
IsUnlock (Xhx password) = is_password password ≡ true

-- UNLOCK: NUM, `:`, and the functions with one space between
abbrev pub unlock_line_text : UnlockLine → List ℕ
unlock_line_text l = decimal l.input ++ COLON ∷ joined (codes " ") (map unlock_text l.list)

-- 1 to 8 functions, and at most 1,000 characters
pub record IsUnlockLine (l : UnlockLine) : Type 0 where
  pub input : IsNumber l.input
  pub some : 1 ≤ length l.list
  pub few : length l.list ≤ 8
  pub each : All IsUnlock l.list
  pub short : length (unlock_line_text l) ≤ 1000
