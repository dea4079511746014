-- A refusal of a part is the refusal of the whole.
use Rattle.std.proofs.Common.{◌≡◌, ℕ, Result, Err}
use Rattle.dubp_lines.specs.declared.refusal.LineRefusal.{LineRefusal}
use Rattle.dubp_lines.specs.declared.refusal.LineRefusal.TheVariants as refusals
use Rattle.dubp_lines.specs.Taking.{Refuses}

pub refuses_on : {X Y : Type 0} (e : LineRefusal) (part : Result X ℕ) (whole : Result Y ℕ) → ((n : ℕ) → part ≡ Err n → whole ≡ Err n) → Refuses e part → Refuses e whole
refuses_on refusals.NoMemory part whole to h = tt
refuses_on (refusals.Left n) part whole to h = to n h
