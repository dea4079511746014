-- Keys and numbers whose values were computed by another program.
use Rattle.std.proofs.Common.{◌≡◌, codes, refl}
use Rattle.dubp_drafts.specs.Keys.{key_text}
use Rattle.dubp_drafts.specs.Numbers.{number_after}

first_key : key_text 0 ≡ codes "1111111111111111111111111111111111111111111"
first_key = refl

greatest_low_digits : key_text 3363 ≡ codes "11111111111111111111111111111111111111111zz"
greatest_low_digits = refl

some_key : key_text 123456 ≡ codes "1111111111111111111111111111111111111111dhZ"
some_key = refl

last_key : key_text 195111 ≡ codes "1111111111111111111111111111111111111111zzz"
last_key = refl

second_number : number_after 1442695040888963407 ≡ 1876011003808476466
second_number = refl

third_number : number_after 1876011003808476466 ≡ 11166244414315200793
third_number = refl
