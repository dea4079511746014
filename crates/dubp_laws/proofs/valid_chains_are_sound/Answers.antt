use Rattle.dubp_laws.proofs.Sound.{valid_is_sound}
use Rattle.dubp_laws.proofs.valid_chains_are_sound.Goals as goal

pub returns : goal.returns
returns c = valid_is_sound
