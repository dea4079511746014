-- Both say the same line.
use Rattle.dubp_places.proofs.Lines.{names_the_line}
use Rattle.dubp_places.proofs.places_name_the_line.Goals as goal

pub returns : goal.returns
returns c = λ bytes line. names_the_line bytes line
