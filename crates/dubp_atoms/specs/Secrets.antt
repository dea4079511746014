-- What a clause reads of a secret: no clause of the crates above does.
use Rattle.std.specs.declared.hash.DefaultHasher.{DefaultHasher}
use Rattle.dubp_atoms.specs.declared.secret.Secret.{Secret}

-- the hasher that each hasher is a copy of
abbrev pub begun : Secret → DefaultHasher
begun s = s.begun
