-- Bytes written over a part of a slice: for the contracts of private routines, of this crate and of those that build on it.
use Rattle.std.specs.Prelude.{List, ◌++◌, ℕ, ◌+◌, length, take, drop}

-- o with the bytes p from place i on.
unfoldable pub splice : List ℕ → ℕ → List ℕ → List ℕ
splice o i p = take i o ++ p ++ drop (i + length p) o
