-- What the routines inside this crate promise each other; a reader of the public contract can leave it.
use Rattle.std.specs.Prelude.{◌≡◌, List, ℕ, ◌+◌, length}
use Rattle.params.specs.declared.Params.{Params}

-- What is known where a call is not refused for its lengths (01, 'Refusal numbers', 2): a key and a ciphertext of level 0.
pub record Fits (p : Params) (key src : List ℕ) : Type 0 where
  pub long : length key ≡ p.n
  pub words : length src ≡ p.n + 1
