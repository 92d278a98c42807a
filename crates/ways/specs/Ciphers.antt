-- Ciphertexts of level 0 one after another in a slice, n + 1 words each: the wires' of a run (01, 'Circuits').
use Rattle.std.specs.Prelude.{List, ℕ, ◌+◌, ◌*◌}
use Rattle.ring.specs.Lists.{part}
use Rattle.params.specs.declared.Params.{Params}

-- The ciphertext of wire w.
unfoldable pub cipher_at : Params → List ℕ → ℕ → List ℕ
cipher_at p ws w = part (p.n + 1) (w * (p.n + 1)) ws
