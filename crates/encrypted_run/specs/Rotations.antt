-- The blind rotations of an encrypted run (02, 2026-03: 'the number of blind rotations that the definition of the encrypted run performs'): the run names the sums that it
-- rotates, gate after gate, and there is one rotation for each.
use Rattle.std.specs.Prelude.{List, [], ◌++◌, ℕ, zero, suc}
use Rattle.params.specs.declared.Params.{Params}
use Rattle.circuit.specs.Form.{gates, kind_at, operand_at}
use Rattle.ways.specs.Ways.{way_of, rotated_sums}
use Rattle.ways.specs.Ciphers.{cipher_at}
use Rattle.encrypted_run.specs.Run.{ciphers_to}

-- The sums that gate g rotates, the ciphertexts of the wires before it being ws: those of whose samples its ciphertext is made (`gate_cipher`).
unfoldable pub gate_rotated : Params → List ℕ → List ℕ → ℕ → List (List ℕ)
gate_rotated p bs ws g = rotated_sums p (way_of (kind_at bs g)) (cipher_at p ws (operand_at bs g 0)) (cipher_at p ws (operand_at bs g 1)) (cipher_at p ws (operand_at bs g 2))

-- The sums that the first g gates rotate, in order.
unfoldable pub rotated_to : Params → List ℕ → List ℕ → List ℕ → List ℕ → ℕ → List (List ℕ)
rotated_to p ksk bsk bs ins zero = []
rotated_to p ksk bsk bs ins (suc g) = rotated_to p ksk bsk bs ins g ++ gate_rotated p bs (ciphers_to p ksk bsk bs ins g) g

-- All that a run rotates.
abbrev pub rotated_of : Params → List ℕ → List ℕ → List ℕ → List ℕ → List (List ℕ)
rotated_of p ksk bsk bs ins = rotated_to p ksk bsk bs ins (gates bs)
