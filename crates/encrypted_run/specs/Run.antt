-- The encrypted run of a circuit (01, 'Circuits'): each wire's ciphertext, gate after gate.
use Rattle.std.specs.Prelude.{List, ◌++◌, ℕ, zero, suc, ◌+◌, ◌*◌, ltb, length, take, drop, cond}
use Rattle.params.specs.declared.Params.{Params}
use Rattle.params.specs.Refusal.{if_done}
use Rattle.circuit.specs.Form.{inputs, gates, outputs, kind_at, operand_at, output_at}
use Rattle.ways.specs.Ways.{way_of, ran}
use Rattle.ways.specs.Ciphers.{cipher_at}
use Rattle.encrypted_run.specs.Refusals.{encrypted_answer, step_answer}
use Rattle.ring.specs.Lists.{joined}

-- The ciphertext of gate g, those of the wires before it being ws: its kind's way on its operands' ciphertexts.
unfoldable pub gate_cipher : Params → List ℕ → List ℕ → List ℕ → List ℕ → ℕ → List ℕ
gate_cipher p ksk bsk bs ws g = ran p ksk bsk (way_of (kind_at bs g)) (cipher_at p ws (operand_at bs g 0)) (cipher_at p ws (operand_at bs g 1)) (cipher_at p ws (operand_at bs g 2))

-- The wires' ciphertexts after g gates, the inputs' being given: each gate adds its own.
unfoldable pub ciphers_to : Params → List ℕ → List ℕ → List ℕ → List ℕ → ℕ → List ℕ
ciphers_to p ksk bsk bs ins zero = ins
ciphers_to p ksk bsk bs ins (suc g) = ciphers_to p ksk bsk bs ins g ++ gate_cipher p ksk bsk bs (ciphers_to p ksk bsk bs ins g) g

-- Every wire's ciphertext, in wire order.
abbrev pub ciphers_of : Params → List ℕ → List ℕ → List ℕ → List ℕ → List ℕ
ciphers_of p ksk bsk bs ins = ciphers_to p ksk bsk bs ins (gates bs)

-- The outputs' ciphertexts, one after another, from the wires'.
unfoldable pub output_ciphers : Params → List ℕ → List ℕ → List ℕ
output_ciphers p bs ws = joined (outputs bs) (λ o. cipher_at p ws (output_at bs o))

-- ---- what the lent slices hold afterwards

-- The wires' slice, which held ws, after a run.
unfoldable pub wires_after : Params → List ℕ → List ℕ → List ℕ → List ℕ → List ℕ → List ℕ → List ℕ
wires_after p ksk bsk bs ins ws out = if_done (encrypted_answer p (length ksk) (length bsk) bs (length ins) (length ws) (length out)).number (ciphers_of p ksk bsk bs ins) ws

-- The outputs' slice, which held out.
unfoldable pub outputs_after : Params → List ℕ → List ℕ → List ℕ → List ℕ → List ℕ → List ℕ → List ℕ
outputs_after p ksk bsk bs ins ws out = if_done (encrypted_answer p (length ksk) (length bsk) bs (length ins) (length ws) (length out)).number (output_ciphers p bs (ciphers_of p ksk bsk bs ins)) out

-- The ciphertexts of the wires before gate g.
abbrev pub wires_before : Params → List ℕ → ℕ → List ℕ → List ℕ
wires_before p bs g ws = take ((inputs bs + g) * (p.n + 1)) ws

-- Gate g's ciphertext in its place among the wires', the wires before it being there.
unfoldable pub stepped : Params → List ℕ → List ℕ → List ℕ → ℕ → List ℕ → List ℕ
stepped p ksk bsk bs g ws = wires_before p bs g ws ++ gate_cipher p ksk bsk bs (wires_before p bs g ws) g ++ drop ((inputs bs + g + 1) * (p.n + 1)) ws

-- The wires' slice, which held ws, after one gate of a run; a circuit that has no gate g leaves it as it was.
unfoldable pub step_after : Params → List ℕ → List ℕ → List ℕ → ℕ → List ℕ → List ℕ
step_after p ksk bsk bs g ws =
    if_done (step_answer p (length ksk) (length bsk) bs (length ws)).number (cond (ltb g (gates bs)) (stepped p ksk bsk bs g ws) ws) ws
