-- The refusals of a drift run and of one gate of it (01, 'Refusal numbers'): 1; 2 for what does not depend on the circuit; 4 for each secret key; 6 to 10; 2 for the rest.
use Rattle.std.specs.Prelude.{List, [], ◌∷◌, ℕ, ◌+◌, ◌*◌, length}
use Rattle.params.specs.declared.Params.{Params}
use Rattle.params.specs.Refusal.{Answer}
use Rattle.params.specs.Sizes.{size, switching_words, bootstrapping_words}
use Rattle.refusals.specs.Table.{is, holds, first_of, refusal_by}
use Rattle.tlwe.specs.Key.{binary}
use Rattle.circuit.specs.Form.{inputs, outputs, wires}
use Rattle.encrypted_run.specs.Refusals.{around}

-- The parameters; the words of the switching key, of the bootstrapping key and of both secret keys; then the secret keys' words, level 0 first.
unfoldable pub secrets_number : Params → ℕ → ℕ → List ℕ → List ℕ → ℕ
secrets_number p lk ls key z =
    refusal_by p
    (is lk (switching_words p) 2
    ∷ is ls (bootstrapping_words p) 2
    ∷ is (length key) p.n 2
    ∷ is (length z) (size p) 2
    ∷ holds (binary key) 4
    ∷ holds (binary z) 4
    ∷ [])

-- A ciphertext and a drift for each wire.
unfoldable pub drift_wires_number : Params → List ℕ → ℕ → ℕ → ℕ
drift_wires_number p bs lw ld = first_of (is lw (wires bs * (p.n + 1)) 2 ∷ is ld (wires bs) 2 ∷ [])

-- A ciphertext and a plain bit for each input, a ciphertext for each output, and the wires'.
unfoldable pub lent_number : Params → List ℕ → ℕ → ℕ → ℕ → ℕ → ℕ → ℕ
lent_number p bs li lp lw lo ld =
    first_of
    (is li (inputs bs * (p.n + 1)) 2
    ∷ is lp (inputs bs) 2
    ∷ is lo (outputs bs * (p.n + 1)) 2
    ∷ is lw (wires bs * (p.n + 1)) 2
    ∷ is ld (wires bs) 2
    ∷ [])

-- The answer of a drift run.
unfoldable pub drift_answer : Params → ℕ → ℕ → List ℕ → List ℕ → List ℕ → ℕ → ℕ → ℕ → ℕ → ℕ → Answer
drift_answer p lk ls key z bs li lp lw lo ld = around (secrets_number p lk ls key z) bs (lent_number p bs li lp lw lo ld)

-- The answer of one gate of it.
unfoldable pub drift_gate_answer : Params → ℕ → ℕ → List ℕ → List ℕ → List ℕ → ℕ → ℕ → Answer
drift_gate_answer p lk ls key z bs lw ld = around (secrets_number p lk ls key z) bs (drift_wires_number p bs lw ld)
