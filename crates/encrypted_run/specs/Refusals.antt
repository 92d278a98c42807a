-- The refusals of an encrypted run and of one gate of it (01, 'Refusal numbers'): 1, 2 for what does not depend on the circuit, 6 to 10, 2 for the rest.
use Rattle.std.specs.Prelude.{List, [], ◌∷◌, ℕ, ◌+◌, ◌*◌}
use Rattle.params.specs.declared.Params.{Params}
use Rattle.params.specs.Refusal.{Answer}
use Rattle.params.specs.Refusal.{answer}
use Rattle.params.specs.Sizes.{switching_words, bootstrapping_words}
use Rattle.refusals.specs.Table.{is, first_of, refusal_by}
use Rattle.encrypted_run.specs.declared.Lengths.{Lengths}
use Rattle.circuit.specs.Form.{inputs, outputs, wires, answer_of, or_else}

-- The answer of a call on a circuit: the refusal of what does not depend on it, its own, then that of what does (01: '.. so there 2 comes last for those').
abbrev pub around : ℕ → List ℕ → ℕ → Answer
around before bs after = or_else (answer before) (or_else (answer_of bs) (answer after))

-- The parameters, then the words of the switching key and of the bootstrapping key.
unfoldable pub material_number : Params → ℕ → ℕ → ℕ
material_number p lk ls = refusal_by p (is lk (switching_words p) 2 ∷ is ls (bootstrapping_words p) 2 ∷ [])

-- The answer of an encrypted run: its lent ciphertexts are n + 1 words for each input, each output and each wire.
unfoldable pub encrypted_answer : Params → ℕ → ℕ → List ℕ → ℕ → ℕ → ℕ → Answer
encrypted_answer p lk ls bs li lw lo =
    around (material_number p lk ls) bs
    (first_of (is li (inputs bs * (p.n + 1)) 2 ∷ is lo (outputs bs * (p.n + 1)) 2 ∷ is lw (wires bs * (p.n + 1)) 2 ∷ []))

-- The answer of one gate of a run.
unfoldable pub step_answer : Params → ℕ → ℕ → List ℕ → ℕ → Answer
step_answer p lk ls bs lw = around (material_number p lk ls) bs (first_of (is lw (wires bs * (p.n + 1)) 2 ∷ []))

-- What a circuit's counts ask of the slices of a run: a ciphertext has n + 1 words.
unfoldable pub lengths_of : Params → List ℕ → Lengths
lengths_of p bs = record { inputs = inputs bs; wires = wires bs; ins = inputs bs * (p.n + 1); held = wires bs * (p.n + 1); outs = outputs bs * (p.n + 1) }
