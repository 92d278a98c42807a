-- The drifts of a circuit's wires and rotations as words: what specs/Circuit.antt defines in whole numbers, brought modulo 2^32 (proofs/Lists.antt). A reader of the public contracts can leave this file.
use Rattle.std.specs.Prelude.{Bool, true, false, cond, List, [], ◌∷◌, ◌++◌, map, ℕ, zero, suc, ◌%◌}
use Rattle.ring.specs.Word.{Q, at, neg}
use Rattle.ring.specs.Sums.{tab}
use Rattle.params.specs.declared.Params.{Params}
use Rattle.gate_sums.specs.declared.Kind.TheVariants.{And, AndNy}
use Rattle.gate_sums.specs.Sum.{summed}
use Rattle.circuit.specs.Form.{inputs, outputs, kind_at, operand_at, output_at}
use Rattle.ways.specs.declared.Way.{Way}
use Rattle.ways.specs.declared.Way.TheVariants.{Known, Negated, Gate, NegatedGate, Choice}
use Rattle.ways.specs.Ways.{way_of, operand, rotations_of, rotation_sum}
use Rattle.ways.specs.Ciphers.{cipher_at}
use Rattle.encrypted_run.specs.Run.{ciphers_to}
use Rattle.drift.specs.PrivateWords.{fresh_word, brought_word, gate_word, mux_word}
use Rattle.ring.specs.Bit.{truth}
use Rattle.drift_size.specs.Size.{inside_word, worse_word}

-- The drift of a way on operands a, b and c, the drift of a being da.
unfoldable pub way_word : Params → List ℕ → List ℕ → List ℕ → List ℕ → Way → List ℕ → List ℕ → List ℕ → ℕ → ℕ
way_word p key z ksk bsk (Known bit) a b c da = cond bit 0 1
way_word p key z ksk bsk Negated a b c da = neg da % Q
way_word p key z ksk bsk (Gate kind) a b c da = gate_word p key z ksk bsk (summed p kind a b)
way_word p key z ksk bsk (NegatedGate kind) a b c da = neg (gate_word p key z ksk bsk (summed p kind a b)) % Q
way_word p key z ksk bsk Choice a b c da = mux_word p key z ksk bsk (summed p And a b) (summed p AndNy a c)

-- What is brought into its rotations, in order.
unfoldable pub way_brought_words : Params → List ℕ → Way → List ℕ → List ℕ → List ℕ → ℕ → ℕ → ℕ → List ℕ
way_brought_words p key way a b c da db dc =
    map (λ r. brought_word p r.kind key (rotation_sum p a b c r) (operand r.x da db dc) (operand r.y da db dc)) (rotations_of way)

-- Gate g's drift, the wires before it having the ciphertexts ws and the drifts ds.
unfoldable pub gate_word_on : Params → List ℕ → List ℕ → List ℕ → List ℕ → List ℕ → List ℕ → List ℕ → ℕ → ℕ
gate_word_on p key z ksk bsk bs ws ds g =
    way_word p key z ksk bsk (way_of (kind_at bs g))
    (cipher_at p ws (operand_at bs g 0)) (cipher_at p ws (operand_at bs g 1)) (cipher_at p ws (operand_at bs g 2)) (at ds (operand_at bs g 0))

-- What is brought into its rotations.
unfoldable pub gate_brought_words : Params → List ℕ → List ℕ → List ℕ → List ℕ → ℕ → List ℕ
gate_brought_words p key bs ws ds g =
    way_brought_words p key (way_of (kind_at bs g))
    (cipher_at p ws (operand_at bs g 0)) (cipher_at p ws (operand_at bs g 1)) (cipher_at p ws (operand_at bs g 2))
    (at ds (operand_at bs g 0)) (at ds (operand_at bs g 1)) (at ds (operand_at bs g 2))

-- The fresh drifts of the inputs.
unfoldable pub fresh_words : Params → List ℕ → List ℕ → List ℕ → ℕ → List ℕ
fresh_words p key ins plain count = tab count (λ i. fresh_word p key (cipher_at p ins i) (truth (at plain i)))

-- The wires' drifts after g gates.
unfoldable pub drift_words_to : Params → List ℕ → List ℕ → List ℕ → List ℕ → List ℕ → List ℕ → List ℕ → ℕ → List ℕ
drift_words_to p key z ksk bsk bs ins plain zero = fresh_words p key ins plain (inputs bs)
drift_words_to p key z ksk bsk bs ins plain (suc g) =
    drift_words_to p key z ksk bsk bs ins plain g
    ++ (gate_word_on p key z ksk bsk bs (ciphers_to p ksk bsk bs ins g) (drift_words_to p key z ksk bsk bs ins plain g) g ∷ [])

-- What is brought into the rotations of the first g gates.
unfoldable pub brought_words_to : Params → List ℕ → List ℕ → List ℕ → List ℕ → List ℕ → List ℕ → List ℕ → ℕ → List ℕ
brought_words_to p key z ksk bsk bs ins plain zero = []
brought_words_to p key z ksk bsk bs ins plain (suc g) =
    brought_words_to p key z ksk bsk bs ins plain g
    ++ gate_brought_words p key bs (ciphers_to p ksk bsk bs ins g) (drift_words_to p key z ksk bsk bs ins plain g) g

-- Are all of these inside?
unfoldable pub all_words : List ℕ → Bool
all_words [] = true
all_words (d ∷ ds) = cond (inside_word d) (all_words ds) false

-- The outputs' drifts, from the wires'.
unfoldable pub output_words : List ℕ → List ℕ → List ℕ
output_words bs ds = tab (outputs bs) (λ o. at ds (output_at bs o))

-- The one of these and of w that is largest in absolute value.
unfoldable pub worst_words : ℕ → List ℕ → ℕ
worst_words w [] = w
worst_words w (d ∷ ds) = worst_words (worse_word w d) ds
