-- The short way to a wire's drift, which the code goes (proofs/Sides.antt shows that it is the drift of specs/PrivateWords.antt): since the accumulator's phase is always the test
-- vector turned, plus the tracked drift, a gate's drift is its wire's phase less ±2^29 by the side on which the rounded turn falls. That side need not be the plain bit. A reader of the public contracts can leave this file.
use Rattle.std.specs.Prelude.{Bool, cond, List, [], ◌∷◌, ◌++◌, ℕ, zero, suc, ◌+◌, ◌%◌, ltb}
use Rattle.ring.specs.Word.{Q, at, neg, eighth}
use Rattle.ring.specs.Turn.{source, negating}
use Rattle.params.specs.declared.Params.{Params}
use Rattle.params.specs.Sizes.{size}
use Rattle.tlwe.specs.Plain.{bit_word}
use Rattle.blind_rotation.specs.Drift.{turn_to}
use Rattle.gate_sums.specs.declared.Kind.TheVariants.{And, AndNy}
use Rattle.gate_sums.specs.Sum.{summed}
use Rattle.circuit.specs.Form.{inputs, kind_at, operand_at}
use Rattle.ways.specs.declared.Way.{Way}
use Rattle.ways.specs.declared.Way.TheVariants.{Known, Negated, Gate, NegatedGate, Choice}
use Rattle.ways.specs.Ways.{way_of}
use Rattle.ways.specs.Ciphers.{cipher_at}
use Rattle.drift.specs.PrivateCircuit.{gate_brought_words}
use Rattle.ring.specs.Phase.{phase_of}
use Rattle.ring.specs.Pair.{Pair}

-- The place, below 2N, that all turns of a rotation by src bring to the front: the rounded phase of src, in steps (01, trgsw: 'Rounding').
abbrev pub place_of : Params → List ℕ → List ℕ → ℕ
place_of p key src = source (size p) (turn_to p key src p.n) 0

-- Does it fall below N?
unfoldable pub side_of : Params → List ℕ → List ℕ → Bool
side_of p key src = ltb (place_of p key src) (size p)

-- The coefficient of v's b that the turns of a rotation by src bring to the front, with true negation: what the extracted sample carries.
unfoldable pub front_word : Params → Pair → List ℕ → List ℕ → ℕ
front_word p v key src = at (negating (size p) (turn_to p key src p.n) v.b) 0

-- The word that the rotations of a way put into its ciphertext own, by their sides.
unfoldable pub carried_word : Params → List ℕ → Way → List ℕ → List ℕ → List ℕ → ℕ
carried_word p key (Known bit) a b c = 0
carried_word p key Negated a b c = 0
carried_word p key (Gate kind) a b c = bit_word (side_of p key (summed p kind a b))
carried_word p key (NegatedGate kind) a b c = neg (bit_word (side_of p key (summed p kind a b)))
carried_word p key Choice a b c = bit_word (side_of p key (summed p And a b)) + bit_word (side_of p key (summed p AndNy a c)) + eighth

-- The drift of a way whose ciphertext is own.
unfoldable pub short_word : Params → List ℕ → Way → List ℕ → List ℕ → List ℕ → ℕ → List ℕ → ℕ
short_word p key (Known bit) a b c da own = cond bit 0 1
short_word p key Negated a b c da own = neg da % Q
short_word p key (Gate kind) a b c da own = (phase_of p.n key own + neg (carried_word p key (Gate kind) a b c)) % Q
short_word p key (NegatedGate kind) a b c da own = (phase_of p.n key own + neg (carried_word p key (NegatedGate kind) a b c)) % Q
short_word p key Choice a b c da own = (phase_of p.n key own + neg (carried_word p key Choice a b c)) % Q

-- Gate g's drift, ws being the finished wires' ciphertexts and ds the drifts of the wires before it.
unfoldable pub short_gate : Params → List ℕ → List ℕ → List ℕ → List ℕ → ℕ → ℕ
short_gate p key bs ws ds g =
    short_word p key (way_of (kind_at bs g))
    (cipher_at p ws (operand_at bs g 0)) (cipher_at p ws (operand_at bs g 1)) (cipher_at p ws (operand_at bs g 2)) (at ds (operand_at bs g 0)) (cipher_at p ws (inputs bs + g))

-- The wires' drifts after g gates, those of the inputs being given.
unfoldable pub short_to : Params → List ℕ → List ℕ → List ℕ → List ℕ → ℕ → List ℕ
short_to p key bs ws start zero = start
short_to p key bs ws start (suc g) = short_to p key bs ws start g ++ (short_gate p key bs ws (short_to p key bs ws start g) g ∷ [])

-- What is brought into the rotations of the first g gates.
unfoldable pub short_brought_to : Params → List ℕ → List ℕ → List ℕ → List ℕ → ℕ → List ℕ
short_brought_to p key bs ws start zero = []
short_brought_to p key bs ws start (suc g) = short_brought_to p key bs ws start g ++ gate_brought_words p key bs ws (short_to p key bs ws start g) g
