-- The drifts of a circuit's wires and rotations (01, demand 3 and Drift), by the encrypted run's table of ways: each wire's drift, gate after gate; what is brought into
-- every rotation of every gate; and whether all that demand 3 names are inside.
use Rattle.std.specs.Prelude.{Bool, true, false, cond, List, [], ◌∷◌, ◌++◌, map, ℕ, zero, suc, ltb, ℤ, pos, neg_ℤ, nat_abs, get_or}
use Rattle.ring.specs.Word.{at}
use Rattle.params.specs.declared.Params.{Params}
use Rattle.gate_sums.specs.declared.Kind.TheVariants.{And, AndNy}
use Rattle.gate_sums.specs.Sum.{summed}
use Rattle.circuit.specs.Form.{inputs, gates, outputs, kind_at, operand_at, output_at}
use Rattle.ways.specs.declared.Way.{Way}
use Rattle.ways.specs.declared.Way.TheVariants.{Known, Negated, Gate, NegatedGate, Choice}
use Rattle.ways.specs.Ways.{way_of, operand, rotations_of, rotation_sum}
use Rattle.ways.specs.Ciphers.{cipher_at}
use Rattle.encrypted_run.specs.Run.{ciphers_to}
use Rattle.drift.specs.Polynomials.{centred}
use Rattle.drift.specs.Whole.{inside, fresh_drift, brought_in, gate_drift, mux_drift}
use Rattle.ring.specs.Bit.{truth}

-- ---- one gate

-- The drift of a way on operands a, b and c, the drift of a being da: 'not and kind 8 negate; false has 1, true 0.'
unfoldable pub way_drift : Params → List ℕ → List ℕ → List ℕ → List ℕ → Way → List ℕ → List ℕ → List ℕ → ℤ → ℤ
way_drift p key z ksk bsk (Known bit) a b c da = cond bit (pos 0) (pos 1)
way_drift p key z ksk bsk Negated a b c da = centred (neg_ℤ da)
way_drift p key z ksk bsk (Gate kind) a b c da = gate_drift p key z ksk bsk (summed p kind a b)
way_drift p key z ksk bsk (NegatedGate kind) a b c da = centred (neg_ℤ (gate_drift p key z ksk bsk (summed p kind a b)))
way_drift p key z ksk bsk Choice a b c da = mux_drift p key z ksk bsk (summed p And a b) (summed p AndNy a c)

-- The drifts brought into a way's rotations, in order: da, db and dc are the operands' drifts.
unfoldable pub way_brought : Params → List ℕ → Way → List ℕ → List ℕ → List ℕ → ℤ → ℤ → ℤ → List ℤ
way_brought p key way a b c da db dc =
    map (λ r. brought_in p r.kind key (rotation_sum p a b c r) (operand r.x da db dc) (operand r.y da db dc)) (rotations_of way)

-- ---- the run

-- The drift of wire w among the wires' drifts.
abbrev pub drift_at : List ℤ → ℕ → ℤ
drift_at drifts w = get_or drifts w (pos 0)

-- Gate g's drift, the wires before it having the ciphertexts ws and the drifts ds.
unfoldable pub gate_drift_on : Params → List ℕ → List ℕ → List ℕ → List ℕ → List ℕ → List ℕ → List ℤ → ℕ → ℤ
gate_drift_on p key z ksk bsk bs ws ds g =
    way_drift p key z ksk bsk (way_of (kind_at bs g))
    (cipher_at p ws (operand_at bs g 0)) (cipher_at p ws (operand_at bs g 1)) (cipher_at p ws (operand_at bs g 2)) (drift_at ds (operand_at bs g 0))

-- What is brought into its rotations.
unfoldable pub gate_brought_on : Params → List ℕ → List ℕ → List ℕ → List ℤ → ℕ → List ℤ
gate_brought_on p key bs ws ds g =
    way_brought p key (way_of (kind_at bs g))
    (cipher_at p ws (operand_at bs g 0)) (cipher_at p ws (operand_at bs g 1)) (cipher_at p ws (operand_at bs g 2))
    (drift_at ds (operand_at bs g 0)) (drift_at ds (operand_at bs g 1)) (drift_at ds (operand_at bs g 2))

-- The fresh drifts of the first i inputs, whose plain bits are lent bytes.
unfoldable pub fresh_to : Params → List ℕ → List ℕ → List ℕ → ℕ → List ℤ
fresh_to p key ins plain zero = []
fresh_to p key ins plain (suc i) = fresh_to p key ins plain i ++ (fresh_drift p key (cipher_at p ins i) (truth (at plain i)) ∷ [])

-- The wires' drifts after g gates.
unfoldable pub drifts_to : Params → List ℕ → List ℕ → List ℕ → List ℕ → List ℕ → List ℕ → List ℕ → ℕ → List ℤ
drifts_to p key z ksk bsk bs ins plain zero = fresh_to p key ins plain (inputs bs)
drifts_to p key z ksk bsk bs ins plain (suc g) =
    drifts_to p key z ksk bsk bs ins plain g
    ++ (gate_drift_on p key z ksk bsk bs (ciphers_to p ksk bsk bs ins g) (drifts_to p key z ksk bsk bs ins plain g) g ∷ [])

-- What is brought into the rotations of the first g gates, in order, those that no output depends on too.
unfoldable pub brought_to : Params → List ℕ → List ℕ → List ℕ → List ℕ → List ℕ → List ℕ → List ℕ → ℕ → List ℤ
brought_to p key z ksk bsk bs ins plain zero = []
brought_to p key z ksk bsk bs ins plain (suc g) =
    brought_to p key z ksk bsk bs ins plain g
    ++ gate_brought_on p key bs (ciphers_to p ksk bsk bs ins g) (drifts_to p key z ksk bsk bs ins plain g) g

-- Every wire's drift, in wire order.
abbrev pub drifts_of : Params → List ℕ → List ℕ → List ℕ → List ℕ → List ℕ → List ℕ → List ℕ → List ℤ
drifts_of p key z ksk bsk bs ins plain = drifts_to p key z ksk bsk bs ins plain (gates bs)

-- What is brought into every rotation of every gate.
abbrev pub brought_of : Params → List ℕ → List ℕ → List ℕ → List ℕ → List ℕ → List ℕ → List ℕ → List ℤ
brought_of p key z ksk bsk bs ins plain = brought_to p key z ksk bsk bs ins plain (gates bs)

-- The drifts of the first o outputs, from the wires'.
unfoldable pub output_drifts_to : List ℕ → List ℤ → ℕ → List ℤ
output_drifts_to bs ds zero = []
output_drifts_to bs ds (suc o) = output_drifts_to bs ds o ++ (drift_at ds (output_at bs o) ∷ [])

-- Are all of these inside?
unfoldable pub all_of : List ℤ → Bool
all_of [] = true
all_of (d ∷ ds) = cond (inside d) (all_of ds) false

-- The one of two that is larger in absolute value, the first at a tie.
unfoldable pub worse : ℤ → ℤ → ℤ
worse x y = cond (ltb (nat_abs x) (nat_abs y)) y x

-- The one of these and of w that is largest in absolute value.
unfoldable pub worst_from : ℤ → List ℤ → ℤ
worst_from w [] = w
worst_from w (d ∷ ds) = worst_from (worse w d) ds

-- The one that is largest in absolute value, the first at a tie; 0 of none.
abbrev pub worst_of : List ℤ → ℤ
worst_of ds = worst_from (pos 0) ds

-- Demand 3's condition: 'the drift brought into each rotation and that of each output stays strictly inside an eighth of a turn'.
unfoldable pub all_inside : Params → List ℕ → List ℕ → List ℕ → List ℕ → List ℕ → List ℕ → List ℕ → Bool
all_inside p key z ksk bsk bs ins plain =
    cond (all_of (brought_of p key z ksk bsk bs ins plain)) (all_of (output_drifts_to bs (drifts_of p key z ksk bsk bs ins plain) (outputs bs))) false
