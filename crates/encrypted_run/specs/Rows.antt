-- Which key rows a gate of a run uses (01, trgsw: 'a nonzero field's row is subtracted'): said of two keys, which are alike where the gate looks.
use Rattle.std.specs.Prelude.{◌≡◌, List, ℕ, ◌+◌, ◌<◌}
use Rattle.ring.specs.Word.{at}
use Rattle.params.specs.declared.Params.{Params}
use Rattle.params.specs.Sizes.{size}
use Rattle.key.specs.Switching.{row_part}
use Rattle.switching.specs.Switched.{mask_field}
use Rattle.gate_sums.specs.declared.Kind.TheVariants.{And, AndNy}
use Rattle.gate_sums.specs.Sum.{summed, mux_sum}
use Rattle.circuit.specs.Form.{kind_at, operand_at}
use Rattle.ways.specs.declared.Way.{Way}
use Rattle.ways.specs.declared.Way.TheVariants.{Known, Negated, Gate, NegatedGate, Choice}
use Rattle.ways.specs.Ways.{way_of}
use Rattle.ways.specs.Ciphers.{cipher_at}
use Rattle.encrypted_run.specs.Run.{ciphers_to}
use Rattle.samples.specs.Sample.{rotated_sample}

-- Two switching keys have the same words in every row that the sample's fields use: row (i, j, k) for field j of mask i being k, not 0.
unfoldable pub RowsAlike : Params → List ℕ → List ℕ → List ℕ → Type 0
RowsAlike p ksk ksk' sample =
    (i j x : ℕ) → i < size p → j < p.t → x < p.n + 1 → (mask_field p sample i j ≡ 0 → ⊥)
    → at (row_part p ksk i j (mask_field p sample i j)) x ≡ at (row_part p ksk' i j (mask_field p sample i j)) x

-- A rotation goes through the whole bootstrapping key; its sample's switching uses the rows of its fields.
abbrev pub Alike : Params → List ℕ → List ℕ → List ℕ → List ℕ → List ℕ → Type 0
Alike p ksk ksk' bsk bsk' sample = (bsk ≡ bsk') × RowsAlike p ksk ksk' sample

-- Two key materials are alike where a way looks on these ciphertexts: a known bit and a negation look at no key.
unfoldable pub KeysAlike : Params → List ℕ → List ℕ → List ℕ → List ℕ → Way → List ℕ → List ℕ → List ℕ → Type 0
KeysAlike p ksk ksk' bsk bsk' (Known bit) a b c = Unit
KeysAlike p ksk ksk' bsk bsk' Negated a b c = Unit
KeysAlike p ksk ksk' bsk bsk' (Gate kind) a b c = Alike p ksk ksk' bsk bsk' (rotated_sample p bsk (summed p kind a b))
KeysAlike p ksk ksk' bsk bsk' (NegatedGate kind) a b c = Alike p ksk ksk' bsk bsk' (rotated_sample p bsk (summed p kind a b))
KeysAlike p ksk ksk' bsk bsk' Choice a b c =
    Alike p ksk ksk' bsk bsk' (mux_sum p (rotated_sample p bsk (summed p And a b)) (rotated_sample p bsk (summed p AndNy a c)))

-- They are alike where gate g of a run looks.
unfoldable pub GateAlike : Params → List ℕ → List ℕ → List ℕ → List ℕ → List ℕ → List ℕ → ℕ → Type 0
GateAlike p ksk ksk' bsk bsk' bs ins g =
    let ws = ciphers_to p ksk bsk bs ins g in
    KeysAlike p ksk ksk' bsk bsk' (way_of (kind_at bs g)) (cipher_at p ws (operand_at bs g 0)) (cipher_at p ws (operand_at bs g 1)) (cipher_at p ws (operand_at bs g 2))
