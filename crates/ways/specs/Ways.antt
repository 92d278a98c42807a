-- How each kind of a circuit's gates is run on ciphertexts (01, 'Circuits' and gates): the rotations of its way, in order, and the ciphertext that is made of
-- their samples.
use Rattle.std.specs.Prelude.{true, false, List, [], ◌∷◌, map, ℕ, ◌+◌, get_or}
use Rattle.params.specs.declared.Params.{Params}
use Rattle.tlwe.specs.Linear.{negative}
use Rattle.switching.specs.Switched.{switched}
use Rattle.gate_sums.specs.declared.Kind.{Kind}
use Rattle.gate_sums.specs.declared.Kind.TheVariants.{Nand, Or, And, Nor, AndNy, AndYn, OrNy, OrYn, Xor}
use Rattle.gate_sums.specs.Sum.{summed, mux_sum, constant_of}
use Rattle.ways.specs.declared.Way.{Way}
use Rattle.ways.specs.declared.Way.TheVariants.{Known, Negated, Gate, NegatedGate, Choice}
use Rattle.samples.specs.Sample.{rotated_sample}

-- The table, by a circuit's kind from 0 on. Kind 8 has its Boolean meaning, so it runs xor and negates: the sum that the Rust calls `xnor` computes xor.
unfoldable pub ways : List Way
ways =
    Known false ∷ Known true ∷ Negated
    ∷ Gate And ∷ Gate Or ∷ Gate Nand ∷ Gate Nor ∷ Gate Xor ∷ NegatedGate Xor
    ∷ Gate AndNy ∷ Gate AndYn ∷ Gate OrNy ∷ Gate OrYn ∷ Choice ∷ []

-- The way of a kind; of a number that the table lacks, the first.
unfoldable pub way_of : ℕ → Way
way_of k = get_or ways k (Known false)

-- ---- what a way rotates

-- What stands for operand 0, 1 or 2, of what stands for the three.
abbrev pub operand : {A : Type 0} → ℕ → A → A → A → A
operand x a b c = get_or (a ∷ b ∷ c ∷ []) x a

-- A rotation: of the sum of a kind, on operands x and y.
pub record Rotation : Type 0 where
  pub kind : Kind
  pub x : ℕ
  pub y : ℕ

-- The rotations of a way, in order: none, one, or the two of `mux`, and(a, b) and and_ny(a, c).
unfoldable pub rotations_of : Way → List Rotation
rotations_of (Known bit) = []
rotations_of Negated = []
rotations_of (Gate kind) = record { kind = kind; x = 0; y = 1 } ∷ []
rotations_of (NegatedGate kind) = record { kind = kind; x = 0; y = 1 } ∷ []
rotations_of Choice = record { kind = And; x = 0; y = 1 } ∷ record { kind = AndNy; x = 0; y = 2 } ∷ []

-- The sum that is rotated, a, b and c being the operands' ciphertexts.
unfoldable pub rotation_sum : Params → List ℕ → List ℕ → List ℕ → Rotation → List ℕ
rotation_sum p a b c r = summed p r.kind (operand r.x a b c) (operand r.y a b c)

-- The sums that a way rotates, in order.
unfoldable pub rotated_sums : Params → Way → List ℕ → List ℕ → List ℕ → List (List ℕ)
rotated_sums p way a b c = map (rotation_sum p a b c) (rotations_of way)

-- ---- what is made of it

-- The ciphertext of a way, from the samples of level 1 that its rotations leave, in order; a negation rotates nothing and has its operand a.
unfoldable pub made : Params → List ℕ → Way → List ℕ → List (List ℕ) → List ℕ
made p ksk (Known bit) a samples = constant_of p bit
made p ksk Negated a samples = negative (p.n + 1) a
made p ksk (Gate kind) a samples = switched p ksk (get_or samples 0 [])
made p ksk (NegatedGate kind) a samples = negative (p.n + 1) (switched p ksk (get_or samples 0 []))
made p ksk Choice a samples = switched p ksk (mux_sum p (get_or samples 0 []) (get_or samples 1 []))

-- What a way gives from the ciphertexts a, b and c, of which it takes those that it needs. The bootstrapping key goes into its listed rotations and nowhere else.
unfoldable pub ran : Params → List ℕ → List ℕ → Way → List ℕ → List ℕ → List ℕ → List ℕ
ran p ksk bsk way a b c = made p ksk way a (map (rotated_sample p bsk) (rotated_sums p way a b c))
