-- What only code and proofs need of the ways; a reader of the public contracts can leave it.
use Rattle.std.specs.Prelude.{Bool, not, cond, ℕ, ◌+◌, ◌*◌, ◌≤◌, leb}
use Rattle.params.specs.declared.Params.{Params}
use Rattle.gate_sums.specs.Kind.{meaning}
use Rattle.ways.specs.declared.Way.{Way}
use Rattle.ways.specs.declared.Way.TheVariants.{Known, Negated, Gate, NegatedGate, Choice}

-- The less of two numbers.
unfoldable pub lesser : ℕ → ℕ → ℕ
lesser a b = cond (leb a b) a b

-- Wire x lies whole within so many words.
abbrev pub Within : Params → ℕ → ℕ → Type 0
Within p x len = x * (p.n + 1) + (p.n + 1) ≤ len

-- How many operands a way needs: `ways_need` of proofs/Needs.antt shows that it is as many as the kind that goes this way.
unfoldable pub operands_of : Way → ℕ
operands_of (Known bit) = 0
operands_of Negated = 1
operands_of (Gate kind) = 2
operands_of (NegatedGate kind) = 2
operands_of Choice = 3

-- What a way means on the bits of its operands: `ways_mean` of proofs/Meanings.antt shows that it is the meaning of the kind that goes this way.
unfoldable pub way_meaning : Way → Bool → Bool → Bool → Bool
way_meaning (Known bit) a b c = bit
way_meaning Negated a b c = not a
way_meaning (Gate kind) a b c = meaning kind a b
way_meaning (NegatedGate kind) a b c = not (meaning kind a b)
way_meaning Choice a b c = cond a b c
