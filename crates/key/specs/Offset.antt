-- The decomposition offset (01, key; `gen_decomposition_offset` of src/key.rs).
use Rattle.std.specs.Prelude.{Result, ℕ, ◌-◌, ◌*◌, ◌%◌, ◌^◌}
use Rattle.ring.specs.Word.{Q}
use Rattle.ring.specs.Sums.{sum_to}
use Rattle.params.specs.declared.Params.{Params}
use Rattle.params.specs.declared.refusal.Refusal.{Refusal}
use Rattle.params.specs.Refusal.{answer, given}
use Rattle.params.specs.Ranges.{params_number}
use Rattle.utils.specs.declared.Torus.{Torus}

-- The sum over i below L of 2^(31 - i·BGBIT): half a digit in each of the L top fields of BGBIT bits, so that digits come out centred.
unfoldable pub offset : Params → ℕ
offset p = sum_to p.l (λ i. 2 ^ (31 - i * p.bgbit)) % Q

-- What `decomposition_offset` hands back: the refusal of the parameters, or the offset.
unfoldable pub offset_out : Params → Result Torus Refusal
offset_out p = given (answer (params_number p)) (record { 0 = offset p })
