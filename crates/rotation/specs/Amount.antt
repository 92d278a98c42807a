-- Rounding a word to a rotation amount, a number of steps of a 2N-th of a turn (01, trgsw, 'Rounding'; TFHE paper, Algorithm 3, line 1).
use Rattle.std.specs.Prelude.{Result, Ok, ℕ, eqb, ◌+◌, ◌-◌, ◌/◌, ◌%◌, ◌^◌}
use Rattle.params.specs.declared.Params.{Params}
use Rattle.params.specs.Refusal.{unless}
use Rattle.params.specs.declared.refusal.Refusal.{Refusal}
use Rattle.params.specs.declared.refusal.Refusal.TheVariants.{Parameters}
use Rattle.params.specs.Ranges.{params_number}
use Rattle.params.specs.Sizes.{size}
use Rattle.ring.specs.Word.{Q}
use Rattle.utils.specs.declared.Amount.{Amount}

-- h = 2^(30-NBIT), half a step.
unfoldable pub half : Params → ℕ
half p = 2 ^ (30 - p.nbit)

-- 2h = 2^(31-NBIT), a step: a 2N-th of a turn.
unfoldable pub step : Params → ℕ
step p = 2 ^ (31 - p.nbit)

-- The amount of the mask x: the steps nearest to it. The word wraps when h is added.
unfoldable pub mask_amount : Params → ℕ → ℕ
mask_amount p x = (x + half p) % Q / step p

-- The amount of b: 2N less the steps nearest to it, from 0 to 2N. The sum does not wrap.
unfoldable pub body_amount : Params → ℕ → ℕ
body_amount p b = size p + size p - (b + half p) / step p

-- What a call of either hands back: refusal 1, or the amount k.
abbrev pub rounded_to : Params → ℕ → Result Amount Refusal
rounded_to p k = unless (eqb (params_number p) 0) Parameters (Ok (record { 0 = k }))
