-- The drift of the accumulator, reckoned step by step (01, Drift), in words: the ring's `centre` centres each. s is the level-0 key and z the level-1 key.
use Rattle.std.specs.Prelude.{cond, List, ℕ, zero, suc, ◌+◌, ◌*◌, ◌%◌, eqb}
use Rattle.ring.specs.Word.{at}
use Rattle.ring.specs.Poly.{plus, minus, times}
use Rattle.ring.specs.Turn.{negating, complemented}
use Rattle.ring.specs.Phase.{phase}
use Rattle.params.specs.declared.Params.{Params}
use Rattle.params.specs.Sizes.{size}
use Rattle.rotation.specs.Amount.{mask_amount, body_amount}
use Rattle.trgsw.specs.Errors.{digit_errors, low_poly}
use Rattle.blind_rotation.specs.Blind.{turned, steps_to, start_of}
use Rattle.ring.specs.Pair.{Pair, pair_minus}
use Rattle.key.specs.Bits.{bit_rows}

-- W(k)·z - W(k): what complementing adds to the phase of a pair turned by k.
unfoldable pub complement_words : Params → List ℕ → ℕ → List ℕ
complement_words p z k = minus (size p) (times (size p) (complemented (size p) k) z) (complemented (size p) k)

-- in2 - in1 of a step by the mask, whose accumulator is x: x turned, less x.
abbrev pub step_moved : Params → ℕ → Pair → Pair
step_moved p mask x = pair_minus (size p) (turned p (mask_amount p mask) x) x

-- The drift after step i, which was e. With key bit 1 it is turned by X^k, plus W(k)·z - W(k), less the phase of the low bits that were cleared from in2 - in1;
-- with 0 it stays; either way plus the digits times the rows' errors (01, Drift).
unfoldable pub drift_step : Params → List ℕ → List ℕ → ℕ → ℕ → ℕ → Pair → List ℕ → List ℕ
drift_step p z key i bit mask x e =
    cond (eqb bit 0)
    (plus (size p) e (digit_errors p z (bit_rows p key i) 0 (step_moved p mask x)))
    (plus (size p) (minus (size p) (plus (size p) (negating (size p) (mask_amount p mask) e) (complement_words p z (mask_amount p mask)))
    (phase (size p) z (low_poly p (step_moved p mask x).a) (low_poly p (step_moved p mask x).b)))
    (digit_errors p z (bit_rows p key i) 1 (step_moved p mask x)))

-- The drift after the first k steps of the rotation of v by the ciphertext src: W·z - W for b's amount at first.
unfoldable pub drift_to : Params → List ℕ → List ℕ → List ℕ → List ℕ → Pair → ℕ → List ℕ
drift_to p s z key src v zero = complement_words p z (body_amount p (at src p.n))
drift_to p s z key src v (suc k) = drift_step p z key k (at s k) (at src k) (steps_to p key src (start_of p v (at src p.n)) k) (drift_to p s z key src v k)

-- The amount turned after the first k steps, modulo 2N: b's, and each mask's whose key bit is 1.
unfoldable pub turn_to : Params → List ℕ → List ℕ → ℕ → ℕ
turn_to p s src zero = body_amount p (at src p.n) % (size p + size p)
turn_to p s src (suc k) = (turn_to p s src k + at s k * mask_amount p (at src k)) % (size p + size p)
