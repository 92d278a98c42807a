-- The drift of a gate in whole numbers, sentence by sentence as document 01 has it (section 'Drift'). key and z are the secret keys of level 0 and 1, bsk and ksk the
-- bootstrapping and the switching key, whose rows may hold anything; src is the ciphertext that a vector v is rotated by: a gate's sum, v being the gates' vector, or a
-- message's ciphertext, v being a table's (02, 2026-07).
-- What it takes from the run itself (the accumulators `steps_to`, the difference `step_moved`, its low bits `low_poly`, the low bits `dropped`, the count `after` of z's ones) are words and counts, read as they are.
use Rattle.std.specs.Prelude.{Bool, cond, List, ℕ, zero, suc, ◌+◌, ◌*◌, ◌-◌, ◌/◌, ◌^◌, eqb, ltb, ℤ, pos, neg_ℤ, nat_abs, ◌+ℤ◌, ◌-ℤ◌, ◌*ℤ◌}
use Rattle.ring.specs.Word.{at, eighth}
use Rattle.ring.specs.Turn.{complemented}
use Rattle.ring.specs.Phase.{after}
use Rattle.params.specs.declared.Params.{Params}
use Rattle.params.specs.Sizes.{size}
use Rattle.rotation.specs.Amount.{half, step, mask_amount, body_amount}
use Rattle.key.specs.Switching.{row_part}
use Rattle.decomposition.specs.Digit.{digit_weight}
use Rattle.decomposition.specs.Pair.{pair_digit}
use Rattle.trgsw.specs.External.{row_a, row_b}
use Rattle.trgsw.specs.Errors.{low_poly}
use Rattle.blind_rotation.specs.Blind.{steps_to, start_of}
use Rattle.blind_rotation.specs.Drift.{step_moved}
use Rattle.switching.specs.Switched.{rounding, mask_field}
use Rattle.switching.specs.Drift.{dropped}
use Rattle.gate_sums.specs.declared.Kind.{Kind}
use Rattle.gate_sums.specs.Kind.{row_of, sign}
use Rattle.gate_sums.specs.Sum.{mux_sum}
use Rattle.drift.specs.Polynomials.{centred, whole_sum, wholes, signeds, whole_times, whole_turn, whole_phase, whole_pair_phase}
use Rattle.ring.specs.Pair.{Pair}
use Rattle.key.specs.Testvec.{test_pair}
use Rattle.key.specs.Bits.{bit_rows}
use Rattle.samples.specs.Sample.{sample_from, rotated_sample}

-- 'Inside means absolute value below 2^29.'
unfoldable pub inside : ℤ → Bool
inside drift = ltb (nat_abs drift) eighth

-- ---- fresh drifts and rows' errors

-- 'Fresh drift: phase less ±2^29 for the given bit, centred.'
unfoldable pub fresh_drift : Params → List ℕ → List ℕ → Bool → ℤ
fresh_drift p key c bit = centred (whole_phase p.n key c -ℤ sign bit *ℤ pos eighth)

-- 'A row's error: its phase less what it should carry (-m·g_i·z or m·g_i; ..), centred.' What row r of the key bit m should carry, at place x:
unfoldable pub should_carry : Params → List ℕ → ℕ → ℕ → ℕ → ℤ
should_carry p z m r x = cond (ltb r p.l) (neg_ℤ (pos (m * digit_weight p r) *ℤ wholes z x)) (cond (eqb x 0) (pos (m * digit_weight p (r - p.l))) (pos 0))

-- and its error there.
unfoldable pub bootstrapping_error : Params → List ℕ → List ℕ → ℕ → ℕ → ℕ → ℤ
bootstrapping_error p z rows m r x = centred (whole_pair_phase (size p) z (row_a p rows r) (row_b p rows r) x -ℤ should_carry p z m r x)

-- The same of row (i, j, k) of the switching key: '.. k·z_i·2^(32-(j+1)·BASEBIT)), centred.'
unfoldable pub switching_error : Params → List ℕ → List ℕ → List ℕ → ℕ → ℕ → ℕ → ℤ
switching_error p key z ksk i j k = centred (whole_phase p.n key (row_part p ksk i j k) -ℤ pos (k * at z i * 2 ^ (32 - (j + 1) * p.basebit)))

-- ---- what is brought in

-- 'Remainder of a word: rounded steps (before any wrap) times 2h, less the word.'
unfoldable pub remainder : Params → ℕ → ℤ
remainder p x = pos ((x + half p) / step p * step p) -ℤ pos x

-- What rounding brings in: '.. plus b's remainder, less the key-selected remainders.'
unfoldable pub rounding_drift : Params → List ℕ → List ℕ → ℤ
rounding_drift p key src = remainder p (at src p.n) -ℤ whole_sum p.n (λ i. wholes key i *ℤ remainder p (at src i))

-- 'Brought in: operands' drifts by the sum's multiples, plus' what rounding brings in. It is centred at its end.
unfoldable pub brought_in : Params → Kind → List ℕ → List ℕ → ℤ → ℤ → ℤ
brought_in p kind key src da db = centred ((row_of kind).a *ℤ da +ℤ (row_of kind).b *ℤ db +ℤ rounding_drift p key src)

-- ---- the rotation

-- 'Let W(k) have 1 at each place of the result complemented by rotation k.' W(k)·z - W(k):
unfoldable pub complements_drift : Params → List ℕ → ℕ → ℕ → ℤ
complements_drift p z k x = whole_times (size p) (wholes (complemented (size p) k)) (wholes z) x -ℤ wholes (complemented (size p) k) x

-- '.. the digits times row errors', the digits read as signed; x is in2 - in1 and m the key bit.
unfoldable pub rows_drift : Params → List ℕ → List ℕ → ℕ → Pair → ℕ → ℤ
rows_drift p z rows m x k = whole_sum (p.l + p.l) (λ r. whole_times (size p) (signeds (pair_digit p x r)) (bootstrapping_error p z rows m r) k)

-- 'Step i: with key bit 1, the drift turned by X^k, plus W(k)·z - W(k), less the phase of in2 - in1's cleared low bits; with 0, the drift stays; either way plus the
-- digits times row errors.' The accumulator was x, the drift e; the step turns by the mask's amount.
unfoldable pub step_drift : Params → List ℕ → List ℕ → ℕ → ℕ → ℕ → Pair → (ℕ → ℤ) → ℕ → ℤ
step_drift p z bsk i bit mask x e k =
    cond (eqb bit 0) (e k)
    (whole_turn (size p) (mask_amount p mask) e k +ℤ complements_drift p z (mask_amount p mask) k
    -ℤ whole_pair_phase (size p) z (low_poly p (step_moved p mask x).a) (low_poly p (step_moved p mask x).b) k)
    +ℤ rows_drift p z (bit_rows p bsk i) bit (step_moved p mask x) k

-- The drift of the accumulator after so many steps of the rotation of v. 'Start: W·z - W for b's amount.'
unfoldable pub rotation_drift : Params → List ℕ → List ℕ → List ℕ → Pair → List ℕ → ℕ → ℕ → ℤ
rotation_drift p key z bsk v src zero = complements_drift p z (body_amount p (at src p.n))
rotation_drift p key z bsk v src (suc i) =
    step_drift p z bsk i (at key i) (at src i) (steps_to p bsk src (start_of p v (at src p.n)) i) (rotation_drift p key z bsk v src i)

-- ---- extraction, switching and the gates

-- 'Extraction at 0: coefficient 0 plus the number of ones in z_1..z_(N-1).'
unfoldable pub extracted_drift : Params → List ℕ → List ℕ → List ℕ → Pair → List ℕ → ℤ
extracted_drift p key z bsk v src = rotation_drift p key z bsk v src p.n 0 +ℤ pos (after (size p) 0 z)

-- 'Switching: less the errors of the rows used, less, for each 1 in z, (2^(31-BASEBIT·T) - the low bits dropped once that is added).' A field of 0 uses no row.
unfoldable pub switched_drift : Params → List ℕ → List ℕ → List ℕ → List ℕ → ℤ
switched_drift p key z ksk sample =
    neg_ℤ (whole_sum (size p) (λ i. whole_sum p.t (λ j. cond (eqb (mask_field p sample i j) 0) (pos 0) (switching_error p key z ksk i j (mask_field p sample i j)))))
    -ℤ whole_sum (size p) (λ i. wholes z i *ℤ (pos (rounding p) -ℤ pos (dropped p (at sample i))))

-- The drift of v rotated by src, extracted at 0 and switched, 'centred at its end'.
unfoldable pub rotated_drift : Params → List ℕ → List ℕ → List ℕ → List ℕ → Pair → List ℕ → ℤ
rotated_drift p key z ksk bsk v src = centred (extracted_drift p key z bsk v src +ℤ switched_drift p key z ksk (sample_from p v bsk src))

-- The drift of a two-input gate: the gates' vector is rotated.
unfoldable pub gate_drift : Params → List ℕ → List ℕ → List ℕ → List ℕ → List ℕ → ℤ
gate_drift p key z ksk bsk src = rotated_drift p key z ksk bsk (test_pair p) src

-- 'mux adds both extracted drifts, then switches.' Its two sums are src and src2.
unfoldable pub mux_drift : Params → List ℕ → List ℕ → List ℕ → List ℕ → List ℕ → List ℕ → ℤ
mux_drift p key z ksk bsk src src2 =
    centred (extracted_drift p key z bsk (test_pair p) src +ℤ extracted_drift p key z bsk (test_pair p) src2
    +ℤ switched_drift p key z ksk (mux_sum p (rotated_sample p bsk src) (rotated_sample p bsk src2)))
