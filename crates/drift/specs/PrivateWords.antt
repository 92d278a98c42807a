-- The drift of a gate (01, Drift), as words: what code and proofs reckon with. Every part is reckoned modulo 2^32, and a drift is centred at its end (`centre` of the ring);
-- `words_suffice` (proofs/Suffice.antt) shows that each is the word of the whole number that specs/Whole.antt defines. key and z are the secret keys of level 0
-- and 1, bsk and ksk the bootstrapping and the switching key, whose rows may hold anything; src is the ciphertext that a vector v is rotated by. A reader of the public contracts can leave this file.
use Rattle.std.specs.Prelude.{Bool, List, ℕ, ◌+◌, ◌*◌, ◌/◌, ◌%◌}
use Rattle.ring.specs.Word.{Q, at, neg}
use Rattle.ring.specs.Sums.{sum_to}
use Rattle.ring.specs.Phase.{after, phase_of}
use Rattle.params.specs.declared.Params.{Params}
use Rattle.params.specs.Sizes.{size}
use Rattle.tlwe.specs.Plain.{bit_word}
use Rattle.rotation.specs.Amount.{half, step}
use Rattle.blind_rotation.specs.Drift.{drift_to}
use Rattle.switching.specs.Drift.{switching_drift}
use Rattle.gate_sums.specs.declared.Kind.{Kind}
use Rattle.gate_sums.specs.Weights.{weights_of}
use Rattle.gate_sums.specs.Sum.{mux_sum}
use Rattle.key.specs.Testvec.{test_pair}
use Rattle.samples.specs.Sample.{sample_from, rotated_sample}
use Rattle.ring.specs.Pair.{Pair}

-- ---- what is brought in

-- The remainder of a word: its rounded steps, before any wrap, times 2h, less the word.
unfoldable pub remainder_word : Params → ℕ → ℕ
remainder_word p x = ((x + half p) / step p * step p + neg x) % Q

-- The key-selected remainders: those of the masks at the ones of the key.
unfoldable pub selected_word : Params → List ℕ → List ℕ → ℕ
selected_word p key src = sum_to p.n (λ i. at key i * remainder_word p (at src i))

-- What rounding brings in: b's remainder less the key-selected ones.
unfoldable pub rounding_word : Params → List ℕ → List ℕ → ℕ
rounding_word p key src = (remainder_word p (at src p.n) + neg (selected_word p key src)) % Q

-- Brought in: the operands' drifts da and db by the sum's multiples, and what rounding brings in.
unfoldable pub brought_word : Params → Kind → List ℕ → List ℕ → ℕ → ℕ → ℕ
brought_word p kind key src da db = ((weights_of kind).a * da + (weights_of kind).b * db + rounding_word p key src) % Q

-- ---- extraction and switching

-- Extraction at 0 of the tracked drift, a polynomial that `drift_to` of the rotation reckons step by step: coefficient 0, and the number of ones in z_1 .. z_(N-1).
unfoldable pub extracted_word : Params → List ℕ → List ℕ → List ℕ → Pair → List ℕ → ℕ
extracted_word p key z bsk v src = (at (drift_to p key z bsk src v p.n) 0 + after (size p) 0 z) % Q

-- The drift of v rotated by src, extracted and switched: that of extraction and that of switching.
unfoldable pub rotated_word : Params → List ℕ → List ℕ → List ℕ → List ℕ → Pair → List ℕ → ℕ
rotated_word p key z ksk bsk v src = (extracted_word p key z bsk v src + switching_drift p key z ksk (sample_from p v bsk src)) % Q

-- The drift of a two-input gate.
unfoldable pub gate_word : Params → List ℕ → List ℕ → List ℕ → List ℕ → List ℕ → ℕ
gate_word p key z ksk bsk src = rotated_word p key z ksk bsk (test_pair p) src

-- The drift of `mux`, whose two sums are src and src2: both extracted drifts, then that of one switching.
unfoldable pub mux_word : Params → List ℕ → List ℕ → List ℕ → List ℕ → List ℕ → List ℕ → ℕ
mux_word p key z ksk bsk src src2 =
    (extracted_word p key z bsk (test_pair p) src + extracted_word p key z bsk (test_pair p) src2
    + switching_drift p key z ksk (mux_sum p (rotated_sample p bsk src) (rotated_sample p bsk src2))) % Q

-- The fresh drift of the ciphertext c of a bit: its phase less ±2^29.
unfoldable pub fresh_word : Params → List ℕ → List ℕ → Bool → ℕ
fresh_word p key c bit = (phase_of p.n key c + neg (bit_word bit)) % Q
