-- What a gate, and a lookup (02, 2026-07), switches back to level 0: a vector rotated by a ciphertext, and extracted at 0 (01, gates).
use Rattle.std.specs.Prelude.{List, [], ◌∷◌, ℕ, ◌+◌, length}
use Rattle.params.specs.declared.Params.{Params}
use Rattle.params.specs.Refusal.{if_done}
use Rattle.params.specs.Sizes.{size, bootstrapping_words}
use Rattle.refusals.specs.Table.{Check, is, refusal_by}
use Rattle.trlwe.specs.Extract.{extracted}
use Rattle.blind_rotation.specs.Blind.{blind_rotated}
use Rattle.gate_sums.specs.declared.Kind.{Kind}
use Rattle.gate_sums.specs.Sum.{summed}
use Rattle.key.specs.Testvec.{test_pair}
use Rattle.ring.specs.Pair.{Pair}

-- The sample of level 1 that is extracted at 0 once the vector v is rotated by the ciphertext src: v's place that src's phase points at comes to the front.
unfoldable pub sample_from : Params → Pair → List ℕ → List ℕ → List ℕ
sample_from p v bsk src = extracted (size p) 0 (blind_rotated p bsk src v).a (blind_rotated p bsk src v).b

-- A gate's: the gates' vector is rotated by the sum src.
unfoldable pub rotated_sample : Params → List ℕ → List ℕ → List ℕ
rotated_sample p bsk src = sample_from p (test_pair p) bsk src

-- The refusals: both ciphertexts, the bootstrapping key of ls words, the result.
abbrev pub sample_checks : Params → ℕ → ℕ → ℕ → ℕ → List Check
sample_checks p la lb ls lo =
    is la (p.n + 1) 2
    ∷ is lb (p.n + 1) 2
    ∷ is ls (bootstrapping_words p) 2
    ∷ is lo (size p + 1) 2
    ∷ []

-- Its number.
unfoldable pub sample_number : Params → ℕ → ℕ → ℕ → ℕ → ℕ
sample_number p la lb ls lo = refusal_by p (sample_checks p la lb ls lo)

-- What `sample` leaves in out, which held o.
abbrev pub sample_out : Params → Kind → List ℕ → List ℕ → List ℕ → List ℕ → List ℕ
sample_out p kind a b bsk o = if_done (sample_number p (length a) (length b) (length bsk) (length o)) (rotated_sample p bsk (summed p kind a b)) o
