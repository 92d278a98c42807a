-- The refusals of the blind rotation and of a step, and what the lent accumulator holds afterwards (01, 'Refusal numbers').
use Rattle.std.specs.Prelude.{List, [], ◌∷◌, ℕ, ◌+◌, length}
use Rattle.params.specs.declared.Params.{Params}
use Rattle.params.specs.Refusal.{if_done}
use Rattle.params.specs.Sizes.{size, bootstrapping_words}
use Rattle.refusals.specs.Table.{Check, is, below, refusal_by}
use Rattle.blind_rotation.specs.Blind.{blind_step, blind_rotated}
use Rattle.ring.specs.Pair.{Pair}
use Rattle.key.specs.Testvec.{test_pair}

-- A step: a key of lk words, an accumulator of la and lb words, and the step i, which is below n.
abbrev pub step_checks : Params → ℕ → ℕ → ℕ → ℕ → List Check
step_checks p lk i la lb =
    is lk (bootstrapping_words p) 2
    ∷ is la (size p) 2
    ∷ is lb (size p) 2
    ∷ below i p.n 3
    ∷ []

-- Its number.
unfoldable pub step_number : Params → ℕ → ℕ → ℕ → ℕ → ℕ
step_number p lk i la lb = refusal_by p (step_checks p lk i la lb)

-- What `blind_rotate_step` leaves in the accumulator, which held x.
abbrev pub step_out : Params → List ℕ → ℕ → ℕ → Pair → Pair
step_out p key i mask x = if_done (step_number p (length key) i (length x.a) (length x.b)) (blind_step p key i mask x) x

-- A rotation: a ciphertext of ls words, a key of lk words, and results of la and lb words.
abbrev pub blind_checks : Params → ℕ → ℕ → ℕ → ℕ → List Check
blind_checks p ls lk la lb =
    is ls (p.n + 1) 2
    ∷ is lk (bootstrapping_words p) 2
    ∷ is la (size p) 2
    ∷ is lb (size p) 2
    ∷ []

-- Its number.
unfoldable pub blind_number : Params → ℕ → ℕ → ℕ → ℕ → ℕ
blind_number p ls lk la lb = refusal_by p (blind_checks p ls lk la lb)

-- What `blind_rotate` leaves in the pair of lent slices, which held o: the gates' start vector rotated.
abbrev pub blind_out : Params → List ℕ → List ℕ → Pair → Pair
blind_out p src key o = if_done (blind_number p (length src) (length key) (length o.a) (length o.b)) (blind_rotated p key src (test_pair p)) o

-- A rotation of a lent vector of lva and lvb words: the vector's, and those of a rotation.
abbrev pub vector_checks : Params → ℕ → ℕ → ℕ → ℕ → ℕ → ℕ → List Check
vector_checks p ls lva lvb lk la lb = is lva (size p) 2 ∷ is lvb (size p) 2 ∷ blind_checks p ls lk la lb

-- Its number.
unfoldable pub vector_number : Params → ℕ → ℕ → ℕ → ℕ → ℕ → ℕ → ℕ
vector_number p ls lva lvb lk la lb = refusal_by p (vector_checks p ls lva lvb lk la lb)

-- What `blind_rotate_with_testvec` leaves in the pair of lent slices, which held o: the vector v rotated.
abbrev pub vector_out : Params → List ℕ → Pair → List ℕ → Pair → Pair
vector_out p src v key o = if_done (vector_number p (length src) (length v.a) (length v.b) (length key) (length o.a) (length o.b)) (blind_rotated p key src v) o
