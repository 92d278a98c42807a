-- The sums before rotation as ciphertexts, and the ciphertexts that need no rotation (01, gates).
use Rattle.std.specs.Prelude.{Bool, true, false, List, [], ◌∷◌, ℕ, ◌+◌, ◌*◌, ◌-◌, ◌%◌}
use Rattle.ring.specs.Word.{Q, eighth}
use Rattle.ring.specs.Poly.{plus, scale}
use Rattle.ring.specs.Centre.{word_of}
use Rattle.ring.specs.Phase.{trivial}
use Rattle.params.specs.declared.Params.{Params}
use Rattle.params.specs.Sizes.{size}
use Rattle.refusals.specs.Table.{is, refusal_by}
use Rattle.gate_sums.specs.declared.Kind.{Kind}
use Rattle.gate_sums.specs.Kind.{row_of}

-- The sum of a kind: its multiples of a and of b, and its eighths of a turn, which no mask hides.
unfoldable pub summed : Params → Kind → List ℕ → List ℕ → List ℕ
summed p kind a b =
    plus (p.n + 1) (plus (p.n + 1) (scale (p.n + 1) (word_of (row_of kind).a) a) (scale (p.n + 1) (word_of (row_of kind).b) b))
    (trivial p.n (word_of (row_of kind).eighths * eighth % Q))

-- The sum of `mux` at level 1: u + v and an eighth of a turn (01: 'added at level 1 with +1').
unfoldable pub mux_sum : Params → List ℕ → List ℕ → List ℕ
mux_sum p u v = plus (size p + 1) (plus (size p + 1) u v) (trivial (size p) eighth)

-- The last word of a constant: an eighth of a turn, and for false one less that eighth, wrapping (`1 - mu` of the Rust's release build).
abbrev pub constant_word : Bool → ℕ
constant_word true = eighth
constant_word false = Q + 1 - eighth

-- A constant: masks zero.
unfoldable pub constant_of : Params → Bool → List ℕ
constant_of p value = trivial p.n (constant_word value)

-- Its refusals, for a result of lo words.
unfoldable pub constant_number : Params → ℕ → ℕ
constant_number p lo = refusal_by p (is lo (p.n + 1) 2 ∷ [])
