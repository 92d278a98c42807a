-- The refusals of the external product and of `cmux`, and what their lent slices hold afterwards (01, 'Refusal numbers').
use Rattle.std.specs.Prelude.{List, [], ◌∷◌, ℕ, length}
use Rattle.params.specs.declared.Params.{Params}
use Rattle.params.specs.Refusal.{if_done}
use Rattle.params.specs.Sizes.{size, bit_words}
use Rattle.refusals.specs.Table.{Check, is, refusal_by}
use Rattle.trgsw.specs.External.{external, cmux_of}
use Rattle.ring.specs.Pair.{Pair, pair_plus}

-- Both external products: one bit's rows of lr words, a pair of la and lb words, and results of lx and ly words.
abbrev pub external_checks : Params → ℕ → ℕ → ℕ → ℕ → ℕ → List Check
external_checks p lr la lb lx ly =
    is lr (bit_words p) 2
    ∷ is la (size p) 2
    ∷ is lb (size p) 2
    ∷ is lx (size p) 2
    ∷ is ly (size p) 2
    ∷ []

-- Its number.
unfoldable pub external_number : Params → ℕ → ℕ → ℕ → ℕ → ℕ → ℕ
external_number p lr la lb lx ly = refusal_by p (external_checks p lr la lb lx ly)

-- What `external_product` leaves in the pair of lent slices, which held o.
abbrev pub external_out : Params → List ℕ → Pair → Pair → Pair
external_out p rows x o = if_done (external_number p (length rows) (length x.a) (length x.b) (length o.a) (length o.b)) (external p rows x) o

-- What `external_product_add` leaves there.
abbrev pub external_add_out : Params → List ℕ → Pair → Pair → Pair
external_add_out p rows x o = if_done (external_number p (length rows) (length x.a) (length x.b) (length o.a) (length o.b)) (pair_plus (size p) (external p rows x) o) o

-- `cmux`: pairs of la, lb and of lc, ld words, one bit's rows of lr words, and results of lx and ly words.
abbrev pub cmux_checks : Params → ℕ → ℕ → ℕ → ℕ → ℕ → ℕ → ℕ → List Check
cmux_checks p la lb lc ld lr lx ly =
    is la (size p) 2
    ∷ is lb (size p) 2
    ∷ is lc (size p) 2
    ∷ is ld (size p) 2
    ∷ is lr (bit_words p) 2
    ∷ is lx (size p) 2
    ∷ is ly (size p) 2
    ∷ []

-- Its number.
unfoldable pub cmux_number : Params → ℕ → ℕ → ℕ → ℕ → ℕ → ℕ → ℕ → ℕ
cmux_number p la lb lc ld lr lx ly = refusal_by p (cmux_checks p la lb lc ld lr lx ly)

-- What `cmux` leaves in the pair of lent slices, which held o.
abbrev pub cmux_out : Params → List ℕ → Pair → Pair → Pair → Pair
cmux_out p rows x y o =
    if_done (cmux_number p (length x.a) (length x.b) (length y.a) (length y.b) (length rows) (length o.a) (length o.b)) (cmux_of p rows x y) o
