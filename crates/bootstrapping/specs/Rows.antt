-- One bit's rows and the bootstrapping key, as they are generated from lent masks and noise (01, key; `TRGSWLv1::encrypt_torus` of src/trgsw.rs and
-- `gen_bootstrapping_key` of src/key.rs). All as coefficients, where the Rust keeps transforms.
use Rattle.std.specs.Prelude.{cond, List, [], ◌∷◌, ◌++◌, ℕ, ◌+◌, ◌-◌, ◌*◌, ltb}
use Rattle.ring.specs.Word.{at}
use Rattle.ring.specs.Lists.{part, joined}
use Rattle.ring.specs.Poly.{plus, times}
use Rattle.ring.specs.Pair.{Pair, pair_plus, pair_scale}
use Rattle.params.specs.declared.Params.{Params}
use Rattle.params.specs.Sizes.{size}
use Rattle.decomposition.specs.Digit.{digit_weight}

-- Row r of the gadget H (TFHE paper, 3.3): for r below L the constant g_r in a, and from L on g_(r-L) in b.
unfoldable pub gadget_row : Params → ℕ → Pair
gadget_row p r = cond (ltb r p.l) (record { a = digit_weight p r ∷ []; b = [] }) (record { a = []; b = digit_weight p (r - p.l) ∷ [] })

-- A row of Z: an encryption of zero under the level-1 key z, its a the masks drawn, its b noise + masks·z (01, trlwe).
unfoldable pub zero_row : Params → List ℕ → List ℕ → List ℕ → Pair
zero_row p z masks noise = record { a = masks; b = plus (size p) noise (times (size p) masks z) }

-- Row r of Z + m·H, as a pair.
unfoldable pub pair_row : Params → ℕ → ℕ → List ℕ → List ℕ → List ℕ → Pair
pair_row p m r z masks noise = pair_plus (size p) (zero_row p z masks noise) (pair_scale (size p) m (gadget_row p r))

-- The row of the key: its 2N words, a then b.
unfoldable pub key_row : Params → ℕ → ℕ → List ℕ → List ℕ → List ℕ → List ℕ
key_row p m r z masks noise = (pair_row p m r z masks noise).a ++ (pair_row p m r z masks noise).b

-- The N words that row r draws from one bit's masks, or from its noise: they are used in row order.
unfoldable pub row_draw : Params → List ℕ → ℕ → List ℕ
row_draw p words r = part (size p) (r * size p) words

-- Row r of an encryption of m, from the masks and the noise of all its rows.
unfoldable pub torus_row : Params → ℕ → List ℕ → List ℕ → List ℕ → ℕ → List ℕ
torus_row p m z masks noise r = key_row p m r z (row_draw p masks r) (row_draw p noise r)

-- `encrypt_torus`: the 2L rows of an encryption of the word m, one after another.
unfoldable pub torus_rows : Params → ℕ → List ℕ → List ℕ → List ℕ → List ℕ
torus_rows p m z masks noise = joined (p.l + p.l) (torus_row p m z masks noise)

-- The masks that one bit's rows draw, and as many words of noise: N for each row.
abbrev pub bit_draws : Params → ℕ
bit_draws p = (p.l + p.l) * size p

-- The words that bit i draws from the masks of a whole key, or from its noise.
unfoldable pub bit_draw : Params → List ℕ → ℕ → List ℕ
bit_draw p words i = part (bit_draws p) (i * bit_draws p) words

-- Bit i's part of the bootstrapping key: an encryption of the level-0 key's word i.
unfoldable pub key_bit : Params → List ℕ → List ℕ → List ℕ → List ℕ → ℕ → List ℕ
key_bit p key z masks noise i = torus_rows p (at key i) z (bit_draw p masks i) (bit_draw p noise i)

-- `gen_bootstrapping_key`: a part for each word of the level-0 key, one after another.
unfoldable pub bootstrapping_key : Params → List ℕ → List ℕ → List ℕ → List ℕ → List ℕ
bootstrapping_key p key z masks noise = joined p.n (key_bit p key z masks noise)
