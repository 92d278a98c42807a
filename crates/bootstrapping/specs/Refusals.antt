-- The refusals of `encrypt_torus` and `gen_bootstrapping_key` (01, 'Refusal numbers'; docs/DECISIONS.md, Readings).
use Rattle.std.specs.Prelude.{List, [], ◌∷◌, ℕ, ◌*◌, length}
use Rattle.params.specs.declared.Params.{Params}
use Rattle.params.specs.Sizes.{size, bit_words, bootstrapping_words}
use Rattle.refusals.specs.Table.{Check, is, holds, refusal_by}
use Rattle.tlwe.specs.Key.{binary}
use Rattle.bootstrapping.specs.Rows.{bit_draws}

-- With so many masks and noise words, under the level-1 key z, into so many words: each slice, then the key.
abbrev pub torus_checks : Params → ℕ → ℕ → List ℕ → ℕ → List Check
torus_checks p masks noise z out =
    is masks (bit_draws p) 2
    ∷ is noise (bit_draws p) 2
    ∷ is (length z) (size p) 2
    ∷ is out (bit_words p) 2
    ∷ holds (binary z) 4
    ∷ []

-- The refusal of one bit's rows: 1, 2, 4 or 0.
unfoldable pub torus_number : Params → ℕ → ℕ → List ℕ → ℕ → ℕ
torus_number p masks noise z out = refusal_by p (torus_checks p masks noise z out)

-- Of a whole key, under the level-0 key and the level-1 key z: each slice, then each key.
abbrev pub bootstrapping_checks : Params → List ℕ → List ℕ → ℕ → ℕ → ℕ → List Check
bootstrapping_checks p key z masks noise out =
    is (length key) p.n 2
    ∷ is (length z) (size p) 2
    ∷ is masks (p.n * bit_draws p) 2
    ∷ is noise (p.n * bit_draws p) 2
    ∷ is out (bootstrapping_words p) 2
    ∷ holds (binary key) 4
    ∷ holds (binary z) 4
    ∷ []

-- Its refusal: 1, 2, 4 or 0.
unfoldable pub bootstrapping_number : Params → List ℕ → List ℕ → ℕ → ℕ → ℕ → ℕ
bootstrapping_number p key z masks noise out = refusal_by p (bootstrapping_checks p key z masks noise out)
