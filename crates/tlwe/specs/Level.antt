-- The two levels of ciphertexts (01, tlwe: n + 1 words at level 0, N + 1 at level 1; the last is b).
use Rattle.std.specs.Prelude.{ℕ, ◌+◌}
use Rattle.params.specs.declared.Params.{Params}
use Rattle.params.specs.Sizes.{size}
use Rattle.tlwe.specs.declared.Level.{Level}
use Rattle.tlwe.specs.declared.Level.TheVariants.{Zero, One}

-- The masks of a ciphertext: n at level 0, N at level 1.
abbrev pub dimension : Params → Level → ℕ
dimension p Zero = p.n
dimension p One = size p

-- The words of a ciphertext: its masks and b.
abbrev pub cipher_words : Params → Level → ℕ
cipher_words p level = dimension p level + 1
