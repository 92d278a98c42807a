-- Secret keys, binary words (01, 'Refusal numbers', 4), and the phase of a ciphertext under one.
use Rattle.std.specs.Prelude.{List, [], ◌∷◌, Bool, true, false, cond, ℕ, leb, length}
use Rattle.ring.specs.Phase.{phase_of}
use Rattle.params.specs.declared.Params.{Params}
use Rattle.params.specs.Refusal.{check}
use Rattle.refusals.specs.Table.{Check, is, holds, refusal_by}
use Rattle.tlwe.specs.declared.Level.{Level}
use Rattle.tlwe.specs.Level.{dimension, cipher_words}

-- Are all key words 0 or 1?
unfoldable pub binary : List ℕ → Bool
binary [] = true
binary (k ∷ ks) = cond (leb k 1) (binary ks) false

-- Refusal 4 where a key word is neither 0 nor 1, else 0.
abbrev pub key_number : List ℕ → ℕ
key_number key = check (binary key) 4 0

-- The checks of a call that is lent a ciphertext of lc words and a key: 2 for the lengths, 4 for the key.
abbrev pub keyed_checks : Params → Level → ℕ → List ℕ → List Check
keyed_checks p level lc key = is lc (cipher_words p level) 2 ∷ is (length key) (dimension p level) 2 ∷ holds (binary key) 4 ∷ []

-- Its refusal: 1, 2, 4 or 0.
unfoldable pub keyed_number : Params → Level → ℕ → List ℕ → ℕ
keyed_number p level lc key = refusal_by p (keyed_checks p level lc key)

-- The phase of a ciphertext at a level.
abbrev pub phase_value : Params → Level → List ℕ → List ℕ → ℕ
phase_value p level c key = phase_of (dimension p level) key c
