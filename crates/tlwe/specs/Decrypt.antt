-- Decryption (01, tlwe): what a phase stands for.
use Rattle.std.specs.Prelude.{Bool, List, [], ◌∷◌, ◌++◌, ℕ, ◌+◌, ◌*◌, ◌/◌, ◌%◌, ltb}
use Rattle.ring.specs.Word.{Q}
use Rattle.ring.specs.Centre.{H}
use Rattle.params.specs.declared.Params.{Params}
use Rattle.refusals.specs.Table.{Check, holds, refusal_by}
use Rattle.tlwe.specs.declared.Level.{Level}
use Rattle.tlwe.specs.Level.{dimension}
use Rattle.tlwe.specs.Key.{keyed_checks}
use Rattle.tlwe.specs.Plain.{is_modulus}
use Rattle.ring.specs.Phase.{phase_of}

-- A bit: true when the phase, read as signed, is 0 or more. H is 2^31.
abbrev pub bit_of : ℕ → Bool
bit_of t = ltb t H

-- A message of modulus m, phase t: ((t·2m + 2^31) div 2^32) mod m.
abbrev pub message_of : ℕ → ℕ → ℕ
message_of m t = (t * (2 * m) + H) / Q % m

-- The bit of a ciphertext.
abbrev pub bit_value : Params → Level → List ℕ → List ℕ → Bool
bit_value p level c key = bit_of (phase_of (dimension p level) key c)

-- The checks of a decryption of a message of modulus m: 2 for the lengths, 4 for the key, 5 for the modulus.
abbrev pub message_checks : Params → Level → ℕ → ℕ → List ℕ → List Check
message_checks p level m lc key = keyed_checks p level lc key ++ (holds (is_modulus m) 5 ∷ [])

-- Its refusal: 1, 2, 4, 5 or 0.
unfoldable pub message_number : Params → Level → ℕ → ℕ → List ℕ → ℕ
message_number p level m lc key = refusal_by p (message_checks p level m lc key)

-- The message of a ciphertext.
abbrev pub message_value : Params → Level → ℕ → List ℕ → List ℕ → ℕ
message_value p level m c key = message_of m (phase_of (dimension p level) key c)
