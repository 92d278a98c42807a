-- What is encrypted (01, tlwe): each plaintext's word, a count of 2^-32 of a turn, and its refusal.
use Rattle.std.specs.Prelude.{Bool, true, false, cond, ℕ, ◌-◌, ◌*◌, ◌/◌, ◌%◌, eqb}
use Rattle.ring.specs.Word.{Q, eighth}
use Rattle.ring.specs.Centre.{H}
use Rattle.params.specs.Refusal.{check}
use Rattle.utils.specs.Torus.{word}
use Rattle.tlwe.specs.declared.Plain.{Plain}
use Rattle.tlwe.specs.declared.Plain.TheVariants.{Bit, Turn, Message}

-- The message moduli that are taken.
unfoldable pub is_modulus : ℕ → Bool
is_modulus m = cond (eqb m 2) true (cond (eqb m 4) true (cond (eqb m 8) true (cond (eqb m 16) true (cond (eqb m 32) true (eqb m 64)))))

-- Refusal 5 where a message modulus is not 2, 4, 8, 16, 32 or 64, else 0.
abbrev pub modulus_number : ℕ → ℕ
modulus_number m = check (is_modulus m) 5 0

-- Is the plaintext taken? Only a message can be refused, for its modulus.
abbrev pub is_plain : Plain → Bool
is_plain (Bit b) = true
is_plain (Turn d) = true
is_plain (Message v m) = is_modulus m

-- A bit is ±0.125 of a turn.
abbrev pub bit_word : Bool → ℕ
bit_word true = eighth
bit_word false = Q - eighth

-- Message v, modulus m: (v mod m)·2^31/m. H is 2^31.
abbrev pub message_word : ℕ → ℕ → ℕ
message_word v m = v % m * H / m

-- The word of a plaintext; of a double it is that of `f64_to_torus`.
abbrev pub plain_word : Plain → ℕ
plain_word (Bit b) = bit_word b
plain_word (Turn d) = word d
plain_word (Message v m) = message_word v m
