-- Decryption to N bits (01, trlwe): each coefficient of the phase b - a·z as a bit.
use Rattle.std.specs.Prelude.{List, [], ◌∷◌, ℕ, length}
use Rattle.params.specs.declared.Params.{Params}
use Rattle.params.specs.Refusal.{if_done}
use Rattle.params.specs.Sizes.{size}
use Rattle.refusals.specs.Table.{Check, is, holds, refusal_by}
use Rattle.ring.specs.Word.{at}
use Rattle.ring.specs.Sums.{tab}
use Rattle.ring.specs.Phase.{phase}
use Rattle.tlwe.specs.Key.{binary}
use Rattle.tlwe.specs.Decrypt.{bit_of}
use Rattle.ring.specs.Bit.{bit_number}

-- The checks of a decryption of la and lb words into lo bytes: 2 unless each has N, then 4 for the key.
abbrev pub decrypt_pair_checks : Params → ℕ → ℕ → List ℕ → ℕ → List Check
decrypt_pair_checks p la lb key lo =
    is la (size p) 2
    ∷ is lb (size p) 2
    ∷ is (length key) (size p) 2
    ∷ is lo (size p) 2
    ∷ holds (binary key) 4
    ∷ []

-- Its refusal: 1, 2, 4 or 0.
unfoldable pub decrypt_pair_number : Params → ℕ → ℕ → List ℕ → ℕ → ℕ
decrypt_pair_number p la lb key lo = refusal_by p (decrypt_pair_checks p la lb key lo)

-- The bits of a pair under the key z.
unfoldable pub decrypted : ℕ → List ℕ → List ℕ → List ℕ → List ℕ
decrypted N z a b = tab N (λ i. bit_number (bit_of (at (phase N z a b) i)))

-- What `decrypt_bool` leaves in out, which held o.
abbrev pub decrypt_out : Params → List ℕ → List ℕ → List ℕ → List ℕ → List ℕ
decrypt_out p a b z o = if_done (decrypt_pair_number p (length a) (length b) z (length o)) (decrypted (size p) z a b) o
