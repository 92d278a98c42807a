-- Encryption (01, tlwe): b = the masks' sum under the key + plain word + lent noise word.
use Rattle.std.specs.Prelude.{List, [], ◌∷◌, ◌++◌, ℕ, ◌+◌, ◌%◌, length}
use Rattle.ring.specs.Word.{Q}
use Rattle.ring.specs.Phase.{inner}
use Rattle.params.specs.declared.Params.{Params}
use Rattle.params.specs.Refusal.{if_done}
use Rattle.refusals.specs.Table.{Check, is, holds, refusal_by}
use Rattle.tlwe.specs.declared.Level.{Level}
use Rattle.tlwe.specs.declared.Plain.{Plain}
use Rattle.tlwe.specs.Level.{dimension, cipher_words}
use Rattle.tlwe.specs.Key.{binary}
use Rattle.tlwe.specs.Plain.{is_plain, plain_word}

-- The checks of an encryption with lm masks into lo words: 2 for the lengths, 4 for the key, 5 for the message modulus.
abbrev pub encrypt_checks : Params → Level → Plain → ℕ → List ℕ → ℕ → List Check
encrypt_checks p level plain lm key lo =
    is lm (dimension p level) 2
    ∷ is (length key) (dimension p level) 2
    ∷ is lo (cipher_words p level) 2
    ∷ holds (binary key) 4
    ∷ holds (is_plain plain) 5
    ∷ []

-- Its refusal: 1, 2, 4, 5 or 0.
unfoldable pub encrypt_number : Params → Level → Plain → ℕ → List ℕ → ℕ → ℕ
encrypt_number p level plain lm key lo = refusal_by p (encrypt_checks p level plain lm key lo)

-- The ciphertext of a plain word with d masks: the masks, then b = their sum under the key + plain word + noise.
unfoldable pub encrypted : ℕ → ℕ → List ℕ → ℕ → List ℕ → List ℕ
encrypted d word masks noise key = masks ++ ((inner d key masks + word + noise) % Q ∷ [])

-- What the ciphertext's slice, o before the call, holds after an encryption: the ciphertext, and o itself where the call is refused.
abbrev pub encrypt_out : Params → Level → Plain → List ℕ → ℕ → List ℕ → List ℕ → List ℕ
encrypt_out p level plain masks noise key o =
    if_done (encrypt_number p level plain (length masks) key (length o)) (encrypted (dimension p level) (plain_word plain) masks noise key) o
