-- The refusals of calls with a key, for callers: the table taken apart and put together.
-- Assumes nothing.
use mathlib.Core.Path.{◌≡◌, refl}
use mathlib.Core.Bool.{true}
use mathlib.Core.List.{List, [], ◌∷◌}
use Prim.Native.Nat.{ℕ}
use lib.Dec.{lit<}
use lib.ListN.{length}
use Rattle.params.specs.declared.Params.{Params}
use Rattle.params.specs.Ranges.{params_number}
use Rattle.params.proofs.Answers.{passed}
use Rattle.refusals.specs.Table.{holds}
use Rattle.refusals.proofs.Table.{good, done, then_more, before_more}
use Rattle.tlwe.specs.declared.Level.{Level}
use Rattle.tlwe.specs.declared.Plain.{Plain}
use Rattle.tlwe.specs.Level.{dimension, cipher_words}
use Rattle.tlwe.specs.Key.{binary, keyed_checks, keyed_number}
use Rattle.tlwe.specs.Plain.{is_modulus, modulus_number, is_plain}
use Rattle.tlwe.specs.Encrypt.{encrypt_checks, encrypt_number}
use Rattle.tlwe.specs.Decrypt.{message_number}
use Rattle.tlwe.specs.Private.{plain_number}

-- ---- calls with a key

module _ (p : Params) (level : Level) (lc : ℕ) (key : List ℕ) where
  module _ (m : ℕ) where
    -- the message modulus comes after all other checks
    pub message_then : keyed_number p level lc key ≡ 0 → message_number p level m lc key ≡ modulus_number m
    unfolding keyed_number message_number
    message_then e = then_more p (keyed_checks p level lc key) (holds (is_modulus m) 5 ∷ []) refl e

    -- and does not alter a refusal before it
    pub message_before : (keyed_number p level lc key ≡ 0 → ⊥) → keyed_number p level lc key ≡ message_number p level m lc key
    unfolding keyed_number message_number
    message_before h = before_more p (keyed_checks p level lc key) (holds (is_modulus m) 5 ∷ []) h

  -- for callers: a call whose arguments are good is not refused
  pub keyed_done : params_number p ≡ 0 → lc ≡ cipher_words p level → length key ≡ dimension p level → binary key ≡ true → keyed_number p level lc key ≡ 0
  unfolding keyed_number
  keyed_done g c m b = done p (keyed_checks p level lc key) (g, (c, (m, (b, tt))))

-- ---- encryption

-- what holds where an encryption is not refused
pub record Encryptable (p : Params) (level : Level) (plain : Plain) (lm : ℕ) (key : List ℕ) (lo : ℕ) : Type 0 where
  pub good : params_number p ≡ 0
  pub masks : lm ≡ dimension p level
  pub keys : length key ≡ dimension p level
  pub result : lo ≡ cipher_words p level
  pub bits : binary key ≡ true
  pub message : plain_number plain ≡ 0

module _ (p : Params) (level : Level) (plain : Plain) (lm : ℕ) (key : List ℕ) (lo : ℕ) where
  pub encrypt_good : encrypt_number p level plain lm key lo ≡ 0 → Encryptable p level plain lm key lo
  unfolding encrypt_number
  encrypt_good e =
      let f = good p (encrypt_checks p level plain lm key lo) refl e in
      record { good = f.0; masks = f.1.0; keys = f.1.1.0; result = f.1.1.1.0; bits = f.1.1.1.1.0; message = rw f.1.1.1.1.1.0 }

  -- for callers: good arguments are not refused
  pub encrypt_done : Encryptable p level plain lm key lo → encrypt_number p level plain lm key lo ≡ 0
  unfolding encrypt_number
  encrypt_done g =
      done p (encrypt_checks p level plain lm key lo)
      (g.good, (g.masks, (g.keys, (g.result, (g.bits, ((passed (is_plain plain) 5 0 (lit< tt) g.message).0, tt))))))
