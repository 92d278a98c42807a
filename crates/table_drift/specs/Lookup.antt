-- The drift of a lookup in whole numbers (01, Drift; 02, 2026-07: '.. its own table word, plus drift by document 01's reckoning. Each brought-in drift counts rounding.'), and what an inside one promises.
-- key and z are the secret keys of level 0 and 1; bsk and ksk, the bootstrapping and the switching key, may hold anything.
use Rattle.std.specs.Prelude.{Bool, false, cond, ◌≡◌, List, ℕ, ◌+◌, ◌*◌, ◌/◌, ◌%◌, ltb, ℤ, pos, nat_abs, ◌+ℤ◌, ◌-ℤ◌}
use Rattle.ring.specs.Word.{Q, at}
use Rattle.ring.specs.Centre.{H}
use Rattle.ring.specs.Phase.{phase_of}
use Rattle.params.specs.declared.Params.{Params}
use Rattle.tlwe.specs.Plain.{bit_word, message_word}
use Rattle.tlwe.specs.Decrypt.{bit_of, message_of}
use Rattle.tables.specs.Table.{table_pair}
use Rattle.drift.specs.Polynomials.{centred, whole_phase}
use Rattle.drift.specs.Whole.{rounding_drift, rotated_drift}

-- The drift of the message v of modulus m whose ciphertext is c: as a fresh drift is of a bit, its phase less the message's word, centred.
unfoldable pub message_drift : Params → List ℕ → List ℕ → ℕ → ℕ → ℤ
message_drift p key c v m = centred (whole_phase p.n key c -ℤ pos (message_word v m))

-- What is brought into its rotation: its own drift, and what rounding brings in; centred at its end.
unfoldable pub message_brought : Params → List ℕ → List ℕ → ℕ → ℕ → ℤ
message_brought p key c v m = centred (message_drift p key c v m +ℤ rounding_drift p key c)

-- The drift of what the lookup gives: 01's reckoning for the rotation of the table's vector by c, its extraction and its switching.
unfoldable pub lookup_drift : Params → List ℕ → List ℕ → List ℕ → List ℕ → ℕ → List ℕ → List ℕ → ℤ
lookup_drift p key z ksk bsk m f c = rotated_drift p key z ksk bsk (table_pair p m f) c

-- 2^31/(2M), half a message's step. H is 2^31.
abbrev pub margin_of : ℕ → ℕ
margin_of m = H / (2 * m)

-- 'strictly inside 2^31/(2M)'.
unfoldable pub inside_margin : ℕ → ℤ → Bool
inside_margin m drift = ltb (nat_abs drift) (margin_of m)

-- Is what is brought in inside the margin of m, and the result's drift inside that of the results' modulus?
unfoldable pub both_inside : Params → List ℕ → List ℕ → List ℕ → List ℕ → ℕ → List ℕ → ℕ → ℕ → List ℕ → Bool
both_inside p key z ksk bsk m f results v c =
    cond (inside_margin m (message_brought p key c v m)) (inside_margin results (lookup_drift p key z ksk bsk m f c)) false

-- The result out carries the table's word for the message v, read modulo m, with this drift; where that word is a message's of the results' modulus, out decrypts to that message, and where it is a bit's,
-- to the bit.
pub record Carries (p : Params) (key : List ℕ) (m : ℕ) (f : List ℕ) (results v : ℕ) (out : List ℕ) (drift : ℕ) : Type 0 where
  pub word : phase_of p.n key out ≡ (at f (v % m) + drift) % Q
  pub message : (w : ℕ) → at f (v % m) ≡ message_word w results → message_of results (phase_of p.n key out) ≡ w % results
  pub bit : (b : Bool) → at f (v % m) ≡ bit_word b → bit_of (phase_of p.n key out) ≡ b
