-- What the routines inside this crate promise each other, in words; a reader of the public contract can leave it.
use Rattle.std.specs.Prelude.{Bool, true, false, cond, ◌≡◌, List, ℕ, ◌+◌, ◌-◌, ◌%◌, ltb, length}
use Rattle.ring.specs.Word.{Q, at, neg}
use Rattle.ring.specs.Pair.{Pair}
use Rattle.ring.specs.Phase.{phase_of}
use Rattle.params.specs.declared.Params.{Params}
use Rattle.params.specs.Sizes.{size, switching_words, bootstrapping_words}
use Rattle.tlwe.specs.Key.{binary}
use Rattle.tlwe.specs.Plain.{modulus_number, message_word}
use Rattle.drift_size.specs.Size.{magnitude}
use Rattle.drift.specs.PrivateWords.{rounding_word}
use Rattle.drift.specs.PrivateShort.{front_word}
use Rattle.tables.specs.Table.{is_table, table_pair, looked_up}
use Rattle.table_drift.specs.Lookup.{margin_of}

-- What holds of a call that is not refused, beside its parameters' ranges.
pub record LookupDriftGood (p : Params) (m lf results lk ls : ℕ) (key : List ℕ) (lc lo ld : ℕ) : Type 0 where
  pub words : lf ≡ m
  pub fits : is_table (size p) m ≡ true
  pub switching : lk ≡ switching_words p
  pub bootstrapping : ls ≡ bootstrapping_words p
  pub long : length key ≡ p.n
  pub source : lc ≡ p.n + 1
  pub result : lo ≡ p.n + 1
  pub drifts : ld ≡ 2
  pub bits : binary key ≡ true
  pub outcome : modulus_number results ≡ 0

-- What is brought in: the message's own drift, and rounding's.
unfoldable pub brought_short : Params → List ℕ → List ℕ → ℕ → ℕ → ℕ
brought_short p key c v m = ((phase_of p.n key c + neg (message_word v m)) % Q + rounding_word p key c) % Q

-- The short way to the result's drift: its phase less what the turns brought to the front.
unfoldable pub lookup_short : Params → List ℕ → List ℕ → List ℕ → ℕ → List ℕ → List ℕ → ℕ
lookup_short p key ksk bsk m f c = (phase_of p.n key (looked_up p m f ksk bsk c) + neg (front_word p (table_pair p m f) key c)) % Q

-- What place, below 2N, brings to the front of v.
unfoldable pub front_at : Params → Pair → ℕ → ℕ
front_at p v place = cond (ltb place (size p)) (at v.b place) (neg (at v.b (place - size p)) % Q)

-- Is a word, read as signed, inside the margin of m?
unfoldable pub within_word : ℕ → ℕ → Bool
within_word m drift = ltb (magnitude drift) (margin_of m)

-- Both.
unfoldable pub both_within : ℕ → ℕ → ℕ → ℕ → Bool
both_within m results brought drift = cond (within_word m brought) (within_word results drift) false
