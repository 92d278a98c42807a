-- What a call tells, in the words with which `drift` reckons, since the word of a whole number is settled by the words of its parts; and what holds of a call that is not refused.
-- Assumes nothing.
use mathlib.Core.Path.{◌≡◌, refl, ◌∙◌}
use mathlib.Core.List.{List}
use Prim.Native.Nat.{ℕ}
use lib.ListN.{length}
use native.Mathlib.Nat.{mod-mod}
use Rattle.ring.specs.Word.{Q}
use Rattle.ring.specs.Centre.{word_of}
use Rattle.params.specs.declared.Params.{Params}
use Rattle.refusals.proofs.Table.{good}
use Rattle.tlwe.specs.declared.Level.TheVariants.{Zero}
use Rattle.tlwe.specs.Key.{keyed_checks, keyed_number}
use Rattle.drift.specs.PrivateWords.{rounding_word}
use Rattle.drift.specs.PrivateShort.{place_of}
use Rattle.drift.proofs.Residues.{is_only}
use Rattle.drift.proofs.Parts.{is_rounding}
use Rattle.drift.specs.Whole.{rounding_drift}
use Rattle.turns.specs.Front.{front_place, front_rounding}
use Rattle.turns.specs.Private.{Fits}

module _ (p : Params) (key src : List ℕ) where
  -- what rounding brings in, as a word
  pub rounding_word_lem : word_of (rounding_drift p key src) ≡ rounding_word p key src
  unfolding rounding_word
  rounding_word_lem = is_only (is_rounding p key src) ∙ mod-mod _ Q

  -- so it is what the code tells
  pub rounding_told : front_rounding p key src ≡ rounding_word p key src
  unfolding front_rounding
  rounding_told = rounding_word_lem

  -- and so is the place
  pub place_told : front_place p key src ≡ place_of p key src
  unfolding front_place
  place_told = refl

  -- lengths fit where the call is not refused
  pub fitting : keyed_number p Zero (length src) key ≡ 0 → Fits p key src
  unfolding keyed_number
  fitting e = let f = good p (keyed_checks p Zero (length src) key) refl e in record { long = f.1.1.0; words = f.1.0 }
