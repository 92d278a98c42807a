-- What the turns of a gate's rotation tell: `turns` tells them of the gate's sum, which a binary key of the right length does not have refused, and what is brought in takes up the operands' drifts beside.
-- Assumes nothing.
use mathlib.Core.Path.{◌≡◌, ap, ap₂, ◌∙◌}
use mathlib.Core.List.{List}
use Prim.Native.Nat.{ℕ, ◌+◌, ◌*◌, ◌%◌}
use native.Mathlib.Nat.{mod-add-mod}
use lib.ListN.{length}
use Rattle.std.specs.Prelude.{Result, Ok}
use Rattle.ring.specs.Word.{Q}
use Rattle.params.specs.declared.Params.{Params}
use Rattle.params.specs.declared.refusal.Refusal.{Refusal}
use Rattle.params.specs.Ranges.{params_number}
use Rattle.params.specs.Refusal.{answer, given}
use Rattle.params.proofs.Answers.{given_done}
use Rattle.tlwe.specs.declared.Level.TheVariants.{Zero}
use Rattle.tlwe.specs.Key.{keyed_number}
use Rattle.tlwe.proofs.Refusals.{keyed_done}
use Rattle.gate_sums.specs.declared.Kind.{Kind}
use Rattle.gate_sums.specs.Weights.{weights_of}
use Rattle.gate_sums.specs.Sum.{summed}
use Rattle.gate_sums.proofs.Sums.{summed-length}
use Rattle.drift.specs.PrivateWords.{rounding_word, brought_word}
use Rattle.drift.specs.PrivateShort.{place_of}
use Rattle.turns.specs.declared.Rounded.{Rounded}
use Rattle.turns.specs.Front.{front_place, front_rounding}
use Rattle.turns.proofs.Words.{place_told, rounding_told}
use Rattle.drift_run.specs.Private.{Secret}

module _ (p : Params) (kind : Kind) (key a b : List ℕ) (z : params_number p ≡ 0) (s : Secret p key) where
  abbrev sum : List ℕ
  sum = summed p kind a b

  -- the sum is not refused
  sum_passes : keyed_number p Zero (length sum) key ≡ 0
  sum_passes = keyed_done p Zero (length sum) key z (summed-length p kind a b) s.long s.bits

  abbrev told : List ℕ → Result Rounded Refusal
  told src = given (answer (keyed_number p Zero (length src) key)) (record { place = front_place p key src; rounding = record { 0 = front_rounding p key src } })

  -- so its place and what rounding brings in are told, whatever holds the sum
  pub sum_told : {src : List ℕ} → src ≡ sum → told src ≡ Ok (record { place = place_of p key sum; rounding = record { 0 = rounding_word p key sum } })
  sum_told e =
      let place = place_told p key sum in
      let rounding = rounding_told p key sum in
      ap told e ∙ given_done _ _ sum_passes ∙ (λ i. Ok (record { place = place i; rounding = record { 0 = rounding i } }))

-- what is brought in
pub brought_is : (p : Params) (kind : Kind) (key src : List ℕ) (da db : ℕ) {own rounding brought : ℕ} → own ≡ ((weights_of kind).a * da + (weights_of kind).b * db) % Q
    → rounding ≡ rounding_word p key src → brought ≡ (own + rounding) % Q → brought ≡ brought_word p kind key src da db
unfolding brought_word
brought_is p kind key src da db eo er eb = eb ∙ ap₂ (λ (x y : ℕ). (x + y) % Q) eo er ∙ mod-add-mod ((weights_of kind).a * da + (weights_of kind).b * db) Q (rounding_word p key src)
