-- For the contracts of this crate's private routines.
use Rattle.std.specs.Prelude.{◌≡◌, Bool, cond, List, [], ◌∷◌, ℕ, ◌+◌, ◌<◌}
use Rattle.std.proofs.lemmas.List.Edits.{sets}
use Rattle.ring.specs.Word.{at}
use Rattle.circuit.specs.Form.{gates}
use Rattle.bristol_export.specs.Text.{last_wire}

-- The bytes of a text laid over o from place i on; those that o has no room for are dropped, so that a text can be measured over a slice that is too short.
unfoldable pub laid : List ℕ → ℕ → List ℕ → List ℕ
laid o i text = sets o i text

-- A digit where it is shown, nothing where it would be a leading zero.
abbrev pub digit_if : Bool → ℕ → List ℕ
digit_if shown d = cond shown ((48 + d) ∷ []) []

-- A table of the gates' last wires.
pub record Wired (bs ws : List ℕ) : Type 0 where
  pub last : (g : ℕ) → g < gates bs → at ws g ≡ last_wire bs g
