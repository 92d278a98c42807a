-- The imported list is one of bytes: each of its numbers is below 256, for its fields are below 2^16. Lists of bytes one after another are bytes.
-- Assumes nothing.
use mathlib.Core.Path.{◌≡◌}
use mathlib.Core.List.{List, [], ◌∷◌, ◌++◌}
use Prim.Native.Nat.{ℕ, zero, suc, ◌/◌, ◌%◌, ◌<◌}
use native.Mathlib.Omega.{arith}
use native.Mathlib.Decide.{ℕ_discrete}
use lib.Dec.{lit<}
use Rattle.ring.specs.Word.{at}
use Rattle.ring.specs.Lists.{joined}
use Rattle.tokens.specs.Tokens.{eqw_name}
use Rattle.bristol_form.specs.Says.{gates, inputs, outputs, made}
use Rattle.bristol_form.specs.Valid.{InForm, InLimits}
use Rattle.bristol.specs.Import.{kind_for, operand_for, field_bytes, gate_bytes, head_bytes, output_for, imported}
use Rattle.bristol.proofs.TextGates.{named, reads}
use Rattle.bristol.proofs.OurWires.{operand_small, output_small, kind_small}
use Rattle.bristol.proofs.ImportedBytes.{gate_own, gate_eqw}

-- A list of bytes.
data Bytes : List ℕ → Type 0 where
  none : Bytes []
  more : {b : ℕ} {l : List ℕ} → b < 256 → Bytes l → Bytes (b ∷ l)

each : {l : List ℕ} → Bytes l → (i : ℕ) → at l i < 256
each none i = lit< tt
each (more h t) zero = h
each (more h t) (suc i) = each t i

field : (v : ℕ) {l : List ℕ} → v < 65536 → Bytes l → Bytes (v % 256 ∷ v / 256 ∷ l)
field v h t =
    let low : v % 256 < 256 = omega arith in
    let high : v / 256 < 256 = omega arith in
    more low (more high t)

after : {p q : List ℕ} → Bytes p → Bytes q → Bytes (p ++ q)
after none b = b
after (more h t) b = more h (after t b)

all : (n : ℕ) (f : ℕ → List ℕ) → ((r : ℕ) → r < n → Bytes (f r)) → Bytes (joined n f)
unfolding joined
all zero f h = none
all (suc n) f h = after (all n f (λ r l. h r (omega arith))) (h n (omega arith))

module _ (text : List ℕ) (form : InForm text) (limits : InLimits text) where
  gate_bytes_lem : (j : ℕ) → j < gates text → Bytes (gate_bytes text j)
  gate_bytes_lem j l = go (ℕ_discrete (named text j) 5)
    where
      go : Dec (named text j ≡ eqw_name) → Bytes (gate_bytes text j)
      go (yes e) = rw (gate_eqw text j e) none
      go (no d) =
          let s = kind_small text form limits j l d in
          let k : kind_for (named text j) (reads text j 0) < 256 = omega arith in
          let a = operand_small text form limits j 0 l in
          let b = operand_small text form limits j 1 l in
          rw (gate_own text j d)
          (more k (more (lit< tt) (field (operand_for text j 0) (omega arith) (field (operand_for text j 1) (omega arith) (more (lit< tt) (more (lit< tt) none))))))

  pub imported_bytes : (i : ℕ) → at (imported text) i < 256
  unfolding imported head_bytes
  imported_bytes =
      let a = limits.inputs_to in
      let b = limits.gates_most in
      let c = limits.outputs_most in
      let counts = field (inputs text) (omega arith) (field (made text (gates text)) (omega arith) (field (outputs text) (omega arith) none)) in
      let head : Bytes (head_bytes (inputs text) (made text (gates text)) (outputs text)) = more (lit< tt) (more (lit< tt) (more (lit< tt) (more (lit< tt) (more (lit< tt) counts)))) in
      let outs = all (outputs text) (λ o. field_bytes (output_for text o)) (λ o l. let s = output_small text form limits o l in field (output_for text o) (omega arith) none) in
      each (after head (after (all (gates text) (gate_bytes text) gate_bytes_lem) outs))
