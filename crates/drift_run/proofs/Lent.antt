-- What the code reads of a gate and of the wires lies where it should, and what it is told of a gate is the definition's.
-- Assumes nothing.
use mathlib.Core.Path.{◌≡◌, ap, ◌∙◌}
use mathlib.Core.Logic.{⊎_elim}
use mathlib.Core.List.{List}
use Prim.Native.Nat.{ℕ, ◌+◌, ◌*◌, ◌≤◌, ◌<◌}
use native.Mathlib.Omega.{arith}
use lib.ListN.{length}
use Rattle.ring.specs.Word.{at}
use Rattle.params.specs.declared.Params.{Params}
use Rattle.kinds.specs.Kinds.{kind_of}
use Rattle.circuit.specs.Form.{inputs, gates, wires, kind_at, operand_at}
use Rattle.circuit.specs.Valid.{Valid}
use Rattle.circuit.proofs.Accept.{lt_or_ge}
use Rattle.ways.specs.declared.Way.{Way}
use Rattle.ways.specs.Ways.{way_of}
use Rattle.ways.specs.Private.{Within}
use Rattle.ways.specs.Ciphers.{cipher_at}
use Rattle.ways.proofs.Ciphers.{wire_within, cipher_length}
use Rattle.drift.specs.PrivateCircuit.{way_brought_words, gate_brought_words}
use Rattle.drift.specs.PrivateShort.{short_word, short_gate}
use Rattle.drift_run.specs.declared.by_way.Drifted.{Drifted}
use Rattle.drift_run.specs.Private.{drifted}

module _ (bs : List ℕ) (v : Valid bs) where
  -- a circuit has a wire
  some_wire : 0 < wires bs
  some_wire = let a = v.head.outputs_from in let b = v.every_output 0 (omega arith) in omega arith

  pub operand_in : (g x : ℕ) → g < gates bs → x < 3 → operand_at bs g x < wires bs
  operand_in g x l b =
      ⊎_elim
      (λ (n : x < (kind_of (kind_at bs g)).operands). let h = (v.every_gate g l).needed x b n in omega (arith, h, l))
      (λ (n : (kind_of (kind_at bs g)).operands ≤ x). let h = (v.every_gate g l).others x b n in let s = some_wire in omega (arith, h, s))
      (lt_or_ge x (kind_of (kind_at bs g)).operands)

  pub own_in : (g : ℕ) → g < gates bs → inputs bs + g < wires bs
  own_in g l = omega arith

  pub own_to : (g : ℕ) → g < gates bs → inputs bs + g < 1280
  own_to g l = let a = v.head.inputs_to in let b = v.head.gates_to in omega arith

  -- a wire of the circuit lies whole within the wires' words
  pub wire_in : (p : Params) (w : ℕ) {x len : ℕ} → w < wires bs → x ≡ w → len ≡ wires bs * (p.n + 1) → Within p x len
  wire_in p w l ex el = let h : w + 1 ≤ wires bs = omega arith in rw (ex, el) (wire_within p w (wires bs) h)

-- the ciphertext that is read of it
pub read_length : (p : Params) (ws : List ℕ) (w : ℕ) {c : List ℕ} → Within p w (length ws) → c ≡ cipher_at p ws w → length c ≡ p.n + 1
read_length p ws w h e = ap length e ∙ cipher_length p ws w h

-- what is told of a gate, from what was read
pub told_gate : (p : Params) (key bs ws ds : List ℕ) (g : ℕ) {way : Way} {x y z own da db dc : ℕ} {a b c o : List ℕ} {r : Drifted}
    → way ≡ way_of (kind_at bs g) → x ≡ operand_at bs g 0 → y ≡ operand_at bs g 1 → z ≡ operand_at bs g 2 → own ≡ inputs bs + g
    → a ≡ cipher_at p ws x → b ≡ cipher_at p ws y → c ≡ cipher_at p ws z → o ≡ cipher_at p ws own → da ≡ at ds x → db ≡ at ds y → dc ≡ at ds z
    → r ≡ drifted (short_word p key way a b c da o) (way_brought_words p key way a b c da db dc)
    → r ≡ drifted (short_gate p key bs ws ds g) (gate_brought_words p key bs ws ds g)
unfolding short_gate gate_brought_words
told_gate p key bs ws ds g ew ex ey ez eo ea eb ec e_o eda edb edc e =
    e ∙ rw (ew, ea, eb, ec, e_o, eda, edb, edc, ex, ey, ez, eo)
