-- What the code reads off a circuit's bytes, and what a gate of a valid circuit makes of it: the operands that its kind needs lie below its own wire, so its way is not refused.
-- Assumes nothing.
use mathlib.Core.Path.{◌≡◌, ap, ◌∙◌}
use mathlib.Core.Bool.{cond}
use mathlib.Core.List.{List}
use Prim.Native.Nat.{ℕ, ◌+◌, ◌*◌, ◌≤◌, ◌<◌}
use native.Mathlib.Nat.{mul-le-mul}
use native.Mathlib.Omega.{arith}
use borrow.Author.Tests.{lt-ltb}
use lib.Dec.{ltb, lit<}
use lib.ListN.{length}
use Rattle.ring.specs.Word.{at}
use Rattle.params.specs.declared.Params.{Params}
use Rattle.params.specs.Refusal.{if_done}
use Rattle.params.proofs.Answers.{when_done}
use Rattle.circuit.specs.declared.Shape.{Shape}
use Rattle.circuit.specs.Form.{field_at, inputs, gates, outputs, kind_at, operand_at, counts_of}
use Rattle.circuit.specs.Valid.{Valid}
use Rattle.ways.specs.declared.Way.{Way}
use Rattle.ways.specs.Ways.{way_of, ran}
use Rattle.ways.specs.Refusals.{way_number}
use Rattle.ways.specs.Ciphers.{cipher_at}
use Rattle.ways.specs.Private.{operands_of}
use Rattle.ways.proofs.Needs.{ways_need}
use Rattle.ways.proofs.Ciphers.{cipher_length, wire_within}
use Rattle.ways.proofs.Checks.{way_done}
use Rattle.encrypted_run.specs.Run.{gate_cipher}
use Rattle.encrypted_run.specs.Private.{KeysGood}

-- ---- what the code reads off the bytes

-- the counts
pub inputs_are : {s : Shape} (bs : List ℕ) → s ≡ counts_of bs → s.inputs ≡ inputs bs
unfolding counts_of
inputs_are bs e = ap (λ (s : Shape). s.inputs) e

pub gates_are : {s : Shape} (bs : List ℕ) → s ≡ counts_of bs → s.gates ≡ gates bs
unfolding counts_of
gates_are bs e = ap (λ (s : Shape). s.gates) e

pub outputs_are : {s : Shape} (bs : List ℕ) → s ≡ counts_of bs → s.outputs ≡ outputs bs
unfolding counts_of
outputs_are bs e = ap (λ (s : Shape). s.outputs) e

-- a field of something that there is
pub there : {x : ℕ} (i n v : ℕ) → i < n → x ≡ cond (ltb i n) v 0 → x ≡ v
there i n v h e = e ∙ rw (lt-ltb i n h)

-- a field of what are bytes is below 65536
pub field_below : (bs : List ℕ) (i : ℕ) → at bs i < 256 → at bs (i + 1) < 256 → field_at bs i < 65536
unfolding field_at
field_below bs i a b = omega (arith, a, b)

-- so many ciphertexts have words that fit, whatever the parameters
pub words_fit : (count n : ℕ) → count < 131072 → n < 4294967296 → count * (n + 1) < 562949953421312
words_fit count n a b = let m = mul-le-mul (let q : count ≤ 131071 = omega arith in q) (let q : n + 1 ≤ 4294967296 = omega arith in q) in omega (arith, m)

-- the operands that gate g of a valid circuit needs are ciphertexts of the wires before it
module _ (p : Params) (bs ws : List ℕ) (v : Valid bs) (g : ℕ) (l : g < gates bs) (h : length ws ≡ (inputs bs + g) * (p.n + 1)) where
  pub operand_there : (x : ℕ) → x < 3 → x < operands_of (way_of (kind_at bs g)) → length (cipher_at p ws (operand_at bs g x)) ≡ p.n + 1
  operand_there x b n =
      let d = v.every_gate g l in
      let w = d.needed x b (rw (ways_need (kind_at bs g) d.kind_to) at n) in
      let t = wire_within p (operand_at bs g x) (inputs bs + g) (omega (arith, w)) in
      cipher_length p ws (operand_at bs g x) (rw h t)

-- the gate's ciphertext, from what the code has read: it is not refused
pub gate_made : (p : Params) (ksk bsk bs ws o : List ℕ) (v : Valid bs) (g : ℕ) → KeysGood p (length ksk) (length bsk) → length o ≡ p.n + 1 → g < gates bs
    → length ws ≡ (inputs bs + g) * (p.n + 1) → {way : Way} {x y z : ℕ} {a b c out : List ℕ}
    → way ≡ way_of (kind_at bs g) → x ≡ operand_at bs g 0 → y ≡ operand_at bs g 1 → z ≡ operand_at bs g 2
    → a ≡ cipher_at p ws x → b ≡ cipher_at p ws y → c ≡ cipher_at p ws z
    → out ≡ if_done (way_number p way (length a) (length b) (length c) (length ksk) (length bsk) (length o)) (ran p ksk bsk way a b c) o
    → out ≡ gate_cipher p ksk bsk bs ws g
unfolding gate_cipher
gate_made p ksk bsk bs ws o v g k lo l h ew ex ey ez ea eb ec e =
    e ∙ rw (ew, ea, eb, ec, ex, ey, ez)
    (when_done _ _ _
    (way_done p k.good _ _ _ (length ksk) (length bsk) (length o) k.switching k.bootstrapping lo (way_of (kind_at bs g))
    (operand_there p bs ws v g l h 0 (lit< tt)) (operand_there p bs ws v g l h 1 (lit< tt)) (operand_there p bs ws v g l h 2 (lit< tt))))
