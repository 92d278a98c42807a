-- What callers use of an encrypted run: that good arguments are not refused, what the slices then hold, each wire's ciphertext in the finished list, and that
-- the gates done one by one make the run. What stands before a gate is kept by the gates after it.
-- Assumes nothing.
use mathlib.Core.Path.{◌≡◌, refl, sym, ap, ◌∙◌}
use mathlib.Core.Bool.{Bool, cond}
use mathlib.Core.Logic.{⊎_elim}
use mathlib.Core.List.{List, ◌++◌}
use Prim.Native.Nat.{ℕ, zero, suc, ◌+◌, ◌*◌, ◌-◌, ◌≤◌, ◌<◌}
use native.Mathlib.Nat.{add-zero, add-suc, eq-zero-or-pos}
use native.Mathlib.Numerals.{add-one}
use native.Mathlib.Omega.{arith}
use borrow.Author.Tests.{lt-ltb}
use lib.Dec.{lit<}
use lib.ListN.{length, take, drop, length-append, length-drop}
use Rattle.ring.specs.Lists.{part}
use Rattle.params.specs.declared.Params.{Params}
use Rattle.params.specs.Refusal.{Answer}
use Rattle.params.proofs.Answers.{when_done}
use Rattle.ring.proofs.Joins.{joined-part}
use Rattle.kinds.specs.Kinds.{kind_of}
use Rattle.circuit.specs.Form.{inputs, gates, outputs, wires, kind_at, operand_at, output_at}
use Rattle.circuit.specs.Valid.{Valid}
use Rattle.circuit.proofs.Accept.{lt_or_ge}
use Rattle.ways.specs.Ways.{made, ran}
use Rattle.ways.specs.Ciphers.{cipher_at}
use Rattle.ways.proofs.Ciphers.{cipher_length, wire_within, cipher_front, cipher_next}
use Rattle.ways.proofs.Needs.{known_way, needs_first}
use Rattle.encrypted_run.specs.Private.{StepGood, RunGood}
use Rattle.encrypted_run.specs.Run.{gate_cipher, ciphers_to, ciphers_of, output_ciphers, wires_after, outputs_after, stepped, step_after}
use Rattle.encrypted_run.proofs.Checks.{step_done, run_done}
use Rattle.encrypted_run.proofs.Wires.{fits, inputs_fit, gate_length, ciphers_length, ciphers_more, held_length, run_none, run_more, run_end}

-- ---- a run that is not refused

module _ (p : Params) (ksk bsk bs ins ws out : List ℕ) (g : RunGood p (length ksk) (length bsk) bs (length ins) (length ws) (length out)) where
  pub wires_written : wires_after p ksk bsk bs ins ws out ≡ ciphers_of p ksk bsk bs ins
  unfolding wires_after
  wires_written = when_done _ _ _ (ap (λ (a : Answer). a.number) (run_done p (length ksk) (length bsk) bs (length ins) (length ws) (length out) g))

  pub outputs_written : outputs_after p ksk bsk bs ins ws out ≡ output_ciphers p bs (ciphers_of p ksk bsk bs ins)
  unfolding outputs_after
  outputs_written = when_done _ _ _ (ap (λ (a : Answer). a.number) (run_done p (length ksk) (length bsk) bs (length ins) (length ws) (length out) g))

-- ---- the wires of a run

module _ (p : Params) (ksk bsk bs ins : List ℕ) (li : length ins ≡ inputs bs * (p.n + 1)) where
  -- so many words after g gates
  pub ciphers_fill : (g : ℕ) → length (ciphers_to p ksk bsk bs ins g) ≡ (inputs bs + g) * (p.n + 1)
  ciphers_fill g = let e = ciphers_length p ksk bsk bs ins g in omega (arith, e, li)

  -- a wire, once there, stays
  kept : (g d w : ℕ) → w < inputs bs + g → cipher_at p (ciphers_to p ksk bsk bs ins (g + d)) w ≡ cipher_at p (ciphers_to p ksk bsk bs ins g) w
  unfolding ciphers_to
  kept g zero w h = rw (add-zero g)
  kept g (suc d) w h =
      let ws = ciphers_to p ksk bsk bs ins (g + d) in
      let l = ciphers_fill (g + d) in
      let a : w + 1 ≤ inputs bs + (g + d) = omega arith in
      let b = wire_within p w (inputs bs + (g + d)) a in
      rw (add-suc g d) (cipher_front p ws (gate_cipher p ksk bsk bs ws (g + d)) w (omega (arith, l, b)) ∙ kept g d w h)

  kept_to : (g w : ℕ) → g ≤ gates bs → w < inputs bs + g → cipher_at p (ciphers_of p ksk bsk bs ins) w ≡ cipher_at p (ciphers_to p ksk bsk bs ins g) w
  kept_to g w a h =
      let e : gates bs ≡ g + (gates bs - g) = omega arith in
      ap (λ (k : ℕ). cipher_at p (ciphers_to p ksk bsk bs ins k) w) e ∙ kept g (gates bs - g) w h

  -- an input's wire has the lent ciphertext
  pub input_wire : (i : ℕ) → i < inputs bs → cipher_at p (ciphers_of p ksk bsk bs ins) i ≡ cipher_at p ins i
  unfolding ciphers_to
  input_wire i h = kept_to 0 i (omega arith) (omega arith)

  -- a gate's wire has the gate's ciphertext, of the wires before it
  pub gate_wire : (g : ℕ) → g < gates bs → cipher_at p (ciphers_of p ksk bsk bs ins) (inputs bs + g) ≡ gate_cipher p ksk bsk bs (ciphers_to p ksk bsk bs ins g) g
  gate_wire g h =
      let ws = ciphers_to p ksk bsk bs ins g in
      kept_to (g + 1) (inputs bs + g) (omega arith) (omega arith)
      ∙ ap (λ (x : List ℕ). cipher_at p x (inputs bs + g)) (ciphers_more p ksk bsk bs ins g)
      ∙ cipher_next p ws (gate_cipher p ksk bsk bs ws g) (inputs bs + g) (ciphers_fill g) (gate_length p ksk bsk bs ws g)

  -- an operand that gate g reads is the finished wire
  pub operand_wire : (g w : ℕ) → g < gates bs → w < inputs bs + g → cipher_at p (ciphers_to p ksk bsk bs ins g) w ≡ cipher_at p (ciphers_of p ksk bsk bs ins) w
  operand_wire g w a h = sym (kept_to g w (omega arith) h)

  module _ (v : Valid bs) (g : ℕ) (h : g < gates bs) where
    -- an operand, needed or 0, is below the gate's own wire as soon as there is a wire before it
    pub operand_before : (x : ℕ) → x < 3 → 0 < inputs bs + g → operand_at bs g x < inputs bs + g
    operand_before x l w =
        ⊎_elim
        (λ (n : x < (kind_of (kind_at bs g)).operands). (v.every_gate g h).needed x l n)
        (λ (n : (kind_of (kind_at bs g)).operands ≤ x). let z = (v.every_gate g h).others x l n in omega (arith, z, w))
        (lt_or_ge x (kind_of (kind_at bs g)).operands)

    -- with no wire before it the gate needs no operand, so it is a constant
    pub constant : inputs bs + g ≡ 0 → kind_at bs g < 2
    constant e =
        ⊎_elim
        (λ (n : kind_at bs g < 2). n)
        (λ (n : 2 ≤ kind_at bs g). absurd (let b = (v.every_gate g h).needed 0 (lit< tt) (needs_first (kind_at bs g) n (v.every_gate g h).kind_to) in let q : ⊥ = omega (arith, b, e) in q))
        (lt_or_ge (kind_at bs g) 2)

    -- the gate on the wires before it is the gate on the finished wires
    settled : gate_cipher p ksk bsk bs (ciphers_to p ksk bsk bs ins g) g ≡ gate_cipher p ksk bsk bs (ciphers_of p ksk bsk bs ins) g
    unfolding gate_cipher ran made
    settled =
        ⊎_elim
        (λ (e : inputs bs + g ≡ 0). rw (known_way (kind_at bs g) (constant e)))
        (λ (w : 0 < inputs bs + g).
        rw (
          operand_wire g (operand_at bs g 0) h (operand_before 0 (lit< tt) w),
          operand_wire g (operand_at bs g 1) h (operand_before 1 (lit< tt) w),
          operand_wire g (operand_at bs g 2) h (operand_before 2 (lit< tt) w),
        ))
        (eq-zero-or-pos (inputs bs + g))

    -- each gate's wire has the gate's ciphertext on its operands' wires, all of them read in the finished list
    pub gate_on_wires : cipher_at p (ciphers_of p ksk bsk bs ins) (inputs bs + g) ≡ gate_cipher p ksk bsk bs (ciphers_of p ksk bsk bs ins) g
    gate_on_wires = gate_wire g h ∙ settled

  -- an output has its wire's ciphertext
  pub output_wire : Valid bs → (o : ℕ) → o < outputs bs → cipher_at p (output_ciphers p bs (ciphers_of p ksk bsk bs ins)) o ≡ cipher_at p (ciphers_of p ksk bsk bs ins) (output_at bs o)
  unfolding output_ciphers cipher_at part
  output_wire v o h = joined-part (p.n + 1) (λ k. cipher_at p (ciphers_of p ksk bsk bs ins) (output_at bs k)) (outputs bs) (λ r l. long r l) o h
    where
      long : (r : ℕ) → r < outputs bs → length (cipher_at p (ciphers_of p ksk bsk bs ins) (output_at bs r)) ≡ p.n + 1
      long r l =
          let b = v.every_output r l in
          let d : output_at bs r + 1 ≤ wires bs = omega arith in
          cipher_length p (ciphers_of p ksk bsk bs ins) (output_at bs r) (rw (ciphers_fill (gates bs)) (wire_within p (output_at bs r) (wires bs) d))

  -- a circuit of no gates is done at once: its wires are the inputs'
  pub no_gates : gates bs ≡ 0 → ciphers_of p ksk bsk bs ins ≡ ins
  unfolding ciphers_to
  no_gates e = rw e

-- ---- the gates one by one

-- the wires' slice after calls of `run_gate` for the gates 0 .. n - 1
unfoldable pub called : Params → List ℕ → List ℕ → List ℕ → ℕ → List ℕ → List ℕ
called p ksk bsk bs zero ws = ws
called p ksk bsk bs (suc n) ws = step_after p ksk bsk bs n (called p ksk bsk bs n ws)

module _ (p : Params) (ksk bsk bs ws : List ℕ) (good : StepGood p (length ksk) (length bsk) bs (length ws)) where
  -- the slice as it is then
  abbrev so_far : ℕ → List ℕ
  so_far n = ciphers_to p ksk bsk bs (take (inputs bs * (p.n + 1)) ws) n ++ drop ((inputs bs + n) * (p.n + 1)) ws

  within : inputs bs * (p.n + 1) ≤ length ws
  within = rw good.wires_length (inputs_fit p bs)

  same_length : (n : ℕ) → n ≤ gates bs → length (so_far n) ≡ length ws
  same_length n h =
      let e = length-append (ciphers_to p ksk bsk bs (take (inputs bs * (p.n + 1)) ws) n) (drop ((inputs bs + n) * (p.n + 1)) ws) in
      let l = held_length p ksk bsk bs ws within n in
      let d = length-drop ((inputs bs + n) * (p.n + 1)) ws in
      let f = fits p bs n h in
      let w = good.wires_length in
      omega (arith, e, l, d, f, w)

  -- no call is refused, and each does its gate
  called_are : (n : ℕ) → n ≤ gates bs → called p ksk bsk bs n ws ≡ so_far n
  unfolding called step_after
  called_are zero h = run_none p ksk bsk bs ws within
  called_are (suc n) h =
      let l : n < gates bs = omega (arith, h) in
      let k : n ≤ gates bs = omega (arith, h) in
      let done = step_done p (length ksk) (length bsk) bs (length (so_far n)) (record { keys = good.keys; valid = good.valid; wires_length = same_length n k ∙ good.wires_length }) in
      ap (step_after p ksk bsk bs n) (called_are n k)
      ∙ when_done _ _ _ (ap (λ (a : Answer). a.number) done)
      ∙ ap (λ (b : Bool). cond b (stepped p ksk bsk bs n (so_far n)) (so_far n)) (lt-ltb n (gates bs) l)
      ∙ run_more p ksk bsk bs ws within n refl
      ∙ ap (λ (m : ℕ). ciphers_to p ksk bsk bs (take (inputs bs * (p.n + 1)) ws) m ++ drop ((inputs bs + m) * (p.n + 1)) ws) (add-one n)

  -- all of them make the run's wires
  pub steps_run : called p ksk bsk bs (gates bs) ws ≡ ciphers_of p ksk bsk bs (take (inputs bs * (p.n + 1)) ws)
  steps_run = run_end p ksk bsk bs ws within (gates bs) (omega arith) (omega arith) good.wires_length (called_are (gates bs) (omega arith))
