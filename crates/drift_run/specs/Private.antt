-- What the routines inside this crate promise each other, in words; a reader of the public contracts can leave it.
use Rattle.std.specs.Prelude.{Bool, true, false, cond, ◌≡◌, List, ◌∷◌, ◌++◌, ℕ, ◌+◌, ◌*◌, length, take, drop}
use Rattle.params.specs.declared.Params.{Params}
use Rattle.params.specs.Ranges.{params_number}
use Rattle.params.specs.Sizes.{switching_words, bootstrapping_words}
use Rattle.tlwe.specs.Key.{binary}
use Rattle.circuit.specs.Form.{inputs, gates, outputs, wires}
use Rattle.circuit.specs.Valid.{Valid}
use Rattle.drift.specs.PrivateCircuit.{all_words, worst_words, gate_brought_words, fresh_words, output_words}
use Rattle.drift.specs.PrivateShort.{short_gate, short_to, short_brought_to}
use Rattle.drift_run.specs.declared.by_way.Drifted.{Drifted}

-- A drift, and what was brought into the rotations on the way to it.
abbrev pub drifted : ℕ → List ℕ → Drifted
drifted drift brought = record { drift = drift; inside = all_words brought; worst = worst_words 0 brought }

-- What is known of the level-0 secret key.
pub record Secret (p : Params) (key : List ℕ) : Type 0 where
  pub long : length key ≡ p.n
  pub bits : binary key ≡ true

-- What is known where a gate's drift is worked out: finished wires of lw words.
pub record Finished (p : Params) (key bs : List ℕ) (lw : ℕ) : Type 0 where
  pub secret : Secret p key
  pub valid : Valid bs
  pub wires_length : lw ≡ wires bs * (p.n + 1)

-- And a drift for each wire.
pub record Passing (p : Params) (key bs : List ℕ) (lw ld : ℕ) : Type 0 where
  pub finished : Finished p key bs lw
  pub drifts_length : ld ≡ wires bs

-- What holds of one gate of a drift run that is not refused, beside its parameters' ranges.
pub record DriftGate (p : Params) (lk ls : ℕ) (key bs : List ℕ) (lw ld : ℕ) : Type 0 where
  pub passing : Passing p key bs lw ld
  pub switching : lk ≡ switching_words p
  pub bootstrapping : ls ≡ bootstrapping_words p

-- What holds of a drift run that is not refused, beside its parameters' ranges.
pub record DriftRun (p : Params) (lk ls : ℕ) (key bs : List ℕ) (li lp lw lo ld : ℕ) : Type 0 where
  pub gate : DriftGate p lk ls key bs lw ld
  pub ins_length : li ≡ inputs bs * (p.n + 1)
  pub plain_length : lp ≡ inputs bs
  pub outs_length : lo ≡ outputs bs * (p.n + 1)

-- Either with the ranges.
pub record DriftGateGood (p : Params) (lk ls : ℕ) (key bs : List ℕ) (lw ld : ℕ) : Type 0 where
  pub good : params_number p ≡ 0
  pub lent : DriftGate p lk ls key bs lw ld

pub record DriftRunGood (p : Params) (lk ls : ℕ) (key bs : List ℕ) (li lp lw lo ld : ℕ) : Type 0 where
  pub good : params_number p ≡ 0
  pub lent : DriftRun p lk ls key bs li lp lw lo ld

-- Gate g's drift, worked out of the finished wires ws, in its place among the drifts ds.
unfoldable pub put_short : Params → List ℕ → List ℕ → List ℕ → List ℕ → ℕ → List ℕ
put_short p key bs ws ds g = take (inputs bs + g) ds ++ (short_gate p key bs ws (take (inputs bs + g) ds) g ∷ drop (inputs bs + g + 1) ds)

-- What is told of gate g then.
abbrev pub told_short : Params → List ℕ → List ℕ → List ℕ → List ℕ → ℕ → Drifted
told_short p key bs ws ds g = drifted (short_gate p key bs ws (take (inputs bs + g) ds) g) (gate_brought_words p key bs ws (take (inputs bs + g) ds) g)

-- Every wire's drift, worked out of the finished wires ws.
abbrev pub short_drifts : Params → List ℕ → List ℕ → List ℕ → List ℕ → List ℕ → List ℕ
short_drifts p key bs ins plain ws = short_to p key bs ws (fresh_words p key ins plain (inputs bs)) (gates bs)

-- Whether all that demand 3 names are inside then.
abbrev pub short_inside : Params → List ℕ → List ℕ → List ℕ → List ℕ → List ℕ → Bool
short_inside p key bs ins plain ws =
    cond (all_words (short_brought_to p key bs ws (fresh_words p key ins plain (inputs bs)) (gates bs))) (all_words (output_words bs (short_drifts p key bs ins plain ws))) false
